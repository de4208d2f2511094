-- The events of a drop, one after another, are those of the tree as it was before.
use Rattle.std.proofs.Common.{◌≡◌, ◌≢◌, ℕ, zero, suc, ◌<◌, ◌==◌, ◌&&◌, not, Bool, true, false, if◌then◌else◌, List, [], ◌∷◌, ◌++◌, refl, sym, ap, ◌∙◌, subst, arith, append-nil, Option, Some, None, filter, find, map, length, get_or, inl, inr}
use Rattle.std.specs.List.{AllPairs, Contains}
use Rattle.std.proofs.lemmas.Bool.{cases_Bool}
use Rattle.std.proofs.lemmas.Bool.Decides.{nat_tests}
use Rattle.std.proofs.lemmas.List.Elements.{All-contains, All-contains_itself, All-filter}
use Rattle.pg_values.specs.declared.ids.TableNo.{TableNo}
use Rattle.bound_forms.proofs.PlainOrder.{pairs-head, pairs-tail}
use Rattle.history.specs.declared.catalogue.Entry.{Entry}
use Rattle.history.specs.declared.catalogue.Stamp.{Stamp}
use Rattle.history.specs.Transactions.{TxEvents}
use Rattle.history.specs.Catalogue.{Stamps, TableDropped, EntryEnded, entries_added, entry_ends, counted_of}
use Rattle.history.specs.History.{Event, History, CatalogueChange, tx_events, catalogue_events}
use Rattle.history.specs.Places.{AreCatalogueSound}
use Rattle.history.specs.Presence.{counts, stamp_counts, is_present, entries_present}
use Rattle.row_router.specs.Histories.{above, is_over}
use Rattle.soundness.proofs.Listed.{first_in, later_in}
use Rattle.part_ddl.specs.Below.{tables_from}
use Rattle.part_ddl.specs.Dropped.{ended, place_ended, places_ended, tables_dropped, drop_events}
use Rattle.part_ddl.proofs.Standing.{numbered}
use Rattle.legal_statements.specs.Below.{numbers_from}
use Rattle.legal_statements.specs.Drops.{entries_end, tables_go, place_over, places_over, table_drop}
use Rattle.ddl_steps.proofs.Below.{number, found_in, mapped_in, from_numbers, same_number}
use Rattle.ddl_steps.proofs.Deeds.{Each, each_append}

-- ---- what holds of each event

each_ended : (P : Event → Type 0) (st : Stamp) (o : Option Entry) → ((k : ℕ) → P (CatalogueChange (EntryEnded k st))) → Each P (ended st o)
each_ended P st None end = tt
each_ended P st (Some e) end = (end e.id.number, tt)

each_place : (P : Event → Type 0) (s : ℕ) (st : Stamp) (h : History) (ts : List TableNo) → ((k : ℕ) → P (CatalogueChange (EntryEnded k st))) → Each P (places_ended s st h ts)
each_place P s st h [] end = tt
each_place P s st h (t ∷ ts) end =
    let first = place_ended s st h t in
    each_append P (places_ended s st (first ++ h) ts) first (each_place P s st (first ++ h) ts end) (each_ended P st (above (entries_present h s) t.number) end)

each_drop : (P : Event → Type 0) (st : Stamp) (ts : List TableNo) → ((k : ℕ) → P (CatalogueChange (TableDropped k st))) → Each P (tables_dropped st ts)
each_drop P st [] drop = tt
each_drop P st (t ∷ ts) drop = each_append P (tables_dropped st ts) (CatalogueChange (TableDropped t.number st) ∷ []) (each_drop P st ts drop) (drop t.number, tt)

pub each_gone : (P : Event → Type 0) (h : History) (s t : ℕ) (st : Stamp) → ((k : ℕ) → P (CatalogueChange (EntryEnded k st))) → ((k : ℕ) → P (CatalogueChange (TableDropped k st))) → Each P (drop_events h s t st)
each_gone P h s t st end drop = each_append P (tables_dropped st (tables_from h s t)) (places_ended s st h (tables_from h s t)) (each_drop P st (tables_from h s t) drop) (each_place P s st h (tables_from h s t) end)

-- ---- the drops

drops_same : (st : Stamp) (ts : List TableNo) → tables_dropped st ts ≡ tables_go st (map (λ (y : TableNo). y.number) ts)
drops_same st [] = refl
drops_same st (t ∷ ts) = ap (λ (es : History). es ++ CatalogueChange (TableDropped t.number st) ∷ []) (drops_same st ts)

-- ---- an entry by its number

any_default : {X : Type 0} (xs : List X) (k : ℕ) (d e : X) → k < length xs → get_or xs k d ≡ get_or xs k e
any_default [] k d e lt = absurd (omega (arith, lt))
any_default (x ∷ xs) zero d e lt = refl
any_default (x ∷ xs) (suc k) d e lt = any_default xs k d e (omega (arith, lt))

-- each stands at its number
abbrev AreNumbered : List Entry → Type 0
AreNumbered es = (d : Entry) (k : ℕ) → k < length es → (get_or es k d).id.number ≡ k

one_entry : (es : List Entry) (x y : Entry) → AreNumbered es → Contains es x → Contains es y → x.id.number ≡ y.id.number → x ≡ y
one_entry es x y num (i, lt, at) (j, low, there) same =
    let a : x.id.number ≡ i = ap (λ (z : Entry). z.id.number) (sym at) ∙ num x i lt in
    let b : y.id.number ≡ j = ap (λ (z : Entry). z.id.number) (sym there) ∙ num y j low in
    let place : i ≡ j = sym a ∙ (same ∙ b) in
    sym at ∙ (ap (λ (n : ℕ). get_or es n x) place ∙ (any_default es j x y low ∙ there))

-- ---- the entry above a table stays where that of another one ends

found_at_once : {X : Type 0} (p : X → Bool) (b : Bool) (y : X) (xs : List X) → p y ≡ true → find p (if b then y ∷ xs else xs) ≡ (if b then Some y else find p xs)
found_at_once p true y xs t = rw t refl
found_at_once p false y xs t = refl

passed_over : {X : Type 0} (p : X → Bool) (b : Bool) (y : X) (xs : List X) → p y ≡ false → find p (if b then y ∷ xs else xs) ≡ find p xs
passed_over p true y xs f = rw f refl
passed_over p false y xs f = refl

-- two tests that agree where a third one passes keep what is found by it
pub found_same : {X : Type 0} (p q r : X → Bool) (xs : List X) → ((y : X) → Contains xs y → p y ≡ true → q y ≡ r y) → find p (filter q xs) ≡ find p (filter r xs)
found_same p q r [] agree = refl
found_same {X} p q r (y ∷ ys) agree =
    let rest = found_same p q r ys (λ z at is. agree z (later_in y ys z at) is) in
    elim (cases_Bool (p y)) [
      | inl t ↦
          found_at_once p (q y) y (filter q ys) t
          ∙ (ap (λ (b : Bool). if b then Some y else find p (filter q ys)) (agree y (first_in y ys) t)
          ∙ (ap (λ (o : Option X). if r y then Some y else o) rest
          ∙ sym (found_at_once p (r y) y (filter r ys) t)))
      | inr f ↦ passed_over p (q y) y (filter q ys) f ∙ (rest ∙ sym (passed_over p (r y) y (filter r ys) f))
    ]

counted_other : (txs : TxEvents) (ds : Stamps) (k n : ℕ) (s : Stamp) → (k == n) ≡ false → counted_of txs ((k, s) ∷ ds) n ≡ counted_of txs ds n
counted_other txs ds k n s other = rw other refl

differs : (k n : ℕ) → (k ≡ n → ⊥) → (k == n) ≡ false
differs k n other = grind (arith, nat_tests, other)

present_other : (g : History) (s k : ℕ) (st : Stamp) (y : Entry) → (k ≡ y.id.number → ⊥) → is_present (CatalogueChange (EntryEnded k st) ∷ g) s y ≡ is_present g s y
present_other g s k st y other =
    ap (λ (o : Option Stamp). counts (tx_events g) s y.by.number && not (stamp_counts (tx_events g) s o)) (counted_other (tx_events g) (entry_ends (catalogue_events g)) k y.id.number st (differs k y.id.number other))

above_stays : (g : History) (s : ℕ) (st : Stamp) (e : Entry) (t x : ℕ) → AreNumbered (entries_added (catalogue_events g)) → above (entries_present g s) t ≡ Some e → t ≢ x → above (entries_present (CatalogueChange (EntryEnded e.id.number st) ∷ g) s) x ≡ above (entries_present g s) x
above_stays g s st e t x num is other =
    let es = entries_added (catalogue_events g) in
    let found = found_in (is_over t) (entries_present g s) e is in
    let at : Contains es e = All-contains (Contains es) (entries_present g s) e (All-filter (is_present g s) (Contains es) es (All-contains_itself es)) found.0 in
    let child : e.child.number ≡ t = same_number e.child.number t found.1 in
    found_same (is_over x) (is_present (CatalogueChange (EntryEnded e.id.number st) ∷ g) s) (is_present g s) es
    (λ y there over. present_other g s e.id.number st y (λ same.
    let one : e ≡ y = one_entry es e y num at there same in
    let here : y.child.number ≡ x = same_number y.child.number x over in
    other (sym child ∙ (ap (λ (z : Entry). z.child.number) one ∙ here))))

-- ---- the ends

-- the same entry stands above each of the tables
abbrev AreAboveTheSame : History → History → (s : ℕ) → List TableNo → Type 0
AreAboveTheSame g h s ts = (x : TableNo) → Contains ts x → above (entries_present g s) x.number ≡ above (entries_present h s) x.number

ends_behind : (s : ℕ) (st : Stamp) (g : History) (ts : List TableNo) (ks : List ℕ) (o : Option Entry) → places_ended s st (ended st o ++ g) ts ≡ entries_end st ks → places_ended s st (ended st o ++ g) ts ++ ended st o ≡ entries_end st (place_over o ++ ks)
ends_behind s st g ts ks None same = append-nil (places_ended s st g ts) ∙ same
ends_behind s st g ts ks (Some e) same = ap (λ (es : History). es ++ ended st (Some e)) same

still_above : (g h : History) (s : ℕ) (st : Stamp) (t : TableNo) (ts : List TableNo) (o : Option Entry) → AreNumbered (entries_added (catalogue_events g)) → above (entries_present g s) t.number ≡ o → ((x : TableNo) → Contains ts x → t.number ≢ x.number)
    → AreAboveTheSame g h s ts → AreAboveTheSame (ended st o ++ g) h s ts
still_above g h s st t ts None num is two same x at = same x at
still_above g h s st t ts (Some e) num is two same x at = above_stays g s st e t.number x.number num is (two x at) ∙ same x at

still_numbered : (g : History) (st : Stamp) (o : Option Entry) → AreNumbered (entries_added (catalogue_events g)) → AreNumbered (entries_added (catalogue_events (ended st o ++ g)))
still_numbered g st None num = num
still_numbered g st (Some e) num = num

apart : (t : TableNo) (ts : List TableNo) → AllPairs (λ a b. a ≢ b) (map number (t ∷ ts)) → (x : TableNo) → Contains ts x → t.number ≢ x.number
apart t ts once x at same =
    let in_numbers = mapped_in ts x at in
    let all = pairs-head (λ a b. a ≢ b) t.number (map number ts) once in
    all in_numbers.0 x.number in_numbers.1 (same ∙ sym in_numbers.2)

ends_same : (h : History) (s : ℕ) (st : Stamp) (ts : List TableNo) (g : History) → AreNumbered (entries_added (catalogue_events g)) → AllPairs (λ a b. a ≢ b) (map number ts) → AreAboveTheSame g h s ts → places_ended s st g ts ≡ entries_end st (places_over h s (map number ts))
ends_same h s st [] g num once same = refl
ends_same h s st (t ∷ ts) g num once same =
    let o = above (entries_present g s) t.number in
    let rest = ends_same h s st ts (ended st o ++ g) (still_numbered g st o num) (pairs-tail (λ a b. a ≢ b) t.number (map number ts) once)
    (still_above g h s st t ts o num refl (apart t ts once) (λ x at. same x (later_in t ts x at))) in
    subst (λ (z : Option Entry). places_ended s st g (t ∷ ts) ≡ entries_end st (place_over z ++ places_over h s (map number ts))) (same t (first_in t ts))
    (ends_behind s st g ts (places_over h s (map number ts)) o rest)

pub drop_same : (h : History) (s t : ℕ) (st : Stamp) → AreCatalogueSound h → AllPairs (λ a b. a ≢ b) (numbers_from h s t) → drop_events h s t st ≡ table_drop h s t st
drop_same h s t st sound once =
    let ts = tables_from h s t in
    let ns = numbers_from h s t in
    let is = from_numbers h s t in
    let ends : places_ended s st h ts ≡ entries_end st (places_over h s (map number ts)) =
    ends_same h s st ts h (numbered h sound) (subst (λ (xs : List ℕ). AllPairs (λ a b. a ≢ b) xs) (sym is) once) (λ x at. refl) in
    ap (λ (es : History). es ++ places_ended s st h ts) (drops_same st ts)
    ∙ (ap (λ (es : History). tables_go st (map number ts) ++ es) ends
    ∙ ap (λ (xs : List ℕ). tables_go st xs ++ entries_end st (places_over h s xs)) is)
