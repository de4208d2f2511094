-- The entry by which a table is a partition, and the history after its end.
use Rattle.std.proofs.Common.{◌≡◌, ℕ, ◌==◌, ◌&&◌, ◌++◌, not, arith, ap, refl, sym, subst, ◌∙◌, Bool, true, false, List, [], ◌∷◌, Option, Some, None, filter, inl, inr}
use Rattle.std.specs.List.{All, find}
use Rattle.std.proofs.lemmas.Bool.{cases_Bool}
use Rattle.std.proofs.lemmas.Bool.Decides.{nat_tests}
use Rattle.std.proofs.lemmas.List.Elements.{All-cons, All-filter, All-head, All-tail, All-nil}
use Rattle.pg_values.specs.declared.ids.TableNo.{TableNo}
use Rattle.history.specs.declared.transaction.TxId.{TxId}
use Rattle.history.specs.declared.transaction.Fate.TheVariants.{Running}
use Rattle.history.specs.declared.catalogue.Entry.{Entry}
use Rattle.history.specs.declared.catalogue.Stamp.{Stamp}
use Rattle.history.specs.Transactions.{TxEvents, fate, open_of, session_of, was_aborted}
use Rattle.history.specs.Catalogue.{EntryEnded, Stamps, entries_added, entry_ends, counted_of}
use Rattle.history.specs.History.{History, CatalogueChange, tx_events, catalogue_events}
use Rattle.history.specs.Presence.{counts, stamp_counts, is_present, entries_present}
use Rattle.history.proofs.Open.{open_runs, open_own}
use Rattle.row_router.specs.Histories.{above, is_over}
use Rattle.tx_table.specs.Kept.{KeptTable}
use Rattle.tx_table.specs.Stands.{TableStands, IsOpen}
use Rattle.part_catalog.specs.Answers.{entry_between, parent_told, IsStanding}
use Rattle.part_catalog.specs.Kept.{KeptCatalogue}
use Rattle.part_catalog.specs.Stands.{CatalogueStands}
use Rattle.part_ddl.specs.Dropped.{IsNotEnded, KeepsPlaces, MayEnd, ended, place_ended}
use Rattle.part_ddl.proofs.Standing.{EndsAlike, same_entries, same_ended, same_owner}

-- ---- what is found

pub found_all : (P : Entry → Type 0) (p : Entry → Bool) (xs : List Entry) (x : Entry) → find p xs ≡ Some x → All P (filter p xs) → P x
found_all P p [] x is all = absurd (cc)
found_all P p (y ∷ ys) x is all = elim (cases_Bool (p y)) [
  | inl t ↦
      let e : Some y ≡ Some x = rw t at is in
      let same : y ≡ x = cc in
      let kept : All P (y ∷ filter p ys) = rw t at all in
      subst P same (All-head P y (filter p ys) kept)
  | inr f ↦ found_all P p ys x (rw f at is) (rw f at all)
]

and_false : (a : Bool) → a && false ≡ false
and_false true = refl
and_false false = refl

abbrev is_at : (parent child : ℕ) → Entry → Bool
is_at p t e = (e.parent.number == p) && (e.child.number == t)

between_found : (q : Entry → Bool) (t : ℕ) (es : List Entry) (e : Entry) → find (is_over t) (filter q es) ≡ Some e → find (λ x. is_at e.parent.number t x && q x) es ≡ Some e
between_found q t [] e is = absurd (cc)
between_found q t (x ∷ xs) e is = elim (cases_Bool (q x)) [
  | inl y ↦
      let here : find (is_over t) (x ∷ filter q xs) ≡ Some e = rw y at is in
      elim (cases_Bool (is_over t x)) [
        | inl over ↦
            let first : Some x ≡ Some e = rw over at here in
            let same : x ≡ e = cc in
            let same_parent : x.parent.number ≡ e.parent.number = ap (λ (z : Entry). z.parent.number) same in
            let parent : (x.parent.number == e.parent.number) ≡ true = grind (arith, nat_tests, same_parent) in
            rw (parent, over, y) first
        | inr past ↦
            let rest = between_found q t xs e (rw past at here) in
            let not_here : is_at e.parent.number t x ≡ false = ap (λ (b : Bool). (x.parent.number == e.parent.number) && b) past ∙ and_false (x.parent.number == e.parent.number) in
            rw not_here rest
      ]
  | inr n ↦
      let rest = between_found q t xs e (rw n at is) in
      rw (n, and_false (is_at e.parent.number t x)) rest
]

pub between_of : (h : History) (s t : ℕ) (e : Entry) → above (entries_present h s) t ≡ Some e → entry_between h s e.parent.number t ≡ Some e
between_of h s t e is = between_found (is_present h s) t (entries_added (catalogue_events h)) e is

-- what the parent tells of the entry above
pub record IsAbove (o : Option Entry) (p : TableNo) : Type 0 where
  pub entry : Entry
  pub found : o ≡ Some entry
  pub parent : entry.parent ≡ p

pub above_is : (o : Option Entry) (p : TableNo) → Some p ≡ parent_told o → IsAbove o p
above_is None p is = absurd (cc)
above_is (Some e) p is = record { entry = e; found = refl; parent = cc }

pub none_above : (o : Option Entry) → None ≡ parent_told o → o ≡ None
none_above None is = refl
none_above (Some e) is = absurd (cc)

pub not_ended : (h : History) (s : ℕ) (t : TableNo) (e : Entry) → KeepsPlaces h s t → above (entries_present h s) t.number ≡ Some e → counted_of (tx_events h) (entry_ends (catalogue_events h)) e.id.number ≡ None
not_ended h s t e keeps is = found_all (IsNotEnded h) (is_over t.number) (entries_present h s) e is keeps

-- ---- the same in another history that the stores stand for

pub keeps_at : (table : KeptTable) (kept : KeptCatalogue) (g h : History) → TableStands table g → TableStands table h → CatalogueStands kept g → CatalogueStands kept h → (s : ℕ) (t : TableNo) → KeepsPlaces g s t → KeepsPlaces h s t
keeps_at table kept g h a b c d s t keeps =
    let here : All (IsNotEnded g) (filter (is_over t.number) (entries_present h s)) = subst (λ (es : List Entry). All (IsNotEnded g) (filter (is_over t.number) es)) (same_entries table kept g h a b c d s) keeps in
    let same : All (EndsAlike g h) (filter (is_over t.number) (entries_present h s)) = All-filter (is_over t.number) (EndsAlike g h) (entries_present h s) (same_ended table kept g h a b c d s) in
    λ k x lt. sym (same k x lt) ∙ here k x lt

-- ---- what a call that ends the entry above a table asks and says

pub is_standing : (table : KeptTable) (kept : KeptCatalogue) (by : TxId) (t p : TableNo) (h : History) → MayEnd table kept by t → TableStands table h → CatalogueStands kept h → Some p ≡ parent_told (above (entries_present h (session_of (tx_events h) by.number)) t.number) → IsStanding h (session_of (tx_events h) by.number) p.number t.number
is_standing table kept by t p h m txs cat is =
    let s = session_of (tx_events h) by.number in
    let a = above_is (above (entries_present h s) t.number) p is in
    let there : KeepsPlaces m.h s t = subst (λ n. KeepsPlaces m.h n t) (same_owner table m.h h m.txs txs by.number) m.places in
    let keeps = keeps_at table kept m.h h m.txs txs m.catalogue cat s t there in
    let between : entry_between h s p.number t.number ≡ Some a.entry = subst (λ (x : TableNo). entry_between h s x.number t.number ≡ Some a.entry) a.parent (between_of h s t.number a.entry a.found) in
    (a.entry, between, not_ended h s t a.entry keeps a.found)

-- what a call that ends an entry says
abbrev pub EndsEntry : KeptCatalogue → History → ℕ → Stamp → (p t : TableNo) → Type 0
EndsEntry kept h s st p t = (e : Entry) → entry_between h s p.number t.number ≡ Some e → CatalogueStands kept (CatalogueChange (EntryEnded e.id.number st) ∷ h)

pub place_gone : (kept : KeptCatalogue) (h : History) (s : ℕ) (st : Stamp) (p t : TableNo) → Some p ≡ parent_told (above (entries_present h s) t.number) → EndsEntry kept h s st p t → CatalogueStands kept (place_ended s st h t ++ h)
place_gone kept h s st p t is ends =
    let a = above_is (above (entries_present h s) t.number) p is in
    let between : entry_between h s p.number t.number ≡ Some a.entry = subst (λ (x : TableNo). entry_between h s x.number t.number ≡ Some a.entry) a.parent (between_of h s t.number a.entry a.found) in
    subst (λ (o : Option Entry). CatalogueStands kept (ended st o ++ h)) (sym a.found) (ends a.entry between)

pub no_place : (kept : KeptCatalogue) (h : History) (s : ℕ) (st : Stamp) (t : TableNo) → None ≡ parent_told (above (entries_present h s) t.number) → CatalogueStands kept h → CatalogueStands kept (place_ended s st h t ++ h)
no_place kept h s st t is cat = subst (λ (o : Option Entry). CatalogueStands kept (ended st o ++ h)) (sym (none_above (above (entries_present h s) t.number) is)) cat

-- ---- after an end by the own transaction

-- the transaction is open in the session
pub record IsOwn (h : History) (s : ℕ) (by : TxId) : Type 0 where
  pub opened : open_of (tx_events h) s ≡ Some by.number
  pub owner : session_of (tx_events h) by.number ≡ s
  pub runs : fate (tx_events h) by.number ≡ Running

pub own_of : (table : KeptTable) (h : History) (by : TxId) → TableStands table h → IsOpen table by.number → IsOwn h (session_of (tx_events h) by.number) by
own_of table h by st is =
    let opened : open_of (tx_events h) is.0 ≡ Some by.number = sym (st.current is.0) ∙ is.1 in
    let owner = open_own (tx_events h) is.0 by.number st.sound opened in
    record {
      opened = subst (λ n. open_of (tx_events h) n ≡ Some by.number) (sym owner) opened;
      owner = refl;
      runs = (open_runs (tx_events h) is.0 by.number st.sound opened).runs;
    }

own_counts : (h : History) (s : ℕ) (by : TxId) → IsOwn h s by → counts (tx_events h) s by.number ≡ true
own_counts h s by own =
    let opened = own.opened in
    let runs = own.runs in
    rw (runs, opened) (grind (arith, nat_tests))

runs_on : (txs : TxEvents) (t : ℕ) → fate txs t ≡ Running → was_aborted txs t ≡ false
runs_on txs t runs = elim (cases_Bool (was_aborted txs t)) [
  | inl y ↦ let wrong = sym (rw y at runs) in absurd (cc)
  | inr n ↦ n
]

-- what the end of one entry says of another one that is still there
record StaysThere (g h : History) (s : ℕ) (x : Entry) : Type 0 where
  was : is_present g s x ≡ true
  same : counted_of (tx_events h) (entry_ends (catalogue_events h)) x.id.number ≡ counted_of (tx_events g) (entry_ends (catalogue_events g)) x.id.number

abbrev pub after_end : ℕ → Stamp → History → History
after_end k s h = CatalogueChange (EntryEnded k s) ∷ h

counted_other : (txs : TxEvents) (ds : Stamps) (k n : ℕ) (s : Stamp) → (k == n) ≡ false → counted_of txs ((k, s) ∷ ds) n ≡ counted_of txs ds n
counted_other txs ds k n s other = rw other refl

counted_here : (txs : TxEvents) (ds : Stamps) (k n : ℕ) (s : Stamp) → (k == n) ≡ true → was_aborted txs s.by.number ≡ false → counted_of txs ((k, s) ∷ ds) n ≡ Some s
counted_here txs ds k n s here runs = rw (here, runs) refl

stays : (g : History) (s k : ℕ) (st : Stamp) (x : Entry) → IsOwn g s st.by → is_present (after_end k st g) s x ≡ true → StaysThere g (after_end k st g) s x
stays g s k st x own there = elim (cases_Bool (k == x.id.number)) [
  | inl here ↦
      let c = counted_here (tx_events g) (entry_ends (catalogue_events g)) k x.id.number st here (runs_on (tx_events g) st.by.number own.runs) in
      let gone : stamp_counts (tx_events g) s (counted_of (tx_events g) ((k, st) ∷ entry_ends (catalogue_events g)) x.id.number) ≡ true = ap (stamp_counts (tx_events g) s) c ∙ own_counts g s st.by own in
      let none : counts (tx_events g) s x.by.number && not true ≡ true = ap (λ (b : Bool). counts (tx_events g) s x.by.number && not b) (sym gone) ∙ there in
      let wrong : false ≡ true = sym (and_false (counts (tx_events g) s x.by.number)) ∙ none in
      absurd (cc)
  | inr other ↦
      let c = counted_other (tx_events g) (entry_ends (catalogue_events g)) k x.id.number st other in
      record {
        was = ap (λ o. counts (tx_events g) s x.by.number && not (stamp_counts (tx_events g) s o)) (sym c) ∙ there;
        same = c;
      }
]

filter_within : (p q : Entry → Bool) → ((e : Entry) → p e ≡ true → q e ≡ true) → (es : List Entry) → filter p es ≡ filter p (filter q es)
filter_within p q part [] = refl
filter_within p q part (e ∷ es) =
    let rest = filter_within p q part es in
    elim (cases_Bool (p e)) [
      | inl y ↦ let z : q e ≡ true = part e y in rw (y, z, y) (ap (λ l. e ∷ l) rest)
      | inr n ↦ elim (cases_Bool (q e)) [ inl u ↦ rw (n, u, n) rest | inr v ↦ rw (n, v) rest ]
    ]

all_through : (P Q : Entry → Type 0) (p r : Entry → Bool) → ((e : Entry) → p e ≡ true → P e → Q e) → (es : List Entry) → All P (filter r es) → All Q (filter r (filter p es))
all_through P Q p r through [] h = All-nil Q
all_through P Q p r through (e ∷ es) h = elim (cases_Bool (r e)) [
  | inl y ↦
      let all : All P (e ∷ filter r es) = rw y at h in
      let rest = all_through P Q p r through es (All-tail P e (filter r es) all) in
      elim (cases_Bool (p e)) [
        | inl t ↦ rw (t, y) (All-cons Q e (filter r (filter p es)) (through e t (All-head P e (filter r es) all)) rest)
        | inr f ↦ rw f rest
      ]
  | inr n ↦
      let rest = all_through P Q p r through es (rw n at h) in
      elim (cases_Bool (p e)) [ inl t ↦ rw (t, n) rest | inr f ↦ rw f rest ]
]

keeps_after_end : (g : History) (s k : ℕ) (st : Stamp) (t : TableNo) → IsOwn g s st.by → KeepsPlaces g s t → KeepsPlaces (after_end k st g) s t
keeps_after_end g s k st t own keeps =
    let h = after_end k st g in
    let part = filter_within (is_present h s) (is_present g s) (λ e there. (stays g s k st e own there).was) (entries_added (catalogue_events g)) in
    subst (λ (es : List Entry). All (IsNotEnded h) (filter (is_over t.number) es)) (sym part)
    (all_through (IsNotEnded g) (IsNotEnded h) (is_present h s) (is_over t.number) (λ e there none. (stays g s k st e own there).same ∙ none) (entries_present g s) keeps)

pub keeps_after : (g : History) (s : ℕ) (st : Stamp) (x t : TableNo) → IsOwn g s st.by → KeepsPlaces g s t → KeepsPlaces (place_ended s st g x ++ g) s t
keeps_after g s st x t own keeps = elim (above (entries_present g s) x.number) as (λ (o : Option Entry). KeepsPlaces (ended st o ++ g) s t) [
  | None ↦ keeps
  | Some e ↦ keeps_after_end g s e.id.number st t own keeps
]
