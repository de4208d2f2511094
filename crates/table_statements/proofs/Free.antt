-- Nobody else dropped a table that is locked, or ended an entry below one.
use Rattle.std.proofs.Common.{◌≡◌, ◌≢◌, ℕ, zero, suc, ◌==◌, ◌&&◌, not, arith, ap, refl, sym, subst, ◌∙◌, Bool, true, false, [], ◌∷◌, Option, Some, None, filter, get_or, inl, inr}
use Rattle.std.specs.List.{All, AllPairs, Contains}
use Rattle.std.proofs.lemmas.Bool.{cases_Bool, and_parts}
use Rattle.std.proofs.lemmas.Bool.Decides.{nat_tests}
use Rattle.std.proofs.lemmas.List.Elements.{All-contains, All-filter, All-contains_itself, filter_passes}
use Rattle.std.proofs.lemmas.List.Kept.{AllPairs-filter}
use Rattle.pg_values.specs.declared.ids.TableNo.{TableNo}
use Rattle.history.specs.declared.transaction.Fate.TheVariants.{Running}
use Rattle.history.specs.declared.catalogue.Entry.{Entry}
use Rattle.history.specs.declared.catalogue.Stamp.{Stamp}
use Rattle.history.specs.Transactions.{TxEvents, open_of, fate, was_aborted, was_committed, IsRunning}
use Rattle.history.specs.Catalogue.{CatalogueEvents, TableDropped, EntryEnded, entries_added, drops, entry_ends, counted_of, IsDropped, IsEntryEnd}
use Rattle.history.specs.History.{History, tx_events, catalogue_events}
use Rattle.history.specs.Places.{AreCatalogueSound}
use Rattle.history.specs.Presence.{counts, is_present, entries_present}
use Rattle.history.proofs.Open.{open_runs, open_own}
use Rattle.row_router.specs.Histories.{is_over}
use Rattle.row_router.specs.Siblings.{AreSiblings}
use Rattle.soundness.specs.Worlds.{same_tx, view, IsThere, Present, Under}
use Rattle.soundness.specs.Legal.{OwnsNow, GuardsNow}
use Rattle.soundness.specs.Parts.{Siblings, InvariantOf, OwnsIn, GuardsIn}
use Rattle.soundness.proofs.Worlds.{both_ways, alive, alive_world, view_world, split}
use Rattle.soundness.proofs.Held.{clash, guarding, own_here, guard_here}
use Rattle.soundness.proofs.Looking.{counts_world}
use Rattle.soundness.proofs.Paths.{agree}
use Rattle.soundness.proofs.Presence.{all_present, present_siblings}
use Rattle.soundness.proofs.All.{legal_keeps_all}
use Rattle.part_ddl.specs.Below.{tables_from}
use Rattle.part_ddl.specs.Dropped.{AreTwo, IsNotDropped, KeepsPlaces}
use Rattle.part_ddl.specs.Laws.{IsWay, IsForest}
use Rattle.part_ddl.proofs.Forest.{tables_stand_once}
use Rattle.part_ddl.proofs.Standing.{numbered}
use Rattle.table_statements.specs.Laws.{HasLocked, LockedTablesMayGo}
use Rattle.table_statements.proofs.Led.{IsLed, all_led}

turned : (b : Bool) → not b ≡ true → b ≡ false
turned true e = absurd (cc)
turned false e = refl

-- ---- a stamp that counts is of an event

counted_drop : (txs : TxEvents) (cats : CatalogueEvents) (k : ℕ) (s : Stamp) → counted_of txs (drops cats) k ≡ Some s → IsDropped cats k s.by.number × (was_aborted txs s.by.number ≡ false)
counted_drop txs [] k s is = absurd (cc)
counted_drop txs (TableDropped n x ∷ cats) k s is = elim (cases_Bool ((n == k) && not (was_aborted txs x.by.number))) [
  | inl y ↦
      let first : Some x ≡ Some s = rw y at is in
      let same : x ≡ s = cc in
      let parts = and_parts (n == k) (not (was_aborted txs x.by.number)) y in
      let here : n ≡ k = grind (arith, nat_tests, parts.0) in
      (inl (here, ap (λ (z : Stamp). z.by.number) same), ap (λ (z : Stamp). was_aborted txs z.by.number) (sym same) ∙ turned (was_aborted txs x.by.number) parts.1)
  | inr n ↦ let r = counted_drop txs cats k s (rw n at is) in (inr r.0, r.1)
]
counted_drop txs (_ ∷ cats) k s is = counted_drop txs cats k s is

counted_end : (txs : TxEvents) (cats : CatalogueEvents) (k : ℕ) (s : Stamp) → counted_of txs (entry_ends cats) k ≡ Some s → IsEntryEnd cats k s.by.number × (was_aborted txs s.by.number ≡ false)
counted_end txs [] k s is = absurd (cc)
counted_end txs (EntryEnded n x ∷ cats) k s is = elim (cases_Bool ((n == k) && not (was_aborted txs x.by.number))) [
  | inl y ↦
      let first : Some x ≡ Some s = rw y at is in
      let same : x ≡ s = cc in
      let parts = and_parts (n == k) (not (was_aborted txs x.by.number)) y in
      let here : n ≡ k = grind (arith, nat_tests, parts.0) in
      (inl (here, ap (λ (z : Stamp). z.by.number) same), ap (λ (z : Stamp). was_aborted txs z.by.number) (sym same) ∙ turned (was_aborted txs x.by.number) parts.1)
  | inr n ↦ let r = counted_end txs cats k s (rw n at is) in (inr r.0, r.1)
]
counted_end txs (_ ∷ cats) k s is = counted_end txs cats k s is

none_of : (o : Option Stamp) → ((s : Stamp) → o ≡ Some s → ⊥) → o ≡ None
none_of None never = refl
none_of (Some s) never = absurd (never s refl)

-- ---- who is another one that runs

alive_of : (txs : TxEvents) (u : ℕ) → was_aborted txs u ≡ false → alive txs u ≡ true
alive_of txs u live = elim (cases_Bool (was_committed txs u)) [ inl c ↦ rw (live, c) refl | inr n ↦ rw (live, n) refl ]

alive_too : (txs : TxEvents) (t : ℕ) → fate txs t ≡ Running → alive txs t ≡ true
alive_too txs t runs = rw runs refl

another : (txs : TxEvents) (t u : ℕ) → view txs t u ≡ false → was_aborted txs u ≡ false → (fate txs u ≡ Running) × (same_tx txs t u ≡ false)
another txs t u out live = elim (split txs (alive txs) t u (alive_world txs) (alive_of txs u live)) [
  | inl y ↦ absurd (both_ways (view txs t u) y out)
  | inr r ↦ r
]

-- ---- what is locked

not_dropped : (h : History) (t x : ℕ) → InvariantOf h → IsRunning (tx_events h) t → IsThere (catalogue_events h) (view (tx_events h) t) x → OwnsNow h t x → counted_of (tx_events h) (drops (catalogue_events h)) x ≡ None
not_dropped h t x i acts there owns = none_of (counted_of (tx_events h) (drops (catalogue_events h)) x) (λ s is.
    let txs = tx_events h in
    let u = s.by.number in
    let d = counted_drop txs (catalogue_events h) x s is in
    let other = another txs t u (there.2 u d.0) d.1 in
    let world = alive_world txs in
    let theirs : OwnsIn h (alive txs) u x = i.open_entries.dropped (alive txs) x u world d.0 other.0 (alive_of txs u d.1) in
    let mine : OwnsIn h (alive txs) t x = own_here h (alive txs) t x world acts (alive_too txs t acts.runs) owns in
    clash h (alive txs) t u x i world acts.runs other.0 other.1 (guarding h (alive txs) t x mine) (guarding h (alive txs) u x theirs))

not_ended : (h : History) (t : ℕ) (e : Entry) → InvariantOf h → IsRunning (tx_events h) t → Present (catalogue_events h) (view (tx_events h) t) e → GuardsNow h t e.parent.number → counted_of (tx_events h) (entry_ends (catalogue_events h)) e.id.number ≡ None
not_ended h t e i acts present guards = none_of (counted_of (tx_events h) (entry_ends (catalogue_events h)) e.id.number) (λ s is.
    let txs = tx_events h in
    let u = s.by.number in
    let d = counted_end txs (catalogue_events h) e.id.number s is in
    let other = another txs t u (present.2 u d.0) d.1 in
    let world = alive_world txs in
    let theirs : GuardsIn h (alive txs) u e.parent.number = i.open_entries.ended (alive txs) e u world present.0 d.0 other.0 (alive_of txs u d.1) in
    let mine : GuardsIn h (alive txs) t e.parent.number = guard_here h (alive txs) t e.parent.number world acts (alive_too txs t acts.runs) guards in
    clash h (alive txs) t u e.parent.number i world acts.runs other.0 other.1 mine theirs)

-- ---- the entries of the session form a forest

abbrev AllThere : History → ℕ → ℕ → Type 0
AllThere h session t = All (Present (catalogue_events h) (view (tx_events h) t)) (entries_present h session)

in_view : (h : History) (session t : ℕ) (e : Entry) → open_of (tx_events h) session ≡ Some t → fate (tx_events h) t ≡ Running → Present (catalogue_events h) (counts (tx_events h) session) e → Present (catalogue_events h) (view (tx_events h) t) e
in_view h session t e opened runs present = (present.0, sym (agree (tx_events h) session t e.by.number opened runs) ∙ present.1, λ u end. sym (agree (tx_events h) session t u opened runs) ∙ present.2 u end)

abbrev HaveTwoIds : Entry → Entry → Type 0
HaveTwoIds a b = a.id.number ≢ b.id.number

ids_two : (h : History) → AreCatalogueSound h → AllPairs HaveTwoIds (entries_added (catalogue_events h))
ids_two h sound i j d lt below same =
    let a = numbered h sound d i (omega (arith, lt, below)) in
    let b = numbered h sound d j below in
    let e : i ≡ j = sym a ∙ (same ∙ b) in
    omega (arith, lt, e)

under_of : (h : History) (session t n top x : ℕ) → AllThere h session t → IsWay (entries_present h session) n top x → Under (catalogue_events h) (view (tx_events h) t) n top x
under_of h session t zero top x present way = way
under_of h session t (suc n) top x present (e, there, child, way) =
    (e, All-contains (Present (catalogue_events h) (view (tx_events h) t)) (entries_present h session) e present there, child, under_of h session t n top e.parent.number present way)

forest_of : (h : History) (session t : ℕ) → AreCatalogueSound h → AllThere h session t → Siblings (catalogue_events h) (view (tx_events h) t) → IsForest (entries_present h session)
forest_of h session t sound present sib = record {
  one_parent = λ i j d lt below same.
      let two = AllPairs-filter HaveTwoIds (is_present h session) (entries_added (catalogue_events h)) (ids_two h sound) i j d lt below in
      let one = sib.one_parent (get_or (entries_present h session) i d) (get_or (entries_present h session) j d) (present i d (omega (arith, lt, below))) (present j d below) same in
      two (ap (λ (x : Entry). x.id.number) one);
  no_cycle = λ n x way. sib.no_cycle n x (under_of h session t (suc n) x x present way);
}

-- ---- the tables of the tree

table_there : (h : History) (session t table : ℕ) (x : TableNo) → HasLocked h session t table → AllThere h session t → Siblings (catalogue_events h) (view (tx_events h) t) → IsLed (entries_present h session) (tables_from h session table) table x → IsThere (catalogue_events h) (view (tx_events h) t) x.number
table_there h session t table x locked present sib (inl is) = subst (IsThere (catalogue_events h) (view (tx_events h) t)) (sym is) locked.there
table_there h session t table x locked present sib (inr (e, inside, child, from)) =
    let its = All-contains (Present (catalogue_events h) (view (tx_events h) t)) (entries_present h session) e present inside in
    subst (IsThere (catalogue_events h) (view (tx_events h) t)) child (sib.there e its).1

parent_guarded : (h : History) (session t table : ℕ) (x : TableNo) (e : Entry) → HasLocked h session t table → AllThere h session t → Siblings (catalogue_events h) (view (tx_events h) t) → Contains (entries_present h session) e → e.child.number ≡ x.number → IsLed (entries_present h session) (tables_from h session table) table x → GuardsNow h t e.parent.number
parent_guarded h session t table x e locked present sib inside child (inl is) = locked.above e inside (child ∙ is)
parent_guarded h session t table x e locked present sib inside child (inr (g, there, mine, (y, listed, number))) =
    let P = Present (catalogue_events h) (view (tx_events h) t) in
    let one : e ≡ g = sib.one_parent e g (All-contains P (entries_present h session) e present inside) (All-contains P (entries_present h session) g present there) (child ∙ sym mine) in
    let owns : OwnsNow h t y.number = All-contains (λ (z : TableNo). OwnsNow h t z.number) (tables_from h session table) y locked.owned listed in
    let up : y.number ≡ e.parent.number = number ∙ ap (λ (z : Entry). z.parent.number) (sym one) in
    guarding h (view (tx_events h) t) t e.parent.number (subst (OwnsNow h t) up owns)

places_kept : (h : History) (session t table : ℕ) (x : TableNo) → InvariantOf h → IsRunning (tx_events h) t → HasLocked h session t table → AllThere h session t → Siblings (catalogue_events h) (view (tx_events h) t) → IsLed (entries_present h session) (tables_from h session table) table x → KeepsPlaces h session x
places_kept h session t table x i acts locked present sib led k d lt =
    let es = entries_present h session in
    let over = filter (is_over x.number) es in
    let e = get_or over k d in
    let inside : Contains es e = All-filter (is_over x.number) (Contains es) es (All-contains_itself es) k d lt in
    let passes : is_over x.number e ≡ true = filter_passes (is_over x.number) es k d lt in
    let child : e.child.number ≡ x.number = grind (arith, nat_tests, passes) in
    not_ended h t e i acts (All-contains (Present (catalogue_events h) (view (tx_events h) t)) es e present inside) (parent_guarded h session t table x e locked present sib inside child led)

pub locked_tables_may_go : LockedTablesMayGo
locked_tables_may_go table kept h session t by txs cat legal permitted locked =
    let i = legal_keeps_all h legal permitted in
    let q = by.number in
    let acts = open_runs (tx_events h) session q txs.sound locked.opened in
    let owner = open_own (tx_events h) session q txs.sound locked.opened in
    let sib = i.siblings (view (tx_events h) q) (view_world (tx_events h) q) in
    let counted = all_present h session txs.sound cat.sound in
    let present : AllThere h session q = λ k d lt. in_view h session q (get_or (entries_present h session) k d) locked.opened acts.runs (counted k d lt) in
    let led = all_led h session t in
    let tables = tables_from h session t in
    let together : AreSiblings (entries_present h session) = present_siblings h session txs.sound cat.sound (i.siblings (counts (tx_events h) session) (counts_world (tx_events h) session txs.sound)) in
    let once : AllPairs AreTwo tables = tables_stand_once h session t (forest_of h session q cat.sound present sib) in
    let there : All (IsNotDropped h) tables = λ k d lt. not_dropped h q (get_or tables k d).number i acts (table_there h session q t (get_or tables k d) locked present sib (led k d lt)) (locked.owned k d lt) in
    let places : All (KeepsPlaces h session) tables = λ k d lt. places_kept h session q t (get_or tables k d) i acts locked present sib (led k d lt) in
    record {
      h = h;
      txs = txs;
      catalogue = cat;
      siblings = subst (λ n. AreSiblings (entries_present h n)) (sym owner) together;
      once = subst (λ n. AllPairs AreTwo (tables_from h n t)) (sym owner) once;
      there = subst (λ n. All (IsNotDropped h) (tables_from h n t)) (sym owner) there;
      places = subst (λ n. All (KeepsPlaces h n) (tables_from h n t)) (sym owner) places;
    }
