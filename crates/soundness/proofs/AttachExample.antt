-- A table with a row is attached beside a partition that is pending, while another session has a snapshot from before the mark.
use Rattle.std.proofs.Common.{◌≡◌, ◌≢◌, ℕ, ◌+◌, ◌<◌, ◌≤◌, zero, suc, arith, true, false, List, [], ◌∷◌, inl, inr, refl, ap, sym, subst, ◌∙◌, Some, None, length}
use Rattle.std.specs.Prelude.{pos}
use Rattle.std.proofs.lemmas.Grind.{common_steps}
use Rattle.pg_values.specs.declared.value.Value.TheVariants.{Int4}
use Rattle.pg_values.specs.declared.ids.LeafId.{LeafId}
use Rattle.pg_values.specs.declared.lock_mode.LockMode.TheVariants.{ShareUpdateExclusive, AccessExclusive}
use Rattle.bound_forms.specs.Accepts.{accepts, is_default}
use Rattle.history.specs.declared.transaction.Fate.TheVariants.{Running, Committed}
use Rattle.history.specs.declared.version.Version.{Version}
use Rattle.history.specs.declared.catalogue.Table.{Table}
use Rattle.history.specs.declared.catalogue.TableShape.TheVariants.{Leaf}
use Rattle.history.specs.declared.catalogue.Entry.{Entry}
use Rattle.history.specs.declared.catalogue.Stamp.{Stamp}
use Rattle.history.specs.Transactions.{TxBegan, TxCommitted, fate}
use Rattle.history.specs.Snapshots.{SnapshotHeld, TakenSnapshot}
use Rattle.history.specs.Rows.{LeafAdded, RowBorn}
use Rattle.history.specs.Catalogue.{TableMade, EntryAdded, EntryMarked, tables_made, IsEntry}
use Rattle.history.specs.Locks.{LockGot, LocksGivenUp}
use Rattle.history.specs.History.{History, TxChange, SnapshotChange, RowChange, CatalogueChange, LockChange, tx_events, row_events, catalogue_events, lock_events}
use Rattle.history.specs.Places.{Suits}
use Rattle.history.specs.LocksSound.{IsGotSound}
use Rattle.history.specs.Legal.{IsLegal}
use Rattle.row_router.specs.Siblings.{CanStandTogether}
use Rattle.soundness.specs.Versions.{IsVersion}
use Rattle.soundness.specs.Worlds.{view, table_in, IsMade, HasLeaf, key_at}
use Rattle.soundness.specs.Columns.{IsOfTable}
use Rattle.soundness.specs.Parts.{IsKnown, AreChildren}
use Rattle.soundness.specs.Legal.{Has, HasTable, MayMake, MayBear, MayMark, HasPlace, MayAdd, OwnsNow, GuardsNow, WritesNow, Below, Judges, ArePermitted}
use Rattle.soundness.specs.Laws.{AttachCanBeMet}
use Rattle.soundness.proofs.Worlds.{both_ways, same_refl, view_own}
use Rattle.soundness.proofs.Example.{attached, child, five, with_partition, number_column, range_from, legal_partition, may_add, may_bear, may_make_child, may_make_parent, level_leaf, no_command, point_at}

-- q (a int), with the row 15
abbrev other : Table
other = record { id = record { number = 2 }; name = 113 ∷ []; columns = number_column ∷ []; shape = Leaf (record { number = 1 }); by = record { number = 0 }; cmd = 4 }

abbrev fifteen : Version
fifteen = record { id = record { number = 1 }; leaf = record { number = 1 }; row = Int4 (pos 15) ∷ []; by = record { number = 0 }; cmd = 5 }

-- q FOR VALUES FROM (10) TO (20)
abbrev beside : Entry
beside = record { id = record { number = 1 }; parent = record { number = 0 }; child = record { number = 2 }; bound = range_from 10 20; by = record { number = 3 }; cmd = 0 }

abbrev stamp : Stamp
stamp = record { by = record { number = 2 }; cmd = 0 }

-- session 0 makes q beside t and its partition p, inserts a row, and commits

abbrev with_leaf : History
with_leaf = RowChange (LeafAdded 1) ∷ with_partition

abbrev with_other : History
with_other = CatalogueChange (TableMade other) ∷ with_leaf

abbrev with_row : History
with_row = RowChange (RowBorn fifteen) ∷ with_other

-- session 1 takes a snapshot

abbrev with_reader : History
with_reader = TxChange (TxBegan 1 1) ∷ TxChange (TxCommitted 0 0) ∷ with_row

abbrev old : TakenSnapshot
old = record { past = tx_events with_reader; tx = 1; cmd = 0 }

abbrev with_snapshot : History
with_snapshot = SnapshotChange (SnapshotHeld 1 old) ∷ with_reader

-- session 0 marks p, and commits that

abbrev with_guard : History
with_guard = LockChange (LockGot 0 0 ShareUpdateExclusive) ∷ TxChange (TxBegan 0 2) ∷ with_snapshot

abbrev with_mark : History
with_mark = CatalogueChange (EntryMarked 0 stamp) ∷ with_guard

abbrev marked : History
marked = LockChange (LocksGivenUp 0) ∷ TxChange (TxCommitted 0 2) ∷ with_mark

-- it locks t and q, and attaches

abbrev with_locks : History
with_locks = LockChange (LockGot 0 2 AccessExclusive) ∷ LockChange (LockGot 0 0 ShareUpdateExclusive) ∷ TxChange (TxBegan 0 3) ∷ marked

abbrev with_beside : History
with_beside = CatalogueChange (EntryAdded beside) ∷ with_locks

-- ---- what the history asks

zero_not : (n : ℕ) → ◌≡◌ {A = ℕ} 0 (suc n) → ⊥
zero_not n e = omega (arith, e)

legal_other : IsLegal with_other
legal_other = ((refl, tt), (tt, (λ e. omega arith, (λ e. omega arith, (λ e. omega arith, (λ e. omega arith, (tt, (tt, tt))))))), (refl, no_command with_partition, legal_partition))

legal_row : IsLegal with_row
legal_row = (
  record { number = refl; leaf = omega arith; by = record { begun = omega arith; runs = refl } },
  (λ e. omega arith, (tt, (λ e. omega arith, (λ e. omega arith, (λ e. omega arith, (λ e. omega arith, (tt, (tt, tt)))))))),
  legal_other,
)

legal_reader : IsLegal with_reader
legal_reader = ((refl, refl, (refl, refl, (refl, refl, tt))), no_command (TxChange (TxCommitted 0 0) ∷ with_row), ((refl, refl, (refl, refl, tt)), no_command with_row, legal_row))

-- no command of transaction 0 is one of a later transaction
no_earlier : (t n : ℕ) → (m : ℕ) → ◌≡◌ {A = ℕ} 0 (suc t) → m ≤ n
no_earlier t n m e = absurd (zero_not t e)

legal_snapshot : IsLegal with_snapshot
legal_snapshot = (
  (record { own = refl; timely = refl }, (λ e. absurd (zero_not 0 e), (λ e. absurd (zero_not 0 e), tt))),
  (tt, (tt, (no_earlier 0 0 5, (no_earlier 0 0 4, (tt, (no_earlier 0 0 3, (no_earlier 0 0 2, (no_earlier 0 0 1, (no_earlier 0 0 0, (tt, (tt, tt))))))))))),
  legal_reader,
)

guard_free : IsGotSound 0 0 ShareUpdateExclusive (lock_events with_snapshot)
guard_free = record { session = omega arith; idle = refl; free = λ y. grind (arith, common_steps) }

legal_guard : IsLegal with_guard
legal_guard = (
  guard_free,
  no_command (TxChange (TxBegan 0 2) ∷ with_snapshot),
  ((refl, refl, (refl, refl, (refl, refl, (refl, refl, tt)))), no_command with_snapshot, legal_snapshot),
)

legal_mark : IsLegal with_mark
legal_mark = (
  (omega arith, refl),
  (tt, (tt, (λ e. absurd (omega (arith, e)), (tt, (tt, (no_earlier 1 0 5, (no_earlier 1 0 4, (tt, (no_earlier 1 0 3, (no_earlier 1 0 2, (no_earlier 1 0 1, (no_earlier 1 0 0, (tt, (tt, tt)))))))))))))),
  legal_guard,
)

legal_marked : IsLegal marked
legal_marked = (
  tt,
  no_command (TxChange (TxCommitted 0 2) ∷ with_mark),
  ((refl, refl, (refl, refl, (refl, refl, (refl, refl, (refl, refl, tt))))), no_command with_mark, legal_mark),
)

parent_free : IsGotSound 0 0 ShareUpdateExclusive (lock_events marked)
parent_free = record { session = omega arith; idle = refl; free = λ y. grind (arith, common_steps) }

other_free : IsGotSound 0 2 AccessExclusive (LockGot 0 0 ShareUpdateExclusive ∷ lock_events marked)
other_free = record { session = omega arith; idle = refl; free = λ y. grind (arith, common_steps) }

legal_locks : IsLegal with_locks
legal_locks = (
  other_free,
  no_command (LockChange (LockGot 0 0 ShareUpdateExclusive) ∷ TxChange (TxBegan 0 3) ∷ marked),
  (
    parent_free,
    no_command (TxChange (TxBegan 0 3) ∷ marked),
    ((refl, refl, (refl, refl, (refl, refl, (refl, refl, (refl, refl, (refl, refl, tt)))))), no_command marked, legal_marked),
  ),
)

beside_suits : Suits (tables_made (catalogue_events with_locks)) beside
beside_suits = record { parent = omega arith; child = omega arith; bound = (point_at 10, point_at 20, refl); columns = ((refl, refl, λ n. n), tt) }

is_legal : IsLegal with_beside
is_legal = (
  (refl, beside_suits),
  (
    tt,
    (
      tt,
      (
        tt,
        (
          tt,
          (
            tt,
            (
              λ e. absurd (omega (arith, e)),
              (
                tt,
                (
                  tt,
                  (
                    λ e. absurd (omega (arith, e)),
                    (tt, (tt, (no_earlier 2 0 5, (no_earlier 2 0 4, (tt, (no_earlier 2 0 3, (no_earlier 2 0 2, (no_earlier 2 0 1, (no_earlier 2 0 0, (tt, (tt, tt))))))))))),
                  ),
                ),
              ),
            ),
          ),
        ),
      ),
    ),
  ),
  legal_locks,
)

-- ---- what is locked, tested and scanned

names : (x : ℕ) → HasTable with_leaf 0 x → (table_in (catalogue_events with_leaf) x).name ≢ other.name
names zero there same = let e : ◌≡◌ {A = ℕ} 116 113 = cc in omega (arith, e)
names (suc zero) there same = let e : ◌≡◌ {A = ℕ} 112 113 = cc in omega (arith, e)
names (suc (suc x)) there same = omega (arith, there.0)

unclaimed : (x : ℕ) → IsMade (catalogue_events with_leaf) x → (table_in (catalogue_events with_leaf) x).name ≡ other.name → fate (tx_events with_leaf) (table_in (catalogue_events with_leaf) x).by.number ≡ Running → (table_in (catalogue_events with_leaf) x).by.number ≡ 0
unclaimed zero made same runs = refl
unclaimed (suc zero) made same runs = refl
unclaimed (suc (suc x)) made same runs = absurd (omega (arith, made))

leaf_number : (a b : LeafId) → Leaf a ≡ Leaf b → a.number ≡ b.number
leaf_number a b is = let e : a ≡ b = cc in ap (λ (l : LeafId). l.number) e

own_leaf : (x : ℕ) (leaf : LeafId) → HasLeaf (catalogue_events with_leaf) x leaf → other.shape ≢ Leaf leaf
own_leaf zero leaf at same = level_leaf leaf at.1
own_leaf (suc zero) leaf at same =
    let a = leaf_number (record { number = 0 }) leaf at.1 in
    let b = leaf_number (record { number = 1 }) leaf same in
    omega (arith, a, b)
own_leaf (suc (suc x)) leaf at same = omega (arith, at.0)

may_make_other : MayMake with_leaf other
may_make_other = record {
  acts = record { begun = omega arith; runs = refl };
  empty = λ v is same. elim is [
    | inl new ↦
        let a : 0 ≡ v.leaf.number = ap (λ (z : Version). z.leaf.number) new in
        let b = leaf_number (record { number = 1 }) v.leaf same in
        omega (arith, a, b)
    | inr none ↦ none
  ];
  only = own_leaf;
  free = names;
  unclaimed = unclaimed;
}

-- the leaf is that of the table
other_is : (x : ℕ) (leaf : LeafId) → HasLeaf (catalogue_events with_other) x leaf → leaf.number ≡ 1 → x ≡ 2
other_is zero leaf at is = absurd (level_leaf leaf at.1)
other_is (suc zero) leaf at is = let a = leaf_number (record { number = 0 }) leaf at.1 in absurd (omega (arith, a, is))
other_is (suc (suc zero)) leaf at is = refl
other_is (suc (suc (suc x))) leaf at is = absurd (omega (arith, at.0))

none_there : (e : Entry) → Has with_other 0 e → e.child.number ≡ 1
none_there e has = elim has.0 [ inl new ↦ sym (ap (λ (z : Entry). z.child.number) new) | inr none ↦ absurd none ]

no_way : (n top : ℕ) → Below with_other 0 (suc n) top 2 → ⊥
no_way n top (g, p, child, rest) = let e = none_there g p in omega (arith, e, child)

nothing_over : (e : Entry) (n : ℕ) → Has with_other 0 e → Below with_other 0 n e.child.number 2 → ⊥
nothing_over e zero has up = let c = none_there e has in omega (arith, c, up)
nothing_over e (suc n) has up = no_way n e.child.number up

may_bear_other : MayBear with_other fifteen
may_bear_other = record {
  locked = λ x at. subst (λ z. WritesNow with_other 0 z) (sym (other_is x fifteen.leaf at refl)) (0, same_refl (tx_events with_other) 0, view_own (tx_events with_other) 0 refl, inr (inr (omega arith, refl)));
  columns = λ x at. subst (λ z. IsOfTable (catalogue_events with_other) z fifteen.row) (sym (other_is x fifteen.leaf at refl)) ((λ some. refl), tt);
  routed = λ x at e n has up. absurd (nothing_over e n has (subst (λ z. Below with_other 0 n e.child.number z) (other_is x fifteen.leaf at refl) up));
  passes = λ x at c n is. absurd is.0;
}

may_mark : MayMark with_guard 0 stamp
may_mark = record {
  acts = record { begun = omega arith; runs = refl };
  locked = λ e is at. elim is [
    | inl new ↦ subst (λ (z : Entry). GuardsNow with_guard 2 z.parent.number) new (2, same_refl (tx_events with_guard) 2, view_own (tx_events with_guard) 2 refl, inl (0, refl, refl))
    | inr none ↦ absurd none
  ];
  none_beside = λ e g is at has same. (
    λ pending. pending.1,
    elim has.0 [ inl new ↦ subst (λ (z : Entry). is_default z.bound ≡ false) new refl | inr none ↦ absurd none ],
  );
}

known_parent : IsKnown (tx_events (TxChange (TxBegan 0 2) ∷ with_snapshot)) (catalogue_events with_snapshot) 0 0
known_parent = (omega arith, λ runs. let both : Committed ≡ Running = runs in absurd (cc))

-- the one entry that is there
only_entry : (g : Entry) → Has with_locks 3 g → attached ≡ g
only_entry g has = elim has.0 [ inl new ↦ new | inr none ↦ absurd none ]

child_is : (g : Entry) → Has with_locks 3 g → g.child.number ≡ 1
child_is g has = sym (ap (λ (z : Entry). z.child.number) (only_entry g has))

parent_is : (g : Entry) → Has with_locks 3 g → g.parent.number ≡ 0
parent_is g has = sym (ap (λ (z : Entry). z.parent.number) (only_entry g has))

not_default : (g : Entry) → Has with_locks 3 g → is_default g.bound ≡ true → ⊥
not_default g has is = both_ways (is_default g.bound) is (subst (λ (z : Entry). is_default z.bound ≡ false) (only_entry g has) refl)

-- nothing stands above t, and nothing below q
none_over : (n top x : ℕ) → x ≢ 1 → Below with_locks 3 (suc n) top x → ⊥
none_over n top x other (g, p, child, rest) = other (sym child ∙ child_is g p)

not_below : (n : ℕ) → Below with_locks 3 n 2 0 → ⊥
not_below zero is = omega (arith, is)
not_below (suc n) is = none_over n 2 0 (λ e. omega (arith, e)) is

nothing_below : (n x : ℕ) → Below with_locks 3 (suc n) 2 x → ⊥
nothing_below n x (g, p, child, rest) = not_below n (subst (λ z. Below with_locks 3 n 2 z) (parent_is g p) rest)

owned : (n x : ℕ) → Below with_locks 3 n 2 x → OwnsNow with_locks 3 x
owned zero x is = subst (λ z. OwnsNow with_locks 3 z) is (3, same_refl (tx_events with_locks) 3, view_own (tx_events with_locks) 3 refl, inl (0, refl, refl))
owned (suc n) x is = absurd (nothing_below n x is)

shallow : (n m top x : ℕ) → Below with_locks 3 n top 0 → Below with_locks 3 m 2 x → n + m + 1 ≡ 8 → ⊥
shallow (suc n) m top x up low long = none_over n top 0 (λ e. omega (arith, e)) up
shallow zero (suc m) top x up low long = nothing_below m x low
shallow zero zero top x up low long = omega (arith, long)

none_above : (f : Entry) (k : ℕ) → Has with_locks 3 f → Below with_locks 3 k f.child.number 0 → ⊥
none_above f zero has up = let e = child_is f has in omega (arith, e, up)
none_above f (suc k) has up = none_over k f.child.number 0 (λ e. omega (arith, e)) up

room : (es : List Entry) → AreChildren (catalogue_events with_locks) (view (tx_events with_locks) 3) 0 es → length es < 1024
room [] are = omega arith
room (e ∷ []) are = omega arith
room (e ∷ f ∷ es) are =
    let a = only_entry e (are.below 0 e (omega arith)).0 in
    let b = only_entry f (are.below 1 e (omega arith)).0 in
    absurd (are.two 0 1 e (omega arith) (omega arith) (ap (λ (z : Entry). z.id.number) (sym a ∙ b)))

has_place : HasPlace with_locks beside
has_place = record {
  acts = record { begun = omega arith; runs = refl };
  there = ((omega arith, refl, λ u d. absurd d), (omega arith, refl, λ u d. absurd d));
  parent_locked = (3, same_refl (tx_events with_locks) 3, view_own (tx_events with_locks) 3 refl, inl (0, refl, refl));
  default_locked = λ d n x has under is. absurd (not_default d has is);
  roomy = room;
  together = λ g has. subst (λ (z : Entry). CanStandTogether z beside) (only_entry g has) (λ same. (refl, refl));
  no_pending = λ g has under pending. refl;
  default_scanned = λ d v n x has under is. absurd (not_default d has is);
}

-- the rows that are scanned
row_fits : (v : Version) (x : ℕ) → IsVersion (row_events with_locks) v → HasLeaf (catalogue_events with_locks) x v.leaf → x ≡ 2 → accepts (key_at (catalogue_events with_locks) 0 v.row) beside.bound ≡ true
row_fits v x (inl new) at is = subst (λ (z : Version). accepts (key_at (catalogue_events with_locks) 0 z.row) beside.bound ≡ true) new refl
row_fits v x (inr (inl new)) at is =
    let a : 0 ≡ v.leaf.number = ap (λ (z : Version). z.leaf.number) new in
    let shape : other.shape ≡ Leaf v.leaf = subst (λ n. (table_in (catalogue_events with_locks) n).shape ≡ Leaf v.leaf) is at.1 in
    let b = leaf_number (record { number = 1 }) v.leaf shape in
    absurd (omega (arith, a, b))
row_fits v x (inr (inr none)) at is = absurd none

low_is : (n x : ℕ) → Below with_locks 3 n 2 x → x ≡ 2
low_is zero x is = sym is
low_is (suc n) x is = absurd (nothing_below n x is)

may_add_beside : MayAdd with_locks beside
may_add_beside = record {
  place = has_place;
  child_locked = owned;
  no_partition = λ g has same. let e = child_is g has in omega (arith, e, same);
  not_above = not_below;
  shallow = shallow;
  scanned = λ v n x is at low judged. (inl (row_fits v x is at (low_is n x low)), λ f k has up. absurd (none_above f k has up));
  passes = λ v n x is at low judged c m has. absurd has.0;
}

known_again : IsKnown (tx_events (TxChange (TxBegan 0 3) ∷ marked)) (catalogue_events marked) 0 0
known_again = (omega arith, λ runs. let both : Committed ≡ Running = runs in absurd (cc))

known_other : IsKnown (tx_events (TxChange (TxBegan 0 3) ∷ marked)) (catalogue_events marked) 0 2
known_other = (omega arith, λ runs. let both : Committed ≡ Running = runs in absurd (cc))

are_permitted : ArePermitted with_beside
are_permitted = (
  inl may_add_beside,
  (
    known_other,
    (
      known_again,
      (
        tt,
        (refl, (tt, (may_mark, (known_parent, (tt, (tt, (tt, (tt, (may_bear_other, (may_make_other, (tt, (inl may_add, (may_bear, (may_make_child, (may_make_parent, (tt, (tt, tt))))))))))))))))),
      ),
    ),
  ),
)

row_judged : Judges with_locks 3 fifteen
row_judged = inl (refl, λ x end. absurd end)

pub attach_can_be_met : AttachCanBeMet
attach_can_be_met = (
  with_locks,
  beside,
  attached,
  1,
  old,
  fifteen,
  is_legal,
  are_permitted,
  refl,
  λ same. omega (arith, same),
  (inl refl, refl, λ u end. absurd end),
  (2, inl (refl, refl), refl),
  refl,
  refl,
  inl refl,
  (omega arith, refl),
  row_judged,
)
