-- The conditions on events can be met: a table that has a row becomes a partition, its parent becomes one too, and another
-- session deletes the row.
use Rattle.std.proofs.Common.{◌≡◌, ◌≢◌, ℕ, ◌+◌, ◌<◌, ◌≤◌, zero, suc, arith, true, false, List, [], ◌∷◌, inl, inr, refl, ap, sym, subst, ◌∙◌, Option, Some, None, length}
use Rattle.std.specs.Prelude.{pos}
use Rattle.std.specs.List.{Contains}
use Rattle.std.proofs.lemmas.Grind.{common_steps}
use Rattle.std.proofs.lemmas.List.Elements.{All-cons, All-nil}
use Rattle.pg_values.specs.declared.value.Kind.TheVariants.{Int4 as KInt4}
use Rattle.pg_values.specs.declared.value.Value.TheVariants.{Int4}
use Rattle.pg_values.specs.declared.ids.LeafId.{LeafId}
use Rattle.pg_values.specs.declared.lock_mode.LockMode.TheVariants.{RowExclusive}
use Rattle.bound_forms.specs.declared.level.KeyColumn.{KeyColumn}
use Rattle.pg_values.specs.declared.strategy.Strategy.TheVariants.{Range as ByRange}
use Rattle.bound_forms.specs.declared.partition_bound.Bound.{Bound}
use Rattle.bound_forms.specs.declared.partition_bound.Bound.TheVariants.{Range}
use Rattle.bound_forms.specs.declared.point.Edge.TheVariants.{Min, At}
use Rattle.bound_forms.specs.Levels.{IsPointOf}
use Rattle.history.specs.declared.transaction.Fate.TheVariants.{Running, Committed}
use Rattle.history.specs.declared.version.Version.{Version}
use Rattle.history.specs.declared.version.End.{End}
use Rattle.history.specs.declared.version.Ending.TheVariants.{Deleted}
use Rattle.history.specs.declared.catalogue.Column.{Column}
use Rattle.history.specs.declared.catalogue.Table.{Table}
use Rattle.history.specs.declared.catalogue.TableShape.TheVariants.{Leaf, Level}
use Rattle.history.specs.declared.catalogue.Entry.{Entry}
use Rattle.history.specs.Transactions.{TxBegan, TxCommitted, fate}
use Rattle.history.specs.Snapshots.{SnapshotHeld}
use Rattle.history.specs.Rows.{LeafAdded, RowBorn, RowEnded}
use Rattle.history.specs.Catalogue.{TableMade, EntryAdded, tables_made}
use Rattle.history.specs.Locks.{LockGot}
use Rattle.history.specs.History.{History, TxChange, SnapshotChange, RowChange, CatalogueChange, LockChange, tx_events, catalogue_events, lock_events, fresh}
use Rattle.history.specs.Places.{LiesIn, Suits}
use Rattle.history.specs.LocksSound.{IsGotSound}
use Rattle.history.specs.Legal.{command_of, IsNotAfter, IsInOrder, IsLegal}
use Rattle.history.specs.Presence.{counts}
use Rattle.row_router.specs.Histories.{tree_of}
use Rattle.row_router.specs.Trees.{leaves}
use Rattle.bound_forms.specs.Accepts.{accepts}
use Rattle.soundness.specs.Worlds.{view, table_in, IsMade, HasLeaf, Under, key_at}
use Rattle.soundness.specs.Columns.{IsOfTable}
use Rattle.soundness.specs.Parts.{IsKnown, AreChildren}
use Rattle.soundness.specs.Legal.{Has, HasTable, MayMake, MayBear, HasPlace, MayAdd, MayEndRow, OwnsNow, WritesNow, Below, ArePermitted}
use Rattle.soundness.specs.Laws.{ConditionsCanBeMet}
use Rattle.soundness.proofs.Worlds.{same_refl, view_own}

abbrev pub number_column : Column
number_column = record { name = 97 ∷ []; kind = KInt4; not_null = false }

abbrev pub key_column : KeyColumn
key_column = record { position = 0; kind = KInt4 }

-- t (a int) PARTITION BY RANGE (a)
abbrev pub parent : Table
parent = record { id = record { number = 0 }; name = 116 ∷ []; columns = number_column ∷ []; shape = Level (record { strategy = ByRange; columns = key_column ∷ []; one_if_list = λ list. refl }); by = record { number = 0 }; cmd = 0 }

-- p (a int), with the row 5
abbrev pub child : Table
child = record { id = record { number = 1 }; name = 112 ∷ []; columns = number_column ∷ []; shape = Leaf (record { number = 0 }); by = record { number = 0 }; cmd = 1 }

abbrev pub five : Version
five = record { id = record { number = 0 }; leaf = record { number = 0 }; row = Int4 (pos 5) ∷ []; by = record { number = 0 }; cmd = 2 }

-- FOR VALUES FROM (low) TO (high)
abbrev pub range_from : (low high : ℕ) → Bound
range_from low high = Range (At (Int4 (pos low)) ∷ (Min ∷ [])) (At (Int4 (pos high)) ∷ (Min ∷ []))

-- p FOR VALUES FROM (0) TO (10)
abbrev pub attached : Entry
attached = record { id = record { number = 0 }; parent = record { number = 0 }; child = record { number = 1 }; bound = range_from 0 10; by = record { number = 0 }; cmd = 3 }

-- g (a int) PARTITION BY RANGE (a), and t FOR VALUES FROM (0) TO (100)
abbrev root : Table
root = record { id = record { number = 2 }; name = 103 ∷ []; columns = number_column ∷ []; shape = Level (record { strategy = ByRange; columns = key_column ∷ []; one_if_list = λ list. refl }); by = record { number = 0 }; cmd = 4 }

abbrev upper : Entry
upper = record { id = record { number = 1 }; parent = record { number = 2 }; child = record { number = 0 }; bound = range_from 0 100; by = record { number = 0 }; cmd = 5 }

abbrev deleted : End
deleted = record { by = record { number = 1 }; cmd = 1; how = Deleted }

-- session 0 makes two tables, inserts the row, attaches, makes the third, attaches again and commits

abbrev begun : History
begun = RowChange (LeafAdded 0) ∷ TxChange (TxBegan 0 0) ∷ []

abbrev with_parent : History
with_parent = CatalogueChange (TableMade parent) ∷ begun

abbrev with_child : History
with_child = CatalogueChange (TableMade child) ∷ with_parent

abbrev pub filled : History
filled = RowChange (RowBorn five) ∷ with_child

abbrev pub with_partition : History
with_partition = CatalogueChange (EntryAdded attached) ∷ filled

abbrev with_root : History
with_root = CatalogueChange (TableMade root) ∷ with_partition

abbrev with_tree : History
with_tree = CatalogueChange (EntryAdded upper) ∷ with_root

-- session 1 takes a snapshot and the lock, deletes the row and commits

abbrev begun_anew : History
begun_anew = TxChange (TxBegan 1 1) ∷ TxChange (TxCommitted 0 0) ∷ with_tree

abbrev with_snapshot : History
with_snapshot = SnapshotChange (SnapshotHeld 1 (record { past = tx_events begun_anew; tx = 1; cmd = 1 })) ∷ begun_anew

abbrev with_lock : History
with_lock = LockChange (LockGot 1 1 RowExclusive) ∷ with_snapshot

abbrev emptied : History
emptied = RowChange (RowEnded 0 deleted) ∷ with_lock

-- ---- what the history asks

not_after : (o : Option (ℕ × ℕ)) → IsNotAfter o None
not_after None = tt
not_after (Some (t, m)) = tt

pub no_command : (h : History) → IsInOrder None h
no_command [] = tt
no_command (e ∷ h) = (not_after (command_of e), no_command h)

pub point_at : (n : ℕ) → IsPointOf (key_column ∷ []) (At (Int4 (pos n)) ∷ Min ∷ [])
point_at n = record { edges = ((refl, refl), refl); words = λ i j d lt le. absurd (omega (arith, lt, le)) }

attached_suits : Suits (tables_made (catalogue_events filled)) attached
attached_suits = record { parent = omega arith; child = omega arith; bound = (point_at 0, point_at 10, refl); columns = ((refl, refl, λ n. n), tt) }

lock_free : IsGotSound 1 1 RowExclusive (lock_events with_snapshot)
lock_free = record { session = omega arith; idle = refl; free = λ y. grind (arith, common_steps) }

legal_parent : IsLegal with_parent
legal_parent = (
  (refl, All-cons (LiesIn (number_column ∷ [])) key_column [] refl (All-nil (LiesIn (number_column ∷ [])))),
  (tt, (tt, tt)),
  (refl, no_command (TxChange (TxBegan 0 0) ∷ []), ((refl, refl, tt), tt, tt)),
)

legal_child : IsLegal with_child
legal_child = ((refl, tt), (λ e. omega arith, (tt, (tt, tt))), legal_parent)

legal_row : IsLegal filled
legal_row = (record { number = refl; leaf = omega arith; by = record { begun = omega arith; runs = refl } }, (λ e. omega arith, (λ e. omega arith, (tt, (tt, tt)))), legal_child)

pub legal_partition : IsLegal with_partition
legal_partition = ((refl, attached_suits), (λ e. omega arith, (λ e. omega arith, (λ e. omega arith, (tt, (tt, tt))))), legal_row)

legal_root : IsLegal with_root
legal_root = ((refl, All-cons (LiesIn (number_column ∷ [])) key_column [] refl (All-nil (LiesIn (number_column ∷ [])))), (λ e. omega arith, (λ e. omega arith, (λ e. omega arith, (λ e. omega arith, (tt, (tt, tt)))))), legal_partition)

upper_suits : Suits (tables_made (catalogue_events with_root)) upper
upper_suits = record { parent = omega arith; child = omega arith; bound = (point_at 0, point_at 100, refl); columns = ((refl, refl, λ n. n), tt) }

legal_tree : IsLegal with_tree
legal_tree = ((refl, upper_suits), (λ e. omega arith, (λ e. omega arith, (λ e. omega arith, (λ e. omega arith, (λ e. omega arith, (tt, (tt, tt))))))), legal_root)

legal_anew : IsLegal begun_anew
legal_anew = ((refl, refl, (refl, refl, (refl, refl, tt))), no_command (TxChange (TxCommitted 0 0) ∷ with_tree), ((refl, refl, (refl, refl, tt)), no_command with_tree, legal_tree))

-- a command of the one transaction and one of the other
apart : (m n : ℕ) → ◌≡◌ {A = ℕ} 0 1 → m ≤ n
apart m n e = absurd (omega (arith, e))

legal_snapshot : IsLegal with_snapshot
legal_snapshot = (
  (record { own = refl; timely = refl }, (λ e. absurd (omega (arith, e)), tt)),
  (tt, (tt, (apart 5 1, (apart 4 1, (apart 3 1, (apart 2 1, (apart 1 1, (apart 0 1, (tt, (tt, tt)))))))))),
  legal_anew,
)

is_legal : IsLegal emptied
is_legal = (
  record { standing = refl; version = five; there = refl; by = record { begun = omega arith; runs = refl }; seen = refl; known = tt },
  (tt, (λ e. omega arith, (tt, (tt, (apart 5 1, (apart 4 1, (apart 3 1, (apart 2 1, (apart 1 1, (apart 0 1, (tt, (tt, tt)))))))))))),
  (lock_free, no_command with_snapshot, legal_snapshot),
)

-- ---- what is locked, tested and scanned

pub may_make_parent : MayMake begun parent
may_make_parent = record {
  acts = record { begun = omega arith; runs = refl };
  empty = λ v is. absurd is;
  only = λ x leaf at. absurd (omega (arith, at.0));
  free = λ x there. absurd (omega (arith, there.0));
  unclaimed = λ x made. absurd (omega (arith, made));
}

names_differ : parent.name ≢ child.name
names_differ same = let e : ◌≡◌ {A = ℕ} 116 112 = cc in omega (arith, e)

name_free : (x : ℕ) → HasTable with_parent 0 x → (table_in (catalogue_events with_parent) x).name ≢ child.name
name_free zero there same = names_differ same
name_free (suc x) there same = omega (arith, there.0)

name_unclaimed : (x : ℕ) → IsMade (catalogue_events with_parent) x → (table_in (catalogue_events with_parent) x).name ≡ child.name → fate (tx_events with_parent) (table_in (catalogue_events with_parent) x).by.number ≡ Running → (table_in (catalogue_events with_parent) x).by.number ≡ 0
name_unclaimed zero made same runs = refl
name_unclaimed (suc x) made same runs = absurd (omega (arith, made))

pub level_leaf : (l : LeafId) → parent.shape ≡ Leaf l → ⊥
level_leaf l is = cc

no_leaf : (x : ℕ) (leaf : LeafId) → HasLeaf (catalogue_events with_parent) x leaf → child.shape ≢ Leaf leaf
no_leaf zero leaf at same = level_leaf leaf at.1
no_leaf (suc x) leaf at same = omega (arith, at.0)

pub may_make_child : MayMake with_parent child
may_make_child = record { acts = record { begun = omega arith; runs = refl }; empty = λ v is. absurd is; only = no_leaf; free = name_free; unclaimed = name_unclaimed }

owns_child : OwnsNow filled 0 1
owns_child = (0, same_refl (tx_events filled) 0, view_own (tx_events filled) 0 refl, inr (omega arith, refl))

-- the leaf is that of the child
pub is_child : (x : ℕ) (l : LeafId) → HasLeaf (catalogue_events with_child) x l → x ≡ 1
is_child zero l at = absurd (level_leaf l at.1)
is_child (suc zero) l at = refl
is_child (suc (suc x)) l at = absurd (omega (arith, at.0))

writes_child : (x : ℕ) → x ≡ 1 → WritesNow with_child 0 x
writes_child x is = subst (λ z. WritesNow with_child 0 z) (sym is) (0, same_refl (tx_events with_child) 0, view_own (tx_events with_child) 0 refl, inr (inr (omega arith, refl)))

pub may_bear : MayBear with_child five
may_bear = record {
  locked = λ x at. writes_child x (is_child x five.leaf at);
  columns = λ x at. subst (λ z. IsOfTable (catalogue_events with_child) z five.row) (sym (is_child x five.leaf at)) ((λ some. refl), tt);
  routed = λ x at e n p. absurd p.0;
  passes = λ x at c n is. absurd is.0;
}

child_owned : (n x : ℕ) → Below filled 0 n 1 x → OwnsNow filled 0 x
child_owned zero x is = subst (λ z. OwnsNow filled 0 z) is owns_child
child_owned (suc n) x is = absurd is.1.0

not_below : (n : ℕ) → Below filled 0 n 1 0 → ⊥
not_below zero is = omega (arith, is)
not_below (suc n) is = is.1.0

shallow : (n m top x : ℕ) → Below filled 0 n top 0 → Below filled 0 m 1 x → n + m + 1 ≡ 8 → ⊥
shallow zero zero top x up low long = absurd (omega (arith, long))
shallow zero (suc m) top x up low long = low.1.0
shallow (suc n) m top x up low long = up.1.0

room : (es : List Entry) → AreChildren (catalogue_events filled) (view (tx_events filled) 0) 0 es → length es < 1024
room [] are = omega arith
room (e ∷ es) are = absurd (are.below 0 e (omega arith)).0.0

has_place : HasPlace filled attached
has_place = record {
  acts = record { begun = omega arith; runs = refl };
  there = ((omega arith, view_own (tx_events filled) 0 refl, λ u d. absurd d), (omega arith, view_own (tx_events filled) 0 refl, λ u d. absurd d));
  parent_locked = (0, same_refl (tx_events filled) 0, view_own (tx_events filled) 0 refl, inr (inr (omega arith, refl)));
  default_locked = λ d n x p. absurd p.0;
  roomy = room;
  together = λ g p. absurd p.0;
  no_pending = λ g p. absurd p.0;
  default_scanned = λ d v n x p. absurd p.0;
}

pub may_add : MayAdd filled attached
may_add = record {
  place = has_place;
  child_locked = child_owned;
  no_partition = λ g p. absurd p.0;
  not_above = not_below;
  shallow = shallow;
  scanned = λ v n x is at low judged. (
    elim is [
      | inl new ↦ inl (subst (λ (z : Version). accepts (key_at (catalogue_events filled) 0 z.row) attached.bound ≡ true) new refl)
      | inr none ↦ absurd none
    ],
    λ f k p. absurd p.0,
  );
  passes = λ v n x is at low judged c m has. absurd has.0;
}

-- ---- the parent becomes a partition, too

root_names : (x : ℕ) → HasTable with_partition 0 x → (table_in (catalogue_events with_partition) x).name ≢ root.name
root_names zero there same = let e : ◌≡◌ {A = ℕ} 116 103 = cc in omega (arith, e)
root_names (suc zero) there same = let e : ◌≡◌ {A = ℕ} 112 103 = cc in omega (arith, e)
root_names (suc (suc x)) there same = omega (arith, there.0)

root_unclaimed : (x : ℕ) → IsMade (catalogue_events with_partition) x → (table_in (catalogue_events with_partition) x).name ≡ root.name → fate (tx_events with_partition) (table_in (catalogue_events with_partition) x).by.number ≡ Running → (table_in (catalogue_events with_partition) x).by.number ≡ 0
root_unclaimed zero made same runs = refl
root_unclaimed (suc zero) made same runs = refl
root_unclaimed (suc (suc x)) made same runs = absurd (omega (arith, made))

may_make_root : MayMake with_partition root
may_make_root = record {
  acts = record { begun = omega arith; runs = refl };
  empty = λ v is same. level_leaf v.leaf same;
  only = λ x leaf at same. level_leaf leaf same;
  free = root_names;
  unclaimed = root_unclaimed;
}

-- the one entry that is there
only_entry : (g : Entry) → Has with_root 0 g → attached ≡ g
only_entry g has = elim has.0 [ inl new ↦ new | inr none ↦ absurd none ]

not_under_root : (g : Entry) → Has with_root 0 g → g.parent.number ≡ 2 → ⊥
not_under_root g has under = let e : 0 ≡ g.parent.number = ap (λ (z : Entry). z.parent.number) (only_entry g has) in omega (arith, e, under)

child_is : (g : Entry) → Has with_root 0 g → g.child.number ≡ 1
child_is g has = sym (ap (λ (z : Entry). z.child.number) (only_entry g has))

owns_made : (x : ℕ) → IsMade (catalogue_events with_root) x → (table_in (catalogue_events with_root) x).by.number ≡ 0 → OwnsNow with_root 0 x
owns_made x made by = (0, same_refl (tx_events with_root) 0, view_own (tx_events with_root) 0 refl, inr (made, by))

tree_owned : (n x : ℕ) → Below with_root 0 n 0 x → OwnsNow with_root 0 x
tree_owned zero x is = subst (λ z. OwnsNow with_root 0 z) is (owns_made 0 (omega arith) refl)
tree_owned (suc n) x (g, p, child, rest) = subst (λ z. OwnsNow with_root 0 z) (sym (child_is g p) ∙ child) (owns_made 1 (omega arith) refl)

-- nothing stands above the root, and the parent is no partition
none_over : (n top x : ℕ) → x ≢ 1 → Below with_root 0 (suc n) top x → ⊥
none_over n top x other (g, p, child, rest) = other (sym child ∙ child_is g p)

tree_low : (n m top x : ℕ) → Below with_root 0 n top 2 → Below with_root 0 m 0 x → n + m + 1 ≡ 8 → ⊥
tree_low (suc n) m top x up low long = none_over n top 2 (λ e. omega (arith, e)) up
tree_low zero zero top x up low long = absurd (omega (arith, long))
tree_low zero (suc zero) top x up low long = absurd (omega (arith, long))
tree_low zero (suc (suc m)) top x up (g, p, child, rest) long =
    let under : 0 ≡ g.parent.number = ap (λ (z : Entry). z.parent.number) (only_entry g p) in
    none_over m 0 0 (λ e. omega (arith, e)) (subst (λ z. Below with_root 0 (suc m) 0 z) (sym under) rest)

not_over_root : (n : ℕ) → Below with_root 0 n 0 2 → ⊥
not_over_root zero is = omega (arith, is)
not_over_root (suc n) is = none_over n 0 2 (λ e. omega (arith, e)) is

none_above_root : (f : Entry) (k : ℕ) → Has with_root 0 f → Below with_root 0 k f.child.number 2 → ⊥
none_above_root f zero has up = let e = child_is f has in omega (arith, e, up)
none_above_root f (suc k) has up = none_over k f.child.number 2 (λ e. omega (arith, e)) up

root_room : (es : List Entry) → AreChildren (catalogue_events with_root) (view (tx_events with_root) 0) 2 es → length es < 1024
root_room [] are = omega arith
root_room (e ∷ es) are = let its = are.below 0 e (omega arith) in absurd (not_under_root e its.0 its.1)

upper_place : HasPlace with_root upper
upper_place = record {
  acts = record { begun = omega arith; runs = refl };
  there = ((omega arith, view_own (tx_events with_root) 0 refl, λ u d. absurd d), (omega arith, view_own (tx_events with_root) 0 refl, λ u d. absurd d));
  parent_locked = (0, same_refl (tx_events with_root) 0, view_own (tx_events with_root) 0 refl, inr (inr (omega arith, refl)));
  default_locked = λ d n x has under. absurd (not_under_root d has under);
  roomy = root_room;
  together = λ g has same. absurd (not_under_root g has same);
  no_pending = λ g has under. absurd (not_under_root g has under);
  default_scanned = λ d v n x has under. absurd (not_under_root d has under);
}

may_add_upper : MayAdd with_root upper
may_add_upper = record {
  place = upper_place;
  child_locked = tree_owned;
  no_partition = λ g has same. let e = child_is g has in omega (arith, e, same);
  not_above = not_over_root;
  shallow = tree_low;
  scanned = λ v n x is at low judged. (
    elim is [
      | inl new ↦ inl (subst (λ (z : Version). accepts (key_at (catalogue_events with_root) 2 z.row) upper.bound ≡ true) new refl)
      | inr none ↦ absurd none
    ],
    λ f k has up. absurd (none_above_root f k has up),
  );
  passes = λ v n x is at low judged c m has. absurd has.0;
}

is_known : IsKnown (tx_events with_snapshot) (catalogue_events with_snapshot) 1 1
is_known = (omega arith, λ runs. let both : Committed ≡ Running = runs in absurd (cc))

still_child : (x : ℕ) (l : LeafId) → HasLeaf (catalogue_events with_lock) x l → x ≡ 1
still_child zero l at = absurd (level_leaf l at.1)
still_child (suc zero) l at = refl
still_child (suc (suc zero)) l at = absurd (level_leaf l at.1)
still_child (suc (suc (suc x))) l at = absurd (omega (arith, at.0))

may_end : MayEndRow with_lock 0 deleted
may_end = record {
  locked = λ v x is same at.
      let here : x ≡ 1 = still_child x v.leaf at in
      subst (λ z. WritesNow with_lock 1 z) (sym here) (1, same_refl (tx_events with_lock) 1, view_own (tx_events with_lock) 1 refl, inl (1, refl, refl));
}

are_permitted : ArePermitted emptied
are_permitted = (may_end, (is_known, (tt, (tt, (tt, (inl may_add_upper, (may_make_root, (inl may_add, (may_bear, (may_make_child, (may_make_parent, (tt, (tt, tt)))))))))))))

shown_leaf : Contains (leaves (tree_of emptied 0 2 (fresh (tx_events emptied) 0))) five.leaf
unfolding Rattle.row_router.specs.Histories.tree_of
shown_leaf = (0, omega arith, refl)

-- p stands below t, and t below g
two_steps : Under (catalogue_events emptied) (counts (tx_events emptied) 0) 2 2 1
two_steps = (attached, (inr (inl refl), refl, λ u end. absurd end), refl, (upper, (inl refl, refl, λ u end. absurd end), refl, refl))

pub conditions_can_be_met : ConditionsCanBeMet
conditions_can_be_met = (emptied, 0, 2, 1, fresh (tx_events emptied) 0, five.leaf, is_legal, are_permitted, inr (inr refl), omega arith, shown_leaf, two_steps, (omega arith, refl), refl)
