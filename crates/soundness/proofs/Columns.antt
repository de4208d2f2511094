-- Each kind of event keeps that stored rows are rows of their leaf's columns; and so they are of the columns of each table above.
use Rattle.std.proofs.Common.{◌≡◌, ℕ, zero, suc, arith, List, [], ◌∷◌, inl, inr, refl, ap, sym, subst, ◌∙◌, map, Option, Some, None, Result, Ok, Err, get_or}
use Rattle.std.specs.List.{All, Contains}
use Rattle.std.proofs.lemmas.List.Elements.{Contains-append_left, Contains-append_right}
use Rattle.pg_values.specs.declared.value.Value.{Value}
use Rattle.pg_values.specs.declared.ids.LeafId.{LeafId}
use Rattle.pg_values.specs.declared.ids.TableNo.{TableNo}
use Rattle.bound_forms.specs.Levels.{IsOf}
use Rattle.history.specs.declared.version.Version.{Version}
use Rattle.history.specs.declared.catalogue.Column.{Column}
use Rattle.history.specs.declared.catalogue.Table.{Table}
use Rattle.history.specs.declared.catalogue.TableShape.{TableShape}
use Rattle.history.specs.declared.catalogue.TableShape.TheVariants.{Leaf, Level}
use Rattle.history.specs.declared.catalogue.Entry.{Entry}
use Rattle.history.specs.Snapshots.{TakenSnapshot}
use Rattle.history.specs.Rows.{LeafAdded, RowBorn, RowEnded}
use Rattle.history.specs.Catalogue.{CatalogueEvents, TableMade, TableDropped, EntryAdded, EntryEnded, EntryMarked, CheckKept, tables_made}
use Rattle.history.specs.History.{Event, History, TxChange, SnapshotChange, RowChange, CatalogueChange, LockChange, tx_events, row_events, catalogue_events}
use Rattle.history.specs.Places.{HasColumnsOf, Suits}
use Rattle.history.specs.Presence.{counts, entries_present, entries_shown}
use Rattle.history.specs.Legal.{IsLegal}
use Rattle.row_router.specs.declared.node.Node.{Node}
use Rattle.row_router.specs.declared.tree.NoPartition.{NoPartition}
use Rattle.row_router.specs.Trees.{TableTree, LeafTable, LevelTable, Trees, End, More, IsRowOf, child_of, leaves, all_leaves, routed, routed_in}
use Rattle.row_router.specs.Histories.{tree_of, ddl_tree, tree_within, grown, node_at, children, bound_of, child_of_entry}
use Rattle.row_router.proofs.Order.{all_children, under_children}
use Rattle.soundness.specs.Versions.{IsVersion}
use Rattle.soundness.specs.Worlds.{World, table_in, IsMade, HasLeaf, Present, Under}
use Rattle.soundness.specs.Columns.{IsOfTable, ColumnsOf, IsLeafBelow}
use Rattle.soundness.specs.Parts.{AreEntries, InvariantOf}
use Rattle.soundness.specs.Legal.{MayMake, MayBear, IsPermitted, ArePermitted}
use Rattle.soundness.specs.Laws.{LegalKeepsColumns, LeavesHaveColumns, RowsAreOfTrees, RoutedAreOfColumns}
use Rattle.soundness.proofs.Made.{same_table, leaf_was}
use Rattle.soundness.proofs.Listed.{none_in, first_in, only_one}
use Rattle.soundness.proofs.Presence.{all_present, all_shown}
use Rattle.soundness.proofs.Sound.{sound_of, catalogue_sound_of}
use Rattle.soundness.proofs.Trees.{kid_of}
use Rattle.soundness.proofs.Under.{under_top}
use Rattle.soundness.proofs.All.{legal_keeps_all}

-- ---- each event

made_columns : (h : History) (t : Table) → MayMake h t → ColumnsOf h → ColumnsOf (CatalogueChange (TableMade t) ∷ h)
made_columns h t may k v x is at = elim (leaf_was t (catalogue_events h) x v.leaf at) [
  | inl new ↦ absurd (may.empty v is new)
  | inr old ↦ subst (λ (y : Table). IsRowOf y.columns v.row) (same_table t (catalogue_events h) x old.0) (k v x is old)
]

born_columns : (h : History) (v : Version) → MayBear h v → ColumnsOf h → ColumnsOf (RowChange (RowBorn v) ∷ h)
born_columns h v may k y x is at = elim is [
  | inl new ↦ subst (λ (z : Version). IsOfTable (catalogue_events h) x z.row) new (may.columns x (subst (λ (z : Version). HasLeaf (catalogue_events h) x z.leaf) (sym new) at))
  | inr old ↦ k y x old at
]

keeps_columns : (e : Event) (h : History) → IsPermitted e h → ColumnsOf h → ColumnsOf (e ∷ h)
keeps_columns (TxChange e) h permitted k = k
keeps_columns (SnapshotChange e) h permitted k = k
keeps_columns (RowChange (LeafAdded l)) h permitted k = k
keeps_columns (RowChange (RowBorn v)) h permitted k = born_columns h v permitted k
keeps_columns (RowChange (RowEnded n y)) h permitted k = k
keeps_columns (CatalogueChange (TableMade t)) h permitted k = made_columns h t permitted k
keeps_columns (CatalogueChange (TableDropped x s)) h permitted k = k
keeps_columns (CatalogueChange (EntryAdded e)) h permitted k = k
keeps_columns (CatalogueChange (EntryEnded n s)) h permitted k = k
keeps_columns (CatalogueChange (EntryMarked n s)) h permitted k = k
keeps_columns (CatalogueChange (CheckKept c)) h permitted k = k
keeps_columns (LockChange e) h permitted k = k

columns_of : (h : History) → ArePermitted h → ColumnsOf h
columns_of [] permitted = λ v x is. absurd is
columns_of (e ∷ h) permitted = keeps_columns e h permitted.0 (columns_of h permitted.1)

pub legal_keeps_columns : LegalKeepsColumns
legal_keeps_columns h legal permitted = columns_of h permitted

-- ---- columns of one table and of another

same_columns : (cs : List Column) → HasColumnsOf cs cs
same_columns [] = tt
same_columns (c ∷ cs) = ((refl, refl, λ n. n), same_columns cs)

columns_through : (a b c : List Column) → HasColumnsOf a b → HasColumnsOf b c → HasColumnsOf a c
columns_through [] [] [] f g = g
columns_through [] [] (z ∷ c) f g = absurd g
columns_through [] (y ∷ b) c f g = absurd f
columns_through (x ∷ a) [] c f g = absurd f
columns_through (x ∷ a) (y ∷ b) [] f g = absurd g
columns_through (x ∷ a) (y ∷ b) (z ∷ c) f g = ((f.0.0 ∙ g.0.0, f.0.1 ∙ g.0.1, λ n. g.0.2 (f.0.2 n)), columns_through a b c f.1 g.1)

pub row_up : (parent child : List Column) (row : List Value) → HasColumnsOf parent child → IsRowOf child row → IsRowOf parent row
row_up [] [] row h r = r
row_up [] (c ∷ child) row h r = absurd h
row_up (p ∷ parent) [] row h r = absurd h
row_up (p ∷ parent) (c ∷ child) [] h r = absurd r
row_up (p ∷ parent) (c ∷ child) (v ∷ row) h r = (subst (λ k. IsOf k v) (sym h.0.1) r.0, row_up parent child row h.1 r.1)

pub row_down : (parent child : List Column) (row : List Value) → HasColumnsOf parent child → IsRowOf parent row → IsRowOf child row
row_down [] [] row h r = r
row_down [] (c ∷ child) row h r = absurd h
row_down (p ∷ parent) [] row h r = absurd h
row_down (p ∷ parent) (c ∷ child) [] h r = absurd r
row_down (p ∷ parent) (c ∷ child) (v ∷ row) h r = (subst (λ k. IsOf k v) h.0.1 r.0, row_down parent child row h.1 r.1)

-- ---- the tables of a tree

-- the leaf is that of a table below this one, with its columns
pub record IsHoused (cats : CatalogueEvents) (w : World) (leaf : LeafId) (t : ℕ) : Type 0 where
  pub table : ℕ
  pub steps : ℕ
  pub under : Under cats w steps t table
  pub has : HasLeaf cats table leaf
  pub columns : HasColumnsOf (table_in cats t).columns (table_in cats table).columns

-- an entry is present, suits its tables, and stands below this one
record IsBelow (cats : CatalogueEvents) (w : World) (t : ℕ) (e : Entry) : Type 0 where
  present : Present cats w e
  suits : Suits (tables_made cats) e
  under : e.parent.number ≡ t

all_below : (cats : CatalogueEvents) (w : World) (entries : List Entry) (t : ℕ) → AreEntries cats → All (Present cats w) entries → All (IsBelow cats w t) (children entries t)
all_below cats w entries t are present k d lt =
    let there = all_children (Present cats w) entries t present k d lt in
    record { present = there; suits = are.suited (get_or (children entries t) k d) there.0; under = under_children entries t k d lt }

own_house : (cats : CatalogueEvents) (w : World) (leaf own : LeafId) (t : ℕ) → IsMade cats t → (table_in cats t).shape ≡ Leaf own → Contains (own ∷ []) leaf → IsHoused cats w leaf t
own_house cats w leaf own t made is at = record {
  table = t;
  steps = zero;
  under = refl;
  has = (made, is ∙ ap (λ (l : LeafId). Leaf l) (only_one own leaf at));
  columns = same_columns (table_in cats t).columns;
}

house_above : (cats : CatalogueEvents) (w : World) (leaf : LeafId) (t : ℕ) (e : Entry) → IsBelow cats w t e → IsHoused cats w leaf e.child.number → IsHoused cats w leaf t
house_above cats w leaf t e below house = record {
  table = house.table;
  steps = suc house.steps;
  under = subst (λ p. Under cats w (suc house.steps) p house.table) below.under (under_top cats w e below.present house.steps house.table house.under);
  has = house.has;
  columns = columns_through (table_in cats t).columns (table_in cats e.child.number).columns (table_in cats house.table).columns
      (subst (λ p. HasColumnsOf (table_in cats p).columns (table_in cats e.child.number).columns) below.under below.suits.columns) house.columns;
}

house_in : (cats : CatalogueEvents) (w : World) (leaf : LeafId) (entries : List Entry) (t : ℕ) (node : Node) (f : ℕ → TableTree) (shape : TableShape) → (table_in cats t).shape ≡ shape → IsMade cats t → AreEntries cats → All (Present cats w) entries
    → ((c : ℕ) → IsMade cats c → Contains (leaves (f c)) leaf → IsHoused cats w leaf c)
    → Contains (leaves (grown shape node (map bound_of (children entries t)) (map (λ (e : Entry). f (child_of_entry e)) (children entries t)))) leaf → IsHoused cats w leaf t
house_in cats w leaf entries t node f (Leaf own) is made are present each at = own_house cats w leaf own t made is at
house_in cats w leaf entries t node f (Level level) is made are present each at =
    let kid = kid_of (IsBelow cats w t) f leaf (children entries t) (all_below cats w entries t are present) at in
    house_above cats w leaf t kid.0 kid.1 (each kid.0.child.number kid.1.suits.child kid.3)

house_bare : (cats : CatalogueEvents) (w : World) (leaf : LeafId) (t : ℕ) (node : Node) (shape : TableShape) → (table_in cats t).shape ≡ shape → IsMade cats t → Contains (leaves (grown shape node [] [])) leaf → IsHoused cats w leaf t
house_bare cats w leaf t node (Leaf own) is made at = own_house cats w leaf own t made is at
house_bare cats w leaf t node (Level level) is made at = absurd (none_in leaf at)

house_within : (n : ℕ) (cats : CatalogueEvents) (w : World) (leaf : LeafId) (entries : List Entry) (named t : ℕ) → AreEntries cats → All (Present cats w) entries → IsMade cats t → Contains (leaves (tree_within n (tables_made cats) entries named t)) leaf → IsHoused cats w leaf t
house_within zero cats w leaf entries named t are present made at = house_bare cats w leaf t (node_at (tables_made cats) named t) (table_in cats t).shape refl made at
house_within (suc n) cats w leaf entries named t are present made at =
    house_in cats w leaf entries t (node_at (tables_made cats) named t) (λ c. tree_within n (tables_made cats) entries named c) (table_in cats t).shape refl made are present
    (λ c made_c at_c. house_within n cats w leaf entries named c are present made_c at_c) at

-- ---- the laws

house_shown : (h : History) (session table : ℕ) (s : TakenSnapshot) (leaf : LeafId) → IsLegal h → InvariantOf h → IsMade (catalogue_events h) table → Contains (leaves (tree_of h session table s)) leaf → IsHoused (catalogue_events h) (counts (tx_events h) session) leaf table
unfolding Rattle.row_router.specs.Histories.tree_of
house_shown h session table s leaf legal i made at =
    house_within 7 (catalogue_events h) (counts (tx_events h) session) leaf (entries_shown h session s) table table i.entries (all_shown h session s (sound_of h legal) (catalogue_sound_of h legal)) made at

pub house_present : (h : History) (session table : ℕ) (leaf : LeafId) → IsLegal h → InvariantOf h → IsMade (catalogue_events h) table → Contains (leaves (ddl_tree h session table)) leaf → IsHoused (catalogue_events h) (counts (tx_events h) session) leaf table
unfolding Rattle.row_router.specs.Histories.ddl_tree
house_present h session table leaf legal i made at =
    house_within 7 (catalogue_events h) (counts (tx_events h) session) leaf (entries_present h session) table table i.entries (all_present h session (sound_of h legal) (catalogue_sound_of h legal)) made at

house_of : (h : History) (session table : ℕ) (s : TakenSnapshot) (leaf : LeafId) → IsLegal h → InvariantOf h → IsMade (catalogue_events h) table → IsLeafBelow h session table s leaf → IsHoused (catalogue_events h) (counts (tx_events h) session) leaf table
house_of h session table s leaf legal i made at = elim at [
  | inl shown ↦ house_shown h session table s leaf legal i made shown
  | inr present ↦ house_present h session table leaf legal i made present
]

pub leaves_have_columns : LeavesHaveColumns
leaves_have_columns h session table s leaf legal permitted made at =
    let house = house_of h session table s leaf legal (legal_keeps_all h legal permitted) made at in
    (house.table, house.has, house.columns)

pub rows_are_of_trees : RowsAreOfTrees
rows_are_of_trees h session table s v legal permitted made at is =
    let house = leaves_have_columns h session table s v.leaf legal permitted made at in
    row_up (table_in (catalogue_events h) table).columns (table_in (catalogue_events h) house.0).columns v.row house.2 (columns_of h permitted v house.0 is house.1)

-- ---- where a row is routed

same_found : (a b : LeafId) → ◌≡◌ {A = Result LeafId NoPartition} (Ok a) (Ok b) → a ≡ b
same_found a b is = cc

none_found : (table : TableNo) (leaf : LeafId) → ◌≡◌ {A = Result LeafId NoPartition} (Err (record { table = table })) (Ok leaf) → ⊥
none_found table leaf is = cc

mutual
  pub routed_leaf : (row : List Value) (t : TableTree) (leaf : LeafId) → routed row t ≡ Ok leaf → Contains (leaves t) leaf
  routed_leaf row (LeafTable node own) leaf is = subst (λ l. Contains (own ∷ []) l) (same_found own leaf is) (first_in own [])
  routed_leaf row (LevelTable node level bounds kids) leaf is = routed_below row node.table (child_of level bounds row) kids leaf is

  routed_below : (row : List Value) (table : TableNo) (child : Option ℕ) (kids : Trees) (leaf : LeafId) → routed_in row table child kids ≡ Ok leaf → Contains (all_leaves kids) leaf
  routed_below row table None kids leaf is = absurd (none_found table leaf is)
  routed_below row table (Some i) End leaf is = absurd (none_found table leaf is)
  routed_below row table (Some zero) (More k ks) leaf is = Contains-append_left (leaves k) (all_leaves ks) leaf (routed_leaf row k leaf is)
  routed_below row table (Some (suc i)) (More k ks) leaf is = Contains-append_right (leaves k) (all_leaves ks) leaf (routed_below row table (Some i) ks leaf is)

pub routed_are_of_columns : RoutedAreOfColumns
routed_are_of_columns h session table x s leaf row legal permitted made way of at =
    let i = legal_keeps_all h legal permitted in
    let house = leaves_have_columns h session table s leaf legal permitted made (inl (routed_leaf row (tree_of h session table s) leaf way)) in
    let same = i.tables.one_home house.0 x leaf house.1 at in
    subst (λ z. IsOfTable (catalogue_events h) z row) same (row_down (table_in (catalogue_events h) table).columns (table_in (catalogue_events h) house.0).columns row house.2 of)
