-- Trees that are kept.
use Rattle.std.proofs.Common.{◌≡◌, ℕ, ap, refl, sym, subst, ◌∙◌, Bool, List, [], map, filter}
use Rattle.std.specs.List.{All}
use Rattle.std.proofs.lemmas.List.Elements.{All-nil}
use Rattle.bound_forms.specs.declared.level.Level.{Level}
use Rattle.bound_forms.specs.declared.partition_bound.Bound.{Bound}
use Rattle.history.specs.declared.catalogue.Table.{Table}
use Rattle.history.specs.declared.catalogue.TableShape.{TableShape}
use Rattle.history.specs.declared.catalogue.TableShape.TheVariants.{Leaf, Level as LevelShape}
use Rattle.history.specs.declared.catalogue.Entry.{Entry}
use Rattle.history.specs.Places.{table_at}
use Rattle.row_router.specs.declared.node.Node.{Node}
use Rattle.row_router.specs.declared.tree.Tree.{Tree}
use Rattle.row_router.specs.declared.tree.Shape.{Level as ShapeLevel}
use Rattle.row_router.specs.declared.tree.TreeList.{TreeList}
use Rattle.row_router.specs.Trees.{TableTree, LevelTable, Trees, trees_of}
use Rattle.row_router.specs.Seen.{seen, items_of}
use Rattle.row_router.specs.Histories.{bound_of, children, child_of_entry, grown, node_at, tree_within}
use Rattle.row_router.proofs.Order.{children_of_part}
use Rattle.row_router.proofs.Seen.{seen_level}
use Rattle.part_catalog.specs.declared.stored.StoredTable.{StoredTable}
use Rattle.part_catalog.specs.declared.stored.StoredEntry.{StoredEntry}
use Rattle.part_catalog.specs.declared.keep.KeptTree.{KeptTree}
use Rattle.part_catalog.specs.Kept.{table_in, by_place}
use Rattle.part_catalog.specs.Stands.{is_flagged}
use Rattle.part_catalog.specs.Groves.{IsGrownFrom, grown_for}

pub grown_is : (tables : List Table) (entries : List Entry) (flags : List Bool) (t : ℕ) → grown_for tables entries flags t ≡ tree_within 7 tables (filter (is_flagged flags) entries) t t
unfolding Rattle.part_catalog.specs.Groves.grown_for
grown_is tables entries flags t = refl

-- as it was grown in a call
pub grown_whole : (T tables : List StoredTable) (E entries : List StoredEntry) (F flags : List Bool) (t : ℕ) (tree : TableTree) → tables ≡ T → entries ≡ E → flags ≡ F → tree ≡ tree_within 7 (map table_in tables) (filter (is_flagged flags) (by_place entries)) t t → tree ≡ grown_for (map table_in T) (by_place E) F t
grown_whole T tables E entries F flags t tree ts es fs is =
    is
    ∙ sym (grown_is (map table_in tables) (by_place entries) flags t)
    ∙ ap (λ l. grown_for (map table_in l) (by_place entries) flags t) ts
    ∙ ap (λ l. grown_for (map table_in T) (by_place l) flags t) es
    ∙ ap (λ l. grown_for (map table_in T) (by_place E) l t) fs

-- as a call is lent them
pub kept_lent : (T tables : List StoredTable) (E entries : List StoredEntry) (K kept : List KeptTree) → tables ≡ T → entries ≡ E → kept ≡ K → All (IsGrownFrom (map table_in T) (by_place E)) K → All (IsGrownFrom (map table_in tables) (by_place entries)) kept
kept_lent T tables E entries K kept ts es ks all =
    subst (All (IsGrownFrom (map table_in tables) (by_place entries))) (sym ks)
    (subst (λ l. All (IsGrownFrom (map table_in tables) (by_place l)) K) (sym es)
    (subst (λ l. All (IsGrownFrom (map table_in l) (by_place E)) K) (sym ts) all))

-- where none is kept
pub none_kept : (tables : List Table) (entries : List Entry) (kept : List KeptTree) → kept ≡ [] → All (IsGrownFrom tables entries) kept
none_kept tables entries kept none = subst (All (IsGrownFrom tables entries)) (sym none) (All-nil (IsGrownFrom tables entries))

-- the tables and entries are the same
pub kept_same : (old tables : List Table) (before entries : List Entry) (kept : List KeptTree) → tables ≡ old → entries ≡ before → All (IsGrownFrom old before) kept → All (IsGrownFrom tables entries) kept
kept_same old tables before entries kept ts es all = subst (λ l. All (IsGrownFrom l entries) kept) (sym ts) (subst (λ l. All (IsGrownFrom old l) kept) (sym es) all)

-- ---- what a kept tree says of the bounds below its table

bounds_of_level : (shape : TableShape) (node top : Node) (level : Level) (bounds set : List Bound) (kids : Trees) (trees : List TableTree) → LevelTable top level bounds kids ≡ grown shape node set trees → bounds ≡ set
bounds_of_level (Leaf leaf) node top level bounds set kids trees is = absurd (cc)
bounds_of_level (LevelShape own) node top level bounds set kids trees is = cc

pub bounds_kept : (tables : List Table) (entries : List Entry) (flags : List Bool) (t : ℕ) (tree : Tree) (level : Level) (bounds : List Bound) (kids : TreeList) → tree.shape ≡ ShapeLevel level bounds kids → seen tree ≡ grown_for tables entries flags t → bounds ≡ map bound_of (filter (is_flagged flags) (children entries t))
bounds_kept tables entries flags t tree level bounds kids shape is =
    let part = filter (is_flagged flags) entries in
    let trees = map (λ (e : Entry). tree_within 6 tables part t (child_of_entry e)) (children part t) in
    bounds_of_level (table_at tables t).shape (node_at tables t t) tree.node level bounds (map bound_of (children part t)) (trees_of (map seen (items_of kids))) trees
    (sym (seen_level tree level bounds kids shape) ∙ is ∙ grown_is tables entries flags t)
    ∙ ap (map bound_of) (sym (children_of_part (is_flagged flags) entries t))
