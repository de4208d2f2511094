-- Rows against which nothing stands pass the CHECKs along the path of the table that takes them.
use Rattle.std.proofs.Common.{◌≡◌, ℕ, false, List, [], sym, subst, None, All}
use Rattle.pg_values.specs.declared.value.Value.{Value}
use Rattle.pg_values.specs.declared.ids.LeafId.{LeafId}
use Rattle.history.specs.Snapshots.{TakenSnapshot}
use Rattle.history.specs.Catalogue.{tables_made}
use Rattle.history.specs.History.{History, catalogue_events}
use Rattle.history.specs.Presence.{entries_shown}
use Rattle.row_router.specs.Histories.{tree_of, path_of, table_of}
use Rattle.row_router.specs.Trees.{TableTree}
use Rattle.row_router.specs.declared.path.PathTest.TheVariants.{Checks}
use Rattle.row_router.specs.Paths.{refused}
use Rattle.row_change.specs.Targets.{HasWay, holder, holder_faults}
use Rattle.row_change.specs.Ways.{AllTables}
use Rattle.row_change.specs.Placing.{tables_of}
use Rattle.soundness.specs.Worlds.{HasLeaf}
use Rattle.row_change.proofs.Trees.{AtHome, Child, IsHome, tree_are}
use Rattle.row_change.proofs.Passing.{taken_passes, holder_has}
use Rattle.row_change.specs.Laws.{IsMade}

-- ---- a row that the table with the leaf takes passes the CHECKs along the table's path

pub holder_passes : (h : History) (s table : ℕ) (look : TakenSnapshot) (tree : TableTree) (leaf : LeafId) (row : List Value) → tree ≡ tree_of h s table look → All (Child (IsMade h)) (entries_shown h s look) → IsMade h (table_of table)
    → ((x y : ℕ) (l : LeafId) → HasLeaf (catalogue_events h) x l → HasLeaf (catalogue_events h) y l → x ≡ y) → HasWay tree leaf → holder_faults h s tree leaf row ≡ [] → (x : ℕ) → HasLeaf (catalogue_events h) x leaf → refused Checks row (path_of h s x) ≡ None
holder_passes h s table look tree leaf row is shown made one_home way none x own =
    let tables = tables_made (catalogue_events h) in
    let are = tree_are h s table look (IsMade h) shown made in
    let t = holder tree leaf in
    let has : IsMade h t × IsHome tables t leaf = holder_has (IsMade h) (IsHome tables) tree leaf (subst (AllTables (IsMade h)) (sym is) are.tables) (subst (AtHome (IsHome tables)) (sym is) are.home) way in
    subst (λ n. refused Checks row (path_of h s n) ≡ None) (one_home t.number x leaf has own) (taken_passes (tables_of h) t (path_of h s t.number) false row none)
