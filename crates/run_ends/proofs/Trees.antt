-- What holds of all tables of a tree holds of those that a statement locks.
use Rattle.std.proofs.Common.{ℕ, zero, suc, Bool, true, false, if◌then◌else◌, List, [], ◌∷◌, Option, Some, None, All}
use Rattle.std.proofs.lemmas.List.Elements.{All-nil, All-cons, All-append}
use Rattle.pg_values.specs.declared.ids.TableNo.{TableNo}
use Rattle.pg_values.specs.declared.value.Value.{Value}
use Rattle.bound_forms.specs.declared.partition_bound.Bound.{Bound}
use Rattle.row_router.specs.Trees.{TableTree, LeafTable, LevelTable, Trees, End, More, child_of}
use Rattle.legal_statements.specs.Below.{tables_in, all_tables}
use Rattle.row_change.specs.Ways.{AllTables, AllTablesOf, root, way_below, way_among, ways_below}
use Rattle.plan_tree.specs.Kept.{Keeps, leaves_below, node_of, led, kept_tables, tables_among}
use Rattle.statement_steps.specs.Below.{below}

module _ (P : TableNo → Type 0) where
  -- ---- those below the topmost one

  mutual
    in_tree : (tree : TableTree) → AllTables P tree → All P (tables_in tree)
    in_tree (LeafTable node leaf) all = All-cons P node.table [] all (All-nil P)
    in_tree (LevelTable node level bounds kids) all = All-cons P node.table (all_tables kids) all.0 (in_trees kids all.1)

    in_trees : (kids : Trees) → AllTablesOf P kids → All P (all_tables kids)
    in_trees End all = All-nil P
    in_trees (More k ks) all = All-append P (tables_in k) (all_tables ks) (in_tree k all.0) (in_trees ks all.1)

  pub all_under : (tree : TableTree) → AllTables P tree → All P (below tree)
  all_under (LeafTable node leaf) all = All-nil P
  all_under (LevelTable node level bounds kids) all = in_trees kids all.1

  -- ---- those that a condition keeps

  own_table : (tree : TableTree) → AllTables P tree → P (node_of tree).table
  own_table (LeafTable node leaf) all = all
  own_table (LevelTable node level bounds kids) all = all.0

  all_led : {X : Type 0} (v : Bool) (xs : List X) (t : TableNo) (ts : List TableNo) → P t → All P ts → All P (if v then led xs t ts else [])
  all_led false xs t ts own all = All-nil P
  all_led true [] t ts own all = All-nil P
  all_led true (x ∷ xs) t ts own all = All-cons P t ts own all

  module _ (keeps : Keeps) where
    mutual
      pub all_kept : (tree : TableTree) → AllTables P tree → All P (kept_tables keeps tree)
      all_kept (LeafTable node leaf) all = All-nil P
      all_kept (LevelTable node level bounds kids) all = among_kept (keeps level bounds) bounds kids all.1

      among_kept : (test : Bound → Bool) (bs : List Bound) (kids : Trees) → AllTablesOf P kids → All P (tables_among keeps test bs kids)
      among_kept test bs End all = All-nil P
      among_kept test [] (More k ks) all = All-nil P
      among_kept test (b ∷ bs) (More k ks) all =
          All-append P (if test b then led (leaves_below keeps k) (node_of k).table (kept_tables keeps k) else []) (tables_among keeps test bs ks)
          (all_led (test b) (leaves_below keeps k) (node_of k).table (kept_tables keeps k) (own_table k all.0) (all_kept k all.0)) (among_kept test bs ks all.1)

  -- ---- those on the ways of rows

  own_root : (tree : TableTree) → AllTables P tree → P (root tree)
  own_root (LeafTable node leaf) all = all
  own_root (LevelTable node level bounds kids) all = all.0

  mutual
    on_way : (row : List Value) (tree : TableTree) → AllTables P tree → All P (way_below row tree)
    on_way row (LeafTable node leaf) all = All-nil P
    on_way row (LevelTable node level bounds kids) all = on_way_among row (child_of level bounds row) kids all.1

    on_way_among : (row : List Value) (at : Option ℕ) (kids : Trees) → AllTablesOf P kids → All P (way_among row at kids)
    on_way_among row None kids all = All-nil P
    on_way_among row (Some i) End all = All-nil P
    on_way_among row (Some zero) (More k ks) all = All-cons P (root k) (way_below row k) (own_root k all.0) (on_way row k all.0)
    on_way_among row (Some (suc i)) (More k ks) all = on_way_among row (Some i) ks all.1

  pub all_on_ways : (tree : TableTree) (rows : List (List Value)) → AllTables P tree → All P (ways_below tree rows)
  all_on_ways tree [] all = All-nil P
  all_on_ways tree (r ∷ rs) all = All-append P (way_below r tree) (ways_below tree rs) (on_way r tree all) (all_on_ways tree rs all)
