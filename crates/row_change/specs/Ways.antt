-- The tables on the way of a row (the manual, 5.11.2 Declarative Partitioning; 13.3.1 Table-Level Locks).
use Rattle.std.specs.Prelude.{ℕ, zero, suc, ◌==◌, if◌then◌else◌, List, [], ◌∷◌, Option, Some, None}
use Rattle.std.specs.List.{flat_map}
use Rattle.pg_values.specs.declared.value.Value.{Value}
use Rattle.pg_values.specs.declared.ids.LeafId.{LeafId}
use Rattle.pg_values.specs.declared.ids.TableNo.{TableNo}
use Rattle.row_router.specs.Trees.{TableTree, LeafTable, LevelTable, Trees, End, More, child_of}

-- the table by itself
abbrev pub root : TableTree → TableNo
root (LeafTable node leaf) = node.table
root (LevelTable node level bounds kids) = node.table

-- ---- by a row

-- the tables below the tree's own that a row comes to, each before those below it: the last is that of its leaf, or
-- the one at which it is lost
abbrev mutual
  pub way_below : List Value → TableTree → List TableNo
  way_below row (LeafTable node leaf) = []
  way_below row (LevelTable node level bounds kids) = way_among row (child_of level bounds row) kids

  pub way_among : List Value → Option ℕ → Trees → List TableNo
  way_among row None kids = []
  way_among row (Some i) End = []
  way_among row (Some zero) (More k ks) = root k ∷ way_below row k
  way_among row (Some (suc i)) (More k ks) = way_among row (Some i) ks

-- those of all rows, in the order of the rows
abbrev pub ways_below : TableTree → List (List Value) → List TableNo
ways_below tree rows = flat_map (λ row. way_below row tree) rows

-- ---- by a leaf

abbrev pub first_way : TableNo → Option (List TableNo) → Option (List TableNo) → Option (List TableNo)
first_way table (Some tables) others = Some (table ∷ tables)
first_way table None others = others

-- the tables below the tree's own on the way to a leaf, each before those below it; none where no table of the tree
-- has the leaf
abbrev mutual
  pub way_to : LeafId → TableTree → Option (List TableNo)
  way_to leaf (LeafTable node own) = if own.number == leaf.number then Some [] else None
  way_to leaf (LevelTable node level bounds kids) = way_to_one leaf kids

  pub way_to_one : LeafId → Trees → Option (List TableNo)
  way_to_one leaf End = None
  way_to_one leaf (More k ks) = first_way (root k) (way_to leaf k) (way_to_one leaf ks)

-- ---- of all tables

-- so it is of each table of a tree
abbrev mutual
  pub AllTables : (TableNo → Type 0) → TableTree → Type 0
  AllTables P (LeafTable node leaf) = P node.table
  AllTables P (LevelTable node level bounds kids) = P node.table × AllTablesOf P kids

  pub AllTablesOf : (TableNo → Type 0) → Trees → Type 0
  AllTablesOf P End = Unit {0}
  AllTablesOf P (More k ks) = AllTables P k × AllTablesOf P ks
