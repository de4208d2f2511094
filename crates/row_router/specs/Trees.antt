-- A table with what stands below it, and the way of a row (the manual, 5.11.2 Declarative Partitioning).
use Rattle.std.specs.Prelude.{◌≡◌, ℕ, ◌+◌, ◌<◌, zero, suc, max, Bool, if◌then◌else◌, List, [], ◌∷◌, ◌++◌, Option, Some, None, Result, Ok, Err, All, length, map, position}
use Rattle.std.specs.List.{AllZip}
use Rattle.pg_values.specs.declared.value.Value.{Value}
use Rattle.pg_values.specs.declared.ids.LeafId.{LeafId}
use Rattle.pg_values.specs.declared.ids.TableNo.{TableNo}
use Rattle.bound_forms.specs.declared.partition_bound.Bound.{Bound}
use Rattle.bound_forms.specs.declared.level.Level.{Level}
use Rattle.bound_forms.specs.Points.{picked}
use Rattle.bound_forms.specs.Bounds.{IsInPlainOrder}
use Rattle.bound_forms.specs.Levels.{IsOf, IsOfLevel}
use Rattle.bound_forms.specs.Accepts.{accepts_among, FitsSet}
use Rattle.history.specs.declared.catalogue.Column.{Column}
use Rattle.history.specs.Places.{LiesIn}
use Rattle.row_router.specs.declared.node.Node.{Node}
use Rattle.row_router.specs.declared.tree.NoPartition.{NoPartition}

mutual
  pub data TableTree : Type 0 where
    LeafTable : Node → LeafId → TableTree
    LevelTable : Node → Level → List Bound → Trees → TableTree

  -- the trees of the partitions, in plain order
  pub data Trees : Type 0 where
    End : Trees
    More : TableTree → Trees → Trees

abbrev pub trees_of : List TableTree → Trees
trees_of [] = End
trees_of (k ∷ ks) = More k (trees_of ks)

abbrev pub count : Trees → ℕ
count End = 0
count (More k ks) = count ks + 1

-- how many tables stand on the longest path down
abbrev mutual
  pub height : TableTree → ℕ
  height (LeafTable node leaf) = 1
  height (LevelTable node level bounds kids) = heights kids + 1

  pub heights : Trees → ℕ
  heights End = 0
  heights (More k ks) = max (height k) (heights ks)

-- the leaves in plain order: a partition's leaves stand in its place
abbrev mutual
  pub leaves : TableTree → List LeafId
  leaves (LeafTable node leaf) = leaf ∷ []
  leaves (LevelTable node level bounds kids) = all_leaves kids

  pub all_leaves : Trees → List LeafId
  all_leaves End = []
  all_leaves (More k ks) = leaves k ++ all_leaves ks

-- the key of a row at a level
abbrev pub key_of : Level → List Value → List Value
key_of level row = picked row (map (λ c. c.position) level.columns)

-- the leaves that accept a row: each partition on the path accepts its key
abbrev mutual
  pub accepting : List Value → TableTree → List LeafId
  accepting row (LeafTable node leaf) = leaf ∷ []
  accepting row (LevelTable node level bounds kids) = accepting_in row (accepts_among bounds (key_of level row)) bounds kids

  pub accepting_in : List Value → (Bound → Bool) → List Bound → Trees → List LeafId
  accepting_in row test bs End = []
  accepting_in row test [] (More k ks) = []
  accepting_in row test (b ∷ bs) (More k ks) = (if test b then accepting row k else []) ++ accepting_in row test bs ks

-- the place of the partition of a level that accepts a row
abbrev pub child_of : Level → List Bound → List Value → Option ℕ
child_of level bounds row = position (accepts_among bounds (key_of level row)) bounds

-- the way of a row: at each level to the partition that accepts it
abbrev mutual
  pub routed : List Value → TableTree → Result LeafId NoPartition
  routed row (LeafTable node leaf) = Ok leaf
  routed row (LevelTable node level bounds kids) = routed_in row node.table (child_of level bounds row) kids

  pub routed_in : List Value → TableNo → Option ℕ → Trees → Result LeafId NoPartition
  routed_in row table None kids = Err (record { table = table })
  routed_in row table (Some i) End = Err (record { table = table })
  routed_in row table (Some zero) (More k ks) = routed row k
  routed_in row table (Some (suc i)) (More k ks) = routed_in row table (Some i) ks

-- a leaf that was found, as a list
abbrev pub found_leaf : Result LeafId NoPartition → List LeafId
found_leaf (Ok leaf) = leaf ∷ []
found_leaf (Err e) = []

-- ---- which rows may be asked of a tree

-- at each level there is a bound for each partition, the key columns lie in the row, and its key can be asked of the
-- bounds
abbrev mutual
  pub Fits : List Value → TableTree → Type 0
  Fits row (LeafTable node leaf) = Unit {0}
  Fits row (LevelTable node level bounds kids) = (length bounds ≡ count kids) × All (λ c. c.position < length row) level.columns × FitsSet bounds (key_of level row) × AllFit row kids

  pub AllFit : List Value → Trees → Type 0
  AllFit row End = Unit {0}
  AllFit row (More k ks) = Fits row k × AllFit row ks

-- ---- what a tree is like

-- at each level there is a bound for each partition, each such as a check gives for the level; the bounds stand in plain
-- order and do not overlap, and moduli suit; the key columns lie among the given columns
abbrev mutual
  pub IsSound : List Column → TableTree → Type 0
  IsSound columns (LeafTable node leaf) = Unit {0}
  IsSound columns (LevelTable node level bounds kids) = (length bounds ≡ count kids) × All (IsOfLevel level) bounds × IsInPlainOrder bounds × All (LiesIn columns) level.columns × AreSound columns kids

  pub AreSound : List Column → Trees → Type 0
  AreSound columns End = Unit {0}
  AreSound columns (More k ks) = IsSound columns k × AreSound columns ks

-- a row of the columns: a value for each, null or of its kind
abbrev pub IsRowOf : List Column → List Value → Type 0
IsRowOf columns row = AllZip (λ c v. IsOf c.kind v) columns row
