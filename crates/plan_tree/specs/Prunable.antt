-- Which trees can be pruned.
use Rattle.std.specs.Prelude.{◌≡◌, ◌≤◌, All, length}
use Rattle.bound_forms.specs.Levels.{IsOfLevel}
use Rattle.row_router.specs.Trees.{TableTree, LeafTable, LevelTable, Trees, End, More, count}

-- at each level there is a bound for each partition, each such as a check gives for the level, and of partitions there are
-- no more than a table may have
abbrev mutual
  pub CanPrune : TableTree → Type 0
  CanPrune (LeafTable node leaf) = Unit {0}
  CanPrune (LevelTable node level bounds kids) = (length bounds ≡ count kids) × (length bounds ≤ 1024) × All (IsOfLevel level) bounds × AllCanPrune kids

  pub AllCanPrune : Trees → Type 0
  AllCanPrune End = Unit {0}
  AllCanPrune (More k ks) = CanPrune k × AllCanPrune ks
