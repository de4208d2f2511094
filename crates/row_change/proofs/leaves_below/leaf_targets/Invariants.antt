use Rattle.std.specs.List.{All}
use Rattle.history.specs.History.{History}
use Rattle.tx_table.specs.Stands.{TableStands}
use Rattle.row_router.specs.Seen.{seen}
use Rattle.part_catalog.specs.Stands.{CatalogueStands}
use Rattle.row_change.specs.Places.{ArePlaces}
use Rattle.row_change.specs.Targets.{IsTargetOf}
use Rattle.row_change.proofs.Targets.{HaveTargets}
use Rattle.row_change.proofs.leaves_below.leaf_targets.Given as goal

-- the leaves so far have targets, whose places are known, and these are of the tree
abbrev pub invariant-loop-leaf : goal.invariant-loop-leaf
invariant-loop-leaf l = record {
  have : HaveTargets (seen l.tree) l.targets.items l.leaves l.leaf-index;
  at : ArePlaces l.places l.targets.items;
  are : (h : History) → TableStands l.txs h → CatalogueStands l.catalog h → All (IsTargetOf h l.session (seen l.tree)) l.targets.items;
}
