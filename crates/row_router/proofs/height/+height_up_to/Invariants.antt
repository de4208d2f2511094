use Rattle.std.proofs.Common.{◌≡◌, ◌≤◌, ◌-◌, max, min, map, drop}
use Rattle.row_router.specs.Trees.{heights, trees_of}
use Rattle.row_router.specs.Seen.{seen}
use Rattle.row_router.proofs.height.+height_up_to.Given as goal

abbrev pub invariant-loop-child : goal.invariant-loop-child
invariant-loop-child l = record {
  few : l.below ≤ l.most - 1;
  told : max l.below (min (l.most - 1) (heights (trees_of (map seen (drop l.child-index l.child-items))))) ≡ min (l.most - 1) (heights (trees_of (map seen l.child-items)));
}
