use Rattle.std.proofs.Common.{◌≡◌, map, drop}
use Rattle.row_router.specs.Trees.{trees_of}
use Rattle.row_router.specs.Seen.{seen}
use Rattle.row_change.specs.Ways.{way_to, way_to_one}
use Rattle.row_change.proofs.way.+push_way_to.Given as goal

-- no partition so far leads to the leaf
abbrev pub invariant-loop-child : goal.invariant-loop-child
invariant-loop-child l = record {
  same : l.out.items ≡ l.fn.out.items;
  way : way_to_one l.leaf (trees_of (map seen (drop l.child-index l.child-items))) ≡ way_to l.leaf (seen l.fn.tree);
}
