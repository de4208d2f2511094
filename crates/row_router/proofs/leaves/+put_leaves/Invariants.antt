use Rattle.std.proofs.Common.{◌≡◌, ◌++◌, map, drop}
use Rattle.row_router.specs.Trees.{leaves, all_leaves, trees_of}
use Rattle.row_router.specs.Seen.{seen}
use Rattle.row_router.proofs.leaves.+put_leaves.Given as goal

abbrev pub invariant-loop-child : goal.invariant-loop-child
invariant-loop-child l =
    l.out.items ++ all_leaves (trees_of (map seen (drop l.child-index l.child-items))) ≡ l.fn.out.items ++ leaves (seen l.fn.tree)
