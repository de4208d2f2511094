use Rattle.std.proofs.Common.{◌≡◌, ◌++◌, map, drop}
use Rattle.row_router.specs.Trees.{trees_of}
use Rattle.row_router.specs.Seen.{seen}
use Rattle.part_ddl.specs.Below.{below_top, all_tables}
use Rattle.part_ddl.proofs.below.push_below.Given as goal

abbrev pub invariant-loop-child : goal.invariant-loop-child
invariant-loop-child l =
    l.out.items ++ all_tables (trees_of (map seen (drop l.child-index l.child-items))) ≡ l.fn.out.items ++ below_top (seen l.fn.tree)
