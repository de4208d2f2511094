use Rattle.std.proofs.Common.{◌+◌, ◌-◌}
use Rattle.std.specs.Prelude.{vec_capacity}
use Rattle.row_router.specs.Seen.{seen, items_of}
use Rattle.row_router.specs.Trees.{height}
use Rattle.plan_tree.specs.Asks.{keeps_asked}
use Rattle.plan_tree.proofs.Filling.{Listing}
use Rattle.plan_tree.proofs.listing.+keep_below.Given as goal

abbrev pub decreases-keep_below : goal.decreases-keep_below
decreases-keep_below l = height (seen l.tree.now)

abbrev pub invariant-loop-k : goal.invariant-loop-k
invariant-loop-k l =
    Listing (keeps_asked l.asks l.known l.steps) (seen l.fn.tree) (items_of l.children) l.kept l.from l.leaves.items l.fn.leaves.items (vec_capacity l.leaves) (vec_capacity l.fn.leaves)

-- of 1,024 children
abbrev pub decreases-loop-k : goal.decreases-loop-k
decreases-loop-k l = 1024 - l.from
