use Rattle.std.proofs.Common.{◌+◌, ◌*◌, ◌-◌}
use Rattle.row_router.specs.Seen.{seen, items_of}
use Rattle.row_router.specs.Trees.{height}
use Rattle.plan_tree.specs.Asks.{keeps_alone}
use Rattle.plan_tree.proofs.Pushing.{Going}
use Rattle.plan_tree.proofs.pruning.+pruning.Given as goal

abbrev pub decreases-push_below : goal.decreases-push_below
decreases-push_below l = 2 * height (seen l.tree.now)

abbrev pub decreases-push_led : goal.decreases-push_led
decreases-push_led l = 2 * height (seen l.tree.now) + 1

abbrev pub invariant-push_below-loop-k : goal.invariant-push_below-loop-k
invariant-push_below-loop-k l =
    Going (keeps_alone l.steps) (seen l.fn.tree) (items_of l.children) l.kept l.from l.tables.items l.fn.tables.items l.leaves.items l.fn.leaves.items

-- of 1,024 children
abbrev pub decreases-push_below-loop-k : goal.decreases-push_below-loop-k
decreases-push_below-loop-k l = 1024 - l.from
