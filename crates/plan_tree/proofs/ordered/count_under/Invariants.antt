use Rattle.std.proofs.Common.{◌≡◌, ◌+◌, drop}
use Rattle.row_router.specs.Seen.{seen}
use Rattle.plan_tree.specs.OrderedAppends.{first_under}
use Rattle.plan_tree.proofs.ordered.count_under.Given as goal

abbrev pub invariant-loop-leaf : goal.invariant-loop-leaf
invariant-loop-leaf l = record {
  all : l.count ≡ l.leaf-index;
  told : l.count + first_under (seen l.tree) (drop l.leaf-index l.leaves) ≡ first_under (seen l.tree) l.leaves;
}
