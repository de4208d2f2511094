use Rattle.std.proofs.Common.{◌≡◌, drop, map}
use Rattle.cond_logic.specs.Asked.{output_tree}
use Rattle.plan_tree.specs.OrderedAppends.{begins_with}
use Rattle.plan_tree.proofs.ordered.begins_with.Given as goal

-- what is left of both is as the whole
abbrev pub invariant-loop-place : goal.invariant-loop-place
invariant-loop-place l = begins_with (map output_tree l.outputs) (drop l.place l.order) (drop l.place l.columns) ≡ begins_with (map output_tree l.outputs) l.order l.columns
