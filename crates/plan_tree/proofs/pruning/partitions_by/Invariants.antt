use Rattle.plan_tree.specs.Asks.{keeps_alone}
use Rattle.plan_tree.proofs.OnePart.{PartingOf}
use Rattle.plan_tree.proofs.pruning.partitions_by.Given as goal

abbrev pub invariant-loop-k : goal.invariant-loop-k
invariant-loop-k l = PartingOf (keeps_alone l.steps) l.tree l.child-items l.kept l.k l.parts.items
