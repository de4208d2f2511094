use Rattle.std.proofs.Common.{◌≡◌, ◌++◌, drop, map}
use Rattle.plan_tree.specs.Kept.{id_of}
use Rattle.change_statement.proofs.keeping.ids_of.Given as goal

abbrev pub invariant-loop-leaf : goal.invariant-loop-leaf
invariant-loop-leaf l = l.ids.items ++ map id_of (drop l.leaf-index l.leaves) ≡ map id_of l.leaves
