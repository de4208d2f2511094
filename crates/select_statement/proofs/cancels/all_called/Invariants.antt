use Rattle.std.proofs.Common.{◌≡◌, ◌++◌, drop, map}
use Rattle.cond_logic.specs.Asked.{output_tree}
use Rattle.select_statement.specs.Cancels as cancels
use Rattle.select_statement.proofs.cancels.all_called.Given as goal

abbrev pub invariant-loop-output : goal.invariant-loop-output
invariant-loop-output l =
    l.list.items ++ cancels.all_called l.sessions (map output_tree (drop l.output-index l.outputs)) ≡ cancels.all_called l.sessions (map output_tree l.outputs)
