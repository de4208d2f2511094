use Rattle.std.proofs.Common.{◌≡◌, ◌++◌, map, take}
use Rattle.cond_logic.specs.Asked.{output_tree}
use Rattle.plan_text.specs.Keys.{further}
use Rattle.plan_text.proofs.keys.write_further.Given as goal

abbrev pub invariant-loop-key : goal.invariant-loop-key
invariant-loop-key l = l.out.items ≡ l.initial.out.items ++ further l.items (map output_tree l.outputs) (take l.key-index l.order)
