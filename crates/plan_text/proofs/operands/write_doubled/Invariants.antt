use Rattle.std.proofs.Common.{◌≡◌, ◌++◌, take}
use Rattle.plan_text.specs.Conditions.{doubled}
use Rattle.plan_text.proofs.operands.write_doubled.Given as goal

abbrev pub invariant-loop-b : goal.invariant-loop-b
invariant-loop-b l = l.out.items ≡ l.initial.out.items ++ doubled (take l.b-index l.text)
