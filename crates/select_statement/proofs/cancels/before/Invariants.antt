use Rattle.std.proofs.Common.{◌≡◌, ◌++◌, drop}
use Rattle.history.specs.Waits as waits
use Rattle.select_statement.proofs.cancels.before.Given as goal

abbrev pub invariant-loop-other : goal.invariant-loop-other
invariant-loop-other l = l.list.items ++ waits.before l.session (drop l.other-index l.asked) ≡ waits.before l.session l.asked
