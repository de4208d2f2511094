use Rattle.std.proofs.Common.{◌≡◌, ◌++◌, drop}
use Rattle.change_statement.proofs.standing.copied.Given as goal

abbrev pub invariant-loop-target : goal.invariant-loop-target
invariant-loop-target l = l.rows.items ++ drop l.target-index l.left ≡ l.left
