use Rattle.std.proofs.Common.{length}
use Rattle.statement_steps.specs.Gathered.{found_of}
use Rattle.change_statement.specs.Changing.{changing}
use Rattle.change_statement.specs.Housed.{IsHousing}
use Rattle.change_statement.proofs.EachRow.{IsLeft}
use Rattle.change_statement.proofs.rows.change_rows.Given as goal

abbrev pub invariant-loop-target : goal.invariant-loop-target
invariant-loop-target l = record {
  left : IsLeft l.fn.stores l.stores l.fn.attempt.caller (found_of l.fn.gathered) (changing l.fn.change l.fn.attempt.caller (found_of l.fn.gathered)) l.fn.attempt.names.now l.fn.targets l.left l.fn.changed l.changed;
  housing : IsHousing l.stores l.fn.attempt.caller.session (found_of l.fn.gathered).tree l.housing;
}

abbrev pub decreases-loop-target : goal.decreases-loop-target
decreases-loop-target l = length l.left
