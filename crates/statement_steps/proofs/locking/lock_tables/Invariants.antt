use Rattle.std.proofs.Common.{length}
use Rattle.statement_steps.proofs.Left.{IsLeft}
use Rattle.statement_steps.proofs.locking.lock_tables.Given as goal

abbrev pub invariant-loop-table : goal.invariant-loop-table
invariant-loop-table l = IsLeft l.fn.stores l.stores l.fn.attempt.caller l.fn.attempt.names.now l.fn.mode l.fn.tables l.left

abbrev pub decreases-loop-table : goal.decreases-loop-table
decreases-loop-table l = length l.left
