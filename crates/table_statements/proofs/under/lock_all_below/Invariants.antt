use Rattle.std.proofs.Common.{length}
use Rattle.table_statements.proofs.Locking.{IsLeft}
use Rattle.table_statements.proofs.under.lock_all_below.Given as goal

abbrev pub invariant-loop-table : goal.invariant-loop-table
invariant-loop-table l = IsLeft l.fn.stores l.stores l.fn.attempt.caller l.fn.attempt.names.now l.fn.mode l.fn.tables l.left

abbrev pub decreases-loop-table : goal.decreases-loop-table
decreases-loop-table l = length l.left
