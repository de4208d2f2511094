use Rattle.std.proofs.Common.{length}
use Rattle.table_statements.proofs.Left.{IsGoneSoFar}
use Rattle.table_statements.proofs.drops.drop_all.Given as goal

abbrev pub invariant-loop-table : goal.invariant-loop-table
invariant-loop-table l = IsGoneSoFar l.fn.stores l.stores l.fn.attempt.caller l.by l.fn.tables l.left

abbrev pub decreases-loop-table : goal.decreases-loop-table
decreases-loop-table l = length l.left
