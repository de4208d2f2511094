use Rattle.std.proofs.Common.{length}
use Rattle.table_statements.proofs.Left.{IsLeft}
use Rattle.table_statements.proofs.drops.lock_all_to_drop.Given as goal

abbrev pub invariant-loop-name : goal.invariant-loop-name
invariant-loop-name l = IsLeft l.fn.stores l.stores l.fn.attempt.caller l.fn.attempt.names.now l.fn.if_there l.fn.tables l.left l.found.items

abbrev pub decreases-loop-name : goal.decreases-loop-name
decreases-loop-name l = length l.left
