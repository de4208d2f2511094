use Rattle.std.proofs.Common.{arith}
use Rattle.history.specs.History.{lock_events}
use Rattle.lock_table.proofs.Tables.{withdrew_stands}
use Rattle.lock_table.proofs.table.LockTable.withdraw.Goals as goal

pub returns-clause-added : goal.returns-clause-added
returns-clause-added c h st = rw c.end_wait.ensures (withdrew_stands c.args.self.now (lock_events h) c.args.session c.requires st)
