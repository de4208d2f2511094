use Rattle.select_statement.proofs.Whole.{all_low, all_known}
use Rattle.select_statement.proofs.parts.lock_below.Goals as goal

pub lock_tables-requires-clause-known : goal.lock_tables-requires-clause-known
lock_tables-requires-clause-known c = all_low c.args.stores.now c.args.attempt.now.caller c.args.tables.now c.requires.locks

pub lock_tables-requires-clause-there : goal.lock_tables-requires-clause-there
lock_tables-requires-clause-there c = all_known c.args.stores.now c.args.attempt.now.caller c.args.tables.now c.requires.locks
