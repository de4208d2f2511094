use Rattle.table_statements.proofs.drops.tables_to_lock.Goals as goal
use Rattle.table_statements.proofs.ToDrop.{parent_made}

pub default_beside-default-requires-clause-known : goal.default_beside-default-requires-clause-known
default_beside-default-requires-clause-known c = parent_made c.args.txs.now c.args.catalog.now c.args.session c.args.table.number c.parent_of-parent.result c.requires.siblings c.parent_of-parent.ensures
