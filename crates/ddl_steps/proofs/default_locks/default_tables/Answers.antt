use Rattle.std.proofs.Common.{sym, ◌∙◌}
use Rattle.ddl_steps.proofs.Below.{default_made}
use Rattle.ddl_steps.proofs.default_locks.default_tables.Goals as goal

pub tables_from-requires-clause-known : goal.tables_from-requires-clause-known
tables_from-requires-clause-known c =
    default_made c.args.txs.now c.args.catalog.now c.args.session c.args.parent.number c.in-Some.table c.requires.siblings (λ h txs catalog. sym c.in-Some.is ∙ c.default_of.ensures h txs catalog)
