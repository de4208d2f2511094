use Rattle.sql_written.proofs.WriteQueries.{tables_step}
use Rattle.sql_written.proofs.query_parts.write_more_tables.Goals as goal

pub loop-item-preserved : goal.loop-item-preserved
loop-item-preserved c =
    tables_step c.args.items.now c.loop-item.item-index c.item-item.result _ _ _ c.loop-item-test.true c.item-item.is c.in_ok-write_joined.ensures c.loop-item.invariant
