use Rattle.std.proofs.Common.{◌∙◌}
use Rattle.history.specs.History.{tx_events, snapshot_events}
use Rattle.tx_table.proofs.Tables.{sees_is}
use Rattle.tx_table.proofs.table.TxTable.sees.Goals as goal

pub returns-clause-is : goal.returns-clause-is
returns-clause-is c h s st past snap =
    c.sees_kept.ensures.kept ∙ sees_is c.args.self.now c.args.snap.now (tx_events h) (snapshot_events h) s c.args.tx.number c.args.cmd st past snap
