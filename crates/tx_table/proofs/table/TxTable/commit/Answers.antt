use Rattle.history.specs.History.{tx_events, snapshot_events}
use Rattle.tx_table.proofs.Tables.{committed_stands}
use Rattle.tx_table.proofs.table.TxTable.commit.Goals as goal

pub returns-clause-added : goal.returns-clause-added
returns-clause-added c h st =
    rw c.end.ensures.kept (committed_stands c.args.self.now (tx_events h) (snapshot_events h) c.args.tx.number c.end.ensures.mine c.end.ensures.seat st)
