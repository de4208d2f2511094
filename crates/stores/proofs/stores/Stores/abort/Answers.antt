use Rattle.std.proofs.Common.{◌≤◌, length, subst, sym}
use Rattle.history.specs.declared.transaction.Fate.TheVariants.{Aborted}
use Rattle.history.specs.Transactions.{TxAborted}
use Rattle.stores.specs.Events.{tx_in}
use Rattle.stores.specs.declared.stores.Stores.{Stores}
use Rattle.stores.proofs.Events.{aborted_good}
use Rattle.stores.proofs.Calls.{ended_stand, ended_current}
use Rattle.stores.proofs.stores.Stores.abort.Goals as goal

pub returns-clause-added : goal.returns-clause-added
returns-clause-added c = ended_stand TxAborted c.args.self.now c.end_looks-tx.new.self c.abort.new.self c.release_all.new.self c.args.session c.end_looks-tx.result.number c.end_looks-tx.ensures.open c.end_looks-tx.ensures.added c.abort.ensures.added c.release_all.ensures.added

pub returns-clause-good : goal.returns-clause-good
returns-clause-good c h st =
    let all = ended_stand TxAborted c.args.self.now c.end_looks-tx.new.self c.abort.new.self c.release_all.new.self c.args.session c.end_looks-tx.result.number c.end_looks-tx.ensures.open c.end_looks-tx.ensures.added c.abort.ensures.added c.release_all.ensures.added h st.all in
    record { all = all; good = aborted_good c.args.session (tx_in h c.args.session) h all.txs.sound st.good; leaves = subst (λ (x : Stores). x.rows.leaves ≤ length x.catalog.tables) (sym c.end_looks-tx.ensures.rest) st.leaves }

pub returns-clause-open : goal.returns-clause-open
returns-clause-open c h st = ended_current c.args.self.now.txs c.end_looks-tx.new.self.txs c.abort.new.self c.args.session c.end_looks-tx.result.number Aborted c.end_looks-tx.ensures.open c.end_looks-tx.ensures.txs c.abort.ensures.kept h st.txs
