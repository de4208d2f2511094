use Rattle.std.proofs.lemmas.Result.{IfOk-weaker}
use Rattle.history.specs.History.{History}
use Rattle.tx_table.specs.Stands.{SnapshotStands, TableStands}
use Rattle.stores.specs.Events.{look_of}
use Rattle.select_statement.specs.Lent.{IsLookFor}
use Rattle.select_statement.proofs.gathering.look.Goals as goal

pub returns : goal.returns
returns c =
    IfOk-weaker c.look.result (λ snap. (h : History) → TableStands c.args.stores.now.txs h → SnapshotStands snap (look_of h c.args.attempt.now.caller.session c.args.attempt.now.caller.cmd)) (λ snap. IsLookFor c.args.stores.now c.args.attempt.now.caller snap)
    (λ snap stands. record { stands = stands; past = c.look.ensures.past; read = c.look.ensures.read }) c.look.ensures.stands
