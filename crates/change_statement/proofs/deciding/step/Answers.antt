use Rattle.std.proofs.Common.{ap, sym, ◌∙◌}
use Rattle.change_statement.specs.Verdicts.{by_outcome, updater_meant}
use Rattle.change_statement.proofs.Chains.{later_known}
use Rattle.change_statement.proofs.WaitedFor.{ender_open}
use Rattle.change_statement.proofs.deciding.step.Goals as goal

pub returns-in-EndedBy-clause-is : goal.returns-in-EndedBy-clause-is
returns-in-EndedBy-clause-is c h next txs st =
    let is = c.in-EndedBy.ensures.is h txs st in
    let told = c.wait_for.ensures.is h txs (ender_open h c.args.id.number c.in-EndedBy.tx.number txs.sound st.sound (sym is)) in
    told ∙ ap (by_outcome next h (updater_meant c.args.updater.now) c.args.again c.args.id) is

pub returns-in-Replaced-clause-fit : goal.returns-in-Replaced-clause-fit
returns-in-Replaced-clause-fit c = c.if_replaced.ensures.fit _ _ _ _ _ (later_known c.args.txs.now c.args.store.now c.args.updater.now.tx.number c.args.id c.in-Replaced.new c.in-Replaced.tx c.in-Replaced.ensures.known)
