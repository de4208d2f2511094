use Rattle.std.proofs.Common.{◌∙◌, sym, ap, Option, None}
use Rattle.pg_values.specs.declared.session_set.SessionSet.{SessionSet}
use Rattle.history.specs.History.{History}
use Rattle.history.specs.declared.wait.WaitOn.TheVariants.{Snapshots}
use Rattle.history.specs.declared.transaction.TxId.{TxId}
use Rattle.ddl_steps.specs.Sessions.{those}
use Rattle.ddl_steps.proofs.Sets.{are_those}
use Rattle.statement_steps.specs.Asks.{waited}
use Rattle.statement_steps.proofs.Steps.{same_step}
use Rattle.alter_table.specs.Finalized.{unseeing, mark_seen}
use Rattle.alter_table.proofs.Waits.{sees_itself}
use Rattle.alter_table.proofs.finalizing.wait_for_snapshots.Goals as goal

pub wait_for-requires-clause-others : goal.wait_for-requires-clause-others
wait_for-requires-clause-others c =
    let h = c.requires.may.sound.0 in
    let stands = c.requires.may.sound.1 in
    c.unseeing-others.ensures h stands.all.txs c.args.attempt.now.caller.session ∙ sees_itself h c.args.attempt.now.caller.session c.mark_of-by.result

pub returns-clause-step : goal.returns-clause-step
returns-clause-step c =
    let s = c.args.attempt.now.caller.session in
    let set = c.unseeing-others.result in
    same_step (λ (u : Unit {0}). u) c.wait_for.result c.args.stores.now c.wait_for.new.stores c.args.attempt.now.caller c.args.attempt.now.caller.cmd (mark_seen c.args.attempt.now.names.now s c.args.parent.number) (waited c.args.attempt.now.names.now s (Snapshots set) None)
    (λ (h : History) stands.
    ap (λ (o : Option TxId). waited c.args.attempt.now.names.now s (Snapshots (those (unseeing h s o))) None h) (sym (c.mark_of-by.ensures h stands.all.txs stands.all.catalog))
    ∙ ap (λ (o : SessionSet). waited c.args.attempt.now.names.now s (Snapshots o) None h) (are_those set (unseeing h s c.mark_of-by.result) (c.unseeing-others.ensures h stands.all.txs) c.sessions_are_low.ensures)) c.wait_for.ensures.step
