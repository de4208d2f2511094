use Rattle.std.proofs.Common.{subst, ◌∙◌, None}
use Rattle.pg_values.specs.Sets.{has}
use Rattle.pg_values.specs.declared.session_set.SessionSet.{SessionSet}
use Rattle.history.specs.declared.wait.WaitOn.TheVariants.{Ends}
use Rattle.statement_steps.specs.Asks.{waited}
use Rattle.statement_steps.specs.Steps.{IsStep}
use Rattle.alter_table.proofs.Waits.{not_itself}
use Rattle.alter_table.proofs.stages.wait_for_others.Goals as goal

pub wait_for-requires-clause-others : goal.wait_for-requires-clause-others
wait_for-requires-clause-others c = c.without.ensures.has c.args.attempt.now.caller.session ∙ not_itself c.args.attempt.now.caller.session (has c.args.rest.behind c.args.attempt.now.caller.session)

pub returns-clause-step : goal.returns-clause-step
returns-clause-step c =
    subst (λ (o : SessionSet). IsStep (λ (u : Unit {0}). u) c.wait_for.result c.args.stores.now c.wait_for.new.stores c.args.attempt.now.caller c.args.attempt.now.caller.cmd (waited c.args.attempt.now.names.now c.args.attempt.now.caller.session (Ends o) None)) c.without.ensures.is c.wait_for.ensures.step
