use Rattle.bound_forms.specs.declared.partition_bound.Bound.{Bound}
use Rattle.sql_ast.specs.Commands.{bound_tree}
use Rattle.statement_steps.proofs.Parts.{answered_done, answered_refused}
use Rattle.statement_steps.proofs.Steps.{handed_on}
use Rattle.alter_table.specs.Places.{attach_place}
use Rattle.alter_table.proofs.attach_checks.place_found.Goals as goal

pub place_of-requires-clause-siblings : goal.place_of-requires-clause-siblings
place_of-requires-clause-siblings c = c.trees_are_together.ensures c.args.stores.now c.requires.may.sound.0 c.args.attempt.now.caller.session c.requires.may.sound.1

pub returns-clause-step : goal.returns-clause-step
returns-clause-step c =
    answered_done (λ (b : Bound). b) c.in_ok-bound.bound c.args.stores.now c.args.attempt.now.caller (λ h. attach_place h c.args.attempt.now.caller.session c.args.parent.number c.args.table.number (bound_tree c.args.bound.now)) c.requires.may (λ h stands. c.in_ok-bound.ensures.answer h stands.all.txs stands.all.catalog)

pub returns-in_err-bound-clause-step : goal.returns-in_err-bound-clause-step
returns-in_err-bound-clause-step c =
    handed_on c.from_residual.ensures.1 (answered_refused (λ (b : Bound). b) c.in_err-bound.field-0.0 c.args.stores.now c.args.attempt.now.caller c.args.attempt.now.caller.cmd (λ h. attach_place h c.args.attempt.now.caller.session c.args.parent.number c.args.table.number (bound_tree c.args.bound.now)) c.requires.may
    (λ h stands. c.in_err-bound.ensures.answer h stands.all.txs stands.all.catalog))
