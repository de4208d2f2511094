use Rattle.sql_ast.specs.Commands.{bound_tree}
use Rattle.table_statements.specs.Seen.{seen_place}
use Rattle.table_statements.specs.Partitions as partitions
use Rattle.statement_steps.proofs.Parts.{answered_done}
use Rattle.statement_steps.proofs.Steps.{handed_on}
use Rattle.ddl_steps.proofs.Firsts.{answered_refused}
use Rattle.table_statements.proofs.partitions.place_found.Goals as goal

pub place_of-requires-clause-siblings : goal.place_of-requires-clause-siblings
place_of-requires-clause-siblings c = c.trees_are_together.ensures c.args.stores.now c.requires.may.sound.0 c.args.attempt.now.caller.session c.requires.may.sound.1

pub returns-clause-step : goal.returns-clause-step
returns-clause-step c =
    answered_done seen_place c.in_ok-place.place c.args.stores.now c.args.attempt.now.caller (λ h. partitions.partition_place h c.args.attempt.now.caller.session c.args.parent.number (bound_tree c.args.bound.now) c.args.by.now) c.requires.may
    (λ h stands. c.in_ok-place.ensures.answer h stands.all.txs stands.all.catalog)

pub returns-in_err-place-clause-step : goal.returns-in_err-place-clause-step
returns-in_err-place-clause-step c =
    handed_on c.from_residual.ensures.1 (answered_refused seen_place c.in_err-place.field-0.0 c.args.stores.now c.args.attempt.now.caller c.args.attempt.now.caller.cmd (λ h. partitions.partition_place h c.args.attempt.now.caller.session c.args.parent.number (bound_tree c.args.bound.now) c.args.by.now) c.requires.may
    (λ h stands. c.in_err-place.ensures.answer h stands.all.txs stands.all.catalog))
