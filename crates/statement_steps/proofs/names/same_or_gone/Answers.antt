use Rattle.statement_steps.proofs.Parts.{same_here, gone_here}
use Rattle.statement_steps.proofs.names.same_or_gone.Goals as goal

pub returns-then-is_same-clause-step : goal.returns-then-is_same-clause-step
returns-then-is_same-clause-step c = same_here c.args.stores.now c.args.attempt.now.caller c.args.name.now c.args.table.number c.args.found.number c.requires c.if-is_same.true

pub returns-in_ok-no_table-clause-step : goal.returns-in_ok-no_table-clause-step
returns-in_ok-no_table-clause-step c =
    gone_here c.args.stores.now c.args.attempt.now.caller c.args.name.now c.args.table.number c.args.found.number c.in_ok-no_table.field-0 c.in_ok-no_table.ensures c.requires c.if-is_same.false
