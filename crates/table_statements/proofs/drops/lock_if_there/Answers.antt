use Rattle.table_statements.proofs.Left.{passed_over, as_wanted}
use Rattle.table_statements.proofs.drops.lock_if_there.Goals as goal

pub returns-then-is_passed_over-clause-step : goal.returns-then-is_passed_over-clause-step
returns-then-is_passed_over-clause-step c = passed_over c.args.attempt.now.names.now c.args.stores.now c.args.attempt.now.caller c.args.if_there c.args.name.now c.is_passed_over.result c.requires.may c.is_passed_over.ensures c.if-is_passed_over.true

pub returns-clause-step : goal.returns-clause-step
returns-clause-step c = as_wanted c.args.attempt.now.names.now c.lock_to_drop.result c.args.stores.now c.lock_to_drop.new.stores c.args.attempt.now.caller c.args.if_there c.args.name.now c.is_passed_over.result c.is_passed_over.ensures c.if-is_passed_over.false c.lock_to_drop.ensures.step
