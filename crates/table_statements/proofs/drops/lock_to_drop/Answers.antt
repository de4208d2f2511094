use Rattle.std.proofs.Common.{◌≡◌, subst}
use Rattle.pg_values.specs.declared.ids.TableNo.{TableNo}
use Rattle.statement_steps.proofs.Steps.{handed_on}
use Rattle.table_statements.specs.Asked.{MayDropTable}
use Rattle.table_statements.proofs.Left.{none_found, not_locked, one_locked}
use Rattle.table_statements.proofs.drops.lock_to_drop.Goals as goal

pub returns-clause-step : goal.returns-clause-step
returns-clause-step c = one_locked c.args.attempt.now.names.now c.in_ok-table.table c.args.stores.now c.lock_for.new.stores c.args.attempt.now.caller c.args.name.now c.requires.may c.in_ok-table.ensures.step c.in_ok-lock_for.ensures.step

pub returns-clause-drop : goal.returns-clause-drop
returns-clause-drop c = λ t is. let same : c.in_ok-table.table ≡ t = cc in subst (λ (x : TableNo). MayDropTable c.lock_for.new.stores c.args.attempt.now.caller.session x) same c.in_ok-lock_for.ensures.drop

pub returns-in_err-lock_for-clause-step : goal.returns-in_err-lock_for-clause-step
returns-in_err-lock_for-clause-step c = handed_on c.from_residual-in_err-lock_for.ensures.1 (not_locked c.args.attempt.now.names.now c.in_ok-table.table c.in_err-lock_for.field-0.0 c.args.stores.now c.lock_for.new.stores c.args.attempt.now.caller c.args.name.now c.in_ok-table.ensures.step c.in_err-lock_for.ensures.step)

pub returns-in_err-table-clause-step : goal.returns-in_err-table-clause-step
returns-in_err-table-clause-step c = handed_on c.from_residual.ensures.1 (none_found c.args.attempt.now.names.now c.in_err-table.field-0.0 c.args.stores.now c.args.attempt.now.caller c.args.name.now c.in_err-table.ensures.step)
