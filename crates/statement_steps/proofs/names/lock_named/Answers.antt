use Rattle.statement_steps.specs.Asks.{found, locked, kept_number}
use Rattle.statement_steps.proofs.Parts.{number_done, number_stops}
use Rattle.statement_steps.proofs.Steps.{goes, stops, handed_on}
use Rattle.statement_steps.proofs.names.lock_named.Goals as goal

pub returns-in_err-table-clause-step : goal.returns-in_err-table-clause-step
returns-in_err-table-clause-step c = handed_on c.from_residual.ensures.1 (stops (found c.args.attempt.now.caller.session c.args.name.now) (λ t h. kept_number t (locked c.args.attempt.now.names.now c.args.attempt.now.caller.session t c.args.mode h)) c.in_err-table.ensures.step)

pub returns-in_err-lock_table-clause-step : goal.returns-in_err-lock_table-clause-step
returns-in_err-lock_table-clause-step c =
    handed_on c.from_residual-in_err-lock_table.ensures.1 (goes (found c.args.attempt.now.caller.session c.args.name.now) (λ t h. kept_number t (locked c.args.attempt.now.names.now c.args.attempt.now.caller.session t c.args.mode h)) c.in_ok-table.ensures.step
    (number_stops c.in_ok-table.table _ _ _ c.args.attempt.now.caller c.args.attempt.now.caller.cmd _ c.in_err-lock_table.ensures.step))

pub returns-clause-step : goal.returns-clause-step
returns-clause-step c =
    goes (found c.args.attempt.now.caller.session c.args.name.now) (λ t h. kept_number t (locked c.args.attempt.now.names.now c.args.attempt.now.caller.session t c.args.mode h)) c.in_ok-table.ensures.step
    (number_done c.in_ok-table.table _ _ c.args.attempt.now.caller c.args.attempt.now.caller.cmd _ c.in_ok-lock_table.ensures.step)
