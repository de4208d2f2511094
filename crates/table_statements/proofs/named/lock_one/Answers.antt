use Rattle.statement_steps.specs.Asks.{named}
use Rattle.statement_steps.proofs.Steps.{handed_on, moved}
use Rattle.table_statements.proofs.Finding.{one_found, one_stops, one_known}
use Rattle.table_statements.proofs.named.lock_one.Goals as goal

pub returns-clause-step : goal.returns-clause-step
returns-clause-step c =
    one_found c.args.attempt.now.names.now c.args.mode c.args.table.now c.in_ok-found.found c.unless_only.result c.args.stores.now c.lock_named.new.stores c.args.attempt.now.caller c.unless_only.ensures.told c.requires.may
    (moved (named c.args.attempt.now.names.now c.args.attempt.now.caller.session c.args.mode) _ _ c.as_bytes.ensures c.in_ok-found.ensures.step)

pub returns-clause-known : goal.returns-clause-known
returns-clause-known c = one_known c.lock_named.new.stores c.args.attempt.now.caller.session c.in_ok-found.found c.unless_only.result c.unless_only.ensures.same c.in_ok-found.ensures.known

pub returns-in_err-found-clause-step : goal.returns-in_err-found-clause-step
returns-in_err-found-clause-step c =
    handed_on c.from_residual.ensures.1 (one_stops c.args.attempt.now.names.now c.args.mode c.args.table.now c.in_err-found.field-0.0 c.args.stores.now c.lock_named.new.stores c.args.attempt.now.caller
    (moved (named c.args.attempt.now.names.now c.args.attempt.now.caller.session c.args.mode) _ _ c.as_bytes.ensures c.in_err-found.ensures.step))
