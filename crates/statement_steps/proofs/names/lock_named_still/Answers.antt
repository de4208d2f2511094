use Rattle.std.proofs.Common.{◌<◌, length, arith, subst}
use Rattle.statement_steps.specs.Asks.{found, locked, same_or_gone}
use Rattle.statement_steps.specs.Known.{IsKnownTo}
use Rattle.statement_steps.specs.Steps.{follow}
use Rattle.statement_steps.proofs.Steps.{goes, stops, handed_on}
use Rattle.statement_steps.proofs.Parts.{known_on}
use Rattle.statement_steps.proofs.names.lock_named_still.Goals as goal

pub lock_table-requires-clause-there : goal.lock_table-requires-clause-there
lock_table-requires-clause-there c = subst (IsKnownTo c.args.stores.now c.args.attempt.now.caller.session) c.in_ok-same_or_gone.ensures.same c.in_ok-found.ensures.known

pub lock_table-requires-clause-known : goal.lock_table-requires-clause-known
lock_table-requires-clause-known c =
    let there = subst (IsKnownTo c.args.stores.now c.args.attempt.now.caller.session) c.in_ok-same_or_gone.ensures.same c.in_ok-found.ensures.known in
    let made : c.args.table.number < length c.args.stores.now.catalog.tables = there.made in
    omega (arith, made, c.requires.few)

pub returns-clause-known : goal.returns-clause-known
returns-clause-known c =
    known_on c.args.stores.now c.lock_table.new.stores c.args.attempt.now.caller.session c.args.table.number c.lock_table.result c.lock_table.ensures.rest (subst (IsKnownTo c.args.stores.now c.args.attempt.now.caller.session) c.in_ok-same_or_gone.ensures.same c.in_ok-found.ensures.known)

pub returns-in_err-found-clause-step : goal.returns-in_err-found-clause-step
returns-in_err-found-clause-step c =
    let s = c.args.attempt.now.caller.session in
    let name = c.args.name.now in
    let t = c.args.table.number in
    handed_on c.from_residual.ensures.1 (stops (found s name) (λ n. follow (λ h. same_or_gone name t n) (λ u. locked c.args.attempt.now.names.now s t c.args.mode)) c.in_err-found.ensures.step)

pub returns-in_err-same_or_gone-clause-step : goal.returns-in_err-same_or_gone-clause-step
returns-in_err-same_or_gone-clause-step c =
    let s = c.args.attempt.now.caller.session in
    let name = c.args.name.now in
    let t = c.args.table.number in
    handed_on c.from_residual-in_err-same_or_gone.ensures.1 (goes (found s name) (λ n. follow (λ h. same_or_gone name t n) (λ u. locked c.args.attempt.now.names.now s t c.args.mode)) c.in_ok-found.ensures.step
    (stops (λ h. same_or_gone name t c.in_ok-found.found.number) (λ u. locked c.args.attempt.now.names.now s t c.args.mode) c.in_err-same_or_gone.ensures.step))

pub returns-clause-step : goal.returns-clause-step
returns-clause-step c =
    let s = c.args.attempt.now.caller.session in
    let name = c.args.name.now in
    let t = c.args.table.number in
    goes (found s name) (λ n. follow (λ h. same_or_gone name t n) (λ u. locked c.args.attempt.now.names.now s t c.args.mode)) c.in_ok-found.ensures.step
    (goes (λ h. same_or_gone name t c.in_ok-found.found.number) (λ u. locked c.args.attempt.now.names.now s t c.args.mode) c.in_ok-same_or_gone.ensures.step c.lock_table.ensures.step)
