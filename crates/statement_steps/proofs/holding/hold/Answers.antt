use Rattle.std.proofs.Common.{ap}
use Rattle.stores.specs.Events.{held}
use Rattle.statement_steps.specs.Made.{made}
use Rattle.statement_steps.proofs.Parts.{held_step, locks_same, no_memory}
use Rattle.statement_steps.proofs.Steps.{handed_on}
use Rattle.statement_steps.proofs.holding.hold.Goals as goal

pub returns-in_err-hold-clause-step : goal.returns-in_err-hold-clause-step
returns-in_err-hold-clause-step c =
    handed_on c.from_residual.ensures.1 (no_memory (λ (u : Unit {0}). u) c.args.stores.now c.hold.new.self c.args.attempt.now.caller c.args.attempt.now.caller.cmd (λ h. made (held h c.args.attempt.now.caller.session c.args.attempt.now.caller.cmd) tt)
    (locks_same c.args.stores.now c.hold.new.self c.args.attempt.now.caller.session c.hold.ensures.open (ap (λ s. s.locks) c.hold.ensures.rest)))

pub returns-clause-step : goal.returns-clause-step
returns-clause-step c = held_step c.args.stores.now c.hold.new.self c.args.attempt.now.caller c.requires c.in_ok-hold.ensures.good c.hold.ensures.open (ap (λ s. s.locks) c.hold.ensures.rest)
