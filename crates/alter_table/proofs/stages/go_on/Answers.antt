use Rattle.std.proofs.Common.{◌+◌, sym, subst, Some, Err}
use Rattle.statement_steps.specs.declared.rest.Rest.TheVariants.{Detach}
use Rattle.statement_steps.specs.declared.rest.RestOfDetach.{RestOfDetach}
use Rattle.statement_steps.specs.declared.stop.Stop.{Stop}
use Rattle.statement_steps.specs.Steps.{IsStep, stopped_on, going_on}
use Rattle.statement_steps.proofs.Steps.{on_done, stops_on}
use Rattle.alter_table.specs.Concurrent.{behind_nobody, later_stages}
use Rattle.alter_table.proofs.stages.go_on.Goals as goal

pub returns-in-Ok : goal.returns-in-Ok
returns-in-Ok c =
    on_done (λ (u : Unit {0}). u) tt (Some (Detach (behind_nobody c.args.rest))) c.args.stores.now c.run_later_stages.new.stores c.args.attempt.now.caller (c.args.attempt.now.caller.cmd + 1)
    (later_stages c.args.attempt.now.names.now c.args.attempt.now.caller c.args.rest c.args.parent.now c.args.name.now) c.in-Ok.ensures

pub returns-in-Err : goal.returns-in-Err
returns-in-Err c =
    let d = behind_nobody c.args.rest in
    let stages = later_stages c.args.attempt.now.names.now c.args.attempt.now.caller c.args.rest c.args.parent.now c.args.name.now in
    let last = c.run_later_stages.new.stores in
    subst (λ (e : Stop). IsStep (λ (u : Unit {0}). u) (Err e) c.args.stores.now last c.args.attempt.now.caller (c.args.attempt.now.caller.cmd + 1) (λ h. going_on (Some (Detach d)) (stages h))) (sym c.stopped_on.ensures)
    (subst (λ (r : RestOfDetach). IsStep (λ (u : Unit {0}). u) (Err (stopped_on c.in-Err.stop (Some (Detach r)))) c.args.stores.now last c.args.attempt.now.caller (c.args.attempt.now.caller.cmd + 1) (λ h. going_on (Some (Detach d)) (stages h))) (sym c.behind_nobody.ensures)
    (stops_on (λ (u : Unit {0}). u) c.in-Err.stop (Some (Detach d)) c.args.stores.now last c.args.attempt.now.caller (c.args.attempt.now.caller.cmd + 1) stages tt c.in-Err.ensures))
