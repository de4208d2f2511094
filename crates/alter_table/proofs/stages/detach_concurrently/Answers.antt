use Rattle.std.proofs.Common.{◌+◌, Ok, Err, Some, None, refl, sym, subst, Option, Result}
use Rattle.statement_steps.specs.declared.ending.Ending.{Ending}
use Rattle.statement_steps.specs.declared.ending.Ending.TheVariants as endings
use Rattle.statement_steps.specs.declared.rest.RestOfDetach.{RestOfDetach}
use Rattle.statement_steps.specs.declared.stop.Stop.{Stop}
use Rattle.statement_steps.specs.Steps.{IsStep}
use Rattle.statement_steps.proofs.Steps.{gives_ok, gives_stop, handed_on}
use Rattle.alter_table.specs.Concurrent.{by_rest, first_stage}
use Rattle.alter_table.proofs.LaterStages.{later_ends}
use Rattle.alter_table.proofs.stages.detach_concurrently.Goals as goal

pub returns-in-Some : goal.returns-in-Some
returns-in-Some c =
    let n = c.args.attempt.now.caller.cmd + 1 in
    let old = c.args.stores.now in
    let last = c.go_on.new.stores in
    subst (λ (o : Option RestOfDetach). IsStep (λ (e : Ending). e) c.ended.result old last c.args.attempt.now.caller n (by_rest c.args.attempt.now.names.now c.args.attempt.now.caller o c.args.parent.now c.args.name.now)) c.in-Some.ensures
    (subst (λ (r : Result Ending Stop). IsStep (λ (e : Ending). e) r old last c.args.attempt.now.caller n (by_rest c.args.attempt.now.names.now c.args.attempt.now.caller (Some c.in-Some.rest) c.args.parent.now c.args.name.now)) (sym c.ended.ensures)
    (later_ends c.go_on.result c.in-Some.rest old last c.args.attempt.now.caller c.args.attempt.now.names.now c.args.parent.now c.args.name.now c.go_on.ensures))

pub returns-in_ok-marked-in-None : goal.returns-in_ok-marked-in-None
returns-in_ok-marked-in-None c =
    let n = c.args.attempt.now.caller.cmd + 1 in
    let old = c.args.stores.now in
    let last = c.run_first_stage.new.stores in
    subst (λ (o : Option RestOfDetach). IsStep (λ (e : Ending). e) (Ok (endings.Commits c.in_ok-marked-in-None.marked)) old last c.args.attempt.now.caller n (by_rest c.args.attempt.now.names.now c.args.attempt.now.caller o c.args.parent.now c.args.name.now)) c.in-None.ensures
    (gives_ok (λ (d : RestOfDetach). d) (λ (e : Ending). e) endings.Commits c.in_ok-marked-in-None.marked (endings.Commits c.in_ok-marked-in-None.marked) old last c.args.attempt.now.caller n (first_stage c.args.attempt.now.names.now c.args.attempt.now.caller c.args.parent.now c.args.name.now) refl c.in_ok-marked-in-None.ensures)

pub returns-in_err-marked-in-None : goal.returns-in_err-marked-in-None
returns-in_err-marked-in-None c =
    let n = c.args.attempt.now.caller.cmd + 1 in
    let old = c.args.stores.now in
    let last = c.run_first_stage.new.stores in
    handed_on c.from_residual.ensures.1 (subst (λ (o : Option RestOfDetach). IsStep (λ (e : Ending). e) (Err c.in_err-marked-in-None.field-0.0) old last c.args.attempt.now.caller n (by_rest c.args.attempt.now.names.now c.args.attempt.now.caller o c.args.parent.now c.args.name.now)) c.in-None.ensures
    (gives_stop (λ (d : RestOfDetach). d) (λ (e : Ending). e) endings.Commits c.in_err-marked-in-None.field-0.0 old last c.args.attempt.now.caller n (first_stage c.args.attempt.now.names.now c.args.attempt.now.caller c.args.parent.now c.args.name.now) c.in_err-marked-in-None.ensures))
