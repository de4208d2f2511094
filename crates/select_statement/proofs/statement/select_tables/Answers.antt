use Rattle.std.proofs.Common.{◌≤◌, ◌∙◌, length, subst, sym, Ok}
use Rattle.sql_ast.specs.Queries.{select_tree}
use Rattle.plan_tree.specs.Plans.{planned}
use Rattle.stores.specs.declared.stores.Stores.{Stores}
use Rattle.statement_steps.specs.Steps.{IsStep, follow}
use Rattle.statement_steps.proofs.Steps.{goes, handed_on, may_go_on, moved, out_behind, stops}
use Rattle.select_statement.specs.Gathered.{Found, found_by, gathered, planned_under}
use Rattle.select_statement.specs.Selected.{answered, begins, of_named, values_by}
use Rattle.select_statement.proofs.Known.{look_stays}
use Rattle.select_statement.proofs.Straight.{runs_step}
use Rattle.select_statement.proofs.statement.select_tables.Goals as goal

pub gather-requires-clause-may : goal.gather-requires-clause-may
gather-requires-clause-may c = may_go_on _ _ _ _ _ _ c.requires.may c.in_ok-hold_if_repeatable.ensures.step

pub gather-requires-clause-few : goal.gather-requires-clause-few
gather-requires-clause-few c = subst (λ (s : Stores). length s.catalog.tables ≤ 4096) (sym c.hold_if_repeatable.ensures.rest) c.requires.few

pub returns-in_err-found : goal.returns-in_err-found
returns-in_err-found c =
    let names = c.args.attempt.now.names.now in
    let t = select_tree c.args.select.now in
    let args = values_by c.args.how c.args.params.now in
    handed_on c.from_residual-in_err-found.ensures.1 (goes (begins c.args.attempt.now.caller) (λ u. of_named c.args.how names c.args.params.now c.args.attempt.now.caller t) c.in_ok-hold_if_repeatable.ensures.step
    (runs_step c.args.how names c.args.params.now c.args.attempt.now.caller t
    (stops (gathered c.args.how names c.args.params.now c.args.attempt.now.caller t) (λ (g : Found). follow (planned_under c.args.how names c.args.attempt.now.caller args g) (λ p. answered c.args.attempt.now.caller args g.meant p)) c.in_err-found.ensures.step)))

pub returns-in_err-args : goal.returns-in_err-args
returns-in_err-args c =
    goes (begins c.args.attempt.now.caller) (λ u. of_named c.args.how c.args.attempt.now.names.now c.args.params.now c.args.attempt.now.caller (select_tree c.args.select.now)) c.in_ok-hold_if_repeatable.ensures.step
    (out_behind c.from_residual-in_err-args.ensures.1 c.in_ok-found.ensures.step)

pub plan_under-requires-clause-may : goal.plan_under-requires-clause-may
plan_under-requires-clause-may c = may_go_on _ _ _ _ _ _ (may_go_on _ _ _ _ _ _ c.requires.may c.in_ok-hold_if_repeatable.ensures.step) c.in_ok-found.ensures.step

pub returns-in_err-plan : goal.returns-in_err-plan
returns-in_err-plan c =
    let names = c.args.attempt.now.names.now in
    let t = select_tree c.args.select.now in
    let g = found_by c.in_ok-found.found in
    let args = values_by c.args.how c.args.params.now in
    let same = c.deref.ensures.value ∙ c.in_ok-args.ensures in
    handed_on c.from_residual-in_err-plan.ensures.1 (goes (begins c.args.attempt.now.caller) (λ u. of_named c.args.how names c.args.params.now c.args.attempt.now.caller t) c.in_ok-hold_if_repeatable.ensures.step
    (runs_step c.args.how names c.args.params.now c.args.attempt.now.caller t
    (goes (gathered c.args.how names c.args.params.now c.args.attempt.now.caller t) (λ (x : Found). follow (planned_under c.args.how names c.args.attempt.now.caller args x) (λ p. answered c.args.attempt.now.caller args x.meant p)) c.in_ok-found.ensures.step
    (stops (planned_under c.args.how names c.args.attempt.now.caller args g) (λ p. answered c.args.attempt.now.caller args g.meant p) (moved (λ vs. planned_under c.args.how names c.args.attempt.now.caller vs g) _ _ same c.in_err-plan.ensures.step)))))

pub answer-requires-clause-may : goal.answer-requires-clause-may
answer-requires-clause-may c =
    may_go_on _ _ _ _ _ _ (may_go_on _ _ _ _ _ _ (may_go_on _ _ _ _ _ _ c.requires.may c.in_ok-hold_if_repeatable.ensures.step) c.in_ok-found.ensures.step) c.in_ok-plan.ensures.step

pub answer-requires-clause-look : goal.answer-requires-clause-look
answer-requires-clause-look c = look_stays _ c.plan_under.new.stores c.args.attempt.now.caller c.in_ok-found.found.snap c.plan_under.ensures.rest c.in_ok-found.ensures.look

pub returns : goal.returns
returns c =
    let names = c.args.attempt.now.names.now in
    let t = select_tree c.args.select.now in
    let g = found_by c.in_ok-found.found in
    let args = values_by c.args.how c.args.params.now in
    let same = c.deref.ensures.value ∙ c.in_ok-args.ensures in
    let step = subst (λ vs. IsStep planned (Ok c.in_ok-plan.plan) c.gather.new.stores c.plan_under.new.stores c.args.attempt.now.caller c.args.attempt.now.caller.cmd (planned_under c.args.how names c.args.attempt.now.caller vs g)) same c.in_ok-plan.ensures.step in
    goes (begins c.args.attempt.now.caller) (λ u. of_named c.args.how names c.args.params.now c.args.attempt.now.caller t) c.in_ok-hold_if_repeatable.ensures.step
    (runs_step c.args.how names c.args.params.now c.args.attempt.now.caller t
    (goes (gathered c.args.how names c.args.params.now c.args.attempt.now.caller t) (λ (x : Found). follow (planned_under c.args.how names c.args.attempt.now.caller args x) (λ p. answered c.args.attempt.now.caller args x.meant p)) c.in_ok-found.ensures.step
    (goes (planned_under c.args.how names c.args.attempt.now.caller args g) (λ p. answered c.args.attempt.now.caller args g.meant p) step
    (moved (λ vs. answered c.args.attempt.now.caller vs g.meant (planned c.in_ok-plan.plan)) _ _ (c.deref-2.ensures.value ∙ c.in_ok-args.ensures) c.answer.ensures))))
