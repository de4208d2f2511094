use Rattle.std.proofs.Common.{◌≤◌, ◌∙◌, [], All, ap, arith, length, map, subst, sym}
use Rattle.std.proofs.lemmas.List.Elements.{All-nil}
use Rattle.row_router.specs.Seen.{seen}
use Rattle.sql_ast.specs.Queries.{select_tree}
use Rattle.cond_logic.specs.Trees.{cond_tree}
use Rattle.cond_logic.specs.Asked.{select_meant}
use Rattle.plan_tree.specs.Plans.{Planned, CanRead, all_items, plan_for}
use Rattle.plan_tree.specs.Prunable.{CanPrune}
use Rattle.statement_steps.proofs.Steps.{goes, handed_on, may_go_on, moved, out_behind, stops}
use Rattle.select_statement.specs.Gathered.{gathered_bare}
use Rattle.select_statement.specs.Selected.{answered, bare, begins}
use Rattle.select_statement.proofs.Analyzed.{bare_answered, bare_step}
use Rattle.select_statement.proofs.statement.select_bare.Goals as goal

pub gather_bare-requires : goal.gather_bare-requires
gather_bare-requires c = may_go_on _ _ _ _ _ _ c.requires c.in_ok-hold_if_repeatable.ensures.step

pub returns-in_err-found : goal.returns-in_err-found
returns-in_err-found c =
    let params = c.args.params.now in
    let t = select_tree c.args.select.now in
    handed_on c.from_residual-in_err-found.ensures.1 (goes (begins c.args.attempt.now.caller) (λ u. bare params c.args.attempt.now.caller t) c.in_ok-hold_if_repeatable.ensures.step
    (bare_step params c.args.attempt.now.caller t (stops (gathered_bare params c.args.attempt.now.caller t) (bare_answered params c.args.attempt.now.caller t) c.in_err-found.ensures.step)))

pub make_plan-requires-clause-few : goal.make_plan-requires-clause-few
make_plan-requires-clause-few c = subst (λ ts. length ts ≤ 4) (sym (c.as_slice-2.ensures ∙ c.in_ok-found.ensures.trees)) (omega arith)

pub make_plan-requires-clause-prunable : goal.make_plan-requires-clause-prunable
make_plan-requires-clause-prunable c = subst (All (λ t. CanPrune (seen t))) (sym (c.as_slice-2.ensures ∙ c.in_ok-found.ensures.trees)) (All-nil (λ t. CanPrune (seen t)))

pub returns-in_err-plan : goal.returns-in_err-plan
returns-in_err-plan c =
    goes (begins c.args.attempt.now.caller) (λ u. bare c.args.params.now c.args.attempt.now.caller (select_tree c.args.select.now)) c.in_ok-hold_if_repeatable.ensures.step
    (out_behind c.from_residual-in_err-plan.ensures.1 c.in_ok-found.ensures.step)

pub answer-requires-clause-may : goal.answer-requires-clause-may
answer-requires-clause-may c = may_go_on _ _ _ _ _ _ c.requires c.in_ok-hold_if_repeatable.ensures.step

pub answer-requires-clause-reads : goal.answer-requires-clause-reads
answer-requires-clause-reads c =
    subst (λ (p : Planned). All (CanRead c.hold_if_repeatable.new.stores.rows.leaves) (all_items p))
    (sym (c.in_ok-plan.ensures ∙ ap (λ ts. plan_for c.without_from.result (map cond_tree c.as_slice.result.now) (map seen ts)) (c.as_slice-2.ensures ∙ c.in_ok-found.ensures.trees))) (All-nil (CanRead c.hold_if_repeatable.new.stores.rows.leaves))

pub returns : goal.returns
returns c =
    let params = c.args.params.now in
    let t = select_tree c.args.select.now in
    let m = select_meant c.in_ok-found.found.ask in
    let is = c.in_ok-plan.ensures ∙ ap (λ cs. plan_for c.without_from.result (map cond_tree cs) (map seen c.as_slice-2.result.now)) c.as_slice.ensures
    ∙ ap (λ ts. plan_for c.without_from.result m.conditions (map seen ts)) (c.as_slice-2.ensures ∙ c.in_ok-found.ensures.trees) in
    goes (begins c.args.attempt.now.caller) (λ u. bare params c.args.attempt.now.caller t) c.in_ok-hold_if_repeatable.ensures.step
    (bare_step params c.args.attempt.now.caller t (goes (gathered_bare params c.args.attempt.now.caller t) (bare_answered params c.args.attempt.now.caller t) c.in_ok-found.ensures.step
    (moved (answered c.args.attempt.now.caller [] m) _ _ is c.answer.ensures)))
