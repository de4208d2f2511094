use Rattle.std.proofs.Common.{◌≤◌, ◌∙◌, [], All, ap, arith, length, map, subst, sym}
use Rattle.std.proofs.lemmas.List.Elements.{All-nil}
use Rattle.row_router.specs.Seen.{seen}
use Rattle.sql_ast.specs.Queries.{select_tree}
use Rattle.cond_logic.specs.Trees.{cond_tree}
use Rattle.plan_tree.specs.Plans.{Planned, CanRead, all_items, plan_for}
use Rattle.plan_tree.specs.Prunable.{CanPrune}
use Rattle.statement_steps.proofs.Parts.{out_here}
use Rattle.statement_steps.proofs.Steps.{goes, handed_on, moved, stops}
use Rattle.select_statement.specs.Explained.{run_counted}
use Rattle.select_statement.specs.Gathered.{Found, found_by, gathered_bare}
use Rattle.select_statement.specs.Selected.{bare_plan}
use Rattle.select_statement.proofs.analyzing.analyze_bare.Goals as goal

pub returns-in_err-found : goal.returns-in_err-found
returns-in_err-found c =
    let t = select_tree c.args.select.now in
    handed_on c.from_residual.ensures.1 (stops (gathered_bare c.args.params.now c.args.attempt.now.caller t) (λ (g : Found). run_counted c.args.attempt.now.caller [] t g (bare_plan g.meant)) c.in_err-found.ensures.step)

pub make_plan-requires-clause-few : goal.make_plan-requires-clause-few
make_plan-requires-clause-few c = subst (λ ts. length ts ≤ 4) (sym (c.as_slice-2.ensures ∙ c.in_ok-found.ensures.trees)) (omega arith)

pub make_plan-requires-clause-prunable : goal.make_plan-requires-clause-prunable
make_plan-requires-clause-prunable c = subst (All (λ t. CanPrune (seen t))) (sym (c.as_slice-2.ensures ∙ c.in_ok-found.ensures.trees)) (All-nil (λ t. CanPrune (seen t)))

pub returns-in_err-plan : goal.returns-in_err-plan
returns-in_err-plan c = out_here c.from_residual-in_err-plan.ensures.1

pub run_counted-requires-clause-each : goal.run_counted-requires-clause-each
run_counted-requires-clause-each c = ap length c.in_ok-found.ensures.trees ∙ sym (ap length c.requires.bare)

pub run_counted-requires-clause-few : goal.run_counted-requires-clause-few
run_counted-requires-clause-few c =
    subst (λ (p : Planned). length p.items ≤ 4) (sym (c.in_ok-plan.ensures ∙ ap (λ ts. plan_for c.without_from.result (map cond_tree c.as_slice.result.now) (map seen ts)) (c.as_slice-2.ensures ∙ c.in_ok-found.ensures.trees))) (omega arith)

pub run_counted-requires-clause-reads : goal.run_counted-requires-clause-reads
run_counted-requires-clause-reads c =
    subst (λ (p : Planned). All (CanRead c.args.stores.now.rows.leaves) (all_items p))
    (sym (c.in_ok-plan.ensures ∙ ap (λ ts. plan_for c.without_from.result (map cond_tree c.as_slice.result.now) (map seen ts)) (c.as_slice-2.ensures ∙ c.in_ok-found.ensures.trees))) (All-nil (CanRead c.args.stores.now.rows.leaves))

pub returns : goal.returns
returns c =
    let t = select_tree c.args.select.now in
    let g = found_by c.in_ok-found.found in
    let is = c.in_ok-plan.ensures ∙ ap (λ cs. plan_for c.without_from.result (map cond_tree cs) (map seen c.as_slice-2.result.now)) c.as_slice.ensures
    ∙ ap (λ ts. plan_for c.without_from.result g.meant.conditions (map seen ts)) (c.as_slice-2.ensures ∙ c.in_ok-found.ensures.trees) in
    goes (gathered_bare c.args.params.now c.args.attempt.now.caller t) (λ (x : Found). run_counted c.args.attempt.now.caller [] t x (bare_plan x.meant)) c.in_ok-found.ensures.step
    (moved (run_counted c.args.attempt.now.caller [] t g) _ _ is c.run_counted.ensures)
