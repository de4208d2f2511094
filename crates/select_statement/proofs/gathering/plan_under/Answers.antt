use Rattle.std.proofs.Common.{◌∙◌, ◌≤◌, [], All, ap, length, map, subst, sym, Ok}
use Rattle.row_router.specs.Seen.{seen}
use Rattle.cond_logic.specs.Trees.{cond_tree}
use Rattle.cond_logic.specs.Asked.{select_meant}
use Rattle.plan_tree.specs.Plans.{all_items, plan_for, planned, plan_tables, started_by}
use Rattle.statement_steps.specs.Made.{made}
use Rattle.statement_steps.specs.Steps.{IsStep}
use Rattle.statement_steps.proofs.Parts.{nothing_done, out_here}
use Rattle.statement_steps.proofs.Steps.{goes, handed_on, may_go_on, moved, stops}
use Rattle.select_statement.specs.Gathered.{found_by, plan_of}
use Rattle.select_statement.specs.Lent.{IsTreeFor, MayLock}
use Rattle.select_statement.specs.Selected.{locked_below}
use Rattle.select_statement.proofs.Whole.{as_planned, can_prune_all, plan_locked, plan_prunable, plan_read, reads_stay}
use Rattle.select_statement.proofs.gathering.plan_under.Goals as goal

pub make_plan-requires-clause-few : goal.make_plan-requires-clause-few
make_plan-requires-clause-few c = subst (λ ts. length ts ≤ 4) (sym c.as_slice.ensures) c.requires.few

pub make_plan-requires-clause-prunable : goal.make_plan-requires-clause-prunable
make_plan-requires-clause-prunable c =
    can_prune_all c.args.stores.now c.args.attempt.now.caller seen c.as_slice.result.now (subst (All (λ t. IsTreeFor c.args.stores.now c.args.attempt.now.caller (seen t))) (sym c.as_slice.ensures) c.requires.trees)

pub lock_below-requires-clause-locks : goal.lock_below-requires-clause-locks
lock_below-requires-clause-locks c =
    subst (All (MayLock c.args.stores.now c.args.attempt.now.caller)) (sym (c.deref.ensures.value ∙ c.in_ok-tables.ensures))
    (plan_locked c.args.stores.now c.args.attempt.now.caller (select_meant c.args.found.now.ask).conditions seen c.args.found.now.trees c.requires.trees c.args.how _
    (c.in_ok-plan.ensures ∙ ap (λ cs. plan_for c.args.how (map cond_tree cs) (map seen c.as_slice.result.now)) c.as_slice-conditions.ensures
    ∙ ap (λ ts. plan_for c.args.how (select_meant c.args.found.now.ask).conditions (map seen ts)) c.as_slice.ensures))

pub returns-in_err-lock_below-clause-step : goal.returns-in_err-lock_below-clause-step
returns-in_err-lock_below-clause-step c =
    let is = (c.in_ok-plan.ensures ∙ ap (λ cs. plan_for c.args.how (map cond_tree cs) (map seen c.as_slice.result.now)) c.as_slice-conditions.ensures
    ∙ ap (λ ts. plan_for c.args.how (select_meant c.args.found.now.ask).conditions (map seen ts)) c.as_slice.ensures) in
    let same = c.deref.ensures.value ∙ c.in_ok-tables.ensures ∙ ap plan_tables is in
    let made_to = plan_of c.args.how (found_by c.args.found.now) in
    handed_on c.from_residual-in_err-lock_below.ensures.1
    (stops (locked_below c.args.attempt.now.names.now c.args.attempt.now.caller (plan_tables made_to)) (λ u h. made [] (started_by c.args.how c.args.args.now made_to)) (moved (locked_below c.args.attempt.now.names.now c.args.attempt.now.caller) _ _ same c.in_err-lock_below.ensures.step))

pub start_by-started-requires : goal.start_by-started-requires
start_by-started-requires c =
    plan_prunable c.args.stores.now c.args.attempt.now.caller (select_meant c.args.found.now.ask).conditions seen c.args.found.now.trees c.requires.trees c.args.how _
    (c.in_ok-plan.ensures ∙ ap (λ cs. plan_for c.args.how (map cond_tree cs) (map seen c.as_slice.result.now)) c.as_slice-conditions.ensures
    ∙ ap (λ ts. plan_for c.args.how (select_meant c.args.found.now.ask).conditions (map seen ts)) c.as_slice.ensures)

pub returns-clause-step : goal.returns-clause-step
returns-clause-step c =
    let is = (c.in_ok-plan.ensures ∙ ap (λ cs. plan_for c.args.how (map cond_tree cs) (map seen c.as_slice.result.now)) c.as_slice-conditions.ensures
    ∙ ap (λ ts. plan_for c.args.how (select_meant c.args.found.now.ask).conditions (map seen ts)) c.as_slice.ensures) in
    let same = c.deref.ensures.value ∙ c.in_ok-tables.ensures ∙ ap plan_tables is in
    let made_to = plan_of c.args.how (found_by c.args.found.now) in
    let begun = started_by c.args.how c.args.args.now made_to in
    let locks = subst (λ ts. IsStep (λ (u : Unit {0}). u) (Ok tt) c.args.stores.now c.lock_below.new.stores c.args.attempt.now.caller c.args.attempt.now.caller.cmd (locked_below c.args.attempt.now.names.now c.args.attempt.now.caller ts)) same c.in_ok-lock_below.ensures.step in
    goes (locked_below c.args.attempt.now.names.now c.args.attempt.now.caller (plan_tables made_to)) (λ u h. made [] begun) locks
    (nothing_done planned _ _ c.args.attempt.now.caller (λ h. made [] begun) (may_go_on _ _ _ _ _ _ c.requires.may locks) (λ h stands. ap (made []) (sym (c.start_by-started.ensures ∙ ap (started_by c.args.how c.args.args.now) is))))

pub returns-clause-reads : goal.returns-clause-reads
returns-clause-reads c =
    reads_stay c.args.stores.now c.lock_below.new.stores (all_items (planned c.start_by-started.result)) c.lock_below.ensures.rest
    (plan_read c.args.stores.now c.args.attempt.now.caller (select_meant c.args.found.now.ask).conditions seen c.args.found.now.trees c.requires.trees c.args.how c.args.args.now _
    (c.start_by-started.ensures ∙ ap (started_by c.args.how c.args.args.now) (c.in_ok-plan.ensures ∙ ap (λ cs. plan_for c.args.how (map cond_tree cs) (map seen c.as_slice.result.now)) c.as_slice-conditions.ensures
    ∙ ap (λ ts. plan_for c.args.how (select_meant c.args.found.now.ask).conditions (map seen ts)) c.as_slice.ensures)))

pub returns-clause-few : goal.returns-clause-few
returns-clause-few c =
    as_planned seen c.args.how c.args.args.now (select_meant c.args.found.now.ask).conditions c.args.found.now.trees _
    (c.start_by-started.ensures ∙ ap (started_by c.args.how c.args.args.now) (c.in_ok-plan.ensures ∙ ap (λ cs. plan_for c.args.how (map cond_tree cs) (map seen c.as_slice.result.now)) c.as_slice-conditions.ensures
    ∙ ap (λ ts. plan_for c.args.how (select_meant c.args.found.now.ask).conditions (map seen ts)) c.as_slice.ensures)) c.requires.few

pub returns-in_err-plan-clause-step : goal.returns-in_err-plan-clause-step
returns-in_err-plan-clause-step c = out_here c.from_residual.ensures.1

pub returns-in_err-tables-clause-step : goal.returns-in_err-tables-clause-step
returns-in_err-tables-clause-step c = out_here c.from_residual-in_err-tables.ensures.1
