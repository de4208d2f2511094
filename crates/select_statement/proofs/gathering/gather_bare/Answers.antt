use Rattle.std.proofs.Common.{◌-◌, ◌∙◌, [], ap, map, sym}
use Rattle.row_router.specs.Seen.{seen}
use Rattle.sql_ast.specs.Queries.{select_tree}
use Rattle.cond_logic.specs.Asked.{select_meant}
use Rattle.plan_tree.specs.Plans.{without_from}
use Rattle.statement_steps.specs.Made.{made}
use Rattle.statement_steps.proofs.Parts.{nothing_done, out_here}
use Rattle.statement_steps.proofs.Steps.{goes, handed_on, moved, stops}
use Rattle.select_statement.specs.Cancels.{cancels_itself}
use Rattle.select_statement.specs.Gathered.{found_bare, found_by}
use Rattle.select_statement.specs.Selected.{meant}
use Rattle.select_statement.proofs.Steps.{cancelled_here, not_cancelled}
use Rattle.select_statement.proofs.gathering.gather_bare.Goals as goal

pub returns-in_err-snap-clause-step : goal.returns-in_err-snap-clause-step
returns-in_err-snap-clause-step c = out_here c.from_residual.ensures.1

pub returns-in_err-ask-clause-step : goal.returns-in_err-ask-clause-step
returns-in_err-ask-clause-step c =
    let params = c.args.params.now in
    let t = select_tree c.args.select.now in
    handed_on c.from_residual-in_err-ask.ensures.1
    (stops (meant without_from params c.args.attempt.now.caller t []) (found_bare c.args.attempt.now.caller) (moved (λ how. meant how params c.args.attempt.now.caller t []) _ _ c.without_from-how.ensures c.in_err-ask.ensures))

pub returns-in_err-is_cancelled-clause-step : goal.returns-in_err-is_cancelled-clause-step
returns-in_err-is_cancelled-clause-step c = out_here c.from_residual-in_err-is_cancelled.ensures.1

pub returns-then-is_cancelled-clause-step : goal.returns-then-is_cancelled-clause-step
returns-then-is_cancelled-clause-step c =
    let params = c.args.params.now in
    let t = select_tree c.args.select.now in
    let m = select_meant c.in_ok-ask.ask in
    goes (meant without_from params c.args.attempt.now.caller t []) (found_bare c.args.attempt.now.caller) (moved (λ how. meant how params c.args.attempt.now.caller t []) _ _ c.without_from-how.ensures c.in_ok-ask.ensures)
    (cancelled_here found_by (cancels_itself c.args.attempt.now.caller.session (c.args.attempt.now.caller.sessions - 1) m) _ (λ h. made [] (record { meant = m; trees = [] })) _ c.args.attempt.now.caller c.args.attempt.now.caller.cmd
    c.requires (sym c.in_ok-is_cancelled.ensures ∙ c.if-is_cancelled.true) c.statement_cancelled.ensures)

pub returns-clause-step : goal.returns-clause-step
returns-clause-step c =
    let params = c.args.params.now in
    let t = select_tree c.args.select.now in
    let m = select_meant c.in_ok-ask.ask in
    goes (meant without_from params c.args.attempt.now.caller t []) (found_bare c.args.attempt.now.caller) (moved (λ how. meant how params c.args.attempt.now.caller t []) _ _ c.without_from-how.ensures c.in_ok-ask.ensures)
    (not_cancelled (cancels_itself c.args.attempt.now.caller.session (c.args.attempt.now.caller.sessions - 1) m) (λ h. made [] (record { meant = m; trees = [] })) (sym c.in_ok-is_cancelled.ensures ∙ c.if-is_cancelled.false)
    (nothing_done found_by _ _ c.args.attempt.now.caller (λ h. made [] (record { meant = m; trees = [] })) c.requires
    (λ h stands. ap (λ ts. made [] (record { meant = m; trees = map seen ts })) (sym (c.from_vec-trees.ensures ∙ c.new.ensures.items)))))
