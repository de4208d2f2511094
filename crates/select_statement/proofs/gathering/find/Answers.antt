use Rattle.std.proofs.Common.{[], ap, length, map, subst, sym, ◌∙◌, ◌≤◌}
use Rattle.row_router.specs.Seen.{seen}
use Rattle.sql_ast.specs.Queries.{select_tree}
use Rattle.sql_binder.specs.Selects.{from_of}
use Rattle.cond_logic.specs.Asked.{select_meant}
use Rattle.stores.specs.declared.stores.Stores.{Stores}
use Rattle.statement_steps.specs.Attempts.{MayAttempt}
use Rattle.statement_steps.specs.Made.{made}
use Rattle.statement_steps.proofs.Parts.{nothing_done, out_here}
use Rattle.statement_steps.proofs.Steps.{goes, handed_on, stops}
use Rattle.statement_steps.specs.Below.{number_of}
use Rattle.select_statement.specs.Gathered.{found_by}
use Rattle.select_statement.specs.Items.{items_of}
use Rattle.select_statement.specs.Selected.{meant}
use Rattle.select_statement.proofs.Steps.{same_stores}
use Rattle.select_statement.proofs.Straight.{found_step}
use Rattle.select_statement.proofs.Whole.{as_many}
use Rattle.select_statement.proofs.gathering.find.Goals as goal

pub bind_over-requires-clause-may : goal.bind_over-requires-clause-may
bind_over-requires-clause-may c = subst (λ (s : Stores). MayAttempt s c.args.attempt.now.caller) (sym c.read_trees.ensures.same) c.requires.may

pub bind_over-requires-clause-each : goal.bind_over-requires-clause-each
bind_over-requires-clause-each c =
    ap length c.as_slice.ensures ∙ as_many c.args.stores.now c.args.attempt.now.caller seen c.in_ok-trees.trees c.args.tables.now c.requires.may c.in_ok-trees.ensures.trees ∙ c.requires.each

pub returns-in_err-ask-clause-step : goal.returns-in_err-ask-clause-step
returns-in_err-ask-clause-step c =
    handed_on c.from_residual-in_err-ask.ensures.1 (found_step c.args.how c.args.params.now c.args.attempt.now.caller (select_tree c.args.select.now) (map number_of c.args.tables.now) (map seen c.as_slice.result.now) _ _ _ (λ h stands. ap (map seen) c.as_slice.ensures ∙ c.in_ok-trees.ensures.trees h stands)
    (stops (meant c.args.how c.args.params.now c.args.attempt.now.caller (select_tree c.args.select.now) (items_of 0 (from_of (select_tree c.args.select.now)) (map seen c.as_slice.result.now))) (λ m h. made [] (record { meant = m; trees = map seen c.as_slice.result.now })) (same_stores c.read_trees.ensures.same c.in_err-ask.ensures.step)))

pub returns-clause-step : goal.returns-clause-step
returns-clause-step c =
    found_step c.args.how c.args.params.now c.args.attempt.now.caller (select_tree c.args.select.now) (map number_of c.args.tables.now) (map seen c.as_slice.result.now) _ _ _ (λ h stands. ap (map seen) c.as_slice.ensures ∙ c.in_ok-trees.ensures.trees h stands)
    (goes (meant c.args.how c.args.params.now c.args.attempt.now.caller (select_tree c.args.select.now) (items_of 0 (from_of (select_tree c.args.select.now)) (map seen c.as_slice.result.now))) (λ m h. made [] (record { meant = m; trees = map seen c.as_slice.result.now })) (same_stores c.read_trees.ensures.same c.in_ok-ask.ensures.step)
    (nothing_done found_by _ _ c.args.attempt.now.caller (λ h. made [] (record { meant = select_meant c.in_ok-ask.ask; trees = map seen c.as_slice.result.now })) c.requires.may
    (λ h stands. ap (λ ts. made [] (record { meant = select_meant c.in_ok-ask.ask; trees = map seen ts })) c.as_slice.ensures)))

pub returns-clause-few : goal.returns-clause-few
returns-clause-few c = subst (λ ts. length ts ≤ 4) c.as_slice.ensures c.in_ok-ask.ensures.few

pub returns-clause-each : goal.returns-clause-each
returns-clause-each c = as_many c.args.stores.now c.args.attempt.now.caller seen c.in_ok-trees.trees c.args.tables.now c.requires.may c.in_ok-trees.ensures.trees ∙ c.requires.each

pub returns-in_err-snap-clause-step : goal.returns-in_err-snap-clause-step
returns-in_err-snap-clause-step c = out_here c.from_residual.ensures.1

pub returns-in_err-trees-clause-step : goal.returns-in_err-trees-clause-step
returns-in_err-trees-clause-step c = out_here c.from_residual-in_err-trees.ensures.1
