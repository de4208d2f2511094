use Rattle.std.proofs.Common.{◌==◌, ◌∙◌, List, ap, length, sym}
use Rattle.sql_ast.specs.Queries.{joined_tree, select_tree}
use Rattle.sql_binder.specs.Selects.{from_of}
use Rattle.sql_ast.specs.declared.select.FromItem.{FromItem}
use Rattle.statement_steps.proofs.Steps.{goes}
use Rattle.select_statement.specs.Explained.{analyzed_items}
use Rattle.select_statement.specs.Selected.{begins}
use Rattle.select_statement.proofs.Analyzed.{items_none, items_some}
use Rattle.select_statement.proofs.analyzing.analyze_select.Goals as goal

pub returns-then-is_empty : goal.returns-then-is_empty
returns-then-is_empty c =
    let t = select_tree c.args.select.now in
    let none = ap (λ (items : List FromItem). length items == 0) (sym c.as_slice.ensures) ∙ sym c.is_empty.ensures ∙ c.if-is_empty.true in
    goes (begins c.args.attempt.now.caller) (λ u. analyzed_items c.args.how c.args.attempt.now.names.now c.args.params.now c.args.attempt.now.caller t (from_of t)) c.in_ok-hold_if_repeatable.ensures.step
    (items_none c.args.how c.args.attempt.now.names.now c.args.params.now c.args.attempt.now.caller t joined_tree c.args.select.now.from c.analyze_bare.result _ _ _ none c.analyze_bare.ensures)

pub returns-else-is_empty : goal.returns-else-is_empty
returns-else-is_empty c =
    let t = select_tree c.args.select.now in
    let some = ap (λ (items : List FromItem). length items == 0) (sym c.as_slice.ensures) ∙ sym c.is_empty.ensures ∙ c.if-is_empty.false in
    goes (begins c.args.attempt.now.caller) (λ u. analyzed_items c.args.how c.args.attempt.now.names.now c.args.params.now c.args.attempt.now.caller t (from_of t)) c.in_ok-hold_if_repeatable.ensures.step
    (items_some c.args.how c.args.attempt.now.names.now c.args.params.now c.args.attempt.now.caller t joined_tree c.args.select.now.from c.analyze_tables.result _ _ _ some c.analyze_tables.ensures)
