use Rattle.std.proofs.Common.{◌+◌, ap, sym, ◌∙◌, Result}
use Rattle.sql_ast.specs.Queries.{select_tree}
use Rattle.select_statement.specs.Selected.{Told, selected, told_by}
use Rattle.statement_steps.specs.Made.{Halt}
use Rattle.statement_runs.specs.Given.{given, of_select}
use Rattle.statement_runs.specs.Tallies.{added}
use Rattle.statement_runs.proofs.Growing.{halted_gives}
use Rattle.statement_runs.specs.Attempted.{answer_text}
use Rattle.statement_runs.proofs.Whole.{printed_is, printed_stops}
use Rattle.statement_runs.proofs.row_attempts.attempt_select.Goals as goal

pub returns-in-Ok-print_answer-clause-is : goal.returns-in-Ok-print_answer-clause-is
returns-in-Ok-print_answer-clause-is c left =
    printed_is left told_by (answer_text c.args.trailed) c.in-Ok.answered c.args.stores.now c.select.new.stores c.args.attempt.now.caller (selected c.args.how c.args.attempt.now.names.now c.args.params.now c.args.attempt.now.caller (select_tree c.args.statement.now)) c.args.out.now.items c.print_answer.new.out.items
    c.in-Ok-print_answer.ensures.text c.in-Ok.ensures

pub returns-clause-is : goal.returns-clause-is
returns-clause-is c left = printed_stops left told_by (answer_text c.args.trailed) c.in-Err.stop c.args.stores.now c.select.new.stores c.args.attempt.now.caller (selected c.args.how c.args.attempt.now.names.now c.args.params.now c.args.attempt.now.caller (select_tree c.args.statement.now)) c.args.out.now.items c.in-Err.ensures

pub returns-in-Ok-print_answer-clause-tally : goal.returns-in-Ok-print_answer-clause-tally
returns-in-Ok-print_answer-clause-tally c left h stands at go = c.in-Ok-print_answer.ensures.tally ∙ ap (λ (r : Result Told Halt). added c.args.tally.now (given of_select r)) (sym (c.in-Ok.ensures.is h stands at).0)

pub returns-clause-tally : goal.returns-clause-tally
returns-clause-tally c left h stands at go =
    halted_gives (Unit {0}) told_by of_select c.in-Err.stop c.select.new.stores c.args.attempt.now.caller (c.args.attempt.now.caller.cmd + 1) h (selected c.args.how c.args.attempt.now.names.now c.args.params.now c.args.attempt.now.caller (select_tree c.args.statement.now) h) c.args.tally.now (c.in-Err.ensures.is h stands at)
