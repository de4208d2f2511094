use Rattle.std.proofs.Common.{◌∙◌, ap, length}
use Rattle.sql_ast.specs.Queries.{select_tree}
use Rattle.plan_tree.specs.Counts.{PlanCount, answered_with, counted}
use Rattle.plan_tree.specs.Laws.{shown}
use Rattle.plan_tree.specs.Plans.{planned}
use Rattle.select_answer.specs.Happenings.{happenings}
use Rattle.stores.specs.Events.{look_of}
use Rattle.statement_steps.proofs.Parts.{out_here}
use Rattle.statement_steps.proofs.Steps.{handed_on}
use Rattle.select_statement.specs.Gathered.{found_by}
use Rattle.select_statement.proofs.Analyzed.{run_done, run_stops}
use Rattle.select_statement.proofs.analyzing.run_counted.Goals as goal

pub returns-in_err-counts : goal.returns-in_err-counts
returns-in_err-counts c = out_here c.from_residual.ensures.1

pub returns-in_err-answer_counted : goal.returns-in_err-answer_counted
returns-in_err-answer_counted c =
    handed_on c.from_residual-in_err-answer_counted.ensures.1
    (run_stops c.args.attempt.now.caller c.args.args.now (select_tree c.args.select.now) (found_by c.args.found.now) (planned c.args.plan.now) _ c.args.stores.now c.in_err-answer_counted.ensures.step)

pub returns-in_err-table : goal.returns-in_err-table
returns-in_err-table c = out_here c.from_residual-in_err-table.ensures.1

pub returns : goal.returns
returns c =
    run_done c.args.attempt.now.caller c.args.args.now (select_tree c.args.select.now) (found_by c.args.found.now) (planned c.args.plan.now) c.in_ok-answer_counted.field-0 c.in_ok-table.table c.answer_counted.new.counts c.args.stores.now c.requires.may c.in_ok-answer_counted.ensures.step
    (λ h stands. c.in_ok-answer_counted.ensures.counts h stands
    ∙ ap (λ (k : PlanCount). answered_with (length c.in_ok-answer_counted.field-0.answer.rows) (counted k (happenings c.args.args.now (shown h (look_of h c.args.attempt.now.caller.session c.args.attempt.now.caller.cmd)) (planned c.args.plan.now)))) c.in_ok-counts.ensures)
    c.in_ok-table.ensures
