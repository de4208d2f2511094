use Rattle.std.proofs.Common.{Result, ap, sym, subst, ◌∙◌}
use Rattle.change_statement.specs.Changed.{Told, told_by}
use Rattle.change_statement.specs.Running.{IsCommand}
use Rattle.change_statement.specs.declared.changed_rows.ChangedRows.{ChangedRows}
use Rattle.statement_steps.specs.Made.{Halt}
use Rattle.statement_steps.specs.declared.stop.Stop.{Stop}
use Rattle.statement_runs.specs.Attempted.{changed_text}
use Rattle.statement_runs.specs.Given.{given, of_change}
use Rattle.statement_runs.specs.Tallies.{added}
use Rattle.statement_runs.proofs.Growing.{stopped_gives}
use Rattle.statement_runs.proofs.Whole.{command_is, command_stops}
use Rattle.statement_runs.proofs.row_attempts.finish_changes.Goals as goal

pub returns-in-Ok-print_changes-clause-is : goal.returns-in-Ok-print_changes-clause-is
returns-in-Ok-print_changes-clause-is c left old caller f step =
    command_is left told_by (changed_text c.args.trailed c.args.word.now) c.in-Ok.changes old c.args.stores.now caller f c.args.out.now.items c.print_changes.new.out.items c.in-Ok-print_changes.ensures.text
    (subst (λ (r : Result ChangedRows Stop). IsCommand left told_by r old c.args.stores.now caller f) c.in-Ok.is step)

pub returns-clause-is : goal.returns-clause-is
returns-clause-is c left old caller f step =
    command_stops left told_by (changed_text c.args.trailed c.args.word.now) c.in-Err.stop old c.args.stores.now caller f c.args.out.now.items
    (subst (λ (r : Result ChangedRows Stop). IsCommand left told_by r old c.args.stores.now caller f) c.in-Err.is step)

pub returns-in-Ok-print_changes-clause-tally : goal.returns-in-Ok-print_changes-clause-tally
returns-in-Ok-print_changes-clause-tally c left old caller f step h stands at go =
    let done = subst (λ (r : Result ChangedRows Stop). IsCommand left told_by r old c.args.stores.now caller f) c.in-Ok.is step in
    c.in-Ok-print_changes.ensures.tally ∙ ap (λ (r : Result Told Halt). added c.args.tally.now (given of_change r)) (sym (done.is h stands at go).0)

pub returns-clause-tally : goal.returns-clause-tally
returns-clause-tally c left old caller f step h stands at go =
    let stopped = subst (λ (r : Result ChangedRows Stop). IsCommand left told_by r old c.args.stores.now caller f) c.in-Err.is step in
    stopped_gives (Unit {0}) told_by of_change c.in-Err.stop c.args.stores.now caller h (f h) c.args.tally.now (stopped.is h stands at go)
