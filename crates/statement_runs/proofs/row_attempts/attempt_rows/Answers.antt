use Rattle.std.proofs.Common.{sym, subst}
use Rattle.sql_ast.specs.Queries.{row_tree}
use Rattle.sql_ast.specs.declared.query.RowStatement.{RowStatement}
use Rattle.statement_steps.specs.Ended.{ended}
use Rattle.statement_runs.specs.Attempted.{row_attempted}
use Rattle.statement_runs.specs.Given.{row_given}
use Rattle.statement_runs.specs.Printed.{IsStatement}
use Rattle.statement_runs.specs.Tallies.{Grows}
use Rattle.statement_runs.proofs.Growing.{stays_same}
use Rattle.statement_runs.proofs.row_attempts.attempt_rows.Goals as goal

pub returns-in-Select-clause-is : goal.returns-in-Select-clause-is
returns-in-Select-clause-is c =
    subst (λ (x : RowStatement). IsStatement c.args.rest (ended c.attempt_select.result) c.args.stores.now c.attempt_select.new.stores c.args.out.now.items c.attempt_select.new.out.items c.args.attempt.now.caller (row_attempted c.args.trailed c.args.how c.args.attempt.now.names.now c.args.params.now c.args.attempt.now.caller c.args.rest (row_tree x))) (sym c.in-Select.is) (c.attempt_select.ensures.is c.args.rest)

pub returns-in-Insert-clause-is : goal.returns-in-Insert-clause-is
returns-in-Insert-clause-is c =
    subst (λ (x : RowStatement). IsStatement c.args.rest (ended c.attempt_insert.result) c.args.stores.now c.attempt_insert.new.stores c.args.out.now.items c.attempt_insert.new.out.items c.args.attempt.now.caller (row_attempted c.args.trailed c.args.how c.args.attempt.now.names.now c.args.params.now c.args.attempt.now.caller c.args.rest (row_tree x))) (sym c.in-Insert.is) (c.attempt_insert.ensures c.args.rest)

pub returns-in-Update-clause-is : goal.returns-in-Update-clause-is
returns-in-Update-clause-is c =
    subst (λ (x : RowStatement). IsStatement c.args.rest (ended c.attempt_update.result) c.args.stores.now c.attempt_update.new.stores c.args.out.now.items c.attempt_update.new.out.items c.args.attempt.now.caller (row_attempted c.args.trailed c.args.how c.args.attempt.now.names.now c.args.params.now c.args.attempt.now.caller c.args.rest (row_tree x))) (sym c.in-Update.is) c.attempt_update.ensures.is

pub returns-in-Delete-clause-is : goal.returns-in-Delete-clause-is
returns-in-Delete-clause-is c =
    subst (λ (x : RowStatement). IsStatement c.args.rest (ended c.attempt_delete.result) c.args.stores.now c.attempt_delete.new.stores c.args.out.now.items c.attempt_delete.new.out.items c.args.attempt.now.caller (row_attempted c.args.trailed c.args.how c.args.attempt.now.names.now c.args.params.now c.args.attempt.now.caller c.args.rest (row_tree x))) (sym c.in-Delete.is) c.attempt_delete.ensures.is

pub returns-in-Select-clause-tally : goal.returns-in-Select-clause-tally
returns-in-Select-clause-tally c h stands at go = subst (λ (x : RowStatement). Grows c.attempt_select.result c.args.tally.now c.attempt_select.new.tally (row_given c.args.how c.args.attempt.now.names.now c.args.params.now c.args.attempt.now.caller c.args.rest (row_tree x) h)) (sym c.in-Select.is) (c.attempt_select.ensures.tally c.args.rest h stands at go)

pub returns-in-Insert-clause-tally : goal.returns-in-Insert-clause-tally
returns-in-Insert-clause-tally c h stands at go = subst (λ (x : RowStatement). Grows c.attempt_insert.result c.args.tally.now c.args.tally.now (row_given c.args.how c.args.attempt.now.names.now c.args.params.now c.args.attempt.now.caller c.args.rest (row_tree x) h)) (sym c.in-Insert.is) (stays_same c.attempt_insert.result c.args.tally.now)

pub returns-in-Update-clause-tally : goal.returns-in-Update-clause-tally
returns-in-Update-clause-tally c h stands at go = subst (λ (x : RowStatement). Grows c.attempt_update.result c.args.tally.now c.attempt_update.new.tally (row_given c.args.how c.args.attempt.now.names.now c.args.params.now c.args.attempt.now.caller c.args.rest (row_tree x) h)) (sym c.in-Update.is) (c.attempt_update.ensures.tally h stands at go)

pub returns-in-Delete-clause-tally : goal.returns-in-Delete-clause-tally
returns-in-Delete-clause-tally c h stands at go = subst (λ (x : RowStatement). Grows c.attempt_delete.result c.args.tally.now c.attempt_delete.new.tally (row_given c.args.how c.args.attempt.now.names.now c.args.params.now c.args.attempt.now.caller c.args.rest (row_tree x) h)) (sym c.in-Delete.is) (c.attempt_delete.ensures.tally h stands at go)
