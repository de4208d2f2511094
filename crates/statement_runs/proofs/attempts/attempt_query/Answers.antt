use Rattle.std.proofs.Common.{ℕ, List, sym, subst}
use Rattle.sql_ast.specs.Expressions.{trees}
use Rattle.sql_ast.specs.Queries.{query_tree, row_tree}
use Rattle.sql_ast.specs.declared.query.Query.{Query}
use Rattle.prepared_statements.specs.Kept.{listed}
use Rattle.prepared_statements.specs.Prepared.{prepared}
use Rattle.statement_steps.specs.Ended.{ended}
use Rattle.statement_runs.specs.Attempted.{execute_attempted, explain_execute_attempted, listing, query_attempted}
use Rattle.statement_runs.specs.Executions.{executed, query_kept}
use Rattle.statement_runs.specs.Given.{execution_given, query_given}
use Rattle.statement_runs.specs.Printed.{IsKept, IsStatement}
use Rattle.statement_runs.specs.Tallies.{Grows}
use Rattle.statement_runs.proofs.Growing.{stays_same}
use Rattle.statement_runs.proofs.Whole.{kept_still, silent_is}
use Rattle.statement_runs.proofs.attempts.attempt_query.Goals as goal

pub returns-in-Rows-clause-is : goal.returns-in-Rows-clause-is
returns-in-Rows-clause-is c =
    subst (λ (x : Query). IsStatement c.args.rest (ended c.attempt_rows.result) c.args.stores.now c.attempt_rows.new.stores c.args.out.now.items c.attempt_rows.new.out.items c.args.attempt.now.caller
    (query_attempted c.args.trailed c.args.how c.args.attempt.now.names.now c.args.attempt.now.caller c.args.rest (listed c.args.prepared.now) (query_tree x))) (sym c.in-Rows.is)
    c.attempt_rows.ensures.is

pub returns-in-Rows-clause-tally : goal.returns-in-Rows-clause-tally
returns-in-Rows-clause-tally c h stands at go =
    subst (λ (x : Query). Grows c.attempt_rows.result c.args.tally.now c.attempt_rows.new.tally (query_given c.args.how c.args.attempt.now.names.now c.args.attempt.now.caller c.args.rest (listed c.args.prepared.now) (query_tree x) h)) (sym c.in-Rows.is)
    (c.attempt_rows.ensures.tally h stands at go)

pub returns-in-Rows-clause-kept : goal.returns-in-Rows-clause-kept
returns-in-Rows-clause-kept c =
    subst (λ (x : Query). IsKept (ended c.attempt_rows.result) (listed c.args.prepared.now) (listed c.args.prepared.now) (query_kept (listed c.args.prepared.now) (query_tree x))) (sym c.in-Rows.is) (kept_still (ended c.attempt_rows.result) (listed c.args.prepared.now))

pub returns-in-Prepare-clause-is : goal.returns-in-Prepare-clause-is
returns-in-Prepare-clause-is c =
    let p = c.in-Prepare in
    let is = silent_is c.args.rest c.attempt_prepare.result c.args.stores.now c.attempt_prepare.new.stores c.args.attempt.now.caller (listing c.args.attempt.now.caller (prepared (listed c.args.prepared.now) p.name p.types (row_tree p.s.value))) c.args.out.now.items c.attempt_prepare.ensures.is in
    subst (λ (x : Query). IsStatement c.args.rest (ended c.attempt_prepare.result) c.args.stores.now c.attempt_prepare.new.stores c.args.out.now.items c.args.out.now.items c.args.attempt.now.caller
    (query_attempted c.args.trailed c.args.how c.args.attempt.now.names.now c.args.attempt.now.caller c.args.rest (listed c.args.prepared.now) (query_tree x))) (sym p.is) is

pub returns-in-Prepare-clause-tally : goal.returns-in-Prepare-clause-tally
returns-in-Prepare-clause-tally c h stands at go =
    subst (λ (x : Query). Grows c.attempt_prepare.result c.args.tally.now c.args.tally.now (query_given c.args.how c.args.attempt.now.names.now c.args.attempt.now.caller c.args.rest (listed c.args.prepared.now) (query_tree x) h)) (sym c.in-Prepare.is)
    (stays_same c.attempt_prepare.result c.args.tally.now)

pub returns-in-Prepare-clause-kept : goal.returns-in-Prepare-clause-kept
returns-in-Prepare-clause-kept c =
    subst (λ (x : Query). IsKept (ended c.attempt_prepare.result) (listed c.args.prepared.now) (listed c.attempt_prepare.new.prepared) (query_kept (listed c.args.prepared.now) (query_tree x))) (sym c.in-Prepare.is) c.attempt_prepare.ensures.kept

pub returns-in-Execute-clause-is : goal.returns-in-Execute-clause-is
returns-in-Execute-clause-is c =
    subst (λ (x : Query). IsStatement c.args.rest (ended c.attempt_execute.result) c.args.stores.now c.attempt_execute.new.stores c.args.out.now.items c.attempt_execute.new.out.items c.args.attempt.now.caller
    (query_attempted c.args.trailed c.args.how c.args.attempt.now.names.now c.args.attempt.now.caller c.args.rest (listed c.args.prepared.now) (query_tree x))) (sym c.in-Execute.is)
    (subst (λ (n : List ℕ). IsStatement c.args.rest (ended c.attempt_execute.result) c.args.stores.now c.attempt_execute.new.stores c.args.out.now.items c.attempt_execute.new.out.items c.args.attempt.now.caller
    (λ h. execute_attempted c.args.trailed c.args.how c.args.attempt.now.names.now c.args.attempt.now.caller c.args.rest (executed h c.args.attempt.now.caller.session c.args.rest (listed c.args.prepared.now) n (trees c.in-Execute.arguments)) h)) c.as_bytes-name.ensures c.attempt_execute.ensures.is)

pub returns-in-Execute-clause-tally : goal.returns-in-Execute-clause-tally
returns-in-Execute-clause-tally c h stands at go =
    subst (λ (x : Query). Grows c.attempt_execute.result c.args.tally.now c.attempt_execute.new.tally (query_given c.args.how c.args.attempt.now.names.now c.args.attempt.now.caller c.args.rest (listed c.args.prepared.now) (query_tree x) h)) (sym c.in-Execute.is)
    (subst (λ (n : List ℕ). Grows c.attempt_execute.result c.args.tally.now c.attempt_execute.new.tally
    (execution_given c.args.how c.args.attempt.now.names.now c.args.attempt.now.caller c.args.rest (executed h c.args.attempt.now.caller.session c.args.rest (listed c.args.prepared.now) n (trees c.in-Execute.arguments)) h)) c.as_bytes-name.ensures (c.attempt_execute.ensures.tally h stands at go))

pub returns-in-Execute-clause-kept : goal.returns-in-Execute-clause-kept
returns-in-Execute-clause-kept c =
    subst (λ (x : Query). IsKept (ended c.attempt_execute.result) (listed c.args.prepared.now) (listed c.args.prepared.now) (query_kept (listed c.args.prepared.now) (query_tree x))) (sym c.in-Execute.is) (kept_still (ended c.attempt_execute.result) (listed c.args.prepared.now))

pub returns-in-ExplainSelect-clause-is : goal.returns-in-ExplainSelect-clause-is
returns-in-ExplainSelect-clause-is c =
    subst (λ (x : Query). IsStatement c.args.rest (ended c.attempt_explain.result) c.args.stores.now c.attempt_explain.new.stores c.args.out.now.items c.attempt_explain.new.out.items c.args.attempt.now.caller
    (query_attempted c.args.trailed c.args.how c.args.attempt.now.names.now c.args.attempt.now.caller c.args.rest (listed c.args.prepared.now) (query_tree x))) (sym c.in-ExplainSelect.is)
    (c.attempt_explain.ensures c.args.rest)

pub returns-in-ExplainSelect-clause-tally : goal.returns-in-ExplainSelect-clause-tally
returns-in-ExplainSelect-clause-tally c h stands at go =
    subst (λ (x : Query). Grows c.attempt_explain.result c.args.tally.now c.args.tally.now (query_given c.args.how c.args.attempt.now.names.now c.args.attempt.now.caller c.args.rest (listed c.args.prepared.now) (query_tree x) h)) (sym c.in-ExplainSelect.is)
    (stays_same c.attempt_explain.result c.args.tally.now)

pub returns-in-ExplainSelect-clause-kept : goal.returns-in-ExplainSelect-clause-kept
returns-in-ExplainSelect-clause-kept c =
    subst (λ (x : Query). IsKept (ended c.attempt_explain.result) (listed c.args.prepared.now) (listed c.args.prepared.now) (query_kept (listed c.args.prepared.now) (query_tree x))) (sym c.in-ExplainSelect.is) (kept_still (ended c.attempt_explain.result) (listed c.args.prepared.now))

pub returns-in-ExplainExecute-clause-is : goal.returns-in-ExplainExecute-clause-is
returns-in-ExplainExecute-clause-is c =
    subst (λ (x : Query). IsStatement c.args.rest (ended c.attempt_explain_execute.result) c.args.stores.now c.attempt_explain_execute.new.stores c.args.out.now.items c.attempt_explain_execute.new.out.items c.args.attempt.now.caller
    (query_attempted c.args.trailed c.args.how c.args.attempt.now.names.now c.args.attempt.now.caller c.args.rest (listed c.args.prepared.now) (query_tree x))) (sym c.in-ExplainExecute.is)
    (subst (λ (n : List ℕ). IsStatement c.args.rest (ended c.attempt_explain_execute.result) c.args.stores.now c.attempt_explain_execute.new.stores c.args.out.now.items c.attempt_explain_execute.new.out.items c.args.attempt.now.caller
    (explain_execute_attempted c.args.how c.args.attempt.now.names.now c.args.attempt.now.caller (listed c.args.prepared.now) c.in-ExplainExecute.analyze n (trees c.in-ExplainExecute.arguments))) c.as_bytes-name-in-ExplainExecute.ensures (c.attempt_explain_execute.ensures c.args.rest))

pub returns-in-ExplainExecute-clause-tally : goal.returns-in-ExplainExecute-clause-tally
returns-in-ExplainExecute-clause-tally c h stands at go =
    subst (λ (x : Query). Grows c.attempt_explain_execute.result c.args.tally.now c.args.tally.now (query_given c.args.how c.args.attempt.now.names.now c.args.attempt.now.caller c.args.rest (listed c.args.prepared.now) (query_tree x) h)) (sym c.in-ExplainExecute.is)
    (stays_same c.attempt_explain_execute.result c.args.tally.now)

pub returns-in-ExplainExecute-clause-kept : goal.returns-in-ExplainExecute-clause-kept
returns-in-ExplainExecute-clause-kept c =
    subst (λ (x : Query). IsKept (ended c.attempt_explain_execute.result) (listed c.args.prepared.now) (listed c.args.prepared.now) (query_kept (listed c.args.prepared.now) (query_tree x))) (sym c.in-ExplainExecute.is) (kept_still (ended c.attempt_explain_execute.result) (listed c.args.prepared.now))
