use Rattle.std.proofs.Common.{Bool, Result, sym, subst, ◌&&◌}
use Rattle.sql_ast.specs.Statements.{statement_tree}
use Rattle.sql_ast.specs.declared.statement.Statement.{Statement}
use Rattle.sql_ast.specs.Queries.{query_tree}
use Rattle.statement_steps.specs.Ended.{ended}
use Rattle.statement_steps.specs.declared.ending.Ending.{Ending}
use Rattle.statement_steps.specs.declared.stop.Stop.{Stop}
use Rattle.prepared_statements.specs.Kept.{listed}
use Rattle.plan_tree.specs.declared.planning.Planning.{Planning}
use Rattle.statement_runs.specs.Attempted.{attempted, is_step, planning_of, query_attempted}
use Rattle.statement_runs.specs.Given.{query_given, statement_given}
use Rattle.statement_runs.specs.Executions.{kept, query_kept}
use Rattle.statement_runs.specs.Printed.{IsKept, IsStatement}
use Rattle.statement_runs.specs.Tallies.{Grows}
use Rattle.statement_runs.proofs.Growing.{ended_grows, stays_same}
use Rattle.statement_runs.proofs.attempts.attempt.Goals as goal

pub returns-in-Query-clause-is : goal.returns-in-Query-clause-is
unfolding attempted
returns-in-Query-clause-is c =
    let q = c.in-Query.query in
    let last = c.attempt_query-done.new.stores in
    let out = c.attempt_query-done.new.out.items in
    let o = c.args.options.now in
    let asked = query_attempted (c.args.options.now.trail && is_step c.args.caller.kind) (planning_of c.args.settings) c.args.options.now.names c.args.caller c.args.rest (listed c.args.prepared.now) (query_tree q) in
    subst (λ (x : Statement). IsStatement c.args.rest c.ended.result c.args.stores.now last c.args.out.now.items out c.args.caller (attempted o c.args.caller c.args.rest c.args.settings (listed c.args.prepared.now) (statement_tree x))) (sym c.in-Query.is)
    (subst (λ (r : Result Ending Stop). IsStatement c.args.rest r c.args.stores.now last c.args.out.now.items out c.args.caller asked) (sym c.ended.ensures)
    (subst (λ (b : Bool). IsStatement c.args.rest (ended c.attempt_query-done.result) c.args.stores.now last c.args.out.now.items out c.args.caller (query_attempted b (planning_of c.args.settings) c.args.options.now.names c.args.caller c.args.rest (listed c.args.prepared.now) (query_tree q))) c.is_trailed-trailed.ensures
    (subst (λ (g : Planning). IsStatement c.args.rest (ended c.attempt_query-done.result) c.args.stores.now last c.args.out.now.items out c.args.caller (query_attempted c.is_trailed-trailed.result g c.args.options.now.names c.args.caller c.args.rest (listed c.args.prepared.now) (query_tree q))) c.planning_of-how.ensures c.attempt_query-done.ensures.is)))

pub returns-in-Query-clause-tally : goal.returns-in-Query-clause-tally
unfolding statement_given
returns-in-Query-clause-tally c h stands at go =
    let o = c.args.options.now in
    subst (λ (x : Statement). Grows c.ended.result c.args.tally.now c.attempt_query-done.new.tally (statement_given o c.args.caller c.args.rest c.args.settings (listed c.args.prepared.now) (statement_tree x) h)) (sym c.in-Query.is)
    (subst (λ (r : Result Ending Stop). Grows r c.args.tally.now c.attempt_query-done.new.tally (query_given (planning_of c.args.settings) c.args.options.now.names c.args.caller c.args.rest (listed c.args.prepared.now) (query_tree c.in-Query.query) h)) (sym c.ended.ensures)
    (ended_grows c.attempt_query-done.result c.args.tally.now c.attempt_query-done.new.tally (query_given (planning_of c.args.settings) c.args.options.now.names c.args.caller c.args.rest (listed c.args.prepared.now) (query_tree c.in-Query.query) h)
    (subst (λ (g : Planning). Grows c.attempt_query-done.result c.args.tally.now c.attempt_query-done.new.tally (query_given g c.args.options.now.names c.args.caller c.args.rest (listed c.args.prepared.now) (query_tree c.in-Query.query) h)) c.planning_of-how.ensures (c.attempt_query-done.ensures.tally h stands at go))))

pub returns-in-Command-clause-is : goal.returns-in-Command-clause-is
unfolding attempted
returns-in-Command-clause-is c =
    let o = c.args.options.now in
    subst (λ (x : Statement). IsStatement c.args.rest c.attempt_command.result c.args.stores.now c.attempt_command.new.stores c.args.out.now.items c.args.out.now.items c.args.caller (attempted o c.args.caller c.args.rest c.args.settings (listed c.args.prepared.now) (statement_tree x))) (sym c.in-Command.is)
    (c.attempt_command.ensures.is c.args.out.now.items)

pub returns-in-Command-clause-tally : goal.returns-in-Command-clause-tally
unfolding statement_given
returns-in-Command-clause-tally c h stands at go =
    let o = c.args.options.now in
    subst (λ (x : Statement). Grows c.attempt_command.result c.args.tally.now c.args.tally.now (statement_given o c.args.caller c.args.rest c.args.settings (listed c.args.prepared.now) (statement_tree x) h)) (sym c.in-Command.is) (stays_same c.attempt_command.result c.args.tally.now)

pub returns-in-Query-clause-kept : goal.returns-in-Query-clause-kept
returns-in-Query-clause-kept c =
    let old = listed c.args.prepared.now in
    let new = listed c.attempt_query-done.new.prepared in
    subst (λ (x : Statement). IsKept c.ended.result old new (kept old (statement_tree x))) (sym c.in-Query.is)
    (subst (λ (r : Result Ending Stop). IsKept r old new (query_kept old (query_tree c.in-Query.query))) (sym c.ended.ensures) c.attempt_query-done.ensures.kept)

pub returns-in-Command-clause-kept : goal.returns-in-Command-clause-kept
returns-in-Command-clause-kept c =
    let old = listed c.args.prepared.now in
    subst (λ (x : Statement). IsKept c.attempt_command.result old (listed c.attempt_command.new.prepared) (kept old (statement_tree x))) (sym c.in-Command.is) c.attempt_command.ensures.kept
