use Rattle.std.proofs.Common.{◌≡◌, ◌++◌, drop, map}
use Rattle.history.specs.History.{History}
use Rattle.sql_ast.specs.Queries.{joined_tree}
use Rattle.stores.specs.Stand.{Stands}
use Rattle.statement_runs.specs.Executions.{items_meant}
use Rattle.statement_runs.proofs.executing.from_meant.Given as goal

abbrev pub invariant-loop-item : goal.invariant-loop-item
invariant-loop-item l = record {
  place : l.place ≡ l.item-index;
  so_far : (h : History) → Stands l.stores h
      → l.items.items ++ items_meant h l.attempt.caller.session l.place (map joined_tree (drop l.item-index l.from)) ≡ items_meant h l.attempt.caller.session 0 (map joined_tree l.from);
}
