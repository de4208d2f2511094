use Rattle.std.proofs.Common.{◌≡◌, ◌++◌, All, drop, map}
use Rattle.history.specs.History.{History}
use Rattle.row_router.specs.Seen.{seen}
use Rattle.stores.specs.Stand.{Stands}
use Rattle.statement_steps.specs.Below.{number_of}
use Rattle.select_statement.specs.Lent.{IsTreeFor}
use Rattle.select_statement.specs.Selected.{trees_for}
use Rattle.select_statement.proofs.tables.read_trees.Given as goal

-- the trees so far, and those of the tables that are left; the stores are as they were
abbrev pub invariant-loop-table : goal.invariant-loop-table
invariant-loop-table l = record {
  same : l.stores ≡ l.fn.stores;
  trees : (h : History) → Stands l.fn.stores h → map seen l.trees.items ++ trees_for l.attempt.caller (map number_of (drop l.table-index l.tables)) h ≡ trees_for l.attempt.caller (map number_of l.tables) h;
  each : All (λ t. IsTreeFor l.fn.stores l.attempt.caller (seen t)) l.trees.items;
}
