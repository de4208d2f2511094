use Rattle.std.proofs.Common.{◌≡◌, ◌≤◌, ◌++◌, drop, map}
use Rattle.sql_ast.specs.Queries.{joined_tree}
use Rattle.row_router.specs.Seen.{seen}
use Rattle.select_statement.specs.Items as items
use Rattle.select_statement.proofs.items.items_of.Given as goal

-- the items so far, and those that are left
abbrev pub invariant-loop-place : goal.invariant-loop-place
invariant-loop-place l = record {
  low : l.number ≤ l.place;
  told : l.found.items ++ items.items_of l.number (map joined_tree (drop l.place l.from_items)) (map seen (drop l.place l.trees)) ≡ items.items_of 0 (map joined_tree l.from_items) (map seen l.trees);
}
