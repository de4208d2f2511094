use Rattle.std.proofs.Common.{◌≡◌, ◌++◌, drop, map}
use Rattle.sql_ast.specs.Queries.{joined_tree}
use Rattle.row_router.specs.Seen.{seen}
use Rattle.select_statement.specs.Explained as explained
use Rattle.select_statement.proofs.explaining.named_items.Given as goal

-- the items so far, and those that are left
abbrev pub invariant-loop-place : goal.invariant-loop-place
invariant-loop-place l = l.named.items ++ explained.named_items (map joined_tree (drop l.place l.from_items)) (map seen (drop l.place l.trees)) ≡ explained.named_items (map joined_tree l.from_items) (map seen l.trees)
