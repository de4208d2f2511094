use Rattle.std.proofs.Common.{◌≡◌, max, map, drop}
use Rattle.std.specs.List.{flat_map}
use Rattle.sql_ast.specs.Queries.{item_tree}
use Rattle.prepared_statements.specs.Numbers.{greatest_of, item_numbers}
use Rattle.prepared_statements.proofs.numbers.in_items.Given as goal

-- the greatest so far, and the greatest of the rest
abbrev pub invariant-loop-item : goal.invariant-loop-item
invariant-loop-item l = max l.most (greatest_of (flat_map item_numbers (map item_tree (drop l.item-index l.items)))) ≡ greatest_of (flat_map item_numbers (map item_tree l.items))
