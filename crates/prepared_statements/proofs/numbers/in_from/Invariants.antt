use Rattle.std.proofs.Common.{◌≡◌, max, map, drop}
use Rattle.std.specs.List.{flat_map}
use Rattle.sql_ast.specs.Queries.{joined_tree}
use Rattle.prepared_statements.specs.Numbers.{greatest_of, joined_numbers}
use Rattle.prepared_statements.proofs.numbers.in_from.Given as goal

-- the greatest so far, and the greatest of the rest
abbrev pub invariant-loop-table : goal.invariant-loop-table
invariant-loop-table l = max l.most (greatest_of (flat_map joined_numbers (map joined_tree (drop l.table-index l.tables)))) ≡ greatest_of (flat_map joined_numbers (map joined_tree l.tables))
