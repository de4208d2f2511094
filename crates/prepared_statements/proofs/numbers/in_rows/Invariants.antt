use Rattle.std.proofs.Common.{◌≡◌, max, map, drop}
use Rattle.std.specs.List.{flat_map}
use Rattle.sql_ast.specs.Expressions.{trees}
use Rattle.prepared_statements.specs.Numbers.{greatest_of, all_numbers}
use Rattle.prepared_statements.proofs.numbers.in_rows.Given as goal

-- the greatest so far, and the greatest of the rest
abbrev pub invariant-loop-row : goal.invariant-loop-row
invariant-loop-row l = max l.most (greatest_of (flat_map all_numbers (map trees (drop l.row-index l.rows)))) ≡ greatest_of (flat_map all_numbers (map trees l.rows))
