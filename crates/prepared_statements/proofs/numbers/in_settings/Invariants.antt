use Rattle.std.proofs.Common.{◌≡◌, max, map, drop}
use Rattle.std.specs.List.{flat_map}
use Rattle.sql_ast.specs.Queries.{setting}
use Rattle.prepared_statements.specs.Numbers.{greatest_of, setting_numbers}
use Rattle.prepared_statements.proofs.numbers.in_settings.Given as goal

-- the greatest so far, and the greatest of the rest
abbrev pub invariant-loop-assignment : goal.invariant-loop-assignment
invariant-loop-assignment l = max l.most (greatest_of (flat_map setting_numbers (map setting (drop l.assignment-index l.settings)))) ≡ greatest_of (flat_map setting_numbers (map setting l.settings))
