use Rattle.std.proofs.Common.{◌≡◌, max, map, drop}
use Rattle.std.specs.List.{flat_map}
use Rattle.sql_ast.specs.Queries.{key_tree}
use Rattle.prepared_statements.specs.Numbers.{greatest_of, key_numbers}
use Rattle.prepared_statements.proofs.numbers.in_keys.Given as goal

-- the greatest so far, and the greatest of the rest
abbrev pub invariant-loop-key : goal.invariant-loop-key
invariant-loop-key l = max l.most (greatest_of (flat_map key_numbers (map key_tree (drop l.key-index l.keys)))) ≡ greatest_of (flat_map key_numbers (map key_tree l.keys))
