use Rattle.std.proofs.Common.{◌≡◌, ◌++◌, map, drop}
use Rattle.sql_ast.specs.Queries.{key_tree}
use Rattle.sql_binder.specs.Keys.{keys_constants, sort_keys}
use Rattle.sql_binder.specs.Known.{scope_of, outputs_of}
use Rattle.sql_binder.proofs.keys.bind_keys.Given as goal

-- no key so far has a fault, and they stand before the rest
abbrev pub invariant-loop-key : goal.invariant-loop-key
invariant-loop-key l = record {
  faults : keys_constants (map key_tree (drop l.key-index l.order)) ≡ keys_constants (map key_tree l.order);
  made : l.sort.items ++ sort_keys (scope_of l.known) (outputs_of l.known) (map key_tree (drop l.key-index l.order)) ≡ sort_keys (scope_of l.known) (outputs_of l.known) (map key_tree l.order);
}
