use Rattle.std.proofs.Common.{◌≡◌, map, drop}
use Rattle.sql_ast.specs.Queries.{key_tree}
use Rattle.sql_binder.specs.Keys.{keys_faults}
use Rattle.sql_binder.specs.Known.{scope_of, outputs_of}
use Rattle.sql_binder.proofs.keys.check_keys.Given as goal

-- no key so far has a fault
abbrev pub invariant-loop-key : goal.invariant-loop-key
invariant-loop-key l = keys_faults (scope_of l.known) (outputs_of l.known) (map key_tree (drop l.key-index l.order)) ≡ keys_faults (scope_of l.known) (outputs_of l.known) (map key_tree l.order)
