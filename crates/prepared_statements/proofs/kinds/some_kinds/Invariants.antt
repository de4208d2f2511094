use Rattle.std.proofs.Common.{◌≡◌, ◌++◌, Some, map, drop}
use Rattle.prepared_statements.proofs.kinds.some_kinds.Given as goal

-- those so far stand before the rest
abbrev pub invariant-loop-kind : goal.invariant-loop-kind
invariant-loop-kind l = l.declared.items ++ map (λ k. Some k) (drop l.kind-index l.kinds) ≡ map (λ k. Some k) l.kinds
