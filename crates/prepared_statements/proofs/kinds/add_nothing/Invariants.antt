use Rattle.std.proofs.Common.{◌≡◌, ◌++◌, None, replicate}
use Rattle.prepared_statements.proofs.kinds.add_nothing.Given as goal

-- as many as have been added
abbrev pub invariant-loop : goal.invariant-loop
invariant-loop l = l.declared.items ≡ l.fn.declared.items ++ replicate l.counter None
