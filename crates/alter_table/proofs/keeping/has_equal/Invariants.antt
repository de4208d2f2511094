use Rattle.std.proofs.Common.{◌≡◌, drop}
use Rattle.std.specs.List.{list_any}
use Rattle.alter_table.proofs.keeping.has_equal.Given as goal
use Rattle.ddl_steps.specs.Checks.{same_check}

abbrev pub invariant-loop-other : goal.invariant-loop-other
invariant-loop-other l = list_any (λ k. same_check k l.check) (drop l.other-index l.checks) ≡ list_any (λ k. same_check k l.fn.check) l.fn.checks
