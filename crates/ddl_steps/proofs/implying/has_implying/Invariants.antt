use Rattle.std.proofs.Common.{◌≡◌, drop}
use Rattle.std.specs.List.{list_any}
use Rattle.ddl_steps.proofs.implying.has_implying.Given as goal
use Rattle.ddl_steps.specs.Checks.{implies}

abbrev pub invariant-loop-other : goal.invariant-loop-other
invariant-loop-other l = list_any (implies l.level l.bound) (drop l.other-index l.checks) ≡ list_any (implies l.fn.level l.fn.bound) l.fn.checks
