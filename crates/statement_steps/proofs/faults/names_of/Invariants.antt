use Rattle.std.proofs.Common.{◌≡◌, map, take}
use Rattle.pg_values.specs.Lists.{listed}
use Rattle.statement_steps.specs.Faults as faults
use Rattle.statement_steps.proofs.faults.names_of.Given as goal

abbrev pub invariant-loop-place : goal.invariant-loop-place
invariant-loop-place l = l.args ≡ map (faults.name_of l.fn.attempt.names.now) (take l.place (listed l.fn.cycle))
