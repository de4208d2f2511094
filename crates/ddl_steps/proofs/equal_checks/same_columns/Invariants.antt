use Rattle.std.proofs.Common.{◌≡◌, drop}
use Rattle.ddl_steps.proofs.equal_checks.same_columns.Given as goal
use Rattle.ddl_steps.specs.Checks.{same_columns}

abbrev pub invariant-loop-column : goal.invariant-loop-column
invariant-loop-column l = same_columns (drop l.column-index l.a) l.left ≡ same_columns l.fn.a l.fn.b
