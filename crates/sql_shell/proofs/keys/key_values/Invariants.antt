use Rattle.std.proofs.Common.{◌++◌, List, drop}
use Rattle.std.specs.List.{AllZip}
use Rattle.pg_values.specs.declared.value.Value.{Value}
use Rattle.bound_forms.specs.Levels.{ComparesWith}
use Rattle.sql_shell.proofs.keys.key_values.Given as goal

-- values for the further columns make it whole
abbrev pub invariant-loop-column : goal.invariant-loop-column
invariant-loop-column l = (rest : List Value) → AllZip (λ c v. ComparesWith c.kind v) (drop l.column-index l.columns) rest → AllZip (λ c v. ComparesWith c.kind v) l.columns (l.row ++ rest)
