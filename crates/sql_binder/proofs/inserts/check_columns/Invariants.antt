use Rattle.std.proofs.Common.{◌≡◌, [], take, drop}
use Rattle.sql_binder.specs.Inserts.{column_faults}
use Rattle.sql_binder.proofs.inserts.check_columns.Given as goal

-- no column so far has a fault
abbrev pub invariant-loop-place : goal.invariant-loop-place
invariant-loop-place l = column_faults l.columns (take l.place l.names) (drop l.place l.names) ≡ column_faults l.columns [] l.names
