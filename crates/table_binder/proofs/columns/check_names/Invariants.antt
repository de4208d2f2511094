use Rattle.std.proofs.Common.{◌≡◌, [], take, drop}
use Rattle.refusals.specs.Refusals.{column_twice}
use Rattle.table_binder.specs.Columns.{names_of}
use Rattle.table_binder.specs.Names.{twice_faults}
use Rattle.table_binder.proofs.columns.check_names.Given as goal

-- no name so far stands twice
abbrev pub invariant-loop-place : goal.invariant-loop-place
invariant-loop-place l = twice_faults column_twice (names_of (take l.place l.columns)) (names_of (drop l.place l.columns)) ≡ twice_faults column_twice [] (names_of l.columns)
