use Rattle.std.proofs.Common.{◌≡◌, [], map, take, drop}
use Rattle.sql_ast.specs.Queries.{setting}
use Rattle.sql_binder.specs.Changes.{column_set, settings_faults}
use Rattle.sql_binder.proofs.changes.check_settings.Given as goal

-- no setting so far has a fault
abbrev pub invariant-loop-place : goal.invariant-loop-place
invariant-loop-place l = settings_faults l.item l.names (map column_set (map setting (take l.place l.settings))) (map setting (drop l.place l.settings)) ≡ settings_faults l.item l.names [] (map setting l.settings)
