use Rattle.std.proofs.Common.{◌≡◌, ◌++◌, map, drop}
use Rattle.sql_ast.specs.Queries.{setting}
use Rattle.sql_binder.specs.Changes.{settings_constants, settings_meant}
use Rattle.cond_logic.specs.Asked.{setting_meant}
use Rattle.sql_binder.proofs.changes.bind_settings.Given as goal

-- no setting so far has a fault, and they stand before the rest
abbrev pub invariant-loop-assignment : goal.invariant-loop-assignment
invariant-loop-assignment l = record {
  faults : settings_constants l.item l.names (map setting (drop l.assignment-index l.settings)) ≡ settings_constants l.item l.names (map setting l.settings);
  made : map setting_meant l.made.items ++ settings_meant l.item l.names (map setting (drop l.assignment-index l.settings)) ≡ settings_meant l.item l.names (map setting l.settings);
}
