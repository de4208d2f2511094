use Rattle.std.proofs.Common.{◌≡◌, drop, map}
use Rattle.std.specs.List.{list_any}
use Rattle.cond_logic.specs.Asked.{setting_meant}
use Rattle.statement_steps.specs.Gathered.{is_set}
use Rattle.change_statement.proofs.keeping.is_one_set.Given as goal

abbrev pub invariant-loop-column : goal.invariant-loop-column
invariant-loop-column l = list_any (is_set (map setting_meant l.settings)) (drop l.column-index l.columns) ≡ list_any (is_set (map setting_meant l.settings)) l.columns
