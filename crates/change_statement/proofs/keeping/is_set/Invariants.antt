use Rattle.std.proofs.Common.{◌≡◌, drop, map}
use Rattle.cond_logic.specs.Asked.{setting_meant}
use Rattle.statement_steps.specs.Gathered.{is_set}
use Rattle.change_statement.proofs.keeping.is_set.Given as goal

abbrev pub invariant-loop-setting : goal.invariant-loop-setting
invariant-loop-setting l = is_set (map setting_meant (drop l.setting-index l.settings)) l.column ≡ is_set (map setting_meant l.settings) l.column
