use Rattle.std.proofs.Common.{◌≡◌, drop, length, map}
use Rattle.row_router.specs.Trees.{IsRowOf}
use Rattle.cond_logic.specs.Asked.{setting_meant}
use Rattle.change_statement.specs.NewRows.{set_in}
use Rattle.change_statement.proofs.settings.new_row.Given as goal

-- the settings that are left make of the row what all make
abbrev pub invariant-loop-setting : goal.invariant-loop-setting
invariant-loop-setting l = record {
  rest : set_in l.columns l.row l.values.items (map setting_meant (drop l.setting-index l.settings)) ≡ set_in l.columns l.row l.row (map setting_meant l.settings);
  long : length l.values.items ≡ length l.row;
  fits : IsRowOf l.columns l.row → IsRowOf l.columns l.values.items;
}
