use Rattle.std.proofs.Common.{ap, length, ◌∙◌}
use Rattle.cond_logic.specs.Asked.{setting_meant}
use Rattle.change_statement.proofs.NewRows.{set_fits, set_long, set_more}
use Rattle.change_statement.proofs.settings.new_row.Goals as goal

pub loop-setting-preserved : goal.loop-setting-preserved
loop-setting-preserved c =
    let set = c.set_at.ensures in
    record {
      rest = rw set (set_more c.args.columns.now c.args.row.now c.loop-setting.values.items c.args.settings.now c.loop-setting.setting-index c.setting-item.result c.in_ok-value.value _ c.loop-setting-test.true c.setting-item.is c.loop-setting.invariant.rest c.in_ok-value.ensures);
      long = ap length set ∙ set_long c.loop-setting.values.items c.setting-item.result.column c.in_ok-value.value ∙ c.loop-setting.invariant.long;
      fits = λ all. rw set (set_fits c.args.columns.now c.args.row.now c.loop-setting.values.items (setting_meant c.setting-item.result) c.in_ok-value.value c.in_ok-value.ensures (c.loop-setting.invariant.fits all));
    }
