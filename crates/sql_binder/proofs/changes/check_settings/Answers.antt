use Rattle.std.proofs.lemmas.Result.{err_from_is_err_and}
use Rattle.sql_binder.proofs.EarlierColumns.{settings_stop, settings_go}
use Rattle.sql_binder.proofs.changes.check_settings.Goals as goal

pub returns-in_err-check_setting : goal.returns-in_err-check_setting
returns-in_err-check_setting c =
    let p = err_from_is_err_and c.from_residual.result c.from_residual.ensures.1 in
    rw (p.1, p.2) (settings_stop c.args.item.now c.args.names.now c.args.settings.now c.loop-place.place c.index-settings-place.result c.loop-place-test.true c.index-settings-place.is _ c.loop-place.invariant _ c.in_err-check_setting.ensures)

pub loop-place-preserved : goal.loop-place-preserved
loop-place-preserved c = settings_go c.args.item.now c.args.names.now c.args.settings.now c.loop-place.place c.index-settings-place.result c.loop-place-test.true c.index-settings-place.is _ c.loop-place.invariant _ c.in_ok-check_setting.ensures
