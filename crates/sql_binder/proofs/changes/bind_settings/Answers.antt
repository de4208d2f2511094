use Rattle.sql_binder.proofs.Settings.{faults_next, made_next}
use Rattle.cond_logic.specs.Asked.{setting_meant}
use Rattle.sql_binder.proofs.changes.bind_settings.Goals as goal

pub loop-assignment-preserved : goal.loop-assignment-preserved
loop-assignment-preserved c =
    let item = c.args.item.now in
    let s = c.args.names.now in
    let y = setting_meant c.in_ok-setting.setting in
    record {
      faults = faults_next item s c.args.settings.now c.loop-assignment.assignment-index c.assignment-item.result y c.loop-assignment-test.true c.assignment-item.is c.in_ok-setting.ensures _ c.loop-assignment.invariant.faults;
      made = made_next item s c.args.settings.now c.loop-assignment.assignment-index c.assignment-item.result y c.loop-assignment-test.true c.assignment-item.is c.in_ok-setting.ensures _ _ _ c.in_ok-add.ensures c.loop-assignment.invariant.made;
    }
