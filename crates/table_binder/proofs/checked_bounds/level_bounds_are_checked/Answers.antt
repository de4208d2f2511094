use Rattle.table_binder.proofs.LevelGiven.{level_checked}
use Rattle.table_binder.proofs.checked_bounds.level_bounds_are_checked.Goals as goal

pub returns : goal.returns
returns c = level_checked
