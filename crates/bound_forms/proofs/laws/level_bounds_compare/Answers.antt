use Rattle.bound_forms.proofs.LevelLaws.{level_compare}
use Rattle.bound_forms.proofs.laws.level_bounds_compare.Goals as goal

pub returns : goal.returns
returns c = level_compare
