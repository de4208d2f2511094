use Rattle.bound_forms.proofs.LevelLaws.{level_fits}
use Rattle.bound_forms.proofs.laws.level_bounds_fit.Goals as goal

pub returns : goal.returns
returns c = level_fits
