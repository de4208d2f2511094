use Rattle.bound_forms.proofs.LevelLaws.{level_kind, level_filled}
use Rattle.bound_forms.proofs.laws.level_bounds_have_a_kind.Goals as goal

pub returns-clause-kind : goal.returns-clause-kind
returns-clause-kind c = level_kind

pub returns-clause-filled : goal.returns-clause-filled
returns-clause-filled c = level_filled
