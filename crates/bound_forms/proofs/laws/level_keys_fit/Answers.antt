use Rattle.bound_forms.proofs.LevelKeys.{level_keys, level_keys_sets}
use Rattle.bound_forms.proofs.laws.level_keys_fit.Goals as goal

pub returns-clause-each : goal.returns-clause-each
returns-clause-each c = level_keys

pub returns-clause-set : goal.returns-clause-set
returns-clause-set c = level_keys_sets
