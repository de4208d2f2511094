use Rattle.bound_forms.proofs.LevelKeys.{row_keys}
use Rattle.bound_forms.proofs.laws.rows_give_keys.Goals as goal

pub returns : goal.returns
returns c = row_keys
