use Rattle.bound_forms.proofs.OverlapLaws.{no_common}
use Rattle.bound_forms.proofs.laws.no_common_key.Goals as goal

pub returns : goal.returns
returns c = no_common
