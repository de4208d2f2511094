use Rattle.bound_forms.proofs.OverlapLaws.{default_rest}
use Rattle.bound_forms.proofs.laws.default_accepts_the_rest.Goals as goal

pub returns : goal.returns
returns c = default_rest
