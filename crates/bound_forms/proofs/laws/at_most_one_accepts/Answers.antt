use Rattle.bound_forms.proofs.OverlapLaws.{at_most_one_among}
use Rattle.bound_forms.proofs.laws.at_most_one_accepts.Goals as goal

pub returns : goal.returns
returns c = at_most_one_among
