use Rattle.bound_forms.proofs.WithinLaws
use Rattle.bound_forms.proofs.laws.within_accepts.Goals as goal

pub returns : goal.returns
returns c = WithinLaws.within_accepts
