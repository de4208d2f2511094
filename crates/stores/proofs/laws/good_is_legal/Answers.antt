use Rattle.stores.proofs.Goodness.{legal_of, permitted_of}
use Rattle.stores.proofs.laws.good_is_legal.Goals as goal

pub returns : goal.returns
returns c = λ h good. (legal_of h good, permitted_of h good)
