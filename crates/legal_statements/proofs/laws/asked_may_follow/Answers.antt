use Rattle.legal_statements.proofs.Asking.{asked_may_follow}
use Rattle.legal_statements.proofs.laws.asked_may_follow.Goals as goal

pub returns : goal.returns
returns c = asked_may_follow
