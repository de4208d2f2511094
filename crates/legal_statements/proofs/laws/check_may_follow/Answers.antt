use Rattle.legal_statements.proofs.Adding.{check_may_follow}
use Rattle.legal_statements.proofs.laws.check_may_follow.Goals as goal

pub returns : goal.returns
returns c = check_may_follow
