use Rattle.legal_statements.proofs.Adding.{attach_may_follow}
use Rattle.legal_statements.proofs.laws.attach_may_follow.Goals as goal

pub returns : goal.returns
returns c = attach_may_follow
