use Rattle.legal_statements.proofs.Marking.{mark_may_follow}
use Rattle.legal_statements.proofs.laws.mark_may_follow.Goals as goal

pub returns : goal.returns
returns c = mark_may_follow
