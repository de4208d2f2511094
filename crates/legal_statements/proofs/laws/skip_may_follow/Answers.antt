use Rattle.legal_statements.proofs.Adding.{skip_may_follow}
use Rattle.legal_statements.proofs.laws.skip_may_follow.Goals as goal

pub returns : goal.returns
returns c = skip_may_follow
