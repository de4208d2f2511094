use Rattle.legal_statements.proofs.Dropping.{drop_may_follow}
use Rattle.legal_statements.proofs.laws.drop_may_follow.Goals as goal

pub returns : goal.returns
returns c = drop_may_follow
