use Rattle.legal_statements.proofs.Storing.{old_row_may_follow}
use Rattle.legal_statements.proofs.laws.old_row_may_follow.Goals as goal

pub returns : goal.returns
returns c = old_row_may_follow
