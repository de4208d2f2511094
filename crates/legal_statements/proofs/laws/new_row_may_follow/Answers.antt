use Rattle.legal_statements.proofs.Storing.{new_row_may_follow}
use Rattle.legal_statements.proofs.laws.new_row_may_follow.Goals as goal

pub returns : goal.returns
returns c = new_row_may_follow
