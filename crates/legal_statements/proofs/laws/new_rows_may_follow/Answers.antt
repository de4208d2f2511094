use Rattle.legal_statements.proofs.Births.{new_rows_may_follow}
use Rattle.legal_statements.proofs.laws.new_rows_may_follow.Goals as goal

pub returns : goal.returns
returns c = new_rows_may_follow
