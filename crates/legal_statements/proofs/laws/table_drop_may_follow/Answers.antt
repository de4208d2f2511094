use Rattle.legal_statements.proofs.Whole.{table_drop_may_follow}
use Rattle.legal_statements.proofs.laws.table_drop_may_follow.Goals as goal

pub returns : goal.returns
returns c = table_drop_may_follow
