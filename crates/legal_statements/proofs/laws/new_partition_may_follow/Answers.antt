use Rattle.legal_statements.proofs.Adding.{new_partition_may_follow}
use Rattle.legal_statements.proofs.laws.new_partition_may_follow.Goals as goal

pub returns : goal.returns
returns c = new_partition_may_follow
