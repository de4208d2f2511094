use Rattle.legal_statements.proofs.Making.{new_level_may_follow}
use Rattle.legal_statements.proofs.laws.new_level_may_follow.Goals as goal

pub returns : goal.returns
returns c = new_level_may_follow
