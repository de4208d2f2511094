use Rattle.legal_statements.proofs.Following.{followed_is_legal}
use Rattle.legal_statements.proofs.laws.followed_is_legal.Goals as goal

pub returns : goal.returns
returns c = followed_is_legal
