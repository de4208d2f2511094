use Rattle.legal_statements.proofs.Others.{nobody_else_drops}
use Rattle.legal_statements.proofs.laws.nobody_else_drops.Goals as goal

pub returns : goal.returns
returns c = nobody_else_drops
