use Rattle.legal_statements.proofs.Trees.{tree_is_whole}
use Rattle.legal_statements.proofs.laws.tree_is_whole.Goals as goal

pub returns : goal.returns
returns c = tree_is_whole
