use Rattle.select_statement.proofs.Few.{leaves_few}
use Rattle.select_statement.proofs.laws.leaves_are_few.Goals as goal

pub returns : goal.returns
returns c = leaves_few
