use Rattle.select_statement.proofs.Written.{plain_with}
use Rattle.select_statement.proofs.laws.plain_with_values.Goals as goal

pub returns : goal.returns
returns c = plain_with
