use Rattle.statement_laws.proofs.Whole.{good_whole}
use Rattle.statement_laws.proofs.laws.whole_statements_are_plain.Goals as goal

pub returns : goal.returns
returns c = good_whole
