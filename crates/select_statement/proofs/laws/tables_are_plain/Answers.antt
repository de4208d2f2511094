use Rattle.select_statement.proofs.Plain.{tables_plain}
use Rattle.select_statement.proofs.laws.tables_are_plain.Goals as goal

pub returns : goal.returns
returns c = tables_plain c.good_is_legal.ensures c.pruned_is_plain.ensures
