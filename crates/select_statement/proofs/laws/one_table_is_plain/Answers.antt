use Rattle.select_statement.proofs.Plain.{one_table_plain}
use Rattle.select_statement.proofs.laws.one_table_is_plain.Goals as goal

pub returns : goal.returns
returns c = one_table_plain c.good_is_legal.ensures c.leaves_are_few.ensures c.one_item_is_read_once.ensures c.pruned_is_plain.ensures
