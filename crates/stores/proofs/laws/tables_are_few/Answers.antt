use Rattle.stores.proofs.Housed.{tables_are_few}
use Rattle.stores.proofs.laws.tables_are_few.Goals as goal

pub returns : goal.returns
returns c = tables_are_few
