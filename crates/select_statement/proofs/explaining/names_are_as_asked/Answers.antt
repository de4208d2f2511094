use Rattle.select_statement.proofs.Named.{columns_as_asked, items_as_asked}
use Rattle.select_statement.proofs.explaining.names_are_as_asked.Goals as goal

pub returns-clause-columns : goal.returns-clause-columns
returns-clause-columns c = columns_as_asked

pub returns-clause-items : goal.returns-clause-items
returns-clause-items c = items_as_asked
