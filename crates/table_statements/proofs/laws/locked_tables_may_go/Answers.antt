use Rattle.table_statements.proofs.Free.{locked_tables_may_go}
use Rattle.table_statements.proofs.laws.locked_tables_may_go.Goals as goal

pub returns : goal.returns
returns c = locked_tables_may_go
