use Rattle.sql_written.proofs.Fewest.{no_fewer}
use Rattle.sql_written.proofs.laws.no_fewer_parentheses.Goals as goal

pub returns : goal.returns
returns c tree text tokens w h = no_fewer tree w.0 text tokens h
