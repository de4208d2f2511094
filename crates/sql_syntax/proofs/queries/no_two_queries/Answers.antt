use Rattle.grammar.proofs.WholeLaws.{one_value}
use Rattle.sql_syntax.proofs.QueryLaws.{query_law}
use Rattle.sql_syntax.proofs.queries.no_two_queries.Goals as goal

pub returns : goal.returns
returns c text tokens x y w v = one_value (query_law text) tokens x y w v
