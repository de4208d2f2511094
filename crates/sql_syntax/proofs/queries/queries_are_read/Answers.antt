use Rattle.grammar.proofs.WholeLaws.{parses}
use Rattle.sql_syntax.proofs.QueryLaws.{query_law}
use Rattle.sql_syntax.proofs.queries.queries_are_read.Goals as goal

pub returns : goal.returns
returns c text tokens read h = parses (λ x. x) tokens read (query_law text) h
