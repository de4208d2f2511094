use Rattle.sql_ast.specs.Expressions.{tree}
use Rattle.sql_written.specs.Written.{marks}
use Rattle.sql_written.proofs.WriteSteps.{on_ok}
use Rattle.sql_written.specs.Queries.{direction_marks, nulls_marks}
use Rattle.sql_written.proofs.WriteQueries.{three_texts}
use Rattle.sql_written.proofs.query_parts.EachKeyPart.write.Goals as goal

pub returns : goal.returns
returns c =
    let k = c.args.part.now in
    on_ok c.write_nulls.result (λ n. three_texts (marks (tree k.value)) (direction_marks k.descending) (nulls_marks k.descending k.nulls_first) _ _ _ _ c.in_ok-write_expression.ensures.ok c.in_ok-write_direction.ensures n) c.write_nulls.ensures
