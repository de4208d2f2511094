use Rattle.sql_ast.specs.Expressions.{tree}
use Rattle.sql_written.specs.Written.{marks}
use Rattle.sql_written.proofs.WriteSteps.{behind, on_ok}
use Rattle.sql_written.specs.Queries.{alias_marks}
use Rattle.sql_written.proofs.query_parts.write_output.Goals as goal

pub returns : goal.returns
returns c =
    on_ok c.write_alias.result (λ k. behind (marks (tree c.args.value.now)) (alias_marks c.args.alias.now) _ _ _ c.in_ok-write_expression.ensures.ok k) c.write_alias.ensures
