use Rattle.std.proofs.Common.{sym, ◌∙◌}
use Rattle.sql_ast.specs.Expressions.{trees}
use Rattle.sql_written.proofs.WriteQueries.{arguments_text}
use Rattle.sql_written.proofs.queries.write_arguments.Goals as goal

pub returns-in_ok-write_enclosed_values : goal.returns-in_ok-write_enclosed_values
returns-in_ok-write_enclosed_values c =
    arguments_text c.as_slice.result.now (trees c.args.arguments.now) _ _ c.as_slice.ensures (sym c.is_empty.ensures ∙ c.if-not-is_empty.true) c.in_ok-write_enclosed_values.ensures
