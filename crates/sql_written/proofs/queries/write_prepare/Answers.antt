use Rattle.sql_ast.specs.Queries.{row_tree}
use Rattle.sql_written.proofs.WriteSteps.{on_ok}
use Rattle.sql_written.proofs.WriteQueries.{prepare_text}
use Rattle.sql_written.proofs.queries.write_prepare.Goals as goal

pub returns : goal.returns
returns c =
    on_ok c.write_row_statement.result
    (prepare_text c.args.name.now c.args.kinds.now (row_tree c.args.statement.now) _ _ _ _ _ _ c.in_ok-extend_from_slice.ensures.items c.in_ok-write_prepared_name.ensures
    c.in_ok-write_kinds.ensures c.in_ok-extend_from_slice-2.ensures.items) c.write_row_statement.ensures
