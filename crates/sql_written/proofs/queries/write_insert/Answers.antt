use Rattle.std.proofs.Common.{ℕ, List, map}
use Rattle.sql_ast.specs.Expressions.{trees}
use Rattle.sql_ast.specs.declared.expr.ExprList.{ExprList}
use Rattle.sql_written.specs.Marks.{bytes_of, text_of}
use Rattle.sql_written.specs.Spelling as spelled
use Rattle.sql_written.proofs.WriteSteps.{on_ok}
use Rattle.sql_written.specs.Lists.{parts}
use Rattle.sql_written.specs.Queries.{columns_marks, row_marks}
use Rattle.sql_written.proofs.WriteQueries.{insert_text, same}
use Rattle.sql_written.proofs.queries.write_insert.Goals as goal

pub returns : goal.returns
returns c =
    let s = c.args.insert.now in
    on_ok c.write_rows.result
    (λ k. insert_text s.table (columns_marks s.columns) (parts row_marks (map trees s.rows)) _ _ _ _ _ _ c.in_ok-extend_from_slice.ensures.items
    (same (λ (z : List ℕ). bytes_of (spelled.name z)) _ _ _ _ c.as_bytes.ensures c.in_ok-write_name.ensures.ok)
    c.in_ok-write_columns.ensures c.in_ok-extend_from_slice-2.ensures.items
    (same (λ (xs : List ExprList). text_of (parts row_marks (map trees xs))) _ _ _ _ c.as_slice.ensures k)) c.write_rows.ensures
