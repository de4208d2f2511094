use Rattle.std.proofs.Common.{List, map}
use Rattle.sql_tokens.specs.declared.kind.TokenKind.TheVariants as kinds
use Rattle.sql_ast.specs.Queries.{maybe_tree, setting}
use Rattle.sql_ast.specs.declared.changes.Assignment.{Assignment}
use Rattle.sql_written.specs.Marks.{text_of}
use Rattle.sql_written.proofs.WriteSteps.{on_ok}
use Rattle.sql_written.specs.Lists.{parts}
use Rattle.sql_written.specs.Queries.{clause, setting_marks, table_marks}
use Rattle.sql_written.proofs.WriteQueries.{same, update_text}
use Rattle.sql_written.proofs.queries.write_update.Goals as goal

pub returns : goal.returns
returns c =
    let s = c.args.update.now in
    on_ok c.write_where.result
    (λ k. update_text (table_marks s.table) (parts setting_marks (map setting s.assignments)) (clause kinds.Where (maybe_tree s.condition)) _ _ _ _ _ _ c.in_ok-extend_from_slice.ensures.items c.in_ok-write_table.ensures
    c.in_ok-extend_from_slice-2.ensures.items (same (λ (xs : List Assignment). text_of (parts setting_marks (map setting xs))) _ _ _ _ c.as_slice.ensures c.in_ok-write_assignments.ensures) k) c.write_where.ensures
