use Rattle.std.proofs.Common.{[], ◌∷◌}
use Rattle.sql_tokens.specs.declared.kind.TokenKind.TheVariants as kinds
use Rattle.sql_ast.specs.Queries.{maybe_tree}
use Rattle.sql_written.specs.Marks.{blank}
use Rattle.sql_written.proofs.WriteSteps.{on_ok}
use Rattle.sql_written.specs.Queries.{clause, table_marks}
use Rattle.sql_written.specs.Words.{word}
use Rattle.sql_written.proofs.WriteQueries.{three_texts}
use Rattle.sql_written.proofs.queries.write_delete.Goals as goal

pub returns : goal.returns
returns c =
    let s = c.args.delete.now in
    on_ok c.write_where.result (three_texts (word kinds.Delete ∷ blank ∷ word kinds.From ∷ blank ∷ []) (table_marks s.table) (clause kinds.Where (maybe_tree s.condition)) _ _ _ _ c.in_ok-extend_from_slice.ensures.items c.in_ok-write_table.ensures) c.write_where.ensures
