use Rattle.std.proofs.Common.{refl, arith, map, ap, ◌∙◌}
use Rattle.sql_ast.specs.Expressions.{trees}
use Rattle.prepared_statements.specs.Firsts.{noted}
use Rattle.prepared_statements.specs.StatementPlaces.{column_kind, row_places, value_places}
use Rattle.prepared_statements.proofs.Loops.{part_noted, all_noted}
use Rattle.prepared_statements.proofs.changes.note_rows.Goals as goal

pub loop-row-preserved : goal.loop-row-preserved
loop-row-preserved c =
    let ks = map column_kind c.args.columns.now in
    part_noted trees (row_places c.args.givens.now ks) (value_places c.args.givens.now ks) (λ r rs. refl) _ _ c.args.rows.now c.loop-row.row-index c.row-item.result _ c.loop-row-test.true c.row-item.is c.loop-row.invariant
    (c.note_row.ensures ∙ ap (λ ts. noted c.loop-row.firsts (value_places c.args.givens.now ks ts)) c.as_slice.ensures)

pub returns : goal.returns
returns c = all_noted trees (row_places c.args.givens.now (map column_kind c.args.columns.now)) refl c.loop-row.firsts _ c.args.rows.now c.loop-row.row-index (omega (arith, c.loop-row-test.false)) c.loop-row.invariant
