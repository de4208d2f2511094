use Rattle.std.proofs.Common.{refl, arith, ◌+◌, map, drop, ap, ◌∙◌}
use Rattle.sql_ast.specs.Expressions.{tree, listed}
use Rattle.expression_binder.proofs.Trees.{parts_step}
use Rattle.prepared_statements.specs.Firsts.{noted}
use Rattle.prepared_statements.specs.StatementPlaces.{column_kind, first_kind as first_of, value_place, value_places}
use Rattle.prepared_statements.proofs.Loops.{is_noted, all_noted, map_later}
use Rattle.prepared_statements.proofs.changes.note_row.Goals as goal

pub loop-e-preserved : goal.loop-e-preserved
loop-e-preserved c =
    let gs = c.args.givens.now in
    let ks = map column_kind c.loop-e.wanted.now in
    let ts = listed (map tree (drop (c.loop-e.e-index + 1) c.args.row.now)) in
    ap (λ later. noted c.note_value.new.firsts (value_places gs later ts)) (ap (map column_kind) c.later_columns-wanted.ensures ∙ map_later column_kind c.loop-e.wanted.now)
    ∙ is_noted _ _ (value_place gs (first_of ks) (tree c.e-item.result)) (value_places gs (drop 1 ks) ts) (value_places gs ks (listed (map tree (drop c.loop-e.e-index c.args.row.now)))) _
    (ap (value_places gs ks) (parts_step c.args.row.now c.loop-e.e-index c.e-item.result c.loop-e-test.true c.e-item.is)) c.loop-e.invariant
    (c.note_value.ensures ∙ ap (λ k. noted c.loop-e.firsts (value_place gs k (tree c.e-item.result))) c.first_kind.ensures)

pub returns : goal.returns
returns c =
    all_noted tree (λ ts. value_places c.args.givens.now (map column_kind c.loop-e.wanted.now) (listed ts)) refl c.loop-e.firsts _ c.args.row.now c.loop-e.e-index (omega (arith, c.loop-e-test.false)) c.loop-e.invariant
