use Rattle.std.proofs.Common.{refl, arith, ◌+◌, map, drop, ap, ◌∙◌}
use Rattle.sql_ast.specs.Queries.{joined_tree, maybe_tree}
use Rattle.sql_binder.specs.From.{start_of}
use Rattle.expression_binder.proofs.Lists.{later_step}
use Rattle.prepared_statements.specs.Firsts.{noted}
use Rattle.prepared_statements.specs.StatementPlaces.{on_place, on_places}
use Rattle.prepared_statements.proofs.Loops.{is_noted, all_noted}
use Rattle.prepared_statements.proofs.selects.note_joins.Goals as goal

pub loop-place-preserved : goal.loop-place-preserved
loop-place-preserved c =
    let items = c.args.items.now in
    let gs = c.args.givens.now in
    let start = c.loop-place.start in
    let i = c.loop-place.place in
    let on = maybe_tree c.index-tables-place.result.on in
    let rest = map joined_tree (drop (i + 1) c.args.tables.now) in
    ap (λ s. noted c.note_on.new.firsts (on_places items gs s (i + 1) rest)) c.next_start-start.ensures
    ∙ is_noted _ _ (on_place items gs start i on) (on_places items gs (start_of start i on) (i + 1) rest) (on_places items gs start i (map joined_tree (drop i c.args.tables.now))) _
    (ap (on_places items gs start i) (later_step joined_tree c.args.tables.now i c.index-tables-place.result c.loop-place-test.true c.index-tables-place.is)) c.loop-place.invariant c.note_on.ensures

pub returns : goal.returns
returns c =
    all_noted joined_tree (on_places c.args.items.now c.args.givens.now c.loop-place.start c.loop-place.place) refl c.loop-place.firsts _ c.args.tables.now c.loop-place.place (omega (arith, c.loop-place-test.false)) c.loop-place.invariant
