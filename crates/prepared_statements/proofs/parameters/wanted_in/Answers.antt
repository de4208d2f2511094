use Rattle.std.proofs.Common.{◌≡◌, ◌<◌, None, get_or, length, ap, ◌∙◌, arith}
use Rattle.std.proofs.lemmas.Grind.{common_steps, elements}
use Rattle.sql_ast.specs.Queries.{row_tree}
use Rattle.prepared_statements.specs.Firsts.{noted, none_known}
use Rattle.prepared_statements.specs.StatementPlaces.{statement_places}
use Rattle.prepared_statements.proofs.Firsts.{count_told}
use Rattle.prepared_statements.proofs.Wanting.{wanted_step}
use Rattle.prepared_statements.proofs.parameters.wanted_in.Goals as goal

pub loop-place-preserved : goal.loop-place-preserved
loop-place-preserved c =
    let ps = statement_places c.args.tables.now c.args.givens.now (row_tree c.args.statement.now) in
    let ds = c.args.declared.now in
    let ks = c.in_ok-placed.placed.items in
    let known : ks ≡ noted (none_known (length ds)) ps = c.in_ok-placed.ensures in
    let within : c.loop-place.place < length ks = omega (arith, ap length known ∙ count_told (length ds) ps, c.loop-place-test.true) in
    let read : c.index.result.now ≡ get_or ks c.loop-place.place None = grind (arith, common_steps, elements, within, c.index.ensures) in
    wanted_step ps ds ks c.loop-place.place c.declared_kind-own.result c.index.result.now c.wanted_for.result c.loop-place.wanted.items c.push.new.self.items _ known c.loop-place-test.true c.declared_kind-own.ensures read
    c.wanted_for.ensures c.in_ok-push.ensures.items c.loop-place.invariant
