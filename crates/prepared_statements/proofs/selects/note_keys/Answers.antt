use Rattle.std.proofs.Common.{refl, arith}
use Rattle.sql_ast.specs.Queries.{key_tree}
use Rattle.prepared_statements.specs.ParameterPlaces.{places}
use Rattle.prepared_statements.specs.StatementPlaces.{keys_places}
use Rattle.prepared_statements.proofs.Loops.{part_noted, all_noted}
use Rattle.prepared_statements.proofs.selects.note_keys.Goals as goal

pub loop-key-preserved : goal.loop-key-preserved
loop-key-preserved c =
    part_noted key_tree (keys_places c.args.names.now c.args.givens.now) (λ k. places c.args.names.now c.args.givens.now k.0) (λ k ks. refl) _ _ c.args.keys.now c.loop-key.key-index c.key-item.result _ c.loop-key-test.true c.key-item.is
    c.loop-key.invariant c.note_in.ensures

pub returns : goal.returns
returns c = all_noted key_tree (keys_places c.args.names.now c.args.givens.now) refl c.loop-key.firsts _ c.args.keys.now c.loop-key.key-index (omega (arith, c.loop-key-test.false)) c.loop-key.invariant
