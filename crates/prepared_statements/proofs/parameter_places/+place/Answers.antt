use Rattle.std.proofs.Common.{◌≡◌, ◌+◌, true, map, drop, refl, ap, ◌∙◌, arith}
use Rattle.sql_ast.specs.declared.expr.Expr.{Binary, Between, In}
use Rattle.sql_ast.specs.Expressions.{tree, trees, listed, binary, in_list, between}
use Rattle.expression_binder.proofs.Trees.{part_less, parts_step, binary_is, between_is}
use Rattle.prepared_statements.specs.Firsts.{noted}
use Rattle.prepared_statements.specs.ParameterPlaces.{given, part, part_places, places}
use Rattle.prepared_statements.proofs.Firsts.{noted_none}
use Rattle.prepared_statements.proofs.Loops.{all_noted}
use Rattle.prepared_statements.proofs.Operands.{leaf_is, call_of_all_is, in_is, binary_noted, in_noted, between_noted, part_passed}
use Rattle.prepared_statements.proofs.parameter_places.+place.Goals as goal

pub note_parts-note_part-requires : goal.note_parts-note_part-requires
note_parts-note_part-requires t c = let w = part_less c.args.parts.now c.loop-part.part-index c.part-item.result c.loop-part-test.true c.part-item.is in (omega (arith, w), tt)

pub note_parts-loop-part-preserved : goal.note_parts-loop-part-preserved
note_parts-loop-part-preserved t c =
    part_passed c.args.names.now c.args.givens.now c.args.kind (tree c.part-item.result) (listed (map tree (drop c.loop-part.part-index c.args.parts.now))) (listed (map tree (drop (c.loop-part.part-index + 1) c.args.parts.now)))
    _ _ _ (parts_step c.args.parts.now c.loop-part.part-index c.part-item.result c.loop-part-test.true c.part-item.is) c.loop-part.invariant c.note_part.ensures

pub note_in-returns-in-Binary : goal.note_in-returns-in-Binary
note_in-returns-in-Binary t c =
    let s = c.args.names.now in
    let gs = c.args.givens.now in
    let o = c.in-Binary.operator in
    let x = tree c.deref-in-Binary-2.result.now in
    let y = tree c.deref-in-Binary.result.now in
    let h0 : tree (Binary o c.in-Binary.x c.in-Binary.y) ≡ binary o (tree c.in-Binary.x.value) (tree c.in-Binary.y.value) = binary_is true c.in-Binary.x c.in-Binary.x c.in-Binary.y o in
    let h = ap tree c.in-Binary.is ∙ h0 in
    let e : tree c.args.e.now ≡ binary o x y = cc h in
    let hx : c.given_of-in-Binary.result ≡ given s gs x = cc c.given_of-in-Binary.ensures in
    let hy : c.given_of.result ≡ given s gs y = cc c.given_of.ensures in
    let ha : c.note_part-in-Binary.new.firsts ≡ noted c.args.firsts.now (part s gs c.beside-left.result x) = cc c.note_part-in-Binary.ensures in
    let hb : c.note_part-in-Binary-2.new.firsts ≡ noted c.note_part-in-Binary.new.firsts (part s gs c.beside-right.result y) = cc c.note_part-in-Binary-2.ensures in
    binary_noted s gs o x y (tree c.args.e.now) c.given_of-in-Binary.result c.given_of.result c.beside-left.result c.beside-right.result _ _ _ e hx hy c.beside-left.ensures c.beside-right.ensures ha hb

pub note_in-returns-in-In : goal.note_in-returns-in-In
note_in-returns-in-In t c =
    let s = c.args.names.now in
    let gs = c.args.givens.now in
    let x = tree c.deref-in-In.result.now in
    let h0 : tree (In c.in-In.field-0 c.in-In.x c.in-In.list) ≡ in_list c.in-In.field-0 (tree c.in-In.x.value) (trees c.in-In.list) = in_is c.in-In.field-0 c.in-In.x c.in-In.list in
    let h = ap tree c.in-In.is ∙ h0 in
    let e : tree c.args.e.now ≡ in_list c.in-In.field-0 x (trees c.in-In.list) = cc h in
    let hx : c.given_of-in-In.result ≡ given s gs x = cc c.given_of-in-In.ensures in
    let ha : c.note_part-in-In.new.firsts ≡ noted c.args.firsts.now (part s gs c.kind_of_any-left.result x) = cc c.note_part-in-In.ensures in
    in_noted s gs c.in-In.field-0 x (tree c.args.e.now) (trees c.in-In.list) (listed (map tree c.as_slice-in-In.result.now)) (listed (map tree c.as_slice-in-In-2.result.now)) c.given_of-in-In.result
    c.kind_of_any-left.result c.own_kind-right.result _ _ _ e c.as_slice-in-In.ensures c.as_slice-in-In-2.ensures c.kind_of_any-left.ensures hx c.own_kind-right.ensures ha c.note_parts-in-In.ensures

pub note_in-returns-in-Between : goal.note_in-returns-in-Between
note_in-returns-in-Between t c =
    let s = c.args.names.now in
    let gs = c.args.givens.now in
    let q = c.in-Between.field-0 in
    let x = tree c.deref-in-Between-3.result.now in
    let y = tree c.deref-in-Between.result.now in
    let z = tree c.deref-in-Between-2.result.now in
    let h0 : tree (Between q c.in-Between.x c.in-Between.from c.in-Between.to) ≡ between q (tree c.in-Between.x.value) (tree c.in-Between.from.value) (tree c.in-Between.to.value) = between_is q c.in-Between.x c.in-Between.from c.in-Between.to in
    let h = ap tree c.in-Between.is ∙ h0 in
    let e : tree c.args.e.now ≡ between q x y z = cc h in
    let hx : c.given_of-in-Between-3.result ≡ given s gs x = cc c.given_of-in-Between-3.ensures in
    let hy : c.given_of-in-Between.result ≡ given s gs y = cc c.given_of-in-Between.ensures in
    let hz : c.given_of-in-Between-2.result ≡ given s gs z = cc c.given_of-in-Between-2.ensures in
    let ha : c.note_part-in-Between.new.firsts ≡ noted c.args.firsts.now (part s gs c.either-ends.result x) = cc c.note_part-in-Between.ensures in
    let hb : c.note_part-in-Between-2.new.firsts ≡ noted c.note_part-in-Between.new.firsts (part s gs c.own_kind-own.result y) = cc c.note_part-in-Between-2.ensures in
    let hd : c.note_part-in-Between-3.new.firsts ≡ noted c.note_part-in-Between-2.new.firsts (part s gs c.own_kind-own.result z) = cc c.note_part-in-Between-3.ensures in
    between_noted s gs q x y z (tree c.args.e.now) c.given_of-in-Between-3.result c.given_of-in-Between.result c.given_of-in-Between-2.result c.own_kind.result c.own_kind-in-Between.result c.either-ends.result
    c.own_kind-own.result _ _ _ _ e hx hy hz c.own_kind.ensures c.own_kind-in-Between.ensures c.either-ends.ensures c.own_kind-own.ensures ha hb hd

pub note_in-returns-in-Leaf : goal.note_in-returns-in-Leaf
note_in-returns-in-Leaf t c = noted_none c.args.firsts.now _ (ap (places c.args.names.now c.args.givens.now) (ap tree c.in-Leaf.is ∙ leaf_is c.in-Leaf.field-0))

pub note_in-returns-in-CallOfAll : goal.note_in-returns-in-CallOfAll
note_in-returns-in-CallOfAll t c = noted_none c.args.firsts.now _ (ap (places c.args.names.now c.args.givens.now) (ap tree c.in-CallOfAll.is ∙ call_of_all_is c.in-CallOfAll.field-0))

pub note_parts-returns : goal.note_parts-returns
note_parts-returns t c =
    all_noted tree (λ ts. part_places c.args.names.now c.args.givens.now c.args.kind (listed ts)) refl c.loop-part.firsts _ c.args.parts.now c.loop-part.part-index (omega (arith, c.loop-part-test.false)) c.loop-part.invariant
