use Rattle.std.proofs.Common.{◌≡◌, true, refl, ap, ◌∙◌, arith}
use Rattle.sql_ast.specs.declared.expr.Expr.{Binary, Between, In}
use Rattle.sql_ast.specs.Expressions.{tree, trees, listed, binary, in_list, between}
use Rattle.expression_binder.proofs.Trees.{part_less, binary_is, between_is}
use Rattle.prepared_statements.proofs.Operands.{in_is}
use Rattle.prepared_statements.specs.Numbers.{greatest_of, numbers, all_numbers}
use Rattle.prepared_statements.proofs.Greatest.{of_two, of_three, part_passed}
use Rattle.prepared_statements.proofs.numbers.+number.Goals as goal

pub in_expr-returns-in-Binary : goal.in_expr-returns-in-Binary
in_expr-returns-in-Binary t c =
    let o = c.in-Binary.field-0 in
    let x = tree c.deref-in-Binary.result.now in
    let y = tree c.deref-in-Binary-2.result.now in
    let h0 : tree (Binary o c.in-Binary.x c.in-Binary.y) ≡ binary o (tree c.in-Binary.x.value) (tree c.in-Binary.y.value) = binary_is true c.in-Binary.x c.in-Binary.x c.in-Binary.y o in
    let h = ap tree c.in-Binary.is ∙ h0 in
    let e : tree c.args.e.now ≡ binary o x y = cc h in
    of_two (numbers x) (numbers y) (numbers (tree c.args.e.now)) _ _ _ (ap numbers e) c.in_expr-in-Binary.ensures c.in_expr-in-Binary-2.ensures c.greater.ensures

pub in_expr-returns-in-In : goal.in_expr-returns-in-In
in_expr-returns-in-In t c =
    let q = c.in-In.field-0 in
    let x = tree c.deref-in-In.result.now in
    let ts = trees c.in-In.list in
    let h0 : tree (In q c.in-In.x c.in-In.list) ≡ in_list q (tree c.in-In.x.value) ts = in_is q c.in-In.x c.in-In.list in
    let h = ap tree c.in-In.is ∙ h0 in
    let e : tree c.args.e.now ≡ in_list q x ts = cc h in
    of_two (numbers x) (all_numbers ts) (numbers (tree c.args.e.now)) _ _ _ (ap numbers e) c.in_expr-in-In.ensures
    (c.in_exprs-in-In.ensures ∙ ap (λ us. greatest_of (all_numbers us)) c.as_slice-in-In.ensures) c.greater-in-In.ensures

pub in_expr-returns-in-Between : goal.in_expr-returns-in-Between
in_expr-returns-in-Between t c =
    let q = c.in-Between.field-0 in
    let x = tree c.deref-in-Between.result.now in
    let y = tree c.deref-in-Between-2.result.now in
    let z = tree c.deref-in-Between-3.result.now in
    let h0 : tree (Between q c.in-Between.x c.in-Between.from c.in-Between.to) ≡ between q (tree c.in-Between.x.value) (tree c.in-Between.from.value) (tree c.in-Between.to.value) = between_is q c.in-Between.x c.in-Between.from c.in-Between.to in
    let h = ap tree c.in-Between.is ∙ h0 in
    let e : tree c.args.e.now ≡ between q x y z = cc h in
    of_three (numbers x) (numbers y) (numbers z) (numbers (tree c.args.e.now)) _ _ _ _ _ (ap numbers e) c.in_expr-in-Between.ensures c.in_expr-in-Between-2.ensures c.in_expr-in-Between-3.ensures
    c.greater-in-Between.ensures c.greater-in-Between-2.ensures

pub in_exprs-in_expr-requires : goal.in_exprs-in_expr-requires
in_exprs-in_expr-requires t c = let w = part_less c.args.list.now c.loop-e.e-index c.e-item.result c.loop-e-test.true c.e-item.is in (omega (arith, w), tt)

pub in_exprs-loop-e-preserved : goal.in_exprs-loop-e-preserved
in_exprs-loop-e-preserved t c =
    part_passed tree (λ ts. all_numbers (listed ts)) numbers (λ x xs. refl) c.args.list.now c.loop-e.e-index c.e-item.result c.loop-e-test.true c.e-item.is
    c.loop-e.most c.in_expr.result _ _ c.loop-e.invariant c.in_expr.ensures c.greater-most.ensures
