use Rattle.std.proofs.Common.{◌≡◌, true, ap, ◌∙◌, arith, subst}
use Rattle.std.proofs.lemmas.Result.{err_from_is_err_and}
use Rattle.pg_values.specs.Refusals.{IsAnswer}
use Rattle.sql_ast.specs.declared.expr.Expr.{Negated, Binary}
use Rattle.sql_ast.specs.Expressions.{tree, negated, binary}
use Rattle.expression_binder.specs.Firsts.{or_first}
use Rattle.expression_binder.specs.Operands.{own_faults}
use Rattle.expression_binder.proofs.Trees.{part_less, negated_is, binary_is}
use Rattle.table_binder.proofs.ValueLaws.{inner_first, own_first, own_typed, value_negated, value_binary}
use Rattle.table_binder.proofs.values.+check.Goals as goal

pub check_values-check_value-requires : goal.check_values-check_value-requires
check_values-check_value-requires t c = let w = part_less c.args.parts.now c.loop-part.part-index c.part-item.result c.loop-part-test.true c.part-item.is in (omega (arith, w), tt)

pub check_typed-returns-in_err-check_inner-in_default : goal.check_typed-returns-in_err-check_inner-in_default
check_typed-returns-in_err-check_inner-in_default t c =
    let p = err_from_is_err_and c.from_residual-in_err-check_inner-in_default.result c.from_residual-in_err-check_inner-in_default.ensures.1 in
    rw (p.1, p.2) (inner_first (tree c.args.e.now) _ c.in_err-check_inner-in_default.field-0.0 c.in_err-check_inner-in_default.ensures)

pub check_typed-returns-in_err-check_own-in_default : goal.check_typed-returns-in_err-check_own-in_default
check_typed-returns-in_err-check_own-in_default t c =
    let p = err_from_is_err_and c.from_residual-in_err-check_own-in_default.result c.from_residual-in_err-check_own-in_default.ensures.1 in
    let own = rw c.no_names-names.ensures at c.in_err-check_own-in_default.ensures in
    rw (p.1, p.2) (own_first (tree c.args.e.now) _ _ c.in_err-check_own-in_default.field-0.0 c.in_ok-check_inner-in_default.ensures own)

pub check_typed-returns-in_ok-check_own-in_default : goal.check_typed-returns-in_ok-check_own-in_default
check_typed-returns-in_ok-check_own-in_default t c =
    let own = rw c.no_names-names.ensures at c.in_ok-check_own-in_default.ensures in
    let kind = rw c.no_names-names.ensures at c.typed_of.ensures in
    own_typed (tree c.args.e.now) c.typed_of.result _ _ c.in_ok-check_inner-in_default.ensures own kind

pub check_typed-returns-in_ok-right-in-Negated : goal.check_typed-returns-in_ok-right-in-Negated
check_typed-returns-in_ok-right-in-Negated t c =
    let x = c.in-Negated.x in
    let h0 : tree (Negated x) ≡ negated (tree x.value) = negated_is true x x x in
    let h = ap tree c.in-Negated.is ∙ h0 in
    let e : tree c.args.e.now ≡ negated (tree c.deref.result.now) = cc h in
    value_negated (tree c.deref.result.now) (tree c.args.e.now) _ _ _ _ c.nothing_more.ensures c.zero_typed.ensures e c.in_ok-right-in-Negated.ensures c.check_joined.ensures

pub check_typed-returns-in_ok-right-in-Binary : goal.check_typed-returns-in_ok-right-in-Binary
check_typed-returns-in_ok-right-in-Binary t c =
    let x = c.in-Binary.x in
    let y = c.in-Binary.y in
    let o = c.in-Binary.operator in
    let h0 : tree (Binary o x y) ≡ binary o (tree x.value) (tree y.value) = binary_is true x x y o in
    let h = ap tree c.in-Binary.is ∙ h0 in
    let e : tree c.args.e.now ≡ binary o (tree c.deref-in-Binary.result.now) (tree c.deref-in-Binary-2.result.now) = cc h in
    value_binary o (tree c.deref-in-Binary.result.now) (tree c.deref-in-Binary-2.result.now) (tree c.args.e.now) _ _ _ _ c.nothing_more-in-Binary.ensures e c.in_ok-left-in-Binary.ensures c.in_ok-right-in-Binary.ensures c.check_joined-in-Binary.ensures
