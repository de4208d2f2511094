use Rattle.std.proofs.Common.{◌≡◌, true, ap, ◌∙◌, arith}
use Rattle.sql_ast.specs.declared.expr.Expr.{Not}
use Rattle.sql_ast.specs.Expressions.{tree, inverted}
use Rattle.expression_binder.proofs.Checked.{not_bound}
use Rattle.expression_binder.proofs.Trees.{part_less, not_is}
use Rattle.expression_binder.proofs.meanings.+bind.Goals as goal

pub bind_parts-bind_condition-requires : goal.bind_parts-bind_condition-requires
bind_parts-bind_condition-requires t c = let w = part_less c.args.parts.now c.loop-part.part-index c.part-item.result c.loop-part-test.true c.part-item.is in (omega (arith, w), tt)

pub bind_condition-returns-in_ok-invert-in-Not : goal.bind_condition-returns-in_ok-invert-in-Not
bind_condition-returns-in_ok-invert-in-Not t c =
    let h0 : tree (Not c.in-Not.x) ≡ inverted (tree c.in-Not.x.value) = not_is true c.in-Not.x c.in-Not.x c.in-Not.x in
    let h = ap tree c.in-Not.is ∙ h0 in
    let e : tree c.args.e.now ≡ inverted (tree c.deref-in-Not.result.now) = cc h in
    not_bound c.args.names.now _ (tree c.deref-in-Not.result.now) _ _ e c.in_ok-cond-in-Not.ensures c.in_ok-invert-in-Not.ensures
