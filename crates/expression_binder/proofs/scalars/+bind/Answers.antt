use Rattle.std.proofs.Common.{ap, ◌∙◌}
use Rattle.sql_ast.specs.Expressions.{tree}
use Rattle.cond_logic.specs.Scalars.{scalar_tree}
use Rattle.expression_binder.specs.declared.typed.Typed.{Typed}
use Rattle.expression_binder.specs.Kinds.{joined}
use Rattle.expression_binder.specs.Operands.{typed}
use Rattle.expression_binder.proofs.Places.{worth_beside, sides_worth}
use Rattle.expression_binder.proofs.scalars.+bind.Goals as goal

pub bind_beside-returns-clause-worth : goal.bind_beside-returns-clause-worth
bind_beside-returns-clause-worth t c = worth_beside c.bind_typed.result (λ p. scalar_tree p.0) c.args.names.now c.args.operator c.args.other _ (tree c.args.e.now) c.kind_beside.ensures c.bind_typed.ensures.worth

pub bind_sides-returns : goal.bind_sides-returns
bind_sides-returns t c = record {
  worth = sides_worth c.args.names.now c.args.operator (tree c.args.x.now) (tree c.args.y.now) c.in_ok-x.left (scalar_tree c.in_ok-x.x) (scalar_tree c.in_ok-y.y) (scalar_tree c.in_ok-made.made)
      c.in_ok-x.ensures.worth c.in_ok-x.ensures.kind c.in_ok-y.ensures.worth c.in_ok-made.ensures;
  kind = c.joined.ensures ∙ (ap (λ (u : Typed). joined c.args.operator u c.in_ok-y.right) c.in_ok-x.ensures.kind ∙ ap (λ (u : Typed). joined c.args.operator (typed c.args.names.now (tree c.args.x.now)) u) c.in_ok-y.ensures.kind);
}
