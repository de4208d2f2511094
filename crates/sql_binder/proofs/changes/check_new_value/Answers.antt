use Rattle.std.proofs.Common.{◌++◌, ap, subst, ◌∙◌}
use Rattle.pg_values.specs.Refusals.{IsAnswer}
use Rattle.sql_ast.specs.Expressions.{tree}
use Rattle.expression_binder.specs.Firsts.{or_first}
use Rattle.expression_binder.specs.Kinds.{assigned_faults}
use Rattle.expression_binder.specs.Operands.{operand_faults, typed}
use Rattle.sql_binder.specs.Changes as changes
use Rattle.sql_binder.proofs.changes.check_new_value.Goals as goal

pub returns : goal.returns
returns c =
    let s = c.args.names.now in
    let t = tree c.args.assignment.now.value in
    subst (λ k. IsAnswer c.check_value.result (or_first (operand_faults s t ++ assigned_faults k (typed s t).given) tt)) (c.set_kind-kind.ensures ∙ ap (changes.set_kind c.args.item.now) c.as_bytes.ensures) c.check_value.ensures
