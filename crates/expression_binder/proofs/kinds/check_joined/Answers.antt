use Rattle.std.proofs.lemmas.Result.{err_from_is_err_and}
use Rattle.expression_binder.specs.Kinds.{join_faults, joined}
use Rattle.expression_binder.proofs.Firsts.{first_still, value_still}
use Rattle.expression_binder.proofs.kinds.check_joined.Goals as goal

pub returns-in_err-check_join : goal.returns-in_err-check_join
returns-in_err-check_join c =
    let p = err_from_is_err_and c.from_residual.result c.from_residual.ensures.1 in
    rw (p.1, p.2)
    (first_still c.in_err-check_join.field-0.0 (join_faults c.args.allowed c.args.operator c.args.left c.args.right) tt (joined c.args.operator c.args.left c.args.right) c.in_err-check_join.ensures)

pub returns : goal.returns
returns c = value_still (join_faults c.args.allowed c.args.operator c.args.left c.args.right) tt _ _ c.joined.result c.in_ok-check_join.ensures c.joined.ensures
