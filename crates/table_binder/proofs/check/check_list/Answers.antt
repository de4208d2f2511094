use Rattle.std.proofs.Common.{rules}
use Rattle.std.proofs.lemmas.Result.{err_from_is_err_and}
use Rattle.table_binder.proofs.RangeLaws.{list_made, list_fails}
use Rattle.table_binder.proofs.check.check_list.Goals as goal

pub returns-in_err-values : goal.returns-in_err-values
returns-in_err-values c =
    let p = err_from_is_err_and c.from_residual-in_err-values.result c.from_residual-in_err-values.ensures.1 in
    rw (p.1, p.2) (list_fails c.in_err-values.field-0.0 c.args.columns.now _ c.args.values.now c.requires (search rules) c.in_err-values.ensures)

pub returns : goal.returns
returns c = list_made c.args.columns.now _ c.args.values.now c.in_ok-values.values c.requires (search rules) c.in_ok-values.ensures
