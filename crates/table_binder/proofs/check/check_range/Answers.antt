use Rattle.std.proofs.Common.{◌||◌, not, length}
use Rattle.table_binder.specs.Checks.{has_null_edge}
use Rattle.pg_values.specs.Refusals.{unless}
use Rattle.refusals.specs.Refusals.{null_in_range}
use Rattle.bound_forms.specs.Levels.{HasEdges}
use Rattle.table_binder.proofs.CheckLaws.{none_found}
use Rattle.table_binder.proofs.RangeLaws.{count_is, no_null, read_is}
use Rattle.bound_forms.proofs.KindLaws.{points_compare, point_not_null}
use Rattle.table_binder.proofs.check.check_range.Goals as goal

pub check_filled-requires : goal.check_filled-requires
check_filled-requires c =
    let columns = c.args.columns.now in
    let lower = c.args.lower.now in
    let upper = c.args.upper.now in
    let from = c.in_ok-from.from in
    let to = c.in_ok-to.to in
    let nulls = no_null (has_null_edge lower) (has_null_edge upper) null_in_range (none_found (unless (not (has_null_edge lower || has_null_edge upper)) null_in_range) tt tt c.in_ok-check_nulls.ensures) in
    let p : HasEdges columns from = read_is columns lower from (count_is (length lower) (length columns) tt tt c.in_ok-check_count.ensures) c.in_ok-from.ensures nulls.0 in
    let q : HasEdges columns to = read_is columns upper to (count_is (length upper) (length columns) tt tt c.in_ok-check_count-2.ensures) c.in_ok-to.ensures nulls.1 in
    record { fit = points_compare columns from to p q; of_kind = point_not_null columns from p }
