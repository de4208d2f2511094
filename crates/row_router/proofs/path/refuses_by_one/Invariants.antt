use Rattle.std.proofs.Common.{◌≡◌, drop}
use Rattle.std.specs.List.{list_any}
use Rattle.row_router.specs.Paths.{check_refuses}
use Rattle.row_router.proofs.path.refuses_by_one.Given as goal

abbrev pub invariant-loop-check : goal.invariant-loop-check
invariant-loop-check l = list_any (check_refuses l.row) (drop l.check-index l.checks) ≡ list_any (check_refuses l.row) l.checks
