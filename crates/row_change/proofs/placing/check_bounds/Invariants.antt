use Rattle.std.proofs.Common.{◌≡◌, drop, find}
use Rattle.row_router.specs.declared.path.PathTest.TheVariants.{Bounds}
use Rattle.row_router.specs.Paths.{refuses}
use Rattle.row_change.proofs.placing.check_bounds.Given as goal

-- no table so far refuses
abbrev pub invariant-loop-part : goal.invariant-loop-part
invariant-loop-part l = find (refuses Bounds l.row) (drop l.part-index l.path) ≡ find (refuses Bounds l.row) l.path
