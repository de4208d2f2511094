use Rattle.std.proofs.Common.{◌≡◌, drop}
use Rattle.row_router.specs.Paths.{refused}
use Rattle.row_router.proofs.path.fits_path.Given as goal

abbrev pub invariant-loop-part : goal.invariant-loop-part
invariant-loop-part l = refused l.what l.row (drop l.part-index l.path) ≡ refused l.what l.row l.path
