use Rattle.std.proofs.Common.{length, sym}
use Rattle.row_router.specs.declared.path.PathTest.TheVariants.{Checks}
use Rattle.row_change.proofs.Ways.{refused_is_numbered}
use Rattle.row_change.proofs.testing.check_kept.Goals as goal

pub refused_by_check-requires : goal.refused_by_check-requires
refused_by_check-requires c = refused_is_numbered (length c.args.catalog.now.tables) Checks c.args.row.now c.args.path.now c.in-Some.table c.requires.known (sym c.in-Some.ensures)
