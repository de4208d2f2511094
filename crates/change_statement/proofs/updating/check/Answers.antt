use Rattle.std.proofs.Common.{sym, subst, All, length}
use Rattle.row_change.specs.Placing.{IsPartNumbered}
use Rattle.row_router.specs.Paths.{PartFits}
use Rattle.statement_steps.specs.Gathered.{found_of}
use Rattle.change_statement.proofs.Renewed.{on_ok, takes}
use Rattle.change_statement.proofs.updating.check.Goals as goal

pub check_kept-requires-clause-fits : goal.check_kept-requires-clause-fits
check_kept-requires-clause-fits c = subst (All (PartFits c.args.row.now)) (sym c.as_slice.ensures) (takes c.args.stores.now c.args.attempt.now.caller (found_of c.args.gathered.now) c.args.row.now c.requires.may c.requires.of).fits.1

pub check_kept-requires-clause-known : goal.check_kept-requires-clause-known
check_kept-requires-clause-known c = subst (All (IsPartNumbered (length c.args.stores.now.catalog.tables))) (sym c.as_slice.ensures) (takes c.args.stores.now c.args.attempt.now.caller (found_of c.args.gathered.now) c.args.row.now c.requires.may c.requires.of).above

pub returns-clause-housing : goal.returns-clause-housing
returns-clause-housing c = on_ok _ c.check_kept.result c.in_ok-check_holder.ensures.housing
