use Rattle.std.proofs.Common.{◌≡◌, [], ◌∷◌, List, ◌∙◌, Ok, Err, sym, subst, All, length}
use Rattle.std.proofs.lemmas.List.Elements.{All-cons, All-nil, All-head}
use Rattle.pg_values.specs.declared.ids.LeafId.{LeafId}
use Rattle.pg_values.specs.Refusals.{IsAnswer}
use Rattle.row_change.specs.Placing.{bounds_faults, placed, all_placed, CanBePlaced, IsPartNumbered, tables_of}
use Rattle.row_change.specs.Targets.{HasWay}
use Rattle.row_router.specs.Paths.{PartFits}
use Rattle.history.specs.History.{History}
use Rattle.part_catalog.specs.Stands.{CatalogueStands}
use Rattle.statement_steps.specs.Gathered.{found_of}
use Rattle.change_statement.proofs.Renewed.{is_one, is_none, is_somewhere, stays_told}
use Rattle.change_statement.proofs.updating.house.Goals as goal
use Rattle.change_statement.proofs.updating.house.Goals.{In-Some}

pub check_bounds-requires-clause-fits : goal.check_bounds-requires-clause-fits
check_bounds-requires-clause-fits c = subst (All (PartFits c.args.row.now)) (sym c.as_slice-path.ensures) c.requires.takes.fits.1

pub check_bounds-requires-clause-known : goal.check_bounds-requires-clause-known
check_bounds-requires-clause-known c = subst (All (IsPartNumbered (length c.args.stores.now.catalog.tables))) (sym c.as_slice-path.ensures) c.requires.takes.above

pub leaves_of-requires-clause-fits : goal.leaves_of-requires-clause-fits
leaves_of-requires-clause-fits c =
    let g = found_of c.args.gathered.now in
    let P = CanBePlaced g.tree c.as_slice-path.result.now in
    subst (All P) (sym c.from_ref.ensures.value) (All-cons P c.args.row.now [] (subst (λ p. CanBePlaced g.tree p c.args.row.now) (sym c.as_slice-path.ensures) c.requires.takes.fits) (All-nil P))

pub leaves_of-requires-clause-path : goal.leaves_of-requires-clause-path
leaves_of-requires-clause-path c = subst (All (IsPartNumbered (length c.args.stores.now.catalog.tables))) (sym c.as_slice-path.ensures) c.requires.takes.above

pub leaves_of-requires-clause-known : goal.leaves_of-requires-clause-known
leaves_of-requires-clause-known c = c.requires.takes.known
