use Rattle.std.proofs.Common.{Err, refl, subst}
use Rattle.std.specs.List.{Contains}
use Rattle.pg_values.specs.Refusals.{or_first}
use Rattle.row_change.proofs.Successors.{keeps_all}
use Rattle.row_change.specs.Placing.{tables_of}
use Rattle.row_router.specs.Trees.{leaves}
use Rattle.statement_steps.specs.Gathered.{found_of}
use Rattle.change_statement.specs.Updated.{against, housed, rehoused, stored_in, succeeded, tested}
use Rattle.change_statement.proofs.Births.{none_stands}
use Rattle.change_statement.proofs.Kept.{one_of}
use Rattle.change_statement.proofs.Renewed.{answer_run, has_way, on_ok, refusal_run, takes}
use Rattle.change_statement.proofs.Runs.{handed_run, stop_run, then_run}
use Rattle.change_statement.proofs.updating.store.Goals as goal

pub house-requires-clause-sound : goal.house-requires-clause-sound
house-requires-clause-sound c = (c.requires.may.sound.0, c.requires.may.sound.1.all.catalog)

pub house-requires-clause-takes : goal.house-requires-clause-takes
house-requires-clause-takes c = takes c.args.stores.now c.args.attempt.now.caller (found_of c.args.gathered.now) c.args.row c.requires.may c.requires.of

pub house-requires-clause-own : goal.house-requires-clause-own
house-requires-clause-own c =
    let g = found_of c.args.gathered.now in
    has_way g.tree c.args.from (one_of (Contains (leaves g.tree)) g.leaves c.args.from (subst (Contains g.leaves) c.requires.own c.requires.version.among) c.requires.may.sound.2.still.gathered.among)

pub check-requires-clause-way : goal.check-requires-clause-way
check-requires-clause-way c = c.in_ok-leaf.ensures.way

pub succeed-requires-clause-placed : goal.succeed-requires-clause-placed
succeed-requires-clause-placed c = record { placed = c.in_ok-leaf.ensures.is; way = c.in_ok-leaf.ensures.way }

pub succeed-requires-clause-taken : goal.succeed-requires-clause-taken
succeed-requires-clause-taken c = none_stands c.args.stores.now c.args.attempt.now.caller (found_of c.args.gathered.now) c.in_ok-leaf.leaf c.args.row c.in_ok-check.ensures.told

pub returns-in_err-leaf-clause-run : goal.returns-in_err-leaf-clause-run
returns-in_err-leaf-clause-run c =
    let g = found_of c.args.gathered.now in
    handed_run c.from_residual.ensures.1
    (stop_run (rehoused g c.args.from c.args.row) (stored_in c.args.attempt.now.caller g c.args.from c.args.id c.args.row)
    (refusal_run g c.in_err-leaf.field-0.0 c.args.stores.now c.args.attempt.now.caller (λ h. housed g.moves (tables_of h) g.tree g.path c.args.from c.args.row) c.requires.may (λ h stands. c.in_err-leaf.ensures.is h stands.all.catalog)))

pub returns-in_err-leaf-clause-keeps : goal.returns-in_err-leaf-clause-keeps
returns-in_err-leaf-clause-keeps c = keeps_all c.args.stores.now.rows c.args.stores.now.rows refl

pub returns-in_err-check-clause-run : goal.returns-in_err-check-clause-run
returns-in_err-check-clause-run c =
    let g = found_of c.args.gathered.now in
    let leaf = c.in_ok-leaf.leaf in
    let row = c.args.row in
    handed_run c.from_residual-in_err-check.ensures.1
    (then_run (rehoused g c.args.from row) (stored_in c.args.attempt.now.caller g c.args.from c.args.id row)
    (answer_run g leaf c.args.stores.now c.args.attempt.now.caller (λ h. housed g.moves (tables_of h) g.tree g.path c.args.from row) c.requires.may (λ h stands. c.in_ok-leaf.ensures.is h stands.all.catalog))
    (stop_run (tested c.args.attempt.now.caller g leaf row) (λ u. succeeded c.args.attempt.now.caller c.args.from c.args.id leaf row)
    (refusal_run g c.in_err-check.field-0.0 c.args.stores.now c.args.attempt.now.caller (λ h. or_first (against h c.args.attempt.now.caller.session g leaf row) tt) c.requires.may c.in_err-check.ensures.told)))

pub returns-in_err-check-clause-keeps : goal.returns-in_err-check-clause-keeps
returns-in_err-check-clause-keeps c = keeps_all c.args.stores.now.rows c.args.stores.now.rows refl

pub returns-clause-run : goal.returns-clause-run
returns-clause-run c =
    let g = found_of c.args.gathered.now in
    let leaf = c.in_ok-leaf.leaf in
    let row = c.args.row in
    then_run (rehoused g c.args.from row) (stored_in c.args.attempt.now.caller g c.args.from c.args.id row)
    (answer_run g leaf c.args.stores.now c.args.attempt.now.caller (λ h. housed g.moves (tables_of h) g.tree g.path c.args.from row) c.requires.may (λ h stands. c.in_ok-leaf.ensures.is h stands.all.catalog))
    (then_run (tested c.args.attempt.now.caller g leaf row) (λ u. succeeded c.args.attempt.now.caller c.args.from c.args.id leaf row)
    (answer_run g tt c.args.stores.now c.args.attempt.now.caller (λ h. or_first (against h c.args.attempt.now.caller.session g leaf row) tt) c.requires.may c.in_ok-check.ensures.told) c.succeed.ensures.run)

pub returns-clause-housing : goal.returns-clause-housing
returns-clause-housing c = on_ok _ c.succeed.result c.in_ok-check.ensures.housing
