use Rattle.std.proofs.Common.{List, ℕ, ◌∙◌, ap, sym, subst, Err}
use Rattle.std.specs.List.{Contains}
use Rattle.pg_values.specs.declared.ids.LeafId.{LeafId}
use Rattle.refusals.specs.Refusals.{outside_new_bounds}
use Rattle.row_router.specs.Histories.{ddl_tree}
use Rattle.row_router.specs.Trees.{leaves}
use Rattle.part_catalog.specs.Found.{made_at}
use Rattle.ddl_steps.specs.Places.{breaks_place}
use Rattle.ddl_steps.specs.Scans.{Scan}
use Rattle.ddl_steps.proofs.Fitted.{place_fits}
use Rattle.ddl_steps.proofs.RowsOf.{rows_of, same_lie}
use Rattle.ddl_steps.proofs.Tellings.{place_passed, place_refused, goes_on, refuses, watched}
use Rattle.ddl_steps.proofs.judging.judge_below.Goals as goal

pub judge-requires-clause-suited : goal.judge-requires-clause-suited
judge-requires-clause-suited c = λ v stored mine.
    let h = c.requires.may.sound.0 in
    let stands = c.requires.may.sound.1 in
    let s = c.args.attempt.now.caller.session in
    let p = c.args.parent in
    let t = c.args.table.number in
    let keys = c.requires.keys in
    let place = c.requires.place h stands.all.txs stands.all.catalog in
    let columns = (made_at h p.number).columns in
    let at = subst (λ (ls : List LeafId). Contains ls v.leaf) (c.deref.ensures.value ∙ c.in_ok-leaves.ensures.is h stands.all.txs stands.all.catalog) mine in
    let is = rows_of c.args.stores.now h s p.number t v stands c.requires.table (c.requires.columns h stands.all.catalog) stored at in
    place_fits c.rows_fit_paths.ensures.path c.sessions_have_siblings.ensures c.args.stores.now h s p c.args.level.now c.args.siblings.now c.args.path.now c.args.bound.now stands c.requires.parent (c.requires.siblings h stands.all.txs stands.all.catalog) (c.requires.path h stands.all.txs stands.all.catalog)
    (same_lie c.args.stores.now h keys.0 p.number c.args.level.now stands.all.catalog keys.1 keys.2) c.requires.mine c.requires.theirs place.0 place.1 v.row is

pub returns-in-Ok-clause-answer : goal.returns-in-Ok-clause-answer
returns-in-Ok-clause-answer c = λ h tells.
    let s = c.args.attempt.now.caller.session in
    let p = c.args.parent.number in
    let b = c.args.bound.now in
    let t = c.args.table.number in
    let scan : Scan = record { leaves = leaves (ddl_tree h s t); breaks = breaks_place h s p b; fault = outside_new_bounds (made_at h t).name } in
    goes_on h s scan c.in-Ok.others
    (place_passed h s p c.args.level.now b (c.requires.level h tells.txs tells.catalog) c.deref.result.now c.args.siblings.now c.args.path.now
    (c.requires.siblings h tells.txs tells.catalog) (c.requires.path h tells.txs tells.catalog) t c.in-Ok.others (c.deref.ensures.value ∙ c.in_ok-leaves.ensures.is h tells.txs tells.catalog) (c.in-Ok.ensures h tells))

pub returns-in-Ok-clause-all : goal.returns-in-Ok-clause-all
returns-in-Ok-clause-all c = λ h tells.
    let s = c.args.attempt.now.caller.session in
    let p = c.args.parent.number in
    let b = c.args.bound.now in
    let t = c.args.table.number in
    let scan : Scan = record { leaves = leaves (ddl_tree h s t); breaks = breaks_place h s p b; fault = outside_new_bounds (made_at h t).name } in
    watched h s scan c.in-Ok.others
    (place_passed h s p c.args.level.now b (c.requires.level h tells.txs tells.catalog) c.deref.result.now c.args.siblings.now c.args.path.now
    (c.requires.siblings h tells.txs tells.catalog) (c.requires.path h tells.txs tells.catalog) t c.in-Ok.others (c.deref.ensures.value ∙ c.in_ok-leaves.ensures.is h tells.txs tells.catalog) (c.in-Ok.ensures h tells))

pub returns-clause-answer : goal.returns-clause-answer
returns-clause-answer c = λ h tells.
    let s = c.args.attempt.now.caller.session in
    let p = c.args.parent.number in
    let b = c.args.bound.now in
    let t = c.args.table.number in
    let row = c.in-Err.row.now in
    let scan : Scan = record { leaves = leaves (ddl_tree h s t); breaks = breaks_place h s p b; fault = outside_new_bounds (made_at h t).name } in
    refuses h s scan row
    (place_refused h s p c.args.level.now b (c.requires.level h tells.txs tells.catalog) c.deref.result.now c.args.siblings.now c.args.path.now
    (c.requires.siblings h tells.txs tells.catalog) (c.requires.path h tells.txs tells.catalog) t row (c.deref.ensures.value ∙ c.in_ok-leaves.ensures.is h tells.txs tells.catalog) (c.in-Err.ensures h tells))
    ∙ ap Err (sym (c.in_ok-outside_new_bounds-in-Err.ensures ∙ ap (λ (n : List ℕ). outside_new_bounds n row) (c.name_of-table.ensures h tells.catalog)))
