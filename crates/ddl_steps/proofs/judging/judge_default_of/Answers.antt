use Rattle.std.proofs.Common.{List, ℕ, ◌∙◌, ap, sym, subst, Err}
use Rattle.std.specs.List.{Contains}
use Rattle.pg_values.specs.declared.value.Value.{Value}
use Rattle.pg_values.specs.declared.ids.LeafId.{LeafId}
use Rattle.refusals.specs.Refusals.{default_has_row}
use Rattle.row_router.specs.Histories.{ddl_tree}
use Rattle.row_router.specs.Trees.{leaves}
use Rattle.part_catalog.specs.Found.{made_at}
use Rattle.ddl_steps.specs.Places.{breaks_default}
use Rattle.ddl_steps.specs.Scans.{Scan}
use Rattle.ddl_steps.proofs.Fitted.{key_fits}
use Rattle.ddl_steps.proofs.RowsOf.{rows_of, same_lie}
use Rattle.ddl_steps.proofs.Tellings.{default_passed, default_refused, goes_on, refuses}
use Rattle.ddl_steps.proofs.judging.judge_default_of.Goals as goal

pub judge-requires-clause-suited : goal.judge-requires-clause-suited
judge-requires-clause-suited c = λ v stored mine.
    let h = c.requires.may.sound.0 in
    let stands = c.requires.may.sound.1 in
    let s = c.args.attempt.now.caller.session in
    let p = c.args.parent.number in
    let keys = c.requires.keys in
    let at = subst (λ (ls : List LeafId). Contains ls v.leaf) (c.deref.ensures.value ∙ c.in_ok-leaves.ensures.is h stands.all.txs stands.all.catalog) mine in
    let is = rows_of c.args.stores.now h s p c.args.default.number v stands c.requires.default (c.requires.columns h stands.all.catalog) stored at in
    key_fits (made_at h p).columns c.args.level.now c.args.bound.now v.row (same_lie c.args.stores.now h keys.0 p c.args.level.now stands.all.catalog keys.1 keys.2) c.requires.mine is

pub returns-in-Ok-clause-answer : goal.returns-in-Ok-clause-answer
returns-in-Ok-clause-answer c = λ h tells.
    let s = c.args.attempt.now.caller.session in
    let p = c.args.parent.number in
    let b = c.args.bound.now in
    let d = c.args.default.number in
    let scan : Scan = record { leaves = leaves (ddl_tree h s d); breaks = breaks_default h p b; fault = λ (r : List Value). default_has_row (made_at h d).name r c.args.name.now } in
    goes_on h s scan c.in-Ok.others
    (default_passed h s p c.args.level.now b (c.requires.level h tells.txs tells.catalog) c.deref.result.now d c.in-Ok.others
    (c.deref.ensures.value ∙ c.in_ok-leaves.ensures.is h tells.txs tells.catalog) (c.in-Ok.ensures h tells))

pub returns-clause-answer : goal.returns-clause-answer
returns-clause-answer c = λ h tells.
    let s = c.args.attempt.now.caller.session in
    let p = c.args.parent.number in
    let b = c.args.bound.now in
    let d = c.args.default.number in
    let row = c.in-Err.row.now in
    let scan : Scan = record { leaves = leaves (ddl_tree h s d); breaks = breaks_default h p b; fault = λ (r : List Value). default_has_row (made_at h d).name r c.args.name.now } in
    refuses h s scan row
    (default_refused h s p c.args.level.now b (c.requires.level h tells.txs tells.catalog) c.deref.result.now d row
    (c.deref.ensures.value ∙ c.in_ok-leaves.ensures.is h tells.txs tells.catalog) (c.in-Err.ensures h tells))
    ∙ ap Err (sym (c.in_ok-default_has_row-in-Err.ensures ∙ ap (λ (n : List ℕ). default_has_row n row c.args.name.now) (c.name_of-default.ensures h tells.catalog)))
