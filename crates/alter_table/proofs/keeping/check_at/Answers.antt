use Rattle.std.proofs.Common.{◌≡◌, ap, ◌∙◌, Some, None}
use Rattle.bound_forms.specs.declared.level.Level.{Level as OneLevel}
use Rattle.bound_forms.specs.declared.partition_bound.Bound.{Bound}
use Rattle.history.specs.declared.catalogue.KeptCheck.{KeptCheck}
use Rattle.alter_table.specs.Kept.{place_below}
use Rattle.alter_table.proofs.KeptChecks.{told_no_place, told_place}
use Rattle.alter_table.proofs.keeping.check_at.Goals as goal

pub returns-in-None : goal.returns-in-None
returns-in-None c = λ h txs catalog.
    let s = c.args.session in
    let p = c.args.parent.number in
    let t = c.args.table.number in
    let all = c.in_ok-entries.ensures h txs catalog in
    let same = c.deref.ensures.value in
    let none : place_below h s p t ≡ None = (let found = c.in-None.ensures in cc) in
    told_no_place c.args.level.now (place_below h s p t) none

pub returns : goal.returns
returns c = λ h txs catalog.
    let s = c.args.session in
    let p = c.args.parent.number in
    let t = c.args.table.number in
    let e = c.in-Some.entry.now in
    let all = c.in_ok-entries.ensures h txs catalog in
    let same = c.deref.ensures.value in
    let found : place_below h s p t ≡ Some e = (let at = c.in-Some.ensures in cc) in
    let made : OneLevel → Bound → KeptCheck = λ l b. record { level = l; bound = b } in
    told_place c.args.level.now (place_below h s p t) e (made c.in_ok-level-in-Some.level c.in_ok-bound-in-Some.bound) found (ap (λ l. made l c.in_ok-bound-in-Some.bound) c.in_ok-level-in-Some.ensures ∙ ap (made c.args.level.now) c.in_ok-bound-in-Some.ensures)
