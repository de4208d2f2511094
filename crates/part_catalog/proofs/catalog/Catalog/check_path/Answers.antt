use Rattle.std.proofs.Common.{◌≡◌, ◌∙◌, ◌++◌, ◌-◌, ◌+◌, None, Option, List, ap, subst, map}
use Rattle.pg_values.specs.declared.ids.TableNo.{TableNo}
use Rattle.history.specs.Presence.{entries_present}
use Rattle.row_router.specs.declared.path_part.PathPart.{PathPart}
use Rattle.row_router.specs.Histories.{above, path_of, upwards}
use Rattle.part_catalog.specs.Answers.{number_told, without_place}
use Rattle.part_catalog.specs.Kept.{KeptCatalogue}
use Rattle.part_catalog.proofs.Paths.{parent_number}
use Rattle.part_catalog.proofs.Upwards.{checked_made, checked_part, checks_told, path_part, path_step}
use Rattle.part_catalog.proofs.catalog.Catalog.check_path.Goals as goal

pub loop-step-preserved : goal.loop-step-preserved
loop-step-preserved c = λ h txs st.
    let kept = c.args.self.now in
    let s = c.args.session in
    let t = c.in-Some.table in
    let o = c.parent_of-next.result in
    let part = checked_part h s in
    let up = above (entries_present h s) in
    let whole = map without_place (path_of h s c.args.table.number) in
    let x : PathPart = path_part t c.in_ok-checks.checks None in
    let here : x ≡ part t.number = checked_made h s t c.in_ok-checks.checks (checks_told kept h s t.number c.in_ok-checks.checks c.deref.result.now st (c.deref.ensures.value ∙ ap (λ (k : KeptCatalogue). k.checks) c.self.view_is) (c.in_ok-checks.ensures h txs)) in
    let goes = ap number_told (c.parent_of-next.ensures h txs st) ∙ parent_number (up t.number) in
    let before : c.loop-step.parts.items ++ upwards (8 - c.loop-step.step) part up (number_told c.loop-step.next) ≡ whole = c.loop-step.invariant h txs st in
    let now = subst (λ (q : Option TableNo). c.loop-step.parts.items ++ upwards (8 - c.loop-step.step) part up (number_told q) ≡ whole) c.in-Some.is before in
    ap (λ (l : List PathPart). l ++ upwards (8 - (c.loop-step.step + 1)) part up (number_told o)) c.in_ok-push.ensures.items
    ∙ path_step c.loop-step.step part up c.loop-step.parts.items x t.number (number_told o) whole c.loop-step-test.true here goes now
