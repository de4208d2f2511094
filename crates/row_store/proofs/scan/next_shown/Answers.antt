use Rattle.std.proofs.Common.{◌≡◌, ◌∷◌, ap, sym, ◌∙◌, arith}
use Rattle.std.proofs.lemmas.Grind.{common_steps}
use Rattle.row_store.specs.Stands.{shows_by, rows_left}
use Rattle.row_store.proofs.Shown.{left_out, rest_below, unseen_birth, seen_end}
use Rattle.row_store.proofs.scan.next_shown.Goals as goal

pub returns-then-not-sees_last_end-clause-below : goal.returns-then-not-sees_last_end-clause-below
returns-then-not-sees_last_end-clause-below c =
    let parts : c.loop-first.rest.now ≡ c.in-Some.first.now ∷ c.in-Some.others.now = first_of (cc, grind (arith, common_steps)) in
    rest_below c.args.versions.now c.in-Some.first.now c.in-Some.others.now c.loop-first.rest.now parts c.loop-first.invariant.below

pub loop-first-preserved : goal.loop-first-preserved
loop-first-preserved c =
    let parts : c.loop-first.rest.now ≡ c.in-Some.first.now ∷ c.in-Some.others.now = first_of (cc, grind (arith, common_steps)) in
    let unseen = ap (shows_by c.args.txs.now c.args.snap.now) (sym c.version_at-stored.ensures) ∙ unseen_birth c.args.txs.now c.args.snap.now c.version_at-stored.result.now (sym c.sees_birth.ensures ∙ c.if-sees_birth.false) in
    record {
      below = rest_below c.args.versions.now c.in-Some.first.now c.in-Some.others.now c.loop-first.rest.now parts c.loop-first.invariant.below;
      left = sym (left_out c.args.txs.now c.args.snap.now c.args.versions.now c.in-Some.first.now c.in-Some.others.now unseen) ∙ ap (rows_left c.args.txs.now c.args.snap.now c.args.versions.now) (sym parts) ∙ c.loop-first.invariant.left;
      seen = c.loop-first.invariant.seen;
    }

pub loop-first-preserved-else-not-sees_last_end : goal.loop-first-preserved-else-not-sees_last_end
loop-first-preserved-else-not-sees_last_end c =
    let parts : c.loop-first.rest.now ≡ c.in-Some.first.now ∷ c.in-Some.others.now = first_of (cc, grind (arith, common_steps)) in
    let ended = ap (shows_by c.args.txs.now c.args.snap.now) (sym c.version_at-stored.ensures) ∙ seen_end c.args.txs.now c.args.snap.now c.version_at-stored.result.now (sym c.sees_last_end.ensures ∙ c.if-not-sees_last_end.false) in
    record {
      below = rest_below c.args.versions.now c.in-Some.first.now c.in-Some.others.now c.loop-first.rest.now parts c.loop-first.invariant.below;
      left = sym (left_out c.args.txs.now c.args.snap.now c.args.versions.now c.in-Some.first.now c.in-Some.others.now ended) ∙ ap (rows_left c.args.txs.now c.args.snap.now c.args.versions.now) (sym parts) ∙ c.loop-first.invariant.left;
      seen = first_of (cc, grind (arith, common_steps));
    }
