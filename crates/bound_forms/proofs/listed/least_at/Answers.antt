use Rattle.std.proofs.Common.{sym, ap, ◌∙◌, arith}
use Rattle.std.specs.Ordering.{is_gt}
use Rattle.bound_forms.proofs.ListedLaws.{least_taken, least_stays}
use Rattle.bound_forms.proofs.listed.least_at.Goals as goal
use Rattle.bound_forms.proofs.listed.least_at.Goals.{then-is_gt, else-is_gt}

pub loop-i-preserved : goal.loop-i-preserved
loop-i-preserved g c =
    let values = c.args.values.now in
    let behind = sym (c.is_gt.ensures ∙ ap is_gt c.cmp_listed.ensures) in
    elim c.if-is_gt.branch [
      | then-is_gt w ↦
          let e = w.at-is in
          let rest = least_taken values c.loop-i.at c.loop-i.i _ _ c.value.ensures c.value-in-loop-i.ensures (behind ∙ w.if-is_gt.true) c.loop-i.invariant.rest in
          record { within = omega arith; rest = rw e rest }
      | else-is_gt w ↦
          let e = w.at-is in
          let rest = least_stays values c.loop-i.at c.loop-i.i _ _ c.value.ensures c.value-in-loop-i.ensures (behind ∙ w.if-is_gt.false) c.loop-i.invariant.rest in
          record { within = omega arith; rest = rw e rest }
    ]
