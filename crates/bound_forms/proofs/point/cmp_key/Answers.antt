use Rattle.std.proofs.Common.{◌≡◌, rules, sym, ◌∙◌}
use Rattle.std.specs.declared.cmp.Ordering.TheVariants.{Equal}
use Rattle.bound_forms.specs.declared.point.Edge.TheVariants.{Min}
use Rattle.bound_forms.specs.Points.{point_of}
use Rattle.bound_forms.proofs.Walk.{walk, at_default, tied}
use Rattle.bound_forms.proofs.point.cmp_key.Goals as goal

pub loop-i-preserved : goal.loop-i-preserved
loop-i-preserved g c =
    let key = point_of (g.Q.Key.values c.args.key.now) in
    let at_f = at_default _ key c.loop-i.i Min c.loop-i-test.true c.loop-i.invariant.fit in
    let step = walk _ key c.loop-i.i _ _ c.loop-i-test.true c.edge-item.is at_f c.loop-i.invariant.fit in
    let same : c.cmp_place-order.result ≡ Equal = search rules in
    record { rest = sym (tied _ _ _ _ _ _ step c.cmp_place-order.ensures same) ∙ c.loop-i.invariant.rest; fit = step.later }
