use Rattle.std.proofs.Common.{◌≡◌, ◌≢◌, rules, sym, ◌∙◌}
use Rattle.std.specs.declared.cmp.Ordering.TheVariants.{Equal}
use Rattle.bound_forms.proofs.Walk.{walk, decided, tied}
use Rattle.bound_forms.proofs.point.cmp_points.Goals as goal

pub returns-then-ne : goal.returns-then-ne
returns-then-ne g c =
    let at_f = rw c.as_slice.ensures at c.index-as_slice-i.is in
    let step = walk _ _ c.loop-i.i _ _ c.loop-i-test.true c.edge-item.is at_f c.loop-i.invariant.fit in
    let differs : c.cmp_edges-order.result ≢ Equal = search rules in
    decided _ _ _ _ _ _ step c.cmp_edges-order.ensures differs ∙ c.loop-i.invariant.rest

pub loop-i-preserved : goal.loop-i-preserved
loop-i-preserved g c =
    let at_f = rw c.as_slice.ensures at c.index-as_slice-i.is in
    let step = walk _ _ c.loop-i.i _ _ c.loop-i-test.true c.edge-item.is at_f c.loop-i.invariant.fit in
    let same : c.cmp_edges-order.result ≡ Equal = search rules in
    record { rest = sym (tied _ _ _ _ _ _ step c.cmp_edges-order.ensures same) ∙ c.loop-i.invariant.rest; fit = step.later }
