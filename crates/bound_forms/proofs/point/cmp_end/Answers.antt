use Rattle.std.proofs.Common.{◌≡◌, ◌≢◌, rules, sym, ◌∙◌}
use Rattle.std.specs.declared.cmp.Ordering.TheVariants.{Equal}
use Rattle.bound_forms.proofs.Walk.{decided, tied}
use Rattle.bound_forms.proofs.Ends.{walk_end}
use Rattle.bound_forms.proofs.point.cmp_end.Goals as goal

pub cmp_end_place-order-requires-clause-fit : goal.cmp_end_place-order-requires-clause-fit
cmp_end_place-order-requires-clause-fit g c =
    (walk_end c.as_slice-edge-items.result.now c.args.point.now c.args.n c.args.fill (g.Q.Key.values c.args.key.now) c.loop-i.i _ c.as_slice-edge-items.ensures c.requires.there c.requires.fit c.loop-i-test.true c.edge-item.is c.loop-i.invariant.fit).fit

pub returns-then-ne : goal.returns-then-ne
returns-then-ne g c =
    let step = walk_end c.as_slice-edge-items.result.now c.args.point.now c.args.n c.args.fill (g.Q.Key.values c.args.key.now) c.loop-i.i _ c.as_slice-edge-items.ensures c.requires.there c.requires.fit c.loop-i-test.true c.edge-item.is c.loop-i.invariant.fit in
    let differs : c.cmp_end_place-order.result ≢ Equal = search rules in
    decided _ _ _ _ _ _ step c.cmp_end_place-order.ensures differs ∙ c.loop-i.invariant.rest

pub loop-i-preserved : goal.loop-i-preserved
loop-i-preserved g c =
    let step = walk_end c.as_slice-edge-items.result.now c.args.point.now c.args.n c.args.fill (g.Q.Key.values c.args.key.now) c.loop-i.i _ c.as_slice-edge-items.ensures c.requires.there c.requires.fit c.loop-i-test.true c.edge-item.is c.loop-i.invariant.fit in
    let same : c.cmp_end_place-order.result ≡ Equal = search rules in
    record { rest = sym (tied _ _ _ _ _ _ step c.cmp_end_place-order.ensures same) ∙ c.loop-i.invariant.rest; fit = step.later }
