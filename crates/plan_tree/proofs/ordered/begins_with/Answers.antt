use Rattle.std.proofs.Common.{◌<◌, arith, length}
use Rattle.std.proofs.lemmas.Grind.{common_steps}
use Rattle.plan_tree.proofs.OrderedParts.{key_no}
use Rattle.plan_tree.proofs.ordered.begins_with.Goals as goal

pub returns-then-not-goes_by : goal.returns-then-not-goes_by
returns-then-not-goes_by c =
    let column : c.loop-place.place < length c.args.columns.now = grind (arith, common_steps) in
    let key : c.loop-place.place < length c.args.order.now = grind (arith, common_steps) in
    key_no _ c.args.order.now c.args.columns.now c.loop-place.place _ _ c.goes_by.result column key c.goes_by.ensures c.if-not-goes_by.true c.loop-place.invariant
