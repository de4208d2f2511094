use Rattle.std.proofs.Common.{arith}
use Rattle.plan_tree.proofs.Weights.{part_less}
use Rattle.plan_text.proofs.Told.{conjuncts_step}
use Rattle.plan_text.proofs.conditions.+telling.Goals as goal

pub push_all-push_conjuncts-requires : goal.push_all-push_conjuncts-requires
push_all-push_conjuncts-requires t c = let w = part_less c.args.parts.now c.loop-part.part-index c.part-item.result c.loop-part-test.true c.part-item.is in (omega (arith, w), tt)

pub push_all-loop-part-preserved : goal.push_all-loop-part-preserved
push_all-loop-part-preserved t c = conjuncts_step c.args.items.now _ _ c.args.parts.now c.loop-part.part-index c.part-item.result _ c.loop-part-test.true c.part-item.is c.in_ok-push_conjuncts.ensures c.loop-part.invariant

pub push_choices-whole-requires : goal.push_choices-whole-requires
push_choices-whole-requires t c = let w = part_less c.args.parts.now c.loop-part.part-index c.part-item.result c.loop-part-test.true c.part-item.is in (omega (arith, w), tt)
