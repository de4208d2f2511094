use Rattle.std.proofs.Common.{arith}
use Rattle.expression_binder.proofs.Trees.{part_less}
use Rattle.expression_binder.proofs.conditions.+check.Goals as goal

pub check_parts-check_condition-requires : goal.check_parts-check_condition-requires
check_parts-check_condition-requires t c = let w = part_less c.args.parts.now c.loop-part.part-index c.part-item.result c.loop-part-test.true c.part-item.is in (omega (arith, w), tt)
