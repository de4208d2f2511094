use Rattle.part_bounds.proofs.LeadsStand.{range_more, range_done}
use Rattle.part_bounds.proofs.lead.add_ranges.Goals as goal

pub loop-b-preserved : goal.loop-b-preserved
loop-b-preserved c = range_more _ _ c.loop-b.b-index c.args.bounds.now c.b-item.result _ c.loop-b-test.true c.b-item.is c.in_ok-add_range.ensures c.loop-b.invariant

pub returns : goal.returns
returns c = range_done _ _ c.loop-b.b-index c.args.bounds.now c.loop-b-test.false c.loop-b.invariant
