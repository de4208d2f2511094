use Rattle.sql_written.proofs.WriteParts.{more_step}
use Rattle.sql_written.proofs.parts.write_more.Goals as goal

pub loop-part-preserved : goal.loop-part-preserved
loop-part-preserved g c =
    more_step g.P.Part.tree g.P.Part.marks c.args.parts.now c.loop-part.part-index c.part-item.result _ _ _ _ c.loop-part-test.true c.part-item.is c.in_ok-extend_from_slice.ensures.items c.in_ok-write.ensures c.loop-part.invariant
