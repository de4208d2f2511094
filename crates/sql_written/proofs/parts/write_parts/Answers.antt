use Rattle.sql_written.proofs.WriteParts.{list_step}
use Rattle.sql_written.proofs.parts.write_parts.Goals as goal

pub returns-in_ok-write_more : goal.returns-in_ok-write_more
returns-in_ok-write_more g c =
    list_step g.P.Part.tree g.P.Part.marks c.args.parts.now c.first-item.result _ _ _ c.in-len1-up.len_at_least c.first-item.is c.in_ok-write.ensures c.in_ok-write_more.ensures
