use Rattle.std.proofs.Common.{map, refl, true}
use Rattle.sql_written.proofs.WriteSteps.{parentheses_text}
use Rattle.sql_written.specs.Lists as lists
use Rattle.sql_written.proofs.parts.write_enclosed.Goals as goal

pub returns : goal.returns
returns g c =
    parentheses_text true (lists.parts g.P.Part.marks (map g.P.Part.tree c.args.parts.now)) _ _ _ _ refl c.in_ok-push.ensures.items c.in_ok-write_parts.ensures c.in_ok-push-2.ensures.items
