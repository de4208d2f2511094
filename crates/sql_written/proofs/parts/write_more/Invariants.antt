use Rattle.std.proofs.Common.{◌≡◌, ◌++◌, map, drop}
use Rattle.sql_written.specs.Marks.{text_of}
use Rattle.sql_written.specs.Lists.{more_parts}
use Rattle.sql_written.proofs.parts.write_more.Given as goal

abbrev pub invariant-loop-part : goal.invariant-loop-part
invariant-loop-part g l =
    l.out.items ++ text_of (more_parts g.P.Part.marks (map g.P.Part.tree (drop l.part-index l.parts))) ≡ l.fn.out.items ++ text_of (more_parts g.P.Part.marks (map g.P.Part.tree l.parts))
