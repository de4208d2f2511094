use Rattle.std.proofs.Common.{◌≡◌, ◌++◌, map, drop}
use Rattle.sql_ast.specs.Queries.{joined_tree}
use Rattle.sql_written.specs.Marks.{text_of}
use Rattle.sql_written.specs.Queries.{more_tables}
use Rattle.sql_written.proofs.query_parts.write_more_tables.Given as goal

abbrev pub invariant-loop-item : goal.invariant-loop-item
invariant-loop-item l = l.out.items ++ text_of (more_tables (map joined_tree (drop l.item-index l.items))) ≡ l.fn.out.items ++ text_of (more_tables (map joined_tree l.items))
