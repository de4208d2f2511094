use Rattle.std.proofs.Common.{◌≡◌, ◌++◌, map, drop}
use Rattle.sql_ast.specs.Queries.{item_tree}
use Rattle.sql_binder.specs.Items.{list_headings}
use Rattle.sql_binder.specs.Lent.{heading}
use Rattle.sql_binder.proofs.items.output_headings.Given as goal

-- the headings so far stand before the rest
abbrev pub invariant-loop-listed : goal.invariant-loop-listed
invariant-loop-listed l = map heading l.headings.items ++ list_headings l.items (map item_tree (drop l.listed-index l.list)) ≡ list_headings l.items (map item_tree l.list)
