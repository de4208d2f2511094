use Rattle.std.proofs.Common.{◌≡◌, map, drop}
use Rattle.sql_ast.specs.Queries.{item_tree}
use Rattle.sql_binder.specs.Items.{list_faults}
use Rattle.sql_binder.proofs.items.check_list.Given as goal

-- no item so far has a fault
abbrev pub invariant-loop-listed : goal.invariant-loop-listed
invariant-loop-listed l = list_faults l.names (map item_tree (drop l.listed-index l.list)) ≡ list_faults l.names (map item_tree l.list)
