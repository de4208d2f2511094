use Rattle.std.proofs.Common.{◌≡◌, ◌++◌, map, drop}
use Rattle.sql_ast.specs.Queries.{item_tree}
use Rattle.sql_binder.specs.Items.{list_constants, list_outputs}
use Rattle.cond_logic.specs.Asked.{output_tree}
use Rattle.sql_binder.proofs.items.bind_list.Given as goal

-- no item so far has a fault, and its columns stand before those of the rest
abbrev pub invariant-loop-listed : goal.invariant-loop-listed
invariant-loop-listed l = record {
  faults : list_constants l.names (map item_tree (drop l.listed-index l.list)) ≡ list_constants l.names (map item_tree l.list);
  made : map output_tree l.outputs.items ++ list_outputs l.names (map item_tree (drop l.listed-index l.list)) ≡ list_outputs l.names (map item_tree l.list);
}
