use Rattle.std.proofs.Common.{◌≡◌, ◌++◌, map, drop}
use Rattle.sql_binder.specs.Items.{all_outputs}
use Rattle.cond_logic.specs.Asked.{output_tree}
use Rattle.sql_binder.proofs.items.add_all_outputs.Given as goal

-- the columns so far stand before the rest
abbrev pub invariant-loop-item : goal.invariant-loop-item
invariant-loop-item l = map output_tree l.outputs.items ++ all_outputs (drop l.item-index l.items) ≡ map output_tree l.initial.outputs.items ++ all_outputs l.items
