use Rattle.std.proofs.Common.{◌≡◌, ◌++◌, map, drop}
use Rattle.sql_binder.specs.Items.{columns_from}
use Rattle.cond_logic.specs.Asked.{output_tree}
use Rattle.sql_binder.proofs.items.add_outputs.Given as goal

-- the columns so far stand before the rest
abbrev pub invariant-loop-position : goal.invariant-loop-position
invariant-loop-position l = map output_tree l.outputs.items ++ columns_from l.item l.position (drop l.position l.columns) ≡ map output_tree l.initial.outputs.items ++ columns_from l.item 0 l.columns
