use Rattle.std.proofs.Common.{◌≡◌, ◌++◌, map, drop}
use Rattle.sql_binder.specs.Items.{column_headings}
use Rattle.sql_binder.specs.Lent.{heading}
use Rattle.sql_binder.proofs.items.add_item_headings.Given as goal

-- the headings so far stand before the rest
abbrev pub invariant-loop-column : goal.invariant-loop-column
invariant-loop-column l = map heading l.headings.items ++ column_headings l.item.name (drop l.column-index l.columns) ≡ map heading l.initial.headings.items ++ column_headings l.item.name l.columns
