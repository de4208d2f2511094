use Rattle.std.proofs.Common.{◌≡◌, ◌++◌, map, drop}
use Rattle.sql_binder.specs.Items.{all_headings}
use Rattle.sql_binder.specs.Lent.{heading}
use Rattle.sql_binder.proofs.items.add_all_headings.Given as goal

-- the headings so far stand before the rest
abbrev pub invariant-loop-item : goal.invariant-loop-item
invariant-loop-item l = map heading l.headings.items ++ all_headings (drop l.item-index l.items) ≡ map heading l.initial.headings.items ++ all_headings l.items
