use Rattle.std.proofs.Common.{◌≡◌, ◌++◌, map, drop}
use Rattle.sql_binder.specs.Selects as selects
use Rattle.sql_binder.proofs.selects.bare_items.Given as goal

-- the items so far stand before the rest
abbrev pub invariant-loop-item : goal.invariant-loop-item
invariant-loop-item l = l.bare.items ++ map selects.without_columns (drop l.item-index l.items) ≡ map selects.without_columns l.items
