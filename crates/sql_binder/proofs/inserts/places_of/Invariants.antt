use Rattle.std.proofs.Common.{◌≡◌, ◌++◌, drop}
use Rattle.sql_binder.specs.Inserts as inserts
use Rattle.sql_binder.proofs.inserts.places_of.Given as goal

-- the places so far stand before the rest
abbrev pub invariant-loop-name : goal.invariant-loop-name
invariant-loop-name l = l.places.items ++ inserts.places_of l.columns (drop l.name-index l.names) ≡ inserts.places_of l.columns l.names
