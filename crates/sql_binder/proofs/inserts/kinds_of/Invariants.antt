use Rattle.std.proofs.Common.{◌≡◌, ◌++◌, drop}
use Rattle.sql_binder.specs.Inserts as inserts
use Rattle.sql_binder.proofs.inserts.kinds_of.Given as goal

-- the kinds so far stand before the rest
abbrev pub invariant-loop-place : goal.invariant-loop-place
invariant-loop-place l = l.kinds.items ++ inserts.kinds_of l.columns (drop l.place-index l.places) ≡ inserts.kinds_of l.columns l.places
