use Rattle.std.proofs.Common.{◌≡◌}
use Rattle.sql_binder.specs.Inserts.{from_to}
use Rattle.sql_binder.proofs.inserts.first_places.Given as goal

-- all places so far
abbrev pub invariant-loop-place : goal.invariant-loop-place
invariant-loop-place l = l.places.items ≡ from_to 0 l.place
