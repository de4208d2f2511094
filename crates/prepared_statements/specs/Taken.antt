-- The places of the list of prepared statements, some of which may be empty.
use Rattle.std.specs.Prelude.{ℕ, ◌+◌, Bool, true, false, ◌&&◌, nat_eq, List, [], ◌∷◌}
use Rattle.prepared_statements.specs.declared.place.Place.{Place}
use Rattle.prepared_statements.specs.declared.place.Place.TheVariants.{Taken, Empty}
use Rattle.prepared_statements.specs.declared.prepared_statement.PreparedStatement.{PreparedStatement}

abbrev pub is_taken : Place → Bool
is_taken (Taken s) = true
is_taken (Empty n) = false

-- the statements that are there, in their order
abbrev pub taken : List Place → List PreparedStatement
taken [] = []
taken (Taken s ∷ ps) = s ∷ taken ps
taken (Empty n ∷ ps) = taken ps

-- each empty one has its own number, where the first of them is at place i
abbrev pub are_numbered : ℕ → List Place → Bool
are_numbered i [] = true
are_numbered i (Taken s ∷ ps) = are_numbered (i + 1) ps
are_numbered i (Empty n ∷ ps) = nat_eq n i && are_numbered (i + 1) ps
