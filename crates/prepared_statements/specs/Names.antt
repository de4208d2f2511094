-- By which prepared statements, and the places of their list, are told from each other and found.
use Rattle.std.specs.Prelude.{ℕ, Bool, List, [], ◌∷◌, ◌==◌, if◌then◌else◌, slice_index}
use Rattle.std.specs.Hash as fed
use Rattle.std.specs.Str.{bytes_eq}
use Rattle.prepared_statements.specs.declared.name.Name.{Name}
use Rattle.prepared_statements.specs.declared.place.Place.{Place}
use Rattle.prepared_statements.specs.declared.place.Place.TheVariants.{Taken, Empty}
use Rattle.prepared_statements.specs.declared.prepared_statement.PreparedStatement.{PreparedStatement}

abbrev pub name_of : PreparedStatement → List ℕ
name_of s = s.name

abbrev pub bytes_of : Name → List ℕ
bytes_of n = n.bytes.now

abbrev pub has_name : List ℕ → PreparedStatement → Bool
has_name n s = bytes_eq n (name_of s)

-- the key of the place of a name
abbrev pub key_of_name : List ℕ → List ℕ
key_of_name n = 0 ∷ n

-- a place by the name of its statement, or by its number
abbrev pub key_of : Place → List ℕ
key_of (Taken s) = key_of_name (name_of s)
key_of (Empty n) = 1 ∷ n ∷ []

-- whether a statement of that name is there
abbrev pub bears : List ℕ → Place → Bool
bears n p = bytes_eq (key_of_name n) (key_of p)

-- what is hashed of a key: the name, or the number
abbrev pub hashed : List ℕ → List (List ℕ)
hashed [] = []
hashed (k ∷ rest) = if k == 0 then rest ∷ [] else fed.usize (slice_index rest 0)
