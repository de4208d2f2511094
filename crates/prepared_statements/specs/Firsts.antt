-- The kinds that the first places give several parameters.
use Rattle.std.specs.Prelude.{ℕ, ◌+◌, List, [], ◌∷◌, Option, None, replicate}
use Rattle.pg_values.specs.declared.value.Kind.{Kind}
use Rattle.prepared_statements.specs.ParameterPlaces.{Place, either, kind_of}

-- what is known of the parameters from the one of that number on, and with these places: a kind that is known stays, and
-- else the first place counts
abbrev pub noted_from : ℕ → List (Option Kind) → List Place → List (Option Kind)
noted_from n [] ps = []
noted_from n (k ∷ ks) ps = either k (kind_of n ps) ∷ noted_from (n + 1) ks ps

-- of all parameters
abbrev pub noted : List (Option Kind) → List Place → List (Option Kind)
noted ks ps = noted_from 1 ks ps

-- nothing is known of so many parameters
abbrev pub none_known : ℕ → List (Option Kind)
none_known count = replicate count None
