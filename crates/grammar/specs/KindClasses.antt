-- Classes by the kind of a token: a test of kinds is a class of tokens.
use Rattle.std.specs.Prelude.{Bool, true, ◌&&◌, List, [], ◌∷◌}
use Rattle.grammar.specs.Reading.{Class}

-- The tokens whose kind passes the test.
abbrev pub of_kind : {T K : Type 0} → (T → K) → (K → Bool) → Class T
of_kind kind_of c t = c (kind_of t)

-- Whether each of the list passes the test.
abbrev pub every : {K : Type 0} → (K → Bool) → List K → Bool
every p [] = true
every p (k ∷ ks) = p k && every p ks
