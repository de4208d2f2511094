-- Names that may not stand twice.
use Rattle.std.specs.Prelude.{ℕ, not, List, [], ◌∷◌, ◌++◌, map}
use Rattle.std.specs.Borrow.{Bor}
use Rattle.std.specs.List.{list_any}
use Rattle.std.specs.Str.{bytes_eq}
use Rattle.pg_values.specs.declared.fault.Fault.{Fault}
use Rattle.expression_binder.specs.Firsts.{unless}

-- no earlier name is this one
abbrev pub once_faults : (List ℕ → Fault) → (earlier : List (List ℕ)) → List ℕ → List Fault
once_faults twice earlier name = unless (not (list_any (bytes_eq name) earlier)) (twice name)

-- name by name
abbrev pub twice_faults : (List ℕ → Fault) → (earlier names : List (List ℕ)) → List Fault
twice_faults twice earlier [] = []
twice_faults twice earlier (n ∷ ns) = once_faults twice earlier n ++ twice_faults twice (earlier ++ n ∷ []) ns

-- names that are lent, as bytes
abbrev pub bytes_of : List (Bor (List ℕ)) → List (List ℕ)
bytes_of names = map (λ n. n.now) names
