-- Lists without some of their elements.
use Rattle.std.specs.Prelude.{◌≡◌, ◌⊎◌, List, [], ◌∷◌}

-- the second list is the first without some of those of which this holds
abbrev pub Thins : {X : Type 0} → (X → Type 0) → List X → List X → Type 0
Thins P [] [] = Unit {0}
Thins P [] (y ∷ ys) = ⊥
Thins {X} P (x ∷ xs) ys = (P x × Thins P xs ys) ⊎ ((rest : List X) × (ys ≡ x ∷ rest) × Thins P xs rest)
