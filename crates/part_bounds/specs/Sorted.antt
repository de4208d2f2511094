-- The stably sorted list.
use Rattle.std.specs.Prelude.{Bool, List, [], ◌∷◌, if◌then◌else◌}

-- before the first element that is not less
abbrev pub insert : {X : Type 0} → (X → X → Bool) → X → List X → List X
insert lt x [] = x ∷ []
insert lt x (y ∷ ys) = if lt y x then y ∷ insert lt x ys else x ∷ y ∷ ys

-- from the last element on, so that elements that tie stay in order
abbrev pub sorted : {X : Type 0} → (X → X → Bool) → List X → List X
sorted lt [] = []
sorted lt (x ∷ xs) = insert lt x (sorted lt xs)
