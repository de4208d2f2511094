-- What the sessions have prepared, one list of them as it is seen.
use Rattle.std.proofs.Common.{◌≡◌, ℕ, zero, suc, ◌<◌, List, [], ◌∷◌, refl, ap, arith, length, map, slice_index_or, slice_set}

pub map_set : {A B : Type 0} (f : A → B) (xs : List A) (s : ℕ) (x : A) → map f (slice_set xs s x) ≡ slice_set (map f xs) s (f x)
map_set f [] s x = refl
map_set f (y ∷ ys) zero x = refl
map_set f (y ∷ ys) (suc s) x = ap (λ zs. f y ∷ zs) (map_set f ys s x)

pub map_at : {A B : Type 0} (f : A → B) (xs : List A) (s : ℕ) (x : A) (d : B) → s < length xs → slice_index_or xs s x ≡ x → slice_index_or (map f xs) s d ≡ f x
map_at f [] s x d lt is = absurd (omega (arith, lt))
map_at f (y ∷ ys) zero x d lt is = ap f is
map_at f (y ∷ ys) (suc s) x d lt is = map_at f ys s x d (omega (arith, lt)) is
