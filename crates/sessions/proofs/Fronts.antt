-- The front of a block.
use Rattle.std.proofs.Common.{◌≡◌, ℕ, List, [], ◌∷◌, Option, Some, None, true, map, option_map}
use Rattle.sessions.specs.Course.{Course}
use Rattle.sessions.specs.Sessions.{SessionView, head_of, tail, by_next, meets, turns}

-- seen as trees
pub head_map : {T U : Type 0} (f : T → U) (xs : List T) → head_of (map f xs) ≡ option_map f (head_of xs)
head_map f [] = cc
head_map f (x ∷ xs) = cc

pub tail_map : {T U : Type 0} (f : T → U) (xs : List T) → tail (map f xs) ≡ map f (tail xs)
tail_map f [] = cc
tail_map f (x ∷ xs) = cc

-- where a statement stands there
pub by_next_is : {S T : Type 0} (C : Course S T) (s : ℕ) (v : S) (x y : SessionView T) (o : Option T) (t : T)
    → y ≡ record x { rest = tail x.rest } → o ≡ Some t → by_next C s v x o ≡ meets C s v y t
by_next_is C s v x y o t is e = rw (e, is) cc

-- in a block of SQL
pub turns_is : {S T : Type 0} (C : Course S T) (s : ℕ) (v : S) (x y : SessionView T)
    → y ≡ record x { broken = None } → x.in_block ≡ true → x.broken ≡ None → turns C s v x ≡ by_next C s v y (head_of y.rest)
turns_is C s v x y is busy whole = rw (busy, whole, is) cc
