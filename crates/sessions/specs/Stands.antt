-- The sessions of the code stand for a state.
use Rattle.std.specs.Prelude.{◌≡◌, ℕ, suc, ◌+◌, Bool, List, [], ◌∷◌, map}
use Rattle.sessions.specs.Seen.{seen}
use Rattle.sessions.specs.Sessions.{SessionView, State, has_open}
use Rattle.sessions.specs.Weight.{points_in, weight_of}

pub record Stands {E S T U : Type 0} (stands : E → S → Type 0) (tree : T → U) (e : E) (xs : List (SessionView T)) (v : State S U) : Type 0 where
  pub executor : stands e v.executor
  pub sessions : map (seen tree) xs ≡ v.sessions

-- by session, whether it has a transaction open
abbrev pub transactions : {T : Type 0} → List (SessionView T) → List Bool
transactions sessions = map (λ x. has_open x.phase) sessions

-- the points of these sessions, which have the numbers from s on
abbrev pub points_from : {T U : Type 0} → (has_committed : ℕ → U → Bool) → (T → U) → (s : ℕ) → List (SessionView T) → ℕ
points_from has_committed tree s [] = 0
points_from has_committed tree s (x ∷ xs) = points_in has_committed tree s x + points_from has_committed tree (suc s) xs

-- what can still happen
abbrev pub weight : {T U : Type 0} → (most slack : ℕ) → (has_committed : ℕ → U → Bool) → (T → U) → List (SessionView T) → ℕ
weight most slack has_committed tree sessions = weight_of most slack (points_from has_committed tree 0 sessions)
