-- A statement that goes on in another transaction.
use Rattle.std.proofs.Common.{◌≡◌, ◌∙◌, ℕ, Bool, List, slice_set}
use Rattle.std.proofs.lemmas.List.{set-set}
use Rattle.sessions.specs.Commits.{AreAsBefore, OthersAreAsBefore}

-- the session's transaction ends, and another one begins
pub set_again : (xs : List Bool) (s : ℕ) (a b : Bool) → slice_set (slice_set xs s a) s b ≡ slice_set xs s b
set_again xs s a b = set-set xs s a b

-- ---- whose statements have committed what they did first

pub both_as_before : {T : Type 0} (f g h : ℕ → T → Bool) → AreAsBefore f g → AreAsBefore g h → AreAsBefore f h
both_as_before f g h first second = λ s t. second s t ∙ first s t

pub others_too : {T : Type 0} (session : ℕ) (f g : ℕ → T → Bool) → AreAsBefore f g → OthersAreAsBefore session f g
others_too session f g same = λ s t other. same s t

pub others_then : {T : Type 0} (session : ℕ) (f g h : ℕ → T → Bool) → OthersAreAsBefore session f g → AreAsBefore g h → OthersAreAsBefore session f h
others_then session f g h first second = λ s t other. second s t ∙ first s t other

pub others_behind : {T : Type 0} (session : ℕ) (f g h : ℕ → T → Bool) → AreAsBefore f g → OthersAreAsBefore session g h → OthersAreAsBefore session f h
others_behind session f g h first second = λ s t other. second s t other ∙ first s t
