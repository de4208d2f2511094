-- The texts of a rule that recurs, without limits: those at some depth.
use Rattle.std.specs.Prelude.{ℕ, List}

-- A text of the family at some number.
abbrev pub AtSome : {T A : Type 0} → (ℕ → List T → A → Type 0) → List T → A → Type 0
AtSome P ts a = (n : ℕ) × P n ts a
