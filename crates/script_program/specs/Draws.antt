-- Numbers that are drawn from a state, and texts with such numbers (Knuth, The Art of Computer Programming, 3.2.1 The Linear
-- Congruential Method).
use Rattle.std.specs.Prelude.{◌≡◌, ◌+◌, ◌*◌, ◌/◌, ◌%◌, ◌^◌, ℕ, List, [], ◌∷◌, ◌++◌, map, replicate, decimal}
use Rattle.std.specs.List.{range_with_len}

-- the state behind a draw
abbrev pub next_state : ℕ → ℕ
next_state s = (s * 6364136223846793005 + 1442695040888963407) % 2 ^ 64

-- the number below n that is drawn
abbrev pub draw : ℕ → ℕ → ℕ
draw n s = next_state s / 2 ^ 33 % n

-- a text that depends on a state: with it comes the state behind it
abbrev pub Drawn : Type 0 → Type 0
Drawn S = S → List ℕ × S

abbrev pub fixed : {S : Type 0} → List ℕ → Drawn S
fixed text s = (text, s)

-- one behind another
unfoldable pub in_turn : {S : Type 0} → List (Drawn S) → Drawn S
in_turn [] s = ([], s)
in_turn (d ∷ ds) s = ((d s).0 ++ (in_turn ds (d s).1).0, (in_turn ds (d s).1).1)

-- the same n times
abbrev pub repeated : {S : Type 0} → ℕ → Drawn S → Drawn S
repeated n d = in_turn (replicate n d)

-- for n numbers, from a on
abbrev pub for_each : {S : Type 0} → ℕ → ℕ → (ℕ → Drawn S) → Drawn S
for_each a n d = in_turn (map d (range_with_len a n))

-- a number below n is drawn, and with it the text is known
abbrev pub with_draw : ℕ → (ℕ → Drawn ℕ) → Drawn ℕ
with_draw n text s = text (draw n s) (next_state s)

-- a number below n, in decimal digits
abbrev pub drawn : ℕ → Drawn ℕ
drawn n = with_draw n (λ x. fixed (decimal x))

-- the text is appended, and the state goes on
pub record Moves {S : Type 0} (d : Drawn S) (s : S) (text : List ℕ) (s' : S) (text' : List ℕ) : Type 0 where
  pub appends : text' ≡ text ++ (d s).0
  pub goes_on : s' ≡ (d s).1
