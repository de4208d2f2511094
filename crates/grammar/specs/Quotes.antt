-- Texts between quotes, in which two quotes stand for one.
use Rattle.std.specs.Prelude.{ℕ, ◌+◌, Bool, true, false, not, ◌&&◌, if◌then◌else◌, ◌==◌, List, [], ◌∷◌, ◌++◌, Option, Some, None, slice_index}

-- the place behind the closing quote, for a text that begins at `at`; two quotes together do not close
abbrev pub closing : ℕ → Bool → ℕ → List ℕ → Option ℕ
closing quote is_second at [] = None
closing quote true at (b ∷ z) = closing quote false (at + 1) z
closing quote false at (b ∷ z) = if b == quote && not (slice_index z 0 == quote) then Some (at + 1) else closing quote (b == quote) (at + 1) z

-- a byte between quotes; the second of two quotes is left out
abbrev pub kept : Bool → ℕ → List ℕ
kept true b = []
kept false b = b ∷ []

-- the bytes between quotes, with one quote for two
abbrev pub undoubled : ℕ → Bool → List ℕ → List ℕ
undoubled quote is_second [] = []
undoubled quote is_second (b ∷ z) = kept is_second b ++ undoubled quote (not is_second && b == quote) z

-- each quote twice
abbrev pub doubled : ℕ → List ℕ → List ℕ
doubled quote [] = []
doubled quote (b ∷ z) = if b == quote then quote ∷ quote ∷ doubled quote z else b ∷ doubled quote z

-- between quotes
abbrev pub quoted : ℕ → List ℕ → List ℕ
quoted quote z = quote ∷ (doubled quote z ++ quote ∷ [])
