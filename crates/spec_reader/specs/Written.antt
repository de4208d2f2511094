-- How names are written between quotes and blocks between braces, so that they are read back.
use Rattle.std.specs.Prelude.{◌≡◌, ℕ, true, not, ◌==◌, List, [], ◌∷◌, ◌++◌}
use Rattle.std.specs.List.{list_all}
use Rattle.grammar.specs.Quotes as quotes
use Rattle.spec_reader.specs.Bytes.{trimmed}

-- a name between quotes, each quote in it twice, and a block between braces
abbrev pub quoted : List ℕ → List ℕ
quoted name = quotes.quoted 34 name

abbrev pub braced : List ℕ → List ℕ
braced block = 123 ∷ (block ++ 125 ∷ [])

-- a name on one line, and a block without `}` and with no blanks at its ends
abbrev pub IsOneLine : List ℕ → Type 0
IsOneLine name = list_all (λ b. not (b == 10)) name ≡ true

abbrev pub IsBlock : List ℕ → Type 0
IsBlock block = (list_all (λ b. not (b == 125)) block ≡ true) × (trimmed block ≡ block)
