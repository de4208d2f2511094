-- The tokens of a text (4.1 Lexical Structure): piece after piece, up to its end or to the first that is broken.
use Rattle.std.specs.Prelude.{◌≡◌, ◌<◌, ◌≤◌, ◌⊎◌, false, ℕ, zero, suc, ◌+◌, List, [], ◌∷◌, ◌++◌, length, drop, Option, Some, None}
use Rattle.sql_tokens.specs.declared.kind.TokenKind.TheVariants.{Fault}
use Rattle.sql_tokens.specs.declared.piece.Piece.{Piece}
use Rattle.sql_tokens.specs.declared.piece.Piece.TheVariants.{Gap, Lexeme, Broken}
use Rattle.sql_tokens.specs.declared.token.Token.{Token}
use Rattle.sql_tokens.specs.Pieces.{next_piece}
use Rattle.sql_tokens.specs.Words.{is}

-- the tokens that a piece at this place gives
abbrev pub told : ℕ → Piece → List Token
told at (Gap n) = []
told at (Lexeme k n) = record { kind = k; start = at; end = at + n } ∷ []
told at Broken = record { kind = Fault; start = at; end = at } ∷ []

-- how many bytes a piece takes, where reading goes on behind it
abbrev pub taken : Piece → Option ℕ
taken (Gap n) = Some n
taken (Lexeme k n) = Some n
taken Broken = None

-- tokens of some bytes each, none of them a fault, in order and none over another, between two places
abbrev pub InOrder : ℕ → ℕ → List Token → Type 0
InOrder from to [] = from ≤ to
InOrder from to (t ∷ ts) = (from ≤ t.start) × (t.start < t.end) × (is t.kind Fault ≡ false) × InOrder t.end to ts

-- such tokens up to the end of the text, or up to the place of a fault, which is the last
abbrev pub ArePlaced : ℕ → List Token → Type 0
ArePlaced end ts = InOrder 0 end ts ⊎ ((front : List Token) × (at : ℕ) × (ts ≡ front ++ told at Broken) × InOrder 0 at front × (at < end))

-- reading on behind a piece
abbrev pub behind : (ℕ → List ℕ → List Token) → ℕ → List ℕ → Option ℕ → List Token
behind on at z None = []
behind on at z (Some n) = on (at + n) (drop n z)

-- the tokens of the first pieces of what is left of a text from the place `at` on
unfoldable pub tokens_by : ℕ → ℕ → List ℕ → List Token
tokens_by zero at z = []
tokens_by (suc count) at [] = []
tokens_by (suc count) at (b ∷ z) = told at (next_piece (b ∷ z)) ++ behind (tokens_by count) at (b ∷ z) (taken (next_piece (b ∷ z)))

-- a text has no more pieces than bytes
abbrev pub tokens_of : List ℕ → List Token
tokens_of text = tokens_by (length text) 0 text
