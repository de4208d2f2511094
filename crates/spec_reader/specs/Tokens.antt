-- The tokens of a text.
use Rattle.std.specs.Prelude.{ℕ, zero, suc, ◌+◌, ◌-◌, Bool, nat_le, if◌then◌else◌, filter, List, [], ◌∷◌, ◌++◌, Option, Some, None, length}
use Rattle.std.specs.Str.{is_utf8}
use Rattle.std.specs.Str.Lossy.{utf8_valid_len}
use Rattle.spec_reader.specs.declared.kind.ScriptTokenKind.{ScriptTokenKind}
use Rattle.spec_reader.specs.declared.kind.ScriptTokenKind.TheVariants as kinds
use Rattle.spec_reader.specs.declared.piece.Piece.{Piece}
use Rattle.spec_reader.specs.declared.token.Token.{Token}
use Rattle.spec_reader.specs.Pieces.{piece_of}

-- a token of the kind at its places; none for a gap
abbrev pub noted : Option ScriptTokenKind → ℕ → ℕ → List Token
noted None start end = []
noted (Some k) start end = record { kind = k; start = start; end = end } ∷ []

-- the tokens from the place `at` on, behind the first n bytes, which belong to a piece that was noted
unfoldable pub tokens_from : ℕ → ℕ → List ℕ → List Token
tokens_from zero at [] = []
tokens_from (suc n) at [] = []
tokens_from zero at (b ∷ rest) = let p : Piece = piece_of (b ∷ rest) in noted p.kind at (at + p.len) ++ tokens_from (p.len - 1) (at + 1) rest
tokens_from (suc n) at (b ∷ rest) = tokens_from n (at + 1) rest

-- Whether a token ends there or before.
abbrev pub ends_by : ℕ → Token → Bool
ends_by n t = nat_le t.end n

-- All tokens; or, where the text is no UTF-8, those that end before the first byte that is none, and a fault at it.
abbrev pub tokens_of : List ℕ → List Token
tokens_of text =
    if is_utf8 text then tokens_from 0 0 text
    else filter (ends_by (utf8_valid_len text)) (tokens_from 0 0 text) ++ noted (Some kinds.Fault) (utf8_valid_len text) (length text)
