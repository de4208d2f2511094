-- Comments (4.1.5 Comments), and the signs that begin as they do.
use Rattle.std.specs.Prelude.{ℕ, ◌+◌, ◌-◌, Bool, true, false, ◌&&◌, if◌then◌else◌, ◌==◌, List, [], ◌∷◌, Option, Some, None, drop, slice_index}
use Rattle.sql_tokens.specs.declared.bytes.Class.TheVariants as class
use Rattle.sql_tokens.specs.declared.kind.TokenKind.TheVariants.{Minus, Slash}
use Rattle.sql_tokens.specs.declared.piece.Piece.{Piece}
use Rattle.sql_tokens.specs.declared.piece.Piece.TheVariants.{Gap, Lexeme, Broken}
use Rattle.sql_tokens.specs.Bytes.{past}

-- `-`, or `--` and the rest of the line
unfoldable pub minus : List ℕ → Piece
minus z = if slice_index z 1 == 45 then Gap (past class.Line z 2) else Lexeme Minus 1

-- One byte of a comment that stands in `depth` others: None where `*/` closes the outermost, or else how deep the
-- next byte stands, and whether it is the second byte of a sign.
abbrev pub comment_step : ℕ → Bool → ℕ → ℕ → Option (ℕ × Bool)
comment_step depth true b next = Some (depth, false)
comment_step depth false b next =
    if b == 42 && next == 47 then (if depth == 0 then None else Some (depth - 1, true))
    else (if b == 47 && next == 42 then Some (depth + 1, true) else Some (depth, false))

-- the place behind the `*/` that closes a comment, for a text that begins at `at`
abbrev pub comment_end : ℕ → Bool → ℕ → List ℕ → Option ℕ
comment_end depth is_second at [] = None
comment_end depth is_second at (b ∷ z) = elim (comment_step depth is_second b (slice_index z 0)) [ None ↦ Some (at + 2) | Some x ↦ comment_end x.0 x.1 (at + 1) z ]

abbrev pub closed : Option ℕ → Piece
closed None = Broken
closed (Some end) = Gap end

-- `/`, or a comment
unfoldable pub slash : List ℕ → Piece
slash z = if slice_index z 1 == 42 then closed (comment_end 0 false 2 (drop 2 z)) else Lexeme Slash 1
