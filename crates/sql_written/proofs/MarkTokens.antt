-- Marks that stand apart are read as they are written, one after another.
use Rattle.std.proofs.Common.{◌≡◌, ℕ, suc, ◌+◌, ◌-◌, ◌<◌, ◌≤◌, false, slice_index, List, [], ◌∷◌, ◌++◌, length, drop, refl, sym, ap, ◌∙◌, subst, arith, length-append, append_assoc}
use Rattle.std.proofs.Math.Seq.{drop-append_seam}
use Rattle.sql_tokens.specs.Bytes.{belongs}
use Rattle.sql_tokens.specs.Pieces.{next_piece}
use Rattle.sql_tokens.specs.Tokens.{behind, taken, told, tokens_by, tokens_of}
use Rattle.sql_tokens.specs.declared.bytes.Class.TheVariants as class
use Rattle.sql_tokens.specs.declared.kind.TokenKind.{TokenKind}
use Rattle.sql_tokens.specs.declared.token.Token.{Token}
use Rattle.sql_tokens.specs.declared.piece.Piece.{Piece}
use Rattle.sql_tokens.specs.declared.piece.Piece.TheVariants.{Gap, Lexeme}
use Rattle.sql_tokens.proofs.Steps.{none_left, step}
use Rattle.sql_written.specs.Marks.{Mark, blank, mark, bytes_of, text_of}
use Rattle.sql_written.proofs.Fronts.{blank_piece}

-- the tokens of marks, from a place of the text on
abbrev pub tokens_at : ℕ → List Mark → List Token
tokens_at at [] = []
tokens_at at (blank ∷ ms) = tokens_at (at + 1) ms
tokens_at at (mark k z ∷ ms) = record { kind = k; start = at; end = at + length z } ∷ tokens_at (at + length z) ms

-- the first byte of a text, or the one behind it
abbrev pub next : List ℕ → ℕ → ℕ
next [] n = n
next (b ∷ z) n = b

pub next_append : (x y : List ℕ) (n : ℕ) → next (x ++ y) n ≡ next x (next y n)
next_append [] y n = refl
next_append (b ∷ x) y n = refl

pub text_append : (xs ys : List Mark) → text_of (xs ++ ys) ≡ text_of xs ++ text_of ys
text_append [] ys = refl
text_append (m ∷ xs) ys = ap (λ x. bytes_of m ++ x) (text_append xs ys) ∙ sym (append_assoc (bytes_of m) (text_of xs) (text_of ys))

-- A mark stands apart from a byte n behind it if it is read as it is, whatever else comes.
pub record IsPiece (k : TokenKind) (z : List ℕ) (n : ℕ) : Type 0 where
  pub some : 0 < length z
  pub read : (rest : List ℕ) → slice_index rest 0 ≡ n → next_piece (z ++ rest) ≡ Lexeme k (length z)

abbrev pub StandsApart : Mark → ℕ → Type 0
StandsApart blank n = belongs class.Blank n ≡ false
StandsApart (mark k z) n = IsPiece k z n

-- so does each of some marks before the byte n
abbrev pub StandApart : List Mark → ℕ → Type 0
StandApart [] n = Unit {0}
StandApart (m ∷ ms) n = StandsApart m (next (text_of ms) n) × StandApart ms n

pub apart_append : (xs ys : List Mark) (n : ℕ) → StandApart xs (next (text_of ys) n) → StandApart ys n → StandApart (xs ++ ys) n
apart_append [] ys n h k = k
apart_append (m ∷ xs) ys n h k =
    (subst (StandsApart m) (sym (ap (λ z. next z n) (text_append xs ys) ∙ next_append (text_of xs) (text_of ys) n)) h.0, apart_append xs ys n h.1 k)

first_is : (z : List ℕ) → slice_index z 0 ≡ next z 0
first_is [] = refl
first_is (b ∷ z) = refl

-- reading
read_on : (p q : Piece) (count at : ℕ) (z : List ℕ) → p ≡ q → told at p ++ behind (tokens_by count) at z (taken p) ≡ told at q ++ behind (tokens_by count) at z (taken q)
read_on p q count at z e = ap (λ x. told at x ++ behind (tokens_by count) at z (taken x)) e

less_by : (count n : ℕ) → 0 < n → n ≤ count → count ≡ suc (count - 1)
less_by count n h k = omega arith

pub tokens_are : (ms : List Mark) (count at : ℕ) → StandApart ms 0 → length (text_of ms) ≤ count → tokens_by count at (text_of ms) ≡ tokens_at at ms
tokens_are [] count at h k = none_left count at [] refl
tokens_are (blank ∷ ms) count at h k =
    let z = text_of ms in
    step count (count - 1) at (32 ∷ z) (omega arith) (omega arith)
    ∙ (read_on (next_piece (32 ∷ z)) (Gap 1) (count - 1) at (32 ∷ z) (blank_piece z (ap (belongs class.Blank) (first_is z) ∙ h.0))
    ∙ tokens_are ms (count - 1) (at + 1) h.1 (omega arith))
tokens_are (mark k z ∷ ms) count at h l =
    let y = text_of ms in
    let long = length-append z y in
    let more : y ≡ drop (length z) (z ++ y) = sym (drop-append_seam z y) in
    let some : 0 < length z = h.0.some in
    step count (count - 1) at (z ++ y) (omega arith) (omega arith)
    ∙ (read_on (next_piece (z ++ y)) (Lexeme k (length z)) (count - 1) at (z ++ y) (h.0.read y (first_is y))
    ∙ ap (λ x. record { kind = k; start = at; end = at + length z } ∷ x)
    (ap (tokens_by (count - 1) (at + length z)) (sym more) ∙ tokens_are ms (count - 1) (at + length z) h.1 (omega arith)))

pub tokens_written : (ms : List Mark) → StandApart ms 0 → tokens_of (text_of ms) ≡ tokens_at 0 ms
tokens_written ms h = tokens_are ms (length (text_of ms)) 0 h (omega arith)
