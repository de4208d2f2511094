-- What is written between quotes is read back.
use Rattle.std.proofs.Common.{◌≡◌, ℕ, suc, ◌+◌, ◌-◌, ◌<◌, true, false, cond, ◌==◌, List, [], ◌∷◌, length, take, drop, Some, refl, ap, ◌∙◌, arith, length-drop, zero-add}
use Rattle.std.proofs.lemmas.Grind.{common_steps}
use Rattle.std.specs.Str.{is_utf8}
use Rattle.sql_tokens.specs.declared.kind.TokenKind.{TokenKind}
use Rattle.sql_tokens.specs.declared.kind.TokenKind.TheVariants.{Text, QuotedName}
use Rattle.sql_tokens.specs.declared.piece.Piece.TheVariants.{Lexeme}
use Rattle.sql_tokens.specs.Contents.{name_in, string_in}
use Rattle.sql_tokens.specs.Pieces.{front, mark, next_piece}
use Rattle.sql_tokens.specs.Quotes.{closed_name, closed_string, inside, quoted_name, string, undoubled}
use Rattle.sql_tokens.specs.Tokens.{tokens_by, tokens_of}
use Rattle.sql_tokens.specs.Written.{IsToken, doubled, quoted, whole}
use Rattle.sql_tokens.proofs.Steps.{none_left, step}
use Rattle.grammar.proofs.QuotedBack.{inside-quoted, length_quoted}
pub use Rattle.grammar.proofs.QuotedBack.{closing_doubled, undoubled-doubled}

all_of : (z : List ℕ) → take (length z - 0) (drop 0 z) ≡ z
all_of z = grind (arith, common_steps)

string_front : (z : List ℕ) → front (quoted 39 z) ≡ Lexeme Text (length (quoted 39 z))
unfolding front mark string
string_front z =
    let p : 1 + length (doubled 39 z) + 1 ≡ length (quoted 39 z) = omega (arith, length_quoted 39 z) in
    ap closed_string (closing_doubled 39 1 z [] refl refl) ∙ ap (Lexeme Text) p

closed_long : (n m : ℕ) → n ≡ m → 2 < n → closed_name (Some n) ≡ Lexeme QuotedName m
closed_long n m e h = let p : (n == 2) ≡ false = grind arith in rw (p, e) refl

doubled_some : (q : ℕ) (z : List ℕ) → 0 < length z → 0 < length (doubled q z)
doubled_some q [] h = absurd (omega arith)
doubled_some q (b ∷ z) h = elim (b == q) as (λ f. 0 < length (cond f (q ∷ q ∷ doubled q z) (b ∷ doubled q z))) [ true ↦ omega arith | false ↦ omega arith ]

name_front : (z : List ℕ) → 0 < length z → front (quoted 34 z) ≡ Lexeme QuotedName (length (quoted 34 z))
unfolding front mark quoted_name
name_front z h =
    let p : 1 + length (doubled 34 z) + 1 ≡ length (quoted 34 z) = omega (arith, length_quoted 34 z) in
    ap closed_name (closing_doubled 34 1 z [] refl refl) ∙ closed_long (1 + length (doubled 34 z) + 1) (length (quoted 34 z)) p (omega (arith, doubled_some 34 z h))

whole_piece : (z : List ℕ) (k : TokenKind) → is_utf8 z ≡ true → front z ≡ Lexeme k (length z) → next_piece z ≡ Lexeme k (length z)
unfolding next_piece
whole_piece z k u e = let all : take (length z) z ≡ z = grind (arith, common_steps) in rw (e, all, u) refl

one_token : (z : List ℕ) (k : TokenKind) → 0 < length z → next_piece z ≡ Lexeme k (length z) → tokens_of z ≡ whole k z ∷ []
one_token z k h e =
    let none : tokens_by (length z - 1) (0 + length z) (drop (length z) z) ≡ [] = none_left (length z - 1) (0 + length z) (drop (length z) z) (omega (arith, length-drop (length z) z)) in
    step (length z) (length z - 1) 0 z (omega arith) h ∙ rw (e, none, zero-add) refl

pub string_back : (z : List ℕ) → is_utf8 (quoted 39 z) ≡ true → IsToken Text (quoted 39 z) string_in z
string_back z u = record {
  one = one_token (quoted 39 z) Text (omega (arith, length_quoted 39 z)) (whole_piece (quoted 39 z) Text u (string_front z));
  says = ap (λ x. undoubled 39 false (inside x)) (all_of (quoted 39 z)) ∙ (ap (undoubled 39 false) (inside-quoted 39 z) ∙ undoubled-doubled 39 z refl);
}

pub name_back : (z : List ℕ) → 0 < length z → is_utf8 (quoted 34 z) ≡ true → IsToken QuotedName (quoted 34 z) name_in z
name_back z h u = record {
  one = one_token (quoted 34 z) QuotedName (omega (arith, length_quoted 34 z)) (whole_piece (quoted 34 z) QuotedName u (name_front z h));
  says = ap (λ x. undoubled 34 false (inside x)) (all_of (quoted 34 z)) ∙ (ap (undoubled 34 false) (inside-quoted 34 z) ∙ undoubled-doubled 34 z refl);
}
