-- What stands at the front of a text: the word, the sign or the constant that is written there.
use Rattle.std.proofs.Common.{◌≡◌, ℕ, suc, ◌+◌, ◌<◌, Bool, true, false, cond, ◌&&◌, ◌==◌, slice_index, List, [], ◌∷◌, ◌++◌, length, take, Some, refl, ap, ◌∙◌, arith, length-append, append_assoc}
use Rattle.std.proofs.Math.Seq.{take-append_seam}
use Rattle.std.specs.List.{prefix_len}
use Rattle.std.specs.Prelude.{nat_lt}
use Rattle.std.proofs.lemmas.List.Elements.{All-nil, All-cons}
use Rattle.std.proofs.lemmas.Str.{IsUtf8-from_ascii, is_utf8-from_IsUtf8}
use Rattle.std.proofs.lemmas.Str.Ascii.{IsAscii-from_all}
use Rattle.std.specs.Prelude.{All}
use Rattle.std.specs.Str.{is_utf8}
use Rattle.sql_tokens.specs.Bytes.{belongs, past}
use Rattle.sql_tokens.specs.Numbers.{apart, kind_of, number, number_of_digits, parameter, past_exponent, past_fraction}
use Rattle.sql_tokens.specs.Pieces.{front, length_of, mark, next_piece}
use Rattle.sql_tokens.specs.Quotes.{closed_name, closed_string, closing, quoted_name, string}
use Rattle.sql_tokens.specs.Words.{word_kind}
use Rattle.sql_tokens.specs.Written.{doubled, quoted}
use Rattle.sql_tokens.specs.declared.numbers.TheConstants.{MOST_PARAMETER}
use Rattle.sql_tokens.proofs.ReadBack.{closing_doubled}
use Rattle.sql_tokens.specs.declared.bytes.Class.TheVariants as class
use Rattle.sql_tokens.specs.declared.kind.TokenKind.{TokenKind}
use Rattle.sql_tokens.specs.declared.kind.TokenKind.TheVariants as kinds
use Rattle.sql_tokens.specs.declared.piece.Piece.{Piece}
use Rattle.sql_tokens.specs.declared.piece.Piece.TheVariants.{Gap, Lexeme}

-- a class of bytes ends where the next byte is not of it
stops_at : (p : ℕ → Bool) (rest : List ℕ) → p (slice_index rest 0) ≡ false → prefix_len p rest ≡ 0
stops_at p [] h = refl
stops_at p (b ∷ rest) h = rw h refl

one_more : (p : ℕ → Bool) (b n m : ℕ) (w z : List ℕ) (f : Bool) → p b ≡ f → prefix_len p (b ∷ z) ≡ suc m → (prefix_len p z ≡ m → prefix_len p w ≡ n) → prefix_len p (b ∷ w) ≡ suc n
one_more p b n m w z true i e on =
    let one : 1 + prefix_len p z ≡ suc m = rw i at e in
    let same : prefix_len p z ≡ m = omega arith in
    rw i (omega (arith, on same))
one_more p b n m w z false i e on = let none : 0 ≡ suc m = rw i at e in absurd (omega arith)

up_to : (p : ℕ → Bool) (z rest : List ℕ) → prefix_len p z ≡ length z → p (slice_index rest 0) ≡ false → prefix_len p (z ++ rest) ≡ length z
up_to p [] rest e h = stops_at p rest h
up_to p (b ∷ z) rest e h = one_more p b (length z) (length z) (z ++ rest) z (p b) refl e (λ i. up_to p z rest i h)

-- a piece is whole where its bytes are UTF-8
pub piece_of : (k : TokenKind) (z rest : List ℕ) → is_utf8 z ≡ true → front (z ++ rest) ≡ Lexeme k (length z) → next_piece (z ++ rest) ≡ Lexeme k (length z)
unfolding next_piece
piece_of k z rest u e = let all : take (length z) (z ++ rest) ≡ z = take-append_seam z rest in rw (e, all, u) refl

-- the first byte of a name is none of a blank, and so on
start_no_blank : (b : ℕ) → belongs class.NameStart b ≡ true → belongs class.Blank b ≡ false
start_no_blank b h = grind (arith, h)

-- a word, up to a byte with which no name goes on
pub name_front : (b : ℕ) (z rest : List ℕ) → belongs class.NameStart b ≡ true → prefix_len (belongs class.NamePart) (b ∷ z) ≡ length (b ∷ z) → belongs class.NamePart (slice_index rest 0) ≡ false →
    front ((b ∷ z) ++ rest) ≡ Lexeme (word_kind (b ∷ z)) (length (b ∷ z))
unfolding front
name_front b z rest s e h =
    let n : 0 + prefix_len (belongs class.NamePart) ((b ∷ z) ++ rest) ≡ length (b ∷ z) = omega (arith, up_to (belongs class.NamePart) (b ∷ z) rest e h) in
    let all : take (length (b ∷ z)) ((b ∷ z) ++ rest) ≡ b ∷ z = take-append_seam (b ∷ z) rest in
    rw (start_no_blank b s, s) (ap (λ m. Lexeme (word_kind (take m ((b ∷ z) ++ rest))) m) n ∙ ap (λ w. Lexeme (word_kind w) (length (b ∷ z))) all)

-- a number, up to a byte with which no number goes on and no name begins
pub record EndsNumber (n : ℕ) : Type 0 where
  pub digit : belongs class.Digit n ≡ false
  pub start : belongs class.NameStart n ≡ false
  pub point : (n == 46) ≡ false
  pub small : (n == 101) ≡ false
  pub big : (n == 69) ≡ false

past_there : (z rest : List ℕ) → prefix_len (belongs class.Digit) z ≡ length z → belongs class.Digit (slice_index rest 0) ≡ false → past class.Digit (z ++ rest) 0 ≡ length z
past_there z rest e h = omega (arith, up_to (belongs class.Digit) z rest e h)

behind_all : (z rest : List ℕ) → slice_index (z ++ rest) (length z) ≡ slice_index rest 0
behind_all [] rest = refl
behind_all (b ∷ z) rest = behind_all z rest

number_apart : (z rest : List ℕ) → EndsNumber (slice_index rest 0) →
    apart (kind_of (length z) (past_exponent (z ++ rest) (past_fraction (z ++ rest) (length z)))) (z ++ rest) (past_exponent (z ++ rest) (past_fraction (z ++ rest) (length z))) ≡ Lexeme kinds.Number (length z)
number_apart z rest h =
    let i : slice_index (z ++ rest) (length z) ≡ slice_index rest 0 = behind_all z rest in
    let same : (length z == length z) ≡ true = grind arith in
    rw (i, h.point, i, h.small, h.big, same, i, h.start) refl

number_read : (z rest : List ℕ) → prefix_len (belongs class.Digit) z ≡ length z → EndsNumber (slice_index rest 0) → number (z ++ rest) ≡ Lexeme kinds.Number (length z)
unfolding number
number_read z rest e h = rw (past_there z rest e h.digit) (number_apart z rest h)

pub number_front : (b : ℕ) (z rest : List ℕ) → belongs class.Digit b ≡ true → prefix_len (belongs class.Digit) (b ∷ z) ≡ length (b ∷ z) → EndsNumber (slice_index rest 0) →
    front ((b ∷ z) ++ rest) ≡ Lexeme kinds.Number (length (b ∷ z))
unfolding front
number_front b z rest d e h =
    let no_blank : belongs class.Blank b ≡ false = grind (arith, d) in
    let no_start : belongs class.NameStart b ≡ false = grind (arith, d) in
    rw (no_blank, no_start, d) (number_read (b ∷ z) rest e h)

-- a parameter
number_of_sign : (z : List ℕ) → number_of_digits (36 ∷ z) ≡ number_of_digits z
number_of_sign z = refl

parameter_read : (z rest : List ℕ) → 0 < length z → prefix_len (belongs class.Digit) z ≡ length z → nat_lt MOST_PARAMETER (number_of_digits z) ≡ false → EndsNumber (slice_index rest 0) →
    parameter (36 ∷ (z ++ rest)) ≡ Lexeme kinds.Parameter (suc (length z))
unfolding parameter
parameter_read z rest some e few h =
    let end : 1 + prefix_len (belongs class.Digit) (z ++ rest) ≡ suc (length z) = omega (arith, up_to (belongs class.Digit) z rest e h.digit) in
    let first : take (suc (length z)) (36 ∷ (z ++ rest)) ≡ 36 ∷ z = take-append_seam (36 ∷ z) rest in
    let long : (suc (length z) == 1) ≡ false = grind (arith, some) in
    let i : slice_index (36 ∷ (z ++ rest)) (suc (length z)) ≡ slice_index rest 0 = behind_all (36 ∷ z) rest in
    rw (end, long, first, few, i, h.start) refl

pub parameter_front : (z rest : List ℕ) → 0 < length z → prefix_len (belongs class.Digit) z ≡ length z → nat_lt MOST_PARAMETER (number_of_digits z) ≡ false → EndsNumber (slice_index rest 0) →
    front (36 ∷ (z ++ rest)) ≡ Lexeme kinds.Parameter (suc (length z))
unfolding front mark
parameter_front z rest some e few h = parameter_read z rest some e few h

-- between quotes
quoted_long : (q : ℕ) (z : List ℕ) → length (quoted q z) ≡ length (doubled q z) + 2
quoted_long q z = omega (arith, length-append (doubled q z) (q ∷ []))

quoted_before : (q : ℕ) (z rest : List ℕ) → quoted q z ++ rest ≡ q ∷ (doubled q z ++ q ∷ rest)
quoted_before q z rest = ap (λ x. q ∷ x) (append_assoc (doubled q z) (q ∷ []) rest)

closes_there : (q : ℕ) (z rest : List ℕ) → (q == q) ≡ true → (slice_index rest 0 == q) ≡ false → closing q false 1 (doubled q z ++ q ∷ rest) ≡ Some (length (quoted q z))
closes_there q z rest e h = closing_doubled q 1 z rest e h ∙ ap Some (omega (arith, quoted_long q z))

string_read : (z rest : List ℕ) → (slice_index rest 0 == 39) ≡ false → string (39 ∷ (doubled 39 z ++ 39 ∷ rest)) ≡ Lexeme kinds.Text (length (quoted 39 z))
unfolding string
string_read z rest h = ap closed_string (closes_there 39 z rest refl h)

pub string_front : (z rest : List ℕ) → (slice_index rest 0 == 39) ≡ false → front (quoted 39 z ++ rest) ≡ Lexeme kinds.Text (length (quoted 39 z))
unfolding front mark
string_front z rest h = rw (quoted_before 39 z rest) (string_read z rest h)

doubled_some : (q : ℕ) (z : List ℕ) → 0 < length z → 0 < length (doubled q z)
doubled_some q [] h = absurd (omega arith)
doubled_some q (b ∷ z) h = elim (b == q) as (λ f. 0 < length (cond f (q ∷ q ∷ doubled q z) (b ∷ doubled q z))) [ true ↦ omega arith | false ↦ omega arith ]

quoted_name_read : (z rest : List ℕ) → 0 < length z → (slice_index rest 0 == 34) ≡ false → quoted_name (34 ∷ (doubled 34 z ++ 34 ∷ rest)) ≡ Lexeme kinds.QuotedName (length (quoted 34 z))
unfolding quoted_name
quoted_name_read z rest some h =
    let long : (length (quoted 34 z) == 2) ≡ false = grind (arith, quoted_long 34 z, doubled_some 34 z some) in
    ap closed_name (closes_there 34 z rest refl h) ∙ rw long refl

pub quoted_name_front : (z rest : List ℕ) → 0 < length z → (slice_index rest 0 == 34) ≡ false → front (quoted 34 z ++ rest) ≡ Lexeme kinds.QuotedName (length (quoted 34 z))
unfolding front mark
quoted_name_front z rest some h = rw (quoted_before 34 z rest) (quoted_name_read z rest some h)

-- ASCII is UTF-8
abbrev pub is_ascii : List ℕ → Bool
is_ascii [] = true
is_ascii (b ∷ z) = nat_lt b 128 && is_ascii z

first_low : (b : ℕ) (more : Bool) → (nat_lt b 128 && more) ≡ true → b < 128
first_low b more h = grind (arith, h)

rest_low : (low more : Bool) → (low && more) ≡ true → more ≡ true
rest_low true more h = h
rest_low false more h = cc

all_low : (z : List ℕ) → is_ascii z ≡ true → All (λ b. b < 128) z
all_low [] h = All-nil (λ b. b < 128)
all_low (b ∷ z) h = All-cons (λ b. b < 128) b z (first_low b (is_ascii z) h) (all_low z (rest_low (nat_lt b 128) (is_ascii z) h))

pub ascii_utf8 : (z : List ℕ) → is_ascii z ≡ true → is_utf8 z ≡ true
ascii_utf8 z h = is_utf8-from_IsUtf8 z (IsUtf8-from_ascii z (IsAscii-from_all z (all_low z h)))

-- a blank before what is none
whole_front : (z : List ℕ) (p : Piece) → front z ≡ p → is_utf8 (take (length_of p) z) ≡ true → next_piece z ≡ p
unfolding next_piece
whole_front z p e u = rw (e, u) refl

blank_front : (rest : List ℕ) → belongs class.Blank (slice_index rest 0) ≡ false → front (32 ∷ rest) ≡ Gap 1
unfolding front
blank_front rest h =
    let n : 0 + (1 + prefix_len (belongs class.Blank) rest) ≡ 1 = omega (arith, stops_at (belongs class.Blank) rest h) in
    ap Gap n

pub blank_piece : (rest : List ℕ) → belongs class.Blank (slice_index rest 0) ≡ false → next_piece (32 ∷ rest) ≡ Gap 1
blank_piece rest h = whole_front (32 ∷ rest) (Gap 1) (blank_front rest h) (ascii_utf8 (32 ∷ []) refl)
