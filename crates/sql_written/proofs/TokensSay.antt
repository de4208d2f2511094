-- What the tokens of a text say: a word is one by its bytes, and a quoted text has each quote twice.
use Rattle.std.proofs.Common.{◌≡◌, ℕ, zero, suc, ◌+◌, ◌-◌, ◌<◌, ◌≤◌, Bool, true, false, cond, ◌&&◌, ◌||◌, ◌==◌, slice_index, List, [], ◌∷◌, length, take, drop, Option, Some, None, refl, sym, ap, ◌∙◌, subst, arith, drop-drop, eqb-true, length-append}
use Rattle.std.specs.List.{prefix_len}
use Rattle.std.specs.Prelude.{Contains, nat_lt}
use Rattle.std.specs.Str.{is_utf8}
use Rattle.sql_tokens.specs.Bytes.{belongs, past}
use Rattle.sql_tokens.specs.Comments.{closed, comment_end, minus, slash}
use Rattle.sql_tokens.specs.Contents.{bytes_of}
use Rattle.sql_tokens.specs.Numbers.{apart, begins_number, kind_of, number, number_of_digits, parameter, past_exponent, past_fraction}
use Rattle.sql_tokens.specs.Pieces.{begins_name, front, length_of, mark, next_piece}
use Rattle.sql_tokens.specs.Quotes.{closed_name, closed_string, closing, quoted_name, string}
use Rattle.sql_tokens.specs.Signs.{greater, less, sign, single}
use Rattle.sql_tokens.specs.Tokens.{behind, taken, told, tokens_by, tokens_of}
use Rattle.sql_tokens.specs.Words.{is, is_name, word_kind}
use Rattle.sql_tokens.specs.Written.{doubled}
use Rattle.sql_tokens.specs.declared.bytes.Class.TheVariants as class
use Rattle.sql_tokens.specs.declared.kind.TokenKind.{TokenKind}
use Rattle.sql_tokens.specs.declared.kind.TokenKind.TheVariants as kinds
use Rattle.sql_tokens.specs.declared.numbers.TheConstants.{MOST_PARAMETER}
use Rattle.sql_tokens.specs.declared.piece.Piece.{Piece}
use Rattle.sql_tokens.specs.declared.piece.Piece.TheVariants.{Gap, Lexeme, Broken}
use Rattle.sql_tokens.specs.declared.token.Token.{Token}
use Rattle.sql_expressions.proofs.Limited.{Each, append, all_of_each}
use Rattle.sql_written.proofs.NumbersSay.{AreDigits, digits_there, front_of}
use Rattle.sql_written.proofs.Quoted.{IsQuoted, quoted_long, quoted_there}
use Rattle.sql_written.proofs.Said.{word_no_number, word_no_parameter, word_no_text, word_unquoted}

pub record IsWord (z : List ℕ) : Type 0 where
  pub start : belongs class.NameStart (slice_index z 0) ≡ true
  pub parts : prefix_len (belongs class.NamePart) z ≡ length z

-- what may be a name, and three words that are none
abbrev pub is_spelled : TokenKind → Bool
is_spelled k = is_name k || (is k kinds.On || (is k kinds.True || is k kinds.False))

-- the bytes of a token of a kind
pub record Says (k : TokenKind) (z : List ℕ) : Type 0 where
  pub word : is_spelled k ≡ true → is k kinds.QuotedName ≡ false → IsWord z × (word_kind z ≡ k)
  pub name : is k kinds.QuotedName ≡ true → IsQuoted 34 z × (2 < length z)
  pub string : is k kinds.Text ≡ true → IsQuoted 39 z
  pub parameter : is k kinds.Parameter ≡ true → number_of_digits z ≤ MOST_PARAMETER
  pub number : is k kinds.Number ≡ true → AreDigits z

abbrev SaysPiece : List ℕ → Piece → Type 0
SaysPiece z (Gap n) = Unit {0}
SaysPiece z (Lexeme k n) = Says k (take n z)
SaysPiece z Broken = Unit {0}

pick : (z : List ℕ) (b : Bool) (p q : Piece) → (b ≡ true → SaysPiece z p) → (b ≡ false → SaysPiece z q) → SaysPiece z (cond b p q)
pick z true p q h g = h refl
pick z false p q h g = g refl

other : (k : TokenKind) (z : List ℕ) → is_spelled k ≡ false → is k kinds.QuotedName ≡ false → is k kinds.Text ≡ false → is k kinds.Parameter ≡ false → is k kinds.Number ≡ false → Says k z
other k z a b c d f = record {
  word = λ e i. let f : true ≡ false = sym e ∙ a in cc;
  name = λ e. let f : true ≡ false = sym e ∙ b in cc;
  string = λ e. let f : true ≡ false = sym e ∙ c in cc;
  parameter = λ e. let f : true ≡ false = sym e ∙ d in cc;
  number = λ e. let g : true ≡ false = sym e ∙ f in cc;
}

-- words
part_of_start : (b : ℕ) → belongs class.NameStart b ≡ true → belongs class.NamePart b ≡ true
part_of_start b h = grind (arith, h)

first_of : (p : ℕ → Bool) (z : List ℕ) → p (slice_index z 0) ≡ true → slice_index (take (prefix_len p z) z) 0 ≡ slice_index z 0
first_of p [] h = refl
first_of p (b ∷ z) h =
    let n : prefix_len p (b ∷ z) ≡ suc (prefix_len p z) = rw h (omega arith) in
    subst (λ m. slice_index (take m (b ∷ z)) 0 ≡ b) (sym n) refl

is_word : (z : List ℕ) → begins_name z ≡ true → IsWord (take (past class.NamePart z 0) z)
is_word z h =
    let n : prefix_len (belongs class.NamePart) z ≡ past class.NamePart z 0 = omega arith in
    let first = first_of (belongs class.NamePart) z (part_of_start (slice_index z 0) h) in
    subst (λ m. IsWord (take m z)) n (record { start = ap (belongs class.NameStart) first ∙ h; parts = front_of (belongs class.NamePart) z })

word_says : (z : List ℕ) → begins_name z ≡ true → Says (word_kind (take (past class.NamePart z 0) z)) (take (past class.NamePart z 0) z)
word_says z h =
    let w = take (past class.NamePart z 0) z in
    record {
      word = λ e i. (is_word z h, refl);
      name = λ e. let f : true ≡ false = sym e ∙ word_unquoted w in cc;
      string = λ e. let f : true ≡ false = sym e ∙ word_no_text w in cc;
      parameter = λ e. let f : true ≡ false = sym e ∙ word_no_parameter w in cc;
      number = λ e. let f : true ≡ false = sym e ∙ word_no_number w in cc;
    }

-- between quotes
text_says : (z : List ℕ) → IsQuoted 39 z → Says kinds.Text z
text_says z q = record {
  word = λ e i. let f : true ≡ false = sym e in cc;
  name = λ e. let f : true ≡ false = sym e in cc;
  string = λ e. q;
  parameter = λ e. let f : true ≡ false = sym e in cc;
  number = λ e. let f : true ≡ false = sym e in cc;
}

name_says : (z : List ℕ) → IsQuoted 34 z → 2 < length z → Says kinds.QuotedName z
name_says z q some = record {
  word = λ e i. let f : true ≡ false = i in cc;
  name = λ e. (q, some);
  string = λ e. let f : true ≡ false = sym e in cc;
  parameter = λ e. let f : true ≡ false = sym e in cc;
  number = λ e. let f : true ≡ false = sym e in cc;
}

closed_text : (w : List ℕ) (o : Option ℕ) → closing 39 false 1 w ≡ o → SaysPiece (39 ∷ w) (closed_string o)
closed_text w None h = tt
closed_text w (Some end) h = text_says (take end (39 ∷ w)) (quoted_there 39 end w refl h)

longer_name : (z : List ℕ) (end : ℕ) → length z ≡ end → IsQuoted 34 z → (end == 2) ≡ false → 2 < length z
longer_name z end e q h =
    let n = ap (λ x. length x) q.same in
    let m = length-append (doubled 34 q.text) (34 ∷ []) in
    let o : 2 ≤ length z = omega (arith, n, m) in
    grind (arith, e, h, o)

closed_quoted : (w : List ℕ) (o : Option ℕ) → closing 34 false 1 w ≡ o → SaysPiece (34 ∷ w) (closed_name o)
closed_quoted w None h = tt
closed_quoted w (Some end) h =
    pick (34 ∷ w) (end == 2) Broken (Lexeme kinds.QuotedName end) (λ e. tt)
    (λ e. let q = quoted_there 34 end w refl h in name_says (take end (34 ∷ w)) q (longer_name (take end (34 ∷ w)) end (quoted_long 34 end w refl h) q e))

string_says : (z : List ℕ) → (slice_index z 0 == 39) ≡ true → SaysPiece z (string z)
unfolding string
string_says [] h = cc
string_says (b ∷ w) h = subst (λ c. SaysPiece (c ∷ w) (closed_string (closing 39 false 1 w))) (sym (eqb-true b 39 h)) (closed_text w (closing 39 false 1 w) refl)

quoted_says : (z : List ℕ) → (slice_index z 0 == 34) ≡ true → SaysPiece z (quoted_name z)
unfolding quoted_name
quoted_says [] h = cc
quoted_says (b ∷ w) h = subst (λ c. SaysPiece (c ∷ w) (closed_name (closing 34 false 1 w))) (sym (eqb-true b 34 h)) (closed_quoted w (closing 34 false 1 w) refl)

-- numbers and parameters
piece_of : (z : List ℕ) (k : TokenKind) (n : ℕ) → is_spelled k ≡ false → is k kinds.QuotedName ≡ false → is k kinds.Text ≡ false → is k kinds.Parameter ≡ false → is k kinds.Number ≡ false → SaysPiece z (Lexeme k n)
piece_of z k n a b c d f = other k (take n z) a b c d f

number_of : (z : List ℕ) → AreDigits z → Says kinds.Number z
number_of z d = record {
  word = λ e i. let f : true ≡ false = sym e in cc;
  name = λ e. let f : true ≡ false = sym e in cc;
  string = λ e. let f : true ≡ false = sym e in cc;
  parameter = λ e. let f : true ≡ false = sym e in cc;
  number = λ e. d;
}

number_kind : (z : List ℕ) (end : ℕ) (b : Bool) → (b ≡ true → AreDigits (take end z)) → SaysPiece z (Lexeme (cond b kinds.Number kinds.Decimal) end)
number_kind z end true d = number_of (take end z) (d refl)
number_kind z end false d = piece_of z kinds.Decimal end refl refl refl refl refl

number_says : (z : List ℕ) → begins_number z ≡ true → SaysPiece z (number z)
unfolding number
number_says z h =
    let whole = past class.Digit z 0 in
    let end = past_exponent z (past_fraction z whole) in
    pick z (belongs class.NameStart (slice_index z end)) Broken (Lexeme (kind_of whole end) end) (λ e. tt) (λ e. number_kind z end (end == whole) (λ i. digits_there z h i))

few : (n : ℕ) → nat_lt MOST_PARAMETER n ≡ false → n ≤ MOST_PARAMETER
few n h = grind (arith, h)

second_false : (b c : Bool) → (b || c) ≡ false → c ≡ false
second_false true c h = cc
second_false false c h = h

parameter_of : (z : List ℕ) → number_of_digits z ≤ MOST_PARAMETER → Says kinds.Parameter z
parameter_of z h = record {
  word = λ e i. let f : true ≡ false = sym e in cc;
  name = λ e. let f : true ≡ false = sym e in cc;
  string = λ e. let f : true ≡ false = sym e in cc;
  parameter = λ e. h;
  number = λ e. let f : true ≡ false = sym e in cc;
}

parameter_says : (z : List ℕ) → SaysPiece z (parameter z)
unfolding parameter
parameter_says z =
    let end = past class.Digit z 1 in
    pick z (end == 1 || nat_lt MOST_PARAMETER (number_of_digits (take end z))) Broken (apart kinds.Parameter z end) (λ e. tt)
    (λ e. pick z (belongs class.NameStart (slice_index z end)) Broken (Lexeme kinds.Parameter end) (λ i. tt)
    (λ i. parameter_of (take end z) (few (number_of_digits (take end z)) (second_false (end == 1) (nat_lt MOST_PARAMETER (number_of_digits (take end z))) e))))

-- signs
closed_says : (z : List ℕ) (o : Option ℕ) → SaysPiece z (closed o)
closed_says z None = tt
closed_says z (Some n) = tt

minus_says : (z : List ℕ) → SaysPiece z (minus z)
unfolding minus
minus_says z = pick z (slice_index z 1 == 45) _ _ (λ e. tt) (λ e. piece_of z kinds.Minus 1 refl refl refl refl refl)

slash_says : (z : List ℕ) → SaysPiece z (slash z)
unfolding slash
slash_says z = pick z (slice_index z 1 == 42) _ _ (λ e. closed_says z (comment_end 0 false 2 (drop 2 z))) (λ e. piece_of z kinds.Slash 1 refl refl refl refl refl)

less_says : (z : List ℕ) (next : ℕ) → SaysPiece z (less next)
less_says z next =
    pick z (next == 61) _ _ (λ e. piece_of z kinds.LessEqual 2 refl refl refl refl refl)
    (λ e. pick z (next == 62) _ _ (λ i. piece_of z kinds.NotEqual 2 refl refl refl refl refl) (λ i. piece_of z kinds.Less 1 refl refl refl refl refl))

greater_says : (z : List ℕ) (next : ℕ) → SaysPiece z (greater next)
greater_says z next = pick z (next == 61) _ _ (λ e. piece_of z kinds.GreaterEqual 2 refl refl refl refl refl) (λ e. piece_of z kinds.Greater 1 refl refl refl refl refl)

single_says : (z : List ℕ) (b : ℕ) → SaysPiece z (single b)
single_says z b =
    pick z (b == 40) _ _ (λ e. piece_of z kinds.OpenParenthesis 1 refl refl refl refl refl) (λ e.
    pick z (b == 41) _ _ (λ e. piece_of z kinds.CloseParenthesis 1 refl refl refl refl refl) (λ e.
    pick z (b == 44) _ _ (λ e. piece_of z kinds.Comma 1 refl refl refl refl refl) (λ e.
    pick z (b == 59) _ _ (λ e. piece_of z kinds.Semicolon 1 refl refl refl refl refl) (λ e.
    pick z (b == 46) _ _ (λ e. piece_of z kinds.Dot 1 refl refl refl refl refl) (λ e.
    pick z (b == 61) _ _ (λ e. piece_of z kinds.Equal 1 refl refl refl refl refl) (λ e.
    pick z (b == 43) _ _ (λ e. piece_of z kinds.Plus 1 refl refl refl refl refl) (λ e.
    pick z (b == 42) _ _ (λ e. piece_of z kinds.Star 1 refl refl refl refl refl) (λ e.
    pick z (b == 37) _ _ (λ e. piece_of z kinds.Percent 1 refl refl refl refl refl) (λ e. tt)))))))))

sign_says : (z : List ℕ) (b next : ℕ) → SaysPiece z (sign b next)
unfolding sign
sign_says z b next =
    pick z (b == 60) _ _ (λ e. less_says z next) (λ e.
    pick z (b == 62) _ _ (λ e. greater_says z next) (λ e.
    pick z (b == 33 && next == 61) _ _ (λ e. piece_of z kinds.NotEqual 2 refl refl refl refl refl) (λ e.
    pick z (b == 58 && next == 58) _ _ (λ e. piece_of z kinds.TypeCast 2 refl refl refl refl refl) (λ e. single_says z b))))

mark_says : (z : List ℕ) → SaysPiece z (mark z)
unfolding mark
mark_says z =
    let b = slice_index z 0 in
    pick z (b == 45) _ _ (λ e. minus_says z) (λ e.
    pick z (b == 47) _ _ (λ e. slash_says z) (λ e.
    pick z (b == 39) _ _ (λ e. string_says z e) (λ e.
    pick z (b == 34) _ _ (λ e. quoted_says z e) (λ e.
    pick z (b == 36) _ _ (λ e. parameter_says z) (λ e. sign_says z b (slice_index z 1))))))

front_says : (z : List ℕ) → SaysPiece z (front z)
unfolding front
front_says z =
    pick z (belongs class.Blank (slice_index z 0)) _ _ (λ e. tt) (λ e.
    pick z (begins_name z) _ _ (λ i. word_says z i) (λ i.
    pick z (begins_number z) _ _ (λ j. number_says z j) (λ j. mark_says z)))

-- with bytes that are UTF-8
abbrev TellsPiece : List ℕ → Piece → Type 0
TellsPiece z (Gap n) = Unit {0}
TellsPiece z (Lexeme k n) = Says k (take n z) × (is_utf8 (take n z) ≡ true)
TellsPiece z Broken = Unit {0}

tells : (z : List ℕ) (p : Piece) → SaysPiece z p → is_utf8 (take (length_of p) z) ≡ true → TellsPiece z p
tells z (Gap n) h u = tt
tells z (Lexeme k n) h u = (h, u)
tells z Broken h u = tt

choose : (z : List ℕ) (p : Piece) (b : Bool) → (b ≡ true → TellsPiece z p) → TellsPiece z (cond b p Broken)
choose z p true h = h refl
choose z p false h = tt

next_tells : (z : List ℕ) → TellsPiece z (next_piece z)
unfolding next_piece
next_tells z = choose z (front z) (is_utf8 (take (length_of (front z)) z)) (λ u. tells z (front z) (front_says z) u)

-- tokens
pub record Tells (k : TokenKind) (z : List ℕ) : Type 0 where
  pub says : Says k z
  pub utf8 : is_utf8 z ≡ true

module _ (text : List ℕ) where
  abbrev TellsToken : Token → Type 0
  TellsToken t = is t.kind kinds.Fault ≡ false → Tells t.kind (bytes_of text t)

  told_tells : (at : ℕ) (z : List ℕ) → z ≡ drop at text → (p : Piece) → TellsPiece z p → Each TellsToken (told at p)
  told_tells at z e (Gap n) h = tt
  told_tells at z e (Lexeme k n) h =
      let i : n ≡ at + n - at = omega arith in
      let now : Tells k (take n z) = record { says = h.0; utf8 = h.1 } in
      (λ f. subst (λ m. Tells k (take m (drop at text))) i (subst (λ y. Tells k (take n y)) e now), tt)
  told_tells at z e Broken h = (λ f. let g : true ≡ false = f in cc, tt)

  behind_tells : (on : ℕ → List ℕ → List Token) → ((at : ℕ) (z : List ℕ) → z ≡ drop at text → Each TellsToken (on at z)) →
      (at : ℕ) (z : List ℕ) → z ≡ drop at text → (o : Option ℕ) → Each TellsToken (behind on at z o)
  behind_tells on h at z e None = tt
  behind_tells on h at z e (Some n) = h (at + n) (drop n z) (ap (λ y. drop n y) e ∙ drop-drop n at text)

  tokens_tell : (count at : ℕ) (z : List ℕ) → z ≡ drop at text → Each TellsToken (tokens_by count at z)
  unfolding tokens_by
  tokens_tell zero at z e = tt
  tokens_tell (suc count) at [] e = tt
  tokens_tell (suc count) at (b ∷ z) e =
      append TellsToken _ _ (told_tells at (b ∷ z) e (next_piece (b ∷ z)) (next_tells (b ∷ z)))
      (behind_tells (tokens_by count) (λ m y i. tokens_tell count m y i) at (b ∷ z) e (taken (next_piece (b ∷ z))))

  pub token_tells : (t : Token) → Contains (tokens_of text) t → is t.kind kinds.Fault ≡ false → Tells t.kind (bytes_of text t)
  token_tells t c f =
      let all = all_of_each TellsToken (tokens_of text) (tokens_tell (length text) 0 text refl) in
      subst TellsToken c.2 (all c.0 t c.1) f
