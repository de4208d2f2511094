-- The words of a text are short: a word is one by what it spells, and the longest has twelve letters.
use Rattle.std.proofs.Common.{◌≡◌, ℕ, zero, suc, ◌+◌, ◌-◌, ◌<◌, Bool, true, false, cond, ◌&&◌, ◌||◌, ◌==◌, slice_index, List, [], ◌∷◌, length, take, drop, Option, Some, None, refl, sym, ◌∙◌, ap, subst, arith, drop-drop}
use lib.ListN.{length-map}
use Rattle.std.specs.Char.{to_ascii_lowercase}
use Rattle.std.specs.Prelude.{Contains, nat_lt}
use Rattle.std.specs.Str.{is_utf8}
use Rattle.grammar.specs.Reading.{Class}
use Rattle.sql_tokens.specs.Bytes.{belongs, past}
use Rattle.sql_tokens.specs.Comments.{closed, comment_end, minus, slash}
use Rattle.sql_tokens.specs.Contents.{bytes_of}
use Rattle.sql_tokens.specs.Numbers.{apart, begins_number, kind_of, number, number_of_digits, parameter, past_exponent, past_fraction}
use Rattle.sql_tokens.specs.Pieces.{begins_name, front, length_of, mark, next_piece}
use Rattle.sql_tokens.specs.Quotes.{closed_name, closed_string, closing, quoted_name, string}
use Rattle.sql_tokens.specs.Signs.{greater, less, sign, single}
use Rattle.sql_tokens.specs.Tokens.{behind, taken, told, tokens_by, tokens_of}
use Rattle.sql_tokens.specs.Words.{is, is_name, word_kind, words_of, look_up, two, three, four, five, six, seven, eight, nine, ten, eleven, twelve}
use Rattle.sql_tokens.specs.declared.bytes.Class.TheVariants as class
use Rattle.sql_tokens.specs.declared.kind.TokenKind.{TokenKind}
use Rattle.sql_tokens.specs.declared.kind.TokenKind.TheVariants as word
use Rattle.sql_tokens.specs.declared.numbers.TheConstants.{MOST_PARAMETER}
use Rattle.sql_tokens.specs.declared.piece.Piece.{Piece}
use Rattle.sql_tokens.specs.declared.piece.Piece.TheVariants.{Gap, Lexeme, Broken}
use Rattle.sql_tokens.specs.declared.token.Token.{Token}
use Rattle.sql_tokens.specs.Classes.{a}
use Rattle.sql_expressions.specs.Words.{is_long_name}
use Rattle.sql_expressions.specs.declared.words.TheConstants.{MOST_NAME_BYTES}
use Rattle.sql_expressions.proofs.Limited.{Each, append, all_of_each}

-- tokens that may be long
abbrev pub a_written_name : Class Token
a_written_name t = a word.Name t || a word.QuotedName t

abbrev pub may_be_long : Class Token
may_be_long t = a word.Name t || (a word.QuotedName t || a word.Text t)

-- a kind of words or signs alone has no long name
abbrev is_written : TokenKind → Bool
is_written k = is k word.Name || is k word.QuotedName

abbrev IsBrief : TokenKind → List ℕ → Type 0
IsBrief k bytes = is_written k ≡ false → is_name k ≡ true → nat_lt MOST_NAME_BYTES (length bytes) ≡ false

abbrev IsBriefPiece : List ℕ → Piece → Type 0
IsBriefPiece z (Gap n) = Unit {0}
IsBriefPiece z (Lexeme k n) = IsBrief k (take n z)
IsBriefPiece z Broken = Unit {0}

-- words
skip : (b : Bool) (ws vs : List (List ℕ × TokenKind)) → b ≡ false → vs ≡ [] → cond b ws vs ≡ []
skip true ws vs h e = cc
skip false ws vs h e = e

module _ (n : ℕ) (h : nat_lt MOST_NAME_BYTES n ≡ true) where
  differs : (m : ℕ) → m < 64 → (n == m) ≡ false
  differs m l = grind (arith, h, l)

  none : (m : ℕ) (ws vs : List (List ℕ × TokenKind)) → m < 64 → vs ≡ [] → cond (n == m) ws vs ≡ []
  none m ws vs l e = skip (n == m) ws vs (differs m l) e

  no_words : words_of n ≡ []
  no_words =
      none 2 two _ (omega arith)
      (none 3 three _ (omega arith)
      (none 4 four _ (omega arith)
      (none 5 five _ (omega arith)
      (none 6 six _ (omega arith)
      (none 7 seven _ (omega arith)
      (none 8 eight _ (omega arith)
      (none 9 nine _ (omega arith)
      (none 10 ten _ (omega arith)
      (none 11 eleven _ (omega arith)
      (none 12 twelve _ (omega arith) refl))))))))))

pub long_is_name : (w : List ℕ) → nat_lt MOST_NAME_BYTES (length w) ≡ true → word_kind w ≡ word.Name
unfolding word_kind
long_is_name w h = ap (λ ws. look_up ws w) (no_words (length w) h)

not_long : (b : Bool) → (b ≡ true → ⊥) → b ≡ false
not_long true h = absurd (h refl)
not_long false h = refl

word_is_brief : (w : List ℕ) → IsBrief (word_kind w) w
word_is_brief w e i =
    not_long (nat_lt MOST_NAME_BYTES (length w))
    (λ h. let f : true ≡ false = subst (λ k. is_written k ≡ false) (long_is_name w h) e in cc)

-- pieces
pick : (z : List ℕ) (b : Bool) (p q : Piece) → IsBriefPiece z p → IsBriefPiece z q → IsBriefPiece z (cond b p q)
pick z true p q h g = h
pick z false p q h g = g

other : (k : TokenKind) (w : List ℕ) → is_name k ≡ false → IsBrief k w
other k w h e i = let f : true ≡ false = sym i ∙ h in cc

quoted : (w : List ℕ) → IsBrief word.QuotedName w
quoted w e i = let f : true ≡ false = e in cc

sign_piece : (z : List ℕ) (k : TokenKind) (n : ℕ) → is_name k ≡ false → IsBriefPiece z (Lexeme k n)
sign_piece z k n h = other k (take n z) h

closed_brief : (z : List ℕ) (o : Option ℕ) → IsBriefPiece z (closed o)
closed_brief z None = tt
closed_brief z (Some n) = tt

minus_brief : (z : List ℕ) → IsBriefPiece z (minus z)
unfolding minus
minus_brief z = pick z (slice_index z 1 == 45) _ _ tt (sign_piece z word.Minus 1 refl)

slash_brief : (z : List ℕ) → IsBriefPiece z (slash z)
unfolding slash
slash_brief z = pick z (slice_index z 1 == 42) _ _ (closed_brief z (comment_end 0 false 2 (drop 2 z))) (sign_piece z word.Slash 1 refl)

string_of : (z : List ℕ) (o : Option ℕ) → IsBriefPiece z (closed_string o)
string_of z None = tt
string_of z (Some n) = sign_piece z word.Text n refl

string_brief : (z : List ℕ) → IsBriefPiece z (string z)
unfolding string
string_brief z = string_of z (closing 39 false 1 (drop 1 z))

name_of : (z : List ℕ) (o : Option ℕ) → IsBriefPiece z (closed_name o)
name_of z None = tt
name_of z (Some n) = pick z (n == 2) Broken (Lexeme word.QuotedName n) tt (quoted (take n z))

quoted_brief : (z : List ℕ) → IsBriefPiece z (quoted_name z)
unfolding quoted_name
quoted_brief z = name_of z (closing 34 false 1 (drop 1 z))

apart_brief : (k : TokenKind) (z : List ℕ) (end : ℕ) → is_name k ≡ false → IsBriefPiece z (apart k z end)
apart_brief k z end h = pick z (belongs class.NameStart (slice_index z end)) Broken (Lexeme k end) tt (sign_piece z k end h)

of_two : (b : Bool) → is_name (cond b word.Number word.Decimal) ≡ false
of_two true = refl
of_two false = refl

number_brief : (z : List ℕ) → IsBriefPiece z (number z)
unfolding number
number_brief z =
    let whole = past class.Digit z 0 in
    let end = past_exponent z (past_fraction z whole) in
    apart_brief (kind_of whole end) z end (of_two (end == whole))

parameter_brief : (z : List ℕ) → IsBriefPiece z (parameter z)
unfolding parameter
parameter_brief z =
    let end = past class.Digit z 1 in
    pick z (end == 1 || nat_lt MOST_PARAMETER (number_of_digits (take end z))) Broken (apart word.Parameter z end) tt (apart_brief word.Parameter z end refl)

less_brief : (z : List ℕ) (next : ℕ) → IsBriefPiece z (less next)
less_brief z next = pick z (next == 61) _ _ (sign_piece z word.LessEqual 2 refl) (pick z (next == 62) _ _ (sign_piece z word.NotEqual 2 refl) (sign_piece z word.Less 1 refl))

greater_brief : (z : List ℕ) (next : ℕ) → IsBriefPiece z (greater next)
greater_brief z next = pick z (next == 61) _ _ (sign_piece z word.GreaterEqual 2 refl) (sign_piece z word.Greater 1 refl)

single_brief : (z : List ℕ) (b : ℕ) → IsBriefPiece z (single b)
single_brief z b =
    pick z (b == 40) _ _ (sign_piece z word.OpenParenthesis 1 refl) (pick z (b == 41) _ _ (sign_piece z word.CloseParenthesis 1 refl)
    (pick z (b == 44) _ _ (sign_piece z word.Comma 1 refl) (pick z (b == 59) _ _ (sign_piece z word.Semicolon 1 refl)
    (pick z (b == 46) _ _ (sign_piece z word.Dot 1 refl) (pick z (b == 61) _ _ (sign_piece z word.Equal 1 refl)
    (pick z (b == 43) _ _ (sign_piece z word.Plus 1 refl) (pick z (b == 42) _ _ (sign_piece z word.Star 1 refl)
    (pick z (b == 37) _ _ (sign_piece z word.Percent 1 refl) tt))))))))

sign_brief : (z : List ℕ) (b next : ℕ) → IsBriefPiece z (sign b next)
unfolding sign
sign_brief z b next =
    pick z (b == 60) _ _ (less_brief z next) (pick z (b == 62) _ _ (greater_brief z next)
    (pick z (b == 33 && next == 61) _ _ (sign_piece z word.NotEqual 2 refl)
    (pick z (b == 58 && next == 58) _ _ (sign_piece z word.TypeCast 2 refl) (single_brief z b))))

mark_brief : (z : List ℕ) → IsBriefPiece z (mark z)
unfolding mark
mark_brief z =
    let b = slice_index z 0 in
    pick z (b == 45) _ _ (minus_brief z) (pick z (b == 47) _ _ (slash_brief z) (pick z (b == 39) _ _ (string_brief z)
    (pick z (b == 34) _ _ (quoted_brief z) (pick z (b == 36) _ _ (parameter_brief z) (sign_brief z b (slice_index z 1))))))

front_brief : (z : List ℕ) → IsBriefPiece z (front z)
unfolding front
front_brief z =
    pick z (belongs class.Blank (slice_index z 0)) _ _ tt
    (pick z (begins_name z) _ _ (word_is_brief (take (past class.NamePart z 0) z)) (pick z (begins_number z) _ _ (number_brief z) (mark_brief z)))

next_brief : (z : List ℕ) → IsBriefPiece z (next_piece z)
unfolding next_piece
next_brief z = pick z (is_utf8 (take (length_of (front z)) z)) _ _ (front_brief z) tt

-- tokens
module _ (text : List ℕ) where
  abbrev BriefToken : Token → Type 0
  BriefToken t = IsBrief t.kind (bytes_of text t)

  told_brief : (at : ℕ) (z : List ℕ) → z ≡ drop at text → (p : Piece) → IsBriefPiece z p → Each BriefToken (told at p)
  told_brief at z e (Gap n) h = tt
  told_brief at z e (Lexeme k n) h =
      let i : n ≡ at + n - at = omega arith in
      (subst (λ m. IsBrief k (take m (drop at text))) i (subst (λ y. IsBrief k (take n y)) e h), tt)
  told_brief at z e Broken h = (other word.Fault _ refl, tt)

  behind_brief : (on : ℕ → List ℕ → List Token) → ((at : ℕ) (z : List ℕ) → z ≡ drop at text → Each BriefToken (on at z)) →
      (at : ℕ) (z : List ℕ) → z ≡ drop at text → (o : Option ℕ) → Each BriefToken (behind on at z o)
  behind_brief on h at z e None = tt
  behind_brief on h at z e (Some n) = h (at + n) (drop n z) (ap (λ y. drop n y) e ∙ drop-drop n at text)

  tokens_brief : (count at : ℕ) (z : List ℕ) → z ≡ drop at text → Each BriefToken (tokens_by count at z)
  unfolding tokens_by
  tokens_brief zero at z e = tt
  tokens_brief (suc count) at [] e = tt
  tokens_brief (suc count) at (b ∷ z) e =
      append BriefToken _ _ (told_brief at (b ∷ z) e (next_piece (b ∷ z)) (next_brief (b ∷ z)))
      (behind_brief (tokens_by count) (λ m y i. tokens_brief count m y i) at (b ∷ z) e (taken (next_piece (b ∷ z))))

  short_name : (k : TokenKind) (bytes : List ℕ) (quoted folded : List ℕ) → is k word.QuotedName ≡ false → length folded ≡ length bytes →
      (is_name k ≡ true → nat_lt MOST_NAME_BYTES (length bytes) ≡ false) → (b : Bool) → b ≡ is_name k →
      (b && nat_lt MOST_NAME_BYTES (length (cond (is k word.QuotedName) quoted folded))) ≡ false
  short_name k bytes quoted folded q e h true i = rw (q, e) (h (sym i))
  short_name k bytes quoted folded q e h false i = refl

  second_false : (b d : Bool) → (b || d) ≡ false → d ≡ false
  second_false true d h = cc
  second_false false d h = h

  pub word_is_short : (t : Token) → Contains (tokens_of text) t → a_written_name t ≡ false → is_long_name text t ≡ false
  word_is_short t c w =
      let all = all_of_each BriefToken (tokens_of text) (tokens_brief (length text) 0 text refl) in
      let brief = subst BriefToken c.2 (all c.0 t c.1) in
      short_name t.kind (bytes_of text t) _ _ (second_false (a word.Name t) (a word.QuotedName t) w) (length-map (bytes_of text t) to_ascii_lowercase) (brief w) (is_name t.kind) refl
