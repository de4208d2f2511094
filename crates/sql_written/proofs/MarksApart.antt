-- Each word, sign and constant stands apart from the bytes that may come behind it.
use Rattle.std.proofs.Common.{◌≡◌, ℕ, suc, ◌+◌, ◌/◌, ◌%◌, ◌^◌, ◌<◌, ◌≤◌, Bool, true, false, cond, ◌&&◌, ◌==◌, slice_index, List, [], ◌∷◌, ◌++◌, length, refl, sym, ap, ◌∙◌, subst, arith, length-append}
use Rattle.std.proofs.lemmas.Fmt.{decimal_by_steps, IsAscii-decimal}
use Rattle.std.proofs.lemmas.Str.{IsUtf8-append, IsUtf8-from_ascii, IsUtf8-from_is_utf8, is_utf8-from_IsUtf8}
use Rattle.std.specs.Fmt.{decimal}
use Rattle.std.specs.List.{prefix_len}
use Rattle.std.specs.Prelude.{codes, nat_lt}
use Rattle.std.specs.Str.{is_utf8}
use Rattle.sql_tokens.specs.Bytes.{belongs}
use Rattle.sql_tokens.specs.Comments.{minus, slash}
use Rattle.sql_tokens.specs.Numbers.{digits_from, number_of_digits, with_digit}
use Rattle.sql_tokens.specs.Pieces.{front, mark as mark_piece}
use Rattle.sql_tokens.specs.Signs.{sign}
use Rattle.sql_tokens.specs.Words.{is_name, word_kind}
use Rattle.sql_tokens.specs.Written.{quoted}
use Rattle.sql_tokens.specs.declared.bytes.Class.TheVariants as class
use Rattle.sql_tokens.specs.declared.kind.TokenKind.{TokenKind}
use Rattle.sql_tokens.specs.declared.kind.TokenKind.TheVariants as kinds
use Rattle.sql_tokens.specs.declared.numbers.TheConstants.{MOST_PARAMETER, NO_BIGINT}
use Rattle.sql_tokens.specs.declared.piece.Piece.TheVariants.{Lexeme}
use Rattle.sql_ast.specs.declared.leaf.Operator.{Operator}
use Rattle.sql_ast.specs.declared.leaf.Operator.TheVariants as operator
use Rattle.sql_written.specs.Marks.{mark, bytes_of}
use Rattle.sql_written.specs.Spelling as spelled
use Rattle.sql_written.specs.Spelling.{is_kept, is_plain}
use Rattle.sql_written.specs.Writable.{IsName, IsText}
use Rattle.sql_written.proofs.Fronts.{EndsNumber, is_ascii, ascii_utf8, name_front, number_front, parameter_front, piece_of, quoted_name_front, string_front}
use Rattle.sql_written.proofs.NumbersSay.{AreDigits}
use Rattle.sql_written.proofs.Utf8.{quoted_utf8}
use Rattle.sql_written.proofs.MarkTokens.{IsPiece, StandsApart, next}

-- a byte that may come behind every word and constant
pub record Ends (n : ℕ) : Type 0 where
  pub part : belongs class.NamePart n ≡ false
  pub name_quote : (n == 34) ≡ false
  pub string_quote : (n == 39) ≡ false
  pub number : EndsNumber n

ends_number : (n : ℕ) → belongs class.Digit n ≡ false → belongs class.NameStart n ≡ false → (n == 46) ≡ false → (n == 101) ≡ false → (n == 69) ≡ false → EndsNumber n
ends_number n d s p e f = record { digit = d; start = s; point = p; small = e; big = f }

pub end_ends : Ends 0
end_ends = record { part = refl; name_quote = refl; string_quote = refl; number = ends_number 0 refl refl refl refl refl }

pub blank_ends : Ends 32
blank_ends = record { part = refl; name_quote = refl; string_quote = refl; number = ends_number 32 refl refl refl refl refl }

pub opening_ends : Ends 40
opening_ends = record { part = refl; name_quote = refl; string_quote = refl; number = ends_number 40 refl refl refl refl refl }

pub closing_ends : Ends 41
closing_ends = record { part = refl; name_quote = refl; string_quote = refl; number = ends_number 41 refl refl refl refl refl }

pub comma_ends : Ends 44
comma_ends = record { part = refl; name_quote = refl; string_quote = refl; number = ends_number 44 refl refl refl refl refl }

-- words
pub word_apart : (k : TokenKind) (b : ℕ) (z : List ℕ) (n : ℕ) → belongs class.NameStart b ≡ true → prefix_len (belongs class.NamePart) (b ∷ z) ≡ length (b ∷ z) → is_utf8 (b ∷ z) ≡ true →
    word_kind (b ∷ z) ≡ k → belongs class.NamePart n ≡ false → IsPiece k (b ∷ z) n
word_apart k b z n s e u w h = record {
  some = omega arith;
  read = λ rest i. piece_of k (b ∷ z) rest u (name_front b z rest s e (ap (belongs class.NamePart) i ∙ h) ∙ ap (λ j. Lexeme j (length (b ∷ z))) w);
}

pub and_apart : (n : ℕ) → belongs class.NamePart n ≡ false → StandsApart spelled.and_word n
unfolding word_kind
and_apart n h = word_apart kinds.And _ _ n refl refl (ascii_utf8 (codes "AND") refl) refl h

pub or_apart : (n : ℕ) → belongs class.NamePart n ≡ false → StandsApart spelled.or_word n
unfolding word_kind
or_apart n h = word_apart kinds.Or _ _ n refl refl (ascii_utf8 (codes "OR") refl) refl h

pub not_apart : (n : ℕ) → belongs class.NamePart n ≡ false → StandsApart spelled.not_word n
unfolding word_kind
not_apart n h = word_apart kinds.Not _ _ n refl refl (ascii_utf8 (codes "NOT") refl) refl h

pub in_apart : (n : ℕ) → belongs class.NamePart n ≡ false → StandsApart spelled.in_word n
unfolding word_kind
in_apart n h = word_apart kinds.In _ _ n refl refl (ascii_utf8 (codes "IN") refl) refl h

pub between_apart : (n : ℕ) → belongs class.NamePart n ≡ false → StandsApart spelled.between_word n
unfolding word_kind
between_apart n h = word_apart kinds.Between _ _ n refl refl (ascii_utf8 (codes "BETWEEN") refl) refl h

pub is_apart : (n : ℕ) → belongs class.NamePart n ≡ false → StandsApart spelled.is_word n
unfolding word_kind
is_apart n h = word_apart kinds.Is _ _ n refl refl (ascii_utf8 (codes "IS") refl) refl h

pub null_apart : (n : ℕ) → belongs class.NamePart n ≡ false → StandsApart spelled.null_word n
unfolding word_kind
null_apart n h = word_apart kinds.Null _ _ n refl refl (ascii_utf8 (codes "NULL") refl) refl h

pub date_apart : (n : ℕ) → belongs class.NamePart n ≡ false → StandsApart spelled.date_word n
unfolding word_kind
date_apart n h = word_apart kinds.Date _ _ n refl refl (ascii_utf8 (codes "DATE") refl) refl h

pub truth_apart : (b : Bool) (n : ℕ) → belongs class.NamePart n ≡ false → StandsApart (spelled.truth b) n
unfolding word_kind
truth_apart true n h = word_apart kinds.True _ _ n refl refl (ascii_utf8 (codes "TRUE") refl) refl h
truth_apart false n h = word_apart kinds.False _ _ n refl refl (ascii_utf8 (codes "FALSE") refl) refl h

pub tableoid_apart : (n : ℕ) → belongs class.NamePart n ≡ false → StandsApart (mark kinds.Tableoid (codes "tableoid")) n
unfolding word_kind
tableoid_apart n h = word_apart kinds.Tableoid _ _ n refl refl (ascii_utf8 (codes "tableoid") refl) refl h

pub regclass_apart : (n : ℕ) → belongs class.NamePart n ≡ false → StandsApart (mark kinds.Regclass (codes "regclass")) n
unfolding word_kind
regclass_apart n h = word_apart kinds.Regclass _ _ n refl refl (ascii_utf8 (codes "regclass") refl) refl h

-- names
part_of_kept : (b : ℕ) → is_kept b ≡ true → belongs class.NamePart b ≡ true
part_of_kept b h = first (belongs class.NamePart b) _ h
  where
    first : (p q : Bool) → (p && q) ≡ true → p ≡ true
    first true q h = refl
    first false q h = cc

prefix_more : (p q : ℕ → Bool) (b n m : ℕ) (z : List ℕ) (f : Bool) → p b ≡ f → ((b : ℕ) → p b ≡ true → q b ≡ true) → prefix_len p (b ∷ z) ≡ suc m → (prefix_len p z ≡ m → prefix_len q z ≡ n) → prefix_len q (b ∷ z) ≡ suc n
prefix_more p q b n m z true i more e on =
    let one : 1 + prefix_len p z ≡ suc m = rw i at e in
    let same : prefix_len p z ≡ m = omega arith in
    let j : q b ≡ true = more b i in
    rw j (omega (arith, on same))
prefix_more p q b n m z false i more e on = let none : 0 ≡ suc m = rw i at e in absurd (omega arith)

prefix_within : (p q : ℕ → Bool) → ((b : ℕ) → p b ≡ true → q b ≡ true) → (z : List ℕ) → prefix_len p z ≡ length z → prefix_len q z ≡ length z
prefix_within p q more [] e = refl
prefix_within p q more (b ∷ z) e = prefix_more p q b (length z) (length z) z (p b) refl more e (λ i. prefix_within p q more z i)

-- what a plain name is
pub record IsPlain (z : List ℕ) : Type 0 where
  pub start : belongs class.NameStart (slice_index z 0) ≡ true
  pub kept : prefix_len is_kept z ≡ length z
  pub named : is_name (word_kind z) ≡ true

three : (p q r : Bool) → (p && (q && r)) ≡ true → (p ≡ true) × (q ≡ true) × (r ≡ true)
three true true true h = (refl, refl, refl)
three true true false h = cc
three true false r h = cc
three false q r h = cc

same_long : (n m : ℕ) → (n == m) ≡ true → n ≡ m
same_long n m h = grind (arith, h)

pub plain_is : (z : List ℕ) → is_plain z ≡ true → IsPlain z
plain_is z h =
    let p = three (belongs class.NameStart (slice_index z 0)) (prefix_len is_kept z == length z) (is_name (word_kind z)) h in
    record { start = p.0; kept = same_long (prefix_len is_kept z) (length z) p.1; named = p.2 }

pub plain_apart : (z : List ℕ) (n : ℕ) → IsPlain z → is_utf8 z ≡ true → belongs class.NamePart n ≡ false → IsPiece (word_kind z) z n
plain_apart [] n p u h = let e : false ≡ true = p.start in cc
plain_apart (b ∷ z) n p u h = word_apart (word_kind (b ∷ z)) b z n p.start (prefix_within is_kept (belongs class.NamePart) part_of_kept (b ∷ z) p.kept) u refl h

quoted_some : (q : ℕ) (z : List ℕ) → 0 < length (quoted q z)
quoted_some q z = omega arith

pub quoted_apart : (z : List ℕ) (n : ℕ) → 0 < length z → is_utf8 (quoted 34 z) ≡ true → (n == 34) ≡ false → IsPiece kinds.QuotedName (quoted 34 z) n
quoted_apart z n some u h = record {
  some = quoted_some 34 z;
  read = λ rest i. piece_of kinds.QuotedName (quoted 34 z) rest u (quoted_name_front z rest some (ap (λ b. b == 34) i ∙ h));
}

either_name : (z : List ℕ) (n : ℕ) (f : Bool) → is_plain z ≡ f → 0 < length z → is_utf8 z ≡ true → belongs class.NamePart n ≡ false → (n == 34) ≡ false →
    StandsApart (cond f (mark (word_kind z) z) (mark kinds.QuotedName (quoted 34 z))) n
either_name z n true e some u h q = plain_apart z n (plain_is z e) u h
either_name z n false e some u h q = quoted_apart z n some (quoted_utf8 34 z (omega arith) u) q

pub name_apart : (z : List ℕ) (n : ℕ) → IsName z → belongs class.NamePart n ≡ false → (n == 34) ≡ false → StandsApart (spelled.name z) n
name_apart z n w h q = either_name z n (is_plain z) refl w.0 w.2 h q

-- constants
pub string_apart : (z : List ℕ) (n : ℕ) → IsText z → (n == 39) ≡ false → StandsApart (spelled.string z) n
string_apart z n w h = record {
  some = quoted_some 39 z;
  read = λ rest i. piece_of kinds.Text (quoted 39 z) rest (quoted_utf8 39 z (omega arith) w.1) (string_front z rest (ap (λ b. b == 39) i ∙ h));
}

pub record OfDigits (n : ℕ) (ds : List ℕ) : Type 0 where
  pub some : 0 < length ds
  pub digits : prefix_len (belongs class.Digit) ds ≡ length ds
  pub value : digits_from 0 ds ≡ n

digits_append : (n d : ℕ) (ds : List ℕ) → digits_from n (ds ++ d ∷ []) ≡ with_digit (digits_from n ds) d
digits_append n d [] = refl
digits_append n d (b ∷ ds) = digits_append (with_digit n b) d ds

prefix_append : (p : ℕ → Bool) (d : ℕ) (ds : List ℕ) → prefix_len p ds ≡ length ds → p d ≡ true → prefix_len p (ds ++ d ∷ []) ≡ suc (length ds)
prefix_append p d [] e h = rw h refl
prefix_append p d (b ∷ ds) e h = go (p b) refl (λ i. prefix_append p d ds i h)
  where
    go : (f : Bool) → p b ≡ f → (prefix_len p ds ≡ length ds → prefix_len p (ds ++ d ∷ []) ≡ suc (length ds)) → prefix_len p (b ∷ (ds ++ d ∷ [])) ≡ suc (suc (length ds))
    go true i on =
        let one : 1 + prefix_len p ds ≡ suc (length ds) = rw i at e in
        let same : prefix_len p ds ≡ length ds = omega arith in
        rw i (omega (arith, on same))
    go false i on = let none : 0 ≡ suc (length ds) = rw i at e in absurd (omega arith)

is_digit : (n : ℕ) → n < 10 → belongs class.Digit (48 + n) ≡ true
is_digit n h = grind (arith, h)

one_digit : (n : ℕ) → n < 10 → OfDigits n ((48 + n) ∷ [])
one_digit n h = let d : belongs class.Digit (48 + n) ≡ true = is_digit n h in record { some = omega arith; digits = rw d refl; value = rw d (omega arith) }

more_digits : (n : ℕ) (ds : List ℕ) → 10 ≤ n → OfDigits (n / 10) ds → OfDigits n (ds ++ ((48 + n % 10) ∷ []))
more_digits n ds h o =
    let low : n % 10 < 10 = omega arith in
    let d : belongs class.Digit (48 + n % 10) ≡ true = is_digit (n % 10) low in
    let v : digits_from 0 ds ≡ n / 10 = o.value in
    record {
      some = omega (arith, length-append ds ((48 + n % 10) ∷ []));
      digits = prefix_append (belongs class.Digit) (48 + n % 10) ds o.digits d ∙ omega (arith, length-append ds ((48 + n % 10) ∷ []));
      value = digits_append 0 (48 + n % 10) ds ∙ rw (d, v) (omega arith);
    }

pub decimal_digits : (n : ℕ) → n < 2 ^ 64 → OfDigits n (decimal n)
decimal_digits n h = decimal_by_steps OfDigits one_digit more_digits n h

decimal_utf8 : (n : ℕ) → n < 2 ^ 64 → is_utf8 (decimal n) ≡ true
decimal_utf8 n h = is_utf8-from_IsUtf8 (decimal n) (IsUtf8-from_ascii (decimal n) (IsAscii-decimal n h))

first_digit : (b : ℕ) (z : List ℕ) (f : Bool) → belongs class.Digit b ≡ f → prefix_len (belongs class.Digit) (b ∷ z) ≡ suc (length z) → belongs class.Digit b ≡ true
first_digit b z true i e = i
first_digit b z false i e = let none : 0 ≡ suc (length z) = rw i at e in absurd (omega arith)

low_digit : (b : ℕ) → belongs class.Digit b ≡ true → nat_lt b 128 ≡ true
low_digit b h = grind (arith, h)

digits_ascii : (z : List ℕ) → prefix_len (belongs class.Digit) z ≡ length z → is_ascii z ≡ true
digits_ascii [] e = refl
digits_ascii (b ∷ z) e = go (belongs class.Digit b) refl (λ i. digits_ascii z i)
  where
    go : (f : Bool) → belongs class.Digit b ≡ f → (prefix_len (belongs class.Digit) z ≡ length z → is_ascii z ≡ true) → is_ascii (b ∷ z) ≡ true
    go true i on =
        let one : 1 + prefix_len (belongs class.Digit) z ≡ suc (length z) = rw i at e in
        let same : prefix_len (belongs class.Digit) z ≡ length z = omega arith in
        rw (low_digit b i) (on same)
    go false i on = let none : 0 ≡ suc (length z) = rw i at e in absurd (omega arith)

pub digits_apart : (z : List ℕ) (n : ℕ) → AreDigits z → EndsNumber n → IsPiece kinds.Number z n
digits_apart [] n o h = let none : 0 < 0 = o.some in absurd (omega arith)
digits_apart (b ∷ z) n o h = record {
  some = omega arith;
  read = λ rest i.
      piece_of kinds.Number (b ∷ z) rest (ascii_utf8 (b ∷ z) (digits_ascii (b ∷ z) o.digits))
      (number_front b z rest (first_digit b z (belongs class.Digit b) refl o.digits) o.digits (subst EndsNumber (sym i) h));
}

decimal_is : (n : ℕ) → n < 2 ^ 64 → AreDigits (decimal n)
decimal_is n h = let o = decimal_digits n h in record { some = o.some; digits = o.digits }

pub number_apart : (m n : ℕ) → m ≤ NO_BIGINT → EndsNumber n → StandsApart (spelled.number m) n
number_apart m n w h = digits_apart (decimal m) n (decimal_is m (omega arith)) h

pub number_back : (n : ℕ) → n ≤ NO_BIGINT → number_of_digits (decimal n) ≡ n
number_back n h =
    let v : digits_from 0 (decimal n) ≡ n = (decimal_digits n (omega arith)).value in
    rw v (omega arith)

few_parameters : (n : ℕ) → n ≤ MOST_PARAMETER → nat_lt MOST_PARAMETER (number_of_digits (decimal n)) ≡ false
few_parameters n h = let v : number_of_digits (decimal n) ≡ n = number_back n (omega arith) in rw v (grind (arith, h))

sign_utf8 : (b : ℕ) (z : List ℕ) → is_utf8 (b ∷ []) ≡ true → is_utf8 z ≡ true → is_utf8 (b ∷ z) ≡ true
sign_utf8 b z h k = is_utf8-from_IsUtf8 (b ∷ z) (IsUtf8-append (b ∷ []) z (IsUtf8-from_is_utf8 (b ∷ []) h) (IsUtf8-from_is_utf8 z k))

pub parameter_apart : (m n : ℕ) → m ≤ MOST_PARAMETER → EndsNumber n → StandsApart (spelled.parameter m) n
parameter_apart m n w h =
    let o = decimal_digits m (omega arith) in
    let u = sign_utf8 36 (decimal m) (ascii_utf8 (36 ∷ []) refl) (decimal_utf8 m (omega arith)) in
    record {
      some = omega arith;
      read = λ rest i. piece_of kinds.Parameter (36 ∷ decimal m) rest u (parameter_front (decimal m) rest o.some o.digits (few_parameters m w) (subst EndsNumber (sym i) h));
    }

-- signs
by_front : (k : TokenKind) (z : List ℕ) (n : ℕ) → 0 < length z → is_ascii z ≡ true → ((rest : List ℕ) → slice_index rest 0 ≡ n → front (z ++ rest) ≡ Lexeme k (length z)) → IsPiece k z n
by_front k z n some u f = record { some = some; read = λ rest i. piece_of k z rest (ascii_utf8 z u) (f rest i) }

pub opening_apart : (n : ℕ) → StandsApart spelled.opening n
unfolding front mark_piece sign
opening_apart n = by_front kinds.OpenParenthesis _ n (omega arith) refl (λ rest i. refl)

pub closing_apart : (n : ℕ) → StandsApart spelled.closing n
unfolding front mark_piece sign
closing_apart n = by_front kinds.CloseParenthesis _ n (omega arith) refl (λ rest i. refl)

pub comma_apart : (n : ℕ) → StandsApart spelled.comma n
unfolding front mark_piece sign
comma_apart n = by_front kinds.Comma _ n (omega arith) refl (λ rest i. refl)

pub star_apart : (n : ℕ) → StandsApart spelled.star n
unfolding front mark_piece sign
star_apart n = by_front kinds.Star _ n (omega arith) refl (λ rest i. refl)

pub cast_apart : (n : ℕ) → StandsApart (mark kinds.TypeCast (codes "::")) n
unfolding front mark_piece sign
cast_apart n = by_front kinds.TypeCast _ n (omega arith) refl (λ rest i. refl)

pub dot_apart : (n : ℕ) → belongs class.Digit n ≡ false → StandsApart spelled.dot n
unfolding front mark_piece sign
dot_apart n h = by_front kinds.Dot _ n (omega arith) refl (λ rest i. let e : belongs class.Digit (slice_index rest 0) ≡ false = ap (belongs class.Digit) i ∙ h in rw e refl)

pub minus_apart : (n : ℕ) → (n == 45) ≡ false → StandsApart spelled.minus n
unfolding front mark_piece minus
minus_apart n h = by_front kinds.Minus _ n (omega arith) refl (λ rest i. let e : (slice_index rest 0 == 45) ≡ false = ap (λ b. b == 45) i ∙ h in rw e refl)

pub sign_apart : (op : Operator) → StandsApart (spelled.sign op) 32
unfolding front mark_piece sign slash
sign_apart operator.Add = by_front kinds.Plus _ 32 (omega arith) refl (λ rest i. refl)
sign_apart operator.Subtract = minus_apart 32 refl
sign_apart operator.Multiply = star_apart 32
sign_apart operator.Divide = by_front kinds.Slash _ 32 (omega arith) refl (λ rest i. rw i refl)
sign_apart operator.Remainder = by_front kinds.Percent _ 32 (omega arith) refl (λ rest i. refl)
sign_apart operator.Equal = by_front kinds.Equal _ 32 (omega arith) refl (λ rest i. refl)
sign_apart operator.NotEqual = by_front kinds.NotEqual _ 32 (omega arith) refl (λ rest i. refl)
sign_apart operator.Less = by_front kinds.Less _ 32 (omega arith) refl (λ rest i. rw i refl)
sign_apart operator.LessEqual = by_front kinds.LessEqual _ 32 (omega arith) refl (λ rest i. refl)
sign_apart operator.Greater = by_front kinds.Greater _ 32 (omega arith) refl (λ rest i. rw i refl)
sign_apart operator.GreaterEqual = by_front kinds.GreaterEqual _ 32 (omega arith) refl (λ rest i. refl)

-- first bytes
pub record Opens (b : ℕ) : Type 0 where
  pub blank : belongs class.Blank b ≡ false
  pub minus : (b == 45) ≡ false
  pub digit : belongs class.Digit b ≡ false

start_opens : (b : ℕ) → belongs class.NameStart b ≡ true → Opens b
start_opens b h = record { blank = grind (arith, h); minus = grind (arith, h); digit = grind (arith, h) }

pub plain_first : (z : List ℕ) (n : ℕ) → IsPlain z → Opens (next z n)
plain_first [] n p = let e : false ≡ true = p.start in cc
plain_first (b ∷ z) n p = start_opens b p.start

either_first : (z : List ℕ) (n : ℕ) (f : Bool) → is_plain z ≡ f → Opens (next (bytes_of (cond f (mark (word_kind z) z) (mark kinds.QuotedName (quoted 34 z)))) n)
either_first z n true e = plain_first z n (plain_is z e)
either_first z n false e = record { blank = refl; minus = refl; digit = refl }

pub name_first : (z : List ℕ) (n : ℕ) → Opens (next (bytes_of (spelled.name z)) n)
name_first z n = either_first z n (is_plain z) refl

digit_blank : (b : ℕ) → belongs class.Digit b ≡ true → belongs class.Blank b ≡ false
digit_blank b h = grind (arith, h)

digit_minus : (b : ℕ) → belongs class.Digit b ≡ true → (b == 45) ≡ false
digit_minus b h = grind (arith, h)

pub digits_first : (z : List ℕ) (n : ℕ) → AreDigits z → (belongs class.Blank (next z n) ≡ false) × ((next z n == 45) ≡ false)
digits_first [] n o = let none : 0 < 0 = o.some in absurd (omega arith)
digits_first (b ∷ z) n o = let d = first_digit b z (belongs class.Digit b) refl o.digits in (digit_blank b d, digit_minus b d)

pub number_first : (m n : ℕ) → m ≤ NO_BIGINT → (belongs class.Blank (next (decimal m) n) ≡ false) × ((next (decimal m) n == 45) ≡ false)
number_first m n h = digits_first (decimal m) n (decimal_is m (omega arith))
