-- Tokens that are marks: each of the mark's kind, and with its bytes. So they say what was spelled.
use Rattle.std.proofs.Common.{◌≡◌, ℕ, suc, ◌+◌, ◌-◌, Bool, true, false, cond, not, ◌&&◌, ◌||◌, ◌==◌, List, [], ◌∷◌, ◌++◌, map, length, drop, refl, sym, ap, ◌∙◌, arith, length-append, append_assoc}
use Rattle.std.proofs.Math.Seq.{drop-append_seam, take-append_seam}
use Rattle.std.specs.Char.{is_ascii_uppercase, to_ascii_lowercase}
use Rattle.std.specs.List.{prefix_len}
use Rattle.std.specs.Str.{str_eq_ignore_ascii_case}
use Rattle.sql_tokens.specs.Bytes.{belongs}
use Rattle.sql_tokens.specs.Contents as contents
use Rattle.sql_tokens.specs.Quotes.{inside, undoubled}
use Rattle.sql_tokens.specs.Words.{is, look_up, word_kind, words_of, two, three, four, five, six, seven, eight, nine, ten, eleven, twelve}
use Rattle.sql_tokens.specs.Written.{doubled, quoted}
use Rattle.sql_tokens.specs.declared.bytes.Class.TheVariants as class
use Rattle.sql_tokens.specs.declared.kind.TokenKind.{TokenKind}
use Rattle.sql_tokens.specs.declared.kind.TokenKind.TheVariants as kinds
use Rattle.sql_tokens.specs.declared.token.Token.{Token}
use Rattle.sql_tokens.proofs.ReadBack.{undoubled-doubled}
use Rattle.sql_written.proofs.MarkTokens.{tokens_at}
use Rattle.sql_written.specs.Marks.{Mark, blank, mark, text_of}
use Rattle.sql_written.specs.Spelling.{is_kept}
use Rattle.sql_written.proofs.MarksApart.{IsPlain}

abbrev pub token : TokenKind → ℕ → ℕ → Token
token k from to = record { kind = k; start = from; end = to }

-- the tokens of a text are some marks
abbrev pub Are : List ℕ → List Token → List Mark → Type 0
Are text ts [] = ts ≡ []
Are text ts (blank ∷ ms) = Are text ts ms
Are text ts (mark k z ∷ ms) = (from : ℕ) × (to : ℕ) × (rest : List Token) × (ts ≡ token k from to ∷ rest) × (contents.bytes_of text (token k from to) ≡ z) × Are text rest ms

abbrev pub Parted : List ℕ → List Token → List Mark → List Mark → Type 0
Parted text ts xs ys = (x : List Token) × (y : List Token) × (ts ≡ x ++ y) × Are text x xs × Are text y ys

pub parted : (text : List ℕ) (ts : List Token) (xs ys : List Mark) → Are text ts (xs ++ ys) → Parted text ts xs ys
parted text ts [] ys h = ([], ts, refl, refl, h)
parted text ts (blank ∷ xs) ys h = parted text ts xs ys h
parted text ts (mark k z ∷ xs) ys h =
    let p = parted text h.2 xs ys h.5 in
    (token k h.0 h.1 ∷ p.0, p.1, h.3 ∙ ap (λ r. token k h.0 h.1 ∷ r) p.2, (h.0, h.1, p.0, refl, h.4, p.3), p.4)

-- those of their own text
bytes_there : (before z after : List ℕ) (k : TokenKind) → contents.bytes_of (before ++ (z ++ after)) (token k (length before) (length before + length z)) ≡ z
bytes_there before z after k =
    let n : length before + length z - length before ≡ length z = omega arith in
    let d : drop (length before) (before ++ (z ++ after)) ≡ z ++ after = drop-append_seam before (z ++ after) in
    rw (n, d) (take-append_seam z after)

are_there : (text before : List ℕ) (ms : List Mark) (at : ℕ) → at ≡ length before → text ≡ before ++ text_of ms → Are text (tokens_at at ms) ms
are_there text before [] at e h = refl
are_there text before (blank ∷ ms) at e h =
    are_there text (before ++ 32 ∷ []) ms (at + 1) (omega (arith, length-append before (32 ∷ []))) (h ∙ sym (append_assoc before (32 ∷ []) (text_of ms)))
are_there text before (mark k z ∷ ms) at e h = (
  at,
  at + length z,
  tokens_at (at + length z) ms,
  refl,
  rw (e, h) (bytes_there before z (text_of ms) k),
  are_there text (before ++ z) ms (at + length z) (omega (arith, length-append before z)) (h ∙ sym (append_assoc before z (text_of ms))),
)

pub are_written : (ms : List Mark) → Are (text_of ms) (tokens_at 0 ms) ms
are_written ms = are_there (text_of ms) [] ms 0 refl refl

-- what is spelled is said
abbrev pub name_said : TokenKind → List ℕ → List ℕ
name_said k z = cond (is k kinds.QuotedName) (undoubled 34 false (inside z)) (map to_ascii_lowercase z)

inside_quoted : (q : ℕ) (z : List ℕ) → inside (quoted q z) ≡ doubled q z
inside_quoted q z =
    let n : length (quoted q z) - 2 ≡ length (doubled q z) = omega (arith, length-append (doubled q z) (q ∷ [])) in
    rw n (take-append_seam (doubled q z) (q ∷ []))

pub quoted_said : (q : ℕ) (z : List ℕ) → (q == q) ≡ true → undoubled q false (inside (quoted q z)) ≡ z
quoted_said q z e = ap (undoubled q false) (inside_quoted q z) ∙ undoubled-doubled q z e

-- no word is a quoted name, a string or a parameter
abbrev is_constant : TokenKind → Bool
is_constant k = is k kinds.QuotedName || (is k kinds.Text || (is k kinds.Parameter || is k kinds.Number))

abbrev words_alone : List (List ℕ × TokenKind) → Bool
words_alone [] = true
words_alone (w ∷ ws) = not (is_constant w.1) && words_alone ws

pick : (f : Bool) (k j : TokenKind) → is_constant k ≡ false → is_constant j ≡ false → is_constant (cond f k j) ≡ false
pick true k j g h = g
pick false k j g h = h

first_of_both : (a b : Bool) → (not a && b) ≡ true → a ≡ false
first_of_both true b h = cc
first_of_both false b h = refl

second_of_both : (a b : Bool) → (not a && b) ≡ true → b ≡ true
second_of_both true b h = cc
second_of_both false b h = h

look_up_word : (ws : List (List ℕ × TokenKind)) (word : List ℕ) → words_alone ws ≡ true → is_constant (look_up ws word) ≡ false
look_up_word [] word h = refl
look_up_word (w ∷ ws) word h =
    pick (str_eq_ignore_ascii_case w.0 word) w.1 (look_up ws word) (first_of_both (is_constant w.1) (words_alone ws) h) (look_up_word ws word (second_of_both (is_constant w.1) (words_alone ws) h))

choose : (b : Bool) (xs ys : List (List ℕ × TokenKind)) → words_alone xs ≡ true → words_alone ys ≡ true → words_alone (cond b xs ys) ≡ true
choose true xs ys h g = h
choose false xs ys h g = g

words_alone_of : (n : ℕ) → words_alone (words_of n) ≡ true
words_alone_of n =
    choose (n == 2) two _ refl
    (choose (n == 3) three _ refl
    (choose (n == 4) four _ refl
    (choose (n == 5) five _ refl
    (choose (n == 6) six _ refl
    (choose (n == 7) seven _ refl
    (choose (n == 8) eight _ refl
    (choose (n == 9) nine _ refl
    (choose (n == 10) ten _ refl
    (choose (n == 11) eleven _ refl
    (choose (n == 12) twelve _ refl refl))))))))))

no_constant : (word : List ℕ) → is_constant (word_kind word) ≡ false
unfolding word_kind
no_constant word = look_up_word (words_of (length word)) word (words_alone_of (length word))

four_false : (a b c d : Bool) → (a || (b || (c || d))) ≡ false → (a ≡ false) × (b ≡ false) × (c ≡ false) × (d ≡ false)
four_false true b c d h = cc
four_false false true c d h = cc
four_false false false true d h = cc
four_false false false false d h = (refl, refl, refl, h)

none_of : (word : List ℕ) → (is (word_kind word) kinds.QuotedName ≡ false) × (is (word_kind word) kinds.Text ≡ false) × (is (word_kind word) kinds.Parameter ≡ false) × (is (word_kind word) kinds.Number ≡ false)
none_of word = four_false (is (word_kind word) kinds.QuotedName) (is (word_kind word) kinds.Text) (is (word_kind word) kinds.Parameter) (is (word_kind word) kinds.Number) (no_constant word)

pub word_unquoted : (word : List ℕ) → is (word_kind word) kinds.QuotedName ≡ false
word_unquoted word = (none_of word).0

pub word_no_text : (word : List ℕ) → is (word_kind word) kinds.Text ≡ false
word_no_text word = (none_of word).1

pub word_no_parameter : (word : List ℕ) → is (word_kind word) kinds.Parameter ≡ false
word_no_parameter word = (none_of word).2

pub word_no_number : (word : List ℕ) → is (word_kind word) kinds.Number ≡ false
word_no_number word = (none_of word).3

-- a plain name is folded to itself
lower_kept : (b : ℕ) → is_kept b ≡ true → to_ascii_lowercase b ≡ b
lower_kept b h = small (belongs class.NamePart b) h
  where
    small : (p : Bool) → (p && not (is_ascii_uppercase b)) ≡ true → to_ascii_lowercase b ≡ b
    small true g = grind (arith, g)
    small false g = cc

lower_one : (b m : ℕ) (z : List ℕ) (f : Bool) → is_kept b ≡ f → prefix_len is_kept (b ∷ z) ≡ suc m → (prefix_len is_kept z ≡ m → map to_ascii_lowercase z ≡ z) → map to_ascii_lowercase (b ∷ z) ≡ b ∷ z
lower_one b m z true i e on =
    let one : 1 + prefix_len is_kept z ≡ suc m = rw i at e in
    let same : prefix_len is_kept z ≡ m = omega arith in
    let l : to_ascii_lowercase b ≡ b = lower_kept b i in
    rw (l, on same) refl
lower_one b m z false i e on = let none : 0 ≡ suc m = rw i at e in absurd (omega arith)

lower_all : (z : List ℕ) → prefix_len is_kept z ≡ length z → map to_ascii_lowercase z ≡ z
lower_all [] e = refl
lower_all (b ∷ z) e = lower_one b (length z) z (is_kept b) refl e (λ i. lower_all z i)

pub plain_said : (z : List ℕ) → IsPlain z → name_said (word_kind z) z ≡ z
plain_said z p = let q : is (word_kind z) kinds.QuotedName ≡ false = word_unquoted z in rw q (lower_all z p.kept)
