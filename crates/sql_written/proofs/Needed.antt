-- What is said as a name without quotes is written without.
use Rattle.std.proofs.Common.{◌≡◌, ℕ, suc, ◌+◌, ◌==◌, ◌≤◌, Bool, true, false, cond, List, [], ◌∷◌, map, length, refl, ap, ◌∙◌, arith}
use lib.Dec.{eqb}
use lib.ListN.{length-map}
use lib.Pointwise.{pointwise}
use Rattle.std.proofs.lemmas.Str.Ascii.{lowercase-lowercase, lowercase_is}
use Rattle.std.specs.Char.{is_ascii_uppercase, to_ascii_lowercase}
use Rattle.std.specs.List.{prefix_len}
use Rattle.std.specs.Prelude.{Contains, nat_lt}
use Rattle.std.specs.Str.{str_eq_ignore_ascii_case}
use Rattle.sql_tokens.specs.Bytes.{belongs}
use Rattle.sql_tokens.specs.Contents.{bytes_of, name_in}
use Rattle.sql_tokens.specs.Tokens.{tokens_of}
use Rattle.sql_tokens.specs.Words.{is_name, look_up, word_kind, words_of}
use Rattle.sql_tokens.specs.declared.bytes.Class.TheVariants as class
use Rattle.sql_tokens.specs.declared.kind.TokenKind.{TokenKind}
use Rattle.sql_tokens.specs.declared.kind.TokenKind.TheVariants as kinds
use Rattle.sql_tokens.specs.declared.token.Token.{Token}
use Rattle.sql_tokens.specs.Classes.{a, a_name}
use Rattle.sql_written.specs.Marks.{mark}
use Rattle.sql_written.specs.Spelling as spelled
use Rattle.sql_written.specs.Spelling.{begins_name, is_kept, is_plain}
use Rattle.sql_written.proofs.GivesWritable.{no_fault, one_true}
use Rattle.sql_written.proofs.TokensSay.{IsWord, token_tells}

-- small letters
start_small : (b : ℕ) → belongs class.NameStart b ≡ true → belongs class.NameStart (to_ascii_lowercase b) ≡ true
start_small b h = grind (arith, h)

part_by : (b : ℕ) (f g : Bool) → nat_lt b 65 ≡ f → nat_lt 90 b ≡ g → belongs class.NamePart b ≡ true → belongs class.NamePart (to_ascii_lowercase b) ≡ true
part_by b true g e i h =
    let same : to_ascii_lowercase b ≡ b = (lowercase_is b).1 (grind (arith, e)) in
    rw same h
part_by b false true e i h =
    let same : to_ascii_lowercase b ≡ b = (lowercase_is b).2 (grind (arith, i)) in
    rw same h
part_by b false false e i h =
    let low : 65 ≤ b = grind (arith, e) in
    let high : b ≤ 90 = grind (arith, i) in
    let moved : to_ascii_lowercase b ≡ b + 32 = (lowercase_is b).0 (low, high) in
    rw moved (small_letter (b + 32) (omega (arith, low)) (omega (arith, high)))
  where
    small_letter : (c : ℕ) → 97 ≤ c → c ≤ 122 → belongs class.NamePart c ≡ true
    small_letter c l m = grind (arith, l, m)

part_small : (b : ℕ) → belongs class.NamePart b ≡ true → belongs class.NamePart (to_ascii_lowercase b) ≡ true
part_small b h = part_by b (nat_lt b 65) (nat_lt 90 b) refl refl h

never_capital : (b : ℕ) → is_ascii_uppercase (to_ascii_lowercase b) ≡ false
never_capital b = grind arith

kept : (b : ℕ) → belongs class.NamePart b ≡ true → is_kept (to_ascii_lowercase b) ≡ true
kept b h = let p = part_small b h in rw (p, never_capital b) refl

begins_small : (z : List ℕ) → begins_name z ≡ true → begins_name (map to_ascii_lowercase z) ≡ true
begins_small [] h = h
begins_small (b ∷ z) h = start_small b h

kept_by : (b : ℕ) (z : List ℕ) (f : Bool) → belongs class.NamePart b ≡ f → cond f (1 + prefix_len (belongs class.NamePart) z) 0 ≡ suc (length z) →
    (prefix_len (belongs class.NamePart) z ≡ length z → prefix_len is_kept (map to_ascii_lowercase z) ≡ length (map to_ascii_lowercase z)) →
    prefix_len is_kept (map to_ascii_lowercase (b ∷ z)) ≡ length (map to_ascii_lowercase (b ∷ z))
kept_by b z true e h on =
    let k : is_kept (to_ascii_lowercase b) ≡ true = kept b e in
    let rest = on (omega (arith, h)) in
    rw k (omega (arith, rest))
kept_by b z false e h on = absurd (omega (arith, h))

kept_small : (z : List ℕ) → prefix_len (belongs class.NamePart) z ≡ length z → prefix_len is_kept (map to_ascii_lowercase z) ≡ length (map to_ascii_lowercase z)
kept_small [] h = refl
kept_small (b ∷ z) h = kept_by b z (belongs class.NamePart b) refl h (kept_small z)

twice : (z : List ℕ) → map to_ascii_lowercase (map to_ascii_lowercase z) ≡ map to_ascii_lowercase z
twice [] = refl
twice (b ∷ z) = ap (λ c. c ∷ map to_ascii_lowercase (map to_ascii_lowercase z)) (lowercase-lowercase b) ∙ ap (λ (y : List ℕ). to_ascii_lowercase b ∷ y) (twice z)

same_case : (w z : List ℕ) → str_eq_ignore_ascii_case w (map to_ascii_lowercase z) ≡ str_eq_ignore_ascii_case w z
same_case w z = ap (λ (y : List ℕ). pointwise eqb (map to_ascii_lowercase w) y) (twice z)

same_look : (ws : List (List ℕ × TokenKind)) (z : List ℕ) → look_up ws (map to_ascii_lowercase z) ≡ look_up ws z
same_look [] z = refl
same_look (w ∷ ws) z = ap (λ (b : Bool). cond b w.1 (look_up ws (map to_ascii_lowercase z))) (same_case w.0 z) ∙ ap (λ (k : TokenKind). cond (str_eq_ignore_ascii_case w.0 z) w.1 k) (same_look ws z)

kind_small : (z : List ℕ) → word_kind (map to_ascii_lowercase z) ≡ word_kind z
unfolding word_kind
kind_small z = ap (λ (n : ℕ). look_up (words_of n) (map to_ascii_lowercase z)) (length-map z to_ascii_lowercase) ∙ same_look (words_of (length z)) z

plain_small : (k : TokenKind) (z : List ℕ) → IsWord z → word_kind z ≡ k → is_name k ≡ true → is_plain (map to_ascii_lowercase z) ≡ true
plain_small k z w e n =
    let begins = begins_small z w.start in
    let all = kept_small z w.parts in
    let named : is_name (word_kind (map to_ascii_lowercase z)) ≡ true = ap is_name (kind_small z ∙ e) ∙ n in
    let same : (prefix_len is_kept (map to_ascii_lowercase z) == length (map to_ascii_lowercase z)) ≡ true = grind (arith, all) in
    rw (begins, same, named) refl

module _ (text : List ℕ) (t : Token) (o : Contains (tokens_of text) t) (n : a_name t ≡ true) (q : a kinds.QuotedName t ≡ false) where
  word_of : IsWord (bytes_of text t) × (word_kind (bytes_of text t) ≡ t.kind)
  word_of = (token_tells text t o (no_fault t.kind n)).says.word (one_true (is_name t.kind) _ n) q

  pub said_plain : is_plain (name_in text t) ≡ true
  said_plain = rw q (plain_small t.kind (bytes_of text t) word_of.0 word_of.1 n)

  pub said_kind : word_kind (name_in text t) ≡ t.kind
  said_kind = rw q (kind_small (bytes_of text t) ∙ word_of.1)

  pub said_bare : spelled.name (name_in text t) ≡ mark t.kind (name_in text t)
  said_bare = rw said_plain (ap (λ k. mark k (name_in text t)) said_kind)
