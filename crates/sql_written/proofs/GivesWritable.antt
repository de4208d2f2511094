-- What a parse gives can be written.
use Rattle.std.proofs.Common.{get_or, ◌≡◌, ℕ, zero, suc, ◌<◌, ◌≤◌, Bool, true, false, cond, not, ◌&&◌, ◌||◌, List, [], ◌∷◌, map, length, refl, sym, ap, ◌∙◌, subst, arith}
use lib.ListN.{length-map}
use Rattle.std.specs.Char.{to_ascii_lowercase}
use Rattle.std.specs.Prelude.{Contains, nat_lt}
use Rattle.std.specs.Str.{is_utf8}
use Rattle.sql_tokens.specs.Contents.{bytes_of, name_in, string_in}
use Rattle.sql_tokens.specs.Quotes.{inside, undoubled}
use Rattle.sql_tokens.specs.Tokens.{tokens_of}
use Rattle.sql_tokens.specs.Words.{is, is_name}
use Rattle.sql_tokens.specs.Written.{quoted}
use Rattle.sql_tokens.specs.declared.kind.TokenKind.{TokenKind}
use Rattle.sql_tokens.specs.declared.kind.TokenKind.TheVariants as kinds
use Rattle.sql_tokens.specs.declared.token.Token.{Token}
use Rattle.sql_tokens.proofs.EachKind.{each_kind}
use Rattle.sql_expressions.specs.Grammar.{any, deep_expression, expression}
use Rattle.sql_expressions.specs.Levels.{Deep}
use Rattle.sql_expressions.specs.Limits.{IsShort, StandIn}
use Rattle.sql_ast.specs.Expressions.{Tree}
use Rattle.sql_tokens.specs.Classes.{a, a_name}
use Rattle.sql_expressions.specs.declared.words.TheConstants.{MOST_NAME_BYTES, MOST_TEXT_BYTES}
use Rattle.sql_expressions.proofs.Limited.{each_of_all}
use Rattle.sql_expressions.proofs.RuleLimits.{within}
use Rattle.sql_written.specs.Precedence.{disjunction, needs_parentheses}
use Rattle.sql_written.specs.Writable.{IsName, IsText, IsWritable, depth}
use Rattle.sql_written.proofs.ShortMarks.{never_both}
use Rattle.sql_written.proofs.Least.{deeper_some}
use Rattle.sql_written.proofs.LeastTexts.{Spelled, least}
use Rattle.sql_written.proofs.Said.{quoted_said}
use Rattle.sql_written.proofs.TokensSay.{IsWord, Tells, token_tells}
use Rattle.sql_written.proofs.Utf8.{inside_utf8, lower_utf8}

-- names
word_some : (z : List ℕ) → IsWord z → 0 < length z
word_some [] w = let e : false ≡ true = w.start in cc
word_some (b ∷ z) w = omega arith

pub word_name : (z : List ℕ) → IsWord z → is_utf8 z ≡ true → length (map to_ascii_lowercase z) ≤ MOST_NAME_BYTES → IsName (map to_ascii_lowercase z)
word_name z w u h = (omega (arith, length-map z to_ascii_lowercase, word_some z w), h, lower_utf8 z u)

quoted_some : (x z : List ℕ) → z ≡ quoted 34 x → 2 < length z → 0 < length x
quoted_some [] z e h = let n = ap (λ y. length y) e in absurd (omega (arith, n))
quoted_some (b ∷ x) z e h = omega arith

quoted_name : (x z : List ℕ) → z ≡ quoted 34 x → 2 < length z → is_utf8 z ≡ true → length x ≤ MOST_NAME_BYTES → IsName x
quoted_name x z e some u h = (quoted_some x z e some, h, inside_utf8 34 x (omega arith) (subst (λ y. is_utf8 y ≡ true) e u))

pub not_longer : (n : ℕ) (b : Bool) (most : ℕ) → b ≡ true → (b && nat_lt most n) ≡ false → n ≤ most
not_longer n true most e h = grind (arith, h)
not_longer n false most e h = cc

pub one_true : (b c : Bool) → b ≡ true → (b || c) ≡ true
one_true true c h = refl
one_true false c h = cc

pub no_fault : (k : TokenKind) → is_name k ≡ true → is k kinds.Fault ≡ false
no_fault k n = never_both (is_name k) (is k kinds.Fault) (each_kind (λ j. not (is_name j && is j kinds.Fault)) refl k) n

no_fault_text : (k : TokenKind) → is k kinds.Text ≡ true → is k kinds.Fault ≡ false
no_fault_text k n = never_both (is k kinds.Text) (is k kinds.Fault) (each_kind (λ j. not (is j kinds.Text && is j kinds.Fault)) refl k) n

no_fault_parameter : (k : TokenKind) → is k kinds.Parameter ≡ true → is k kinds.Fault ≡ false
no_fault_parameter k n = never_both (is k kinds.Parameter) (is k kinds.Fault) (each_kind (λ j. not (is j kinds.Parameter && is j kinds.Fault)) refl k) n

module _ (text : List ℕ) where
  -- tokens of the text that are not too long
  abbrev Fits : Token → Type 0
  Fits t = Contains (tokens_of text) t × IsShort text t

  name_by : (k : TokenKind) (z : List ℕ) (b : Bool) → is k kinds.QuotedName ≡ b → is_name k ≡ true → Tells k z → length (cond b (undoubled 34 false (inside z)) (map to_ascii_lowercase z)) ≤ MOST_NAME_BYTES → IsName (cond b (undoubled 34 false (inside z)) (map to_ascii_lowercase z))
  name_by k z true e n t h =
      let q = t.says.name e in
      let x = q.0.text in
      let said : undoubled 34 false (inside z) ≡ x = ap (λ y. undoubled 34 false (inside y)) q.0.same ∙ quoted_said 34 x refl in
      subst IsName (sym said) (quoted_name x z q.0.same q.1 t.utf8 (subst (λ (y : List ℕ). length y ≤ MOST_NAME_BYTES) said h))
  name_by k z false e n t h = word_name z (t.says.word (one_true (is_name k) _ n) e).0 t.utf8 h

  pub name_fits : (t : Token) → Fits t → a_name t ≡ true → IsName (name_in text t)
  name_fits t f n =
      name_by t.kind (bytes_of text t) (is t.kind kinds.QuotedName) refl n (token_tells text t f.0 (no_fault t.kind n)) (not_longer (length (name_in text t)) (a_name t) MOST_NAME_BYTES n f.1.0)

  pub string_fits : (t : Token) → Fits t → a kinds.Text t ≡ true → IsText (string_in text t)
  string_fits t f n =
      let tell = token_tells text t f.0 (no_fault_text t.kind n) in
      let q = tell.says.string n in
      let z = bytes_of text t in
      let said : string_in text t ≡ q.text = ap (λ y. undoubled 39 false (inside y)) q.same ∙ quoted_said 39 q.text refl in
      (not_longer (length (string_in text t)) (a kinds.Text t) MOST_TEXT_BYTES n f.1.1, subst (λ (y : List ℕ). is_utf8 y ≡ true) (sym said) (inside_utf8 39 q.text (omega arith) (subst (λ (y : List ℕ). is_utf8 y ≡ true) q.same tell.utf8)))

  fit_spelled : Spelled text Fits
  fit_spelled = record { name = name_fits; string = string_fits; parameter = λ t f n. (token_tells text t f.0 (no_fault_parameter t.kind n)).says.parameter n }

  free_back : (ts : List Token) (x : Deep) → (deep_expression text).free ts x → (any text).expression.texts ts x
  free_back ts x h = h

  pub gives_writable : (ts : List Token) (tree : Tree) → StandIn text ts → (expression text).texts ts tree → IsWritable tree
  gives_writable ts tree there h =
      let w = within text ts tree there h in
      let l = least text Fits fit_spelled ts (tree, w.0) (free_back ts (tree, w.0) w.1) in
      let each = each_of_all Fits ts (λ k d i. (there k d i, w.3 k d i)) in
      (l.has each, omega (arith, l.lowest, deeper_some (needs_parentheses disjunction tree) (depth tree), w.2))

-- the tokens of a text are its own
same_element : (ts : List Token) (k : ℕ) (d e : Token) → k < length ts → get_or ts k d ≡ get_or ts k e
same_element [] k d e h = absurd (omega arith)
same_element (t ∷ ts) zero d e h = refl
same_element (t ∷ ts) (suc k) d e h = same_element ts k d e (omega arith)

pub all_stand_in : (text : List ℕ) → StandIn text (tokens_of text)
all_stand_in text k d h = (k, h, same_element (tokens_of text) k (get_or (tokens_of text) k d) d h)
