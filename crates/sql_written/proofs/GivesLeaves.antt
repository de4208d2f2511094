-- What the texts of names, constants and expressions give.
use Rattle.std.proofs.Common.{◌≡◌, ℕ, ◌≤◌, Bool, true, false, cond, ◌&&◌, ◌||◌, not, List, map, length, refl, sym, ◌∙◌, subst, arith}
use lib.ListN.{length-map}
use Rattle.std.specs.Char.{to_ascii_lowercase}
use Rattle.std.specs.Prelude.{nat_lt}
use Rattle.sql_tokens.specs.Contents.{bytes_of, name_in, number_in, string_in}
use Rattle.sql_tokens.specs.Quotes.{inside, undoubled}
use Rattle.sql_tokens.specs.Words.{is, is_name, word_kind}
use Rattle.sql_tokens.specs.declared.kind.TokenKind.{TokenKind}
use Rattle.sql_tokens.specs.declared.kind.TokenKind.TheVariants as kinds
use Rattle.sql_tokens.specs.declared.numbers.TheConstants.{NO_BIGINT}
use Rattle.sql_tokens.specs.declared.token.Token.{Token}
use Rattle.sql_tokens.proofs.EachKind.{each_kind}
use Rattle.sql_expressions.specs.Grammar.{expression}
use Rattle.sql_expressions.specs.Limits.{IsShort}
use Rattle.sql_ast.specs.Expressions.{Tree}
use Rattle.sql_tokens.specs.Classes.{a, a_name}
use Rattle.sql_expressions.specs.Words.{is_long_name, is_long_text, name, named, string}
use Rattle.sql_expressions.specs.declared.words.TheConstants.{MOST_NAME_BYTES}
use Rattle.sql_expressions.proofs.Limited.{all_of_each}
use Rattle.sql_expressions.proofs.TextWords.{long_is_name, word_is_short}
use Rattle.sql_expressions.specs.Lists.{is_long_but, is_other_name, name_but, number, other_name, plain_name, said}
use Rattle.sql_syntax.specs.Setting.{is_setting_word, setting_number, setting_word, without_zeros}
use Rattle.sql_ast.specs.declared.setting_value.SettingValue.TheVariants as setting
use Rattle.sql_written.specs.Writable.{IsName, IsText, IsWritable as IsExpression}
use Rattle.sql_written.specs.Written.{marks}
use Rattle.sql_written.proofs.Costs.{opened_by, opened_marks}
use Rattle.sql_written.proofs.Fewest.{opens_least}
use Rattle.sql_written.proofs.GivesWritable.{gives_writable, name_fits, string_fits, word_name}
use Rattle.sql_written.proofs.Least.{implied}
use Rattle.sql_written.proofs.ShortMarks.{name_is_no_text, never_both}
use Rattle.sql_written.proofs.TokensSay.{is_spelled, Tells, token_tells}
use Rattle.sql_written.specs.WritableCommands.{IsSetting}
use Rattle.sql_written.proofs.Gives.{Gives, Own, free, one, valued}
use Rattle.sql_written.proofs.Leaves.{first_of, second_of}
use Rattle.sql_written.proofs.Numerals.{numeral}

not_long : (b c : Bool) → (b && not c) ≡ false → (c ≡ true → b ≡ false) → b ≡ false
not_long true true h g = g refl
not_long true false h g = cc
not_long false c h g = refl

text_no_name : (k : TokenKind) → is k kinds.Text ≡ true → is_name k ≡ false
text_no_name k n = never_both (is k kinds.Text) (is_name k) (each_kind (λ j. not (is j kinds.Text && is_name j)) refl k) n

-- the kinds of words that are names by their kind alone
abbrev pub is_own_word : TokenKind → TokenKind → Bool
is_own_word k j = not (is j k && (is j kinds.Name || is j kinds.QuotedName))

-- a word that is no name but says a setting
abbrev is_other_word : TokenKind → Bool
is_other_word k = not (is_name k) && (is k kinds.On || (is k kinds.True || is k kinds.False))

other_spelled : (k : TokenKind) → is_other_word k ≡ true → is_spelled k ≡ true
other_spelled k h = implied (is_other_word k) (is_spelled k) (each_kind (λ j. not (is_other_word j) || is_spelled j) refl k) h

other_unquoted : (k : TokenKind) → is_other_word k ≡ true → is k kinds.QuotedName ≡ false
other_unquoted k h = never_both (is_other_word k) (is k kinds.QuotedName) (each_kind (λ j. not (is_other_word j && is j kinds.QuotedName)) refl k) h

other_no_fault : (k : TokenKind) → is_other_word k ≡ true → is k kinds.Fault ≡ false
other_no_fault k h = never_both (is_other_word k) (is k kinds.Fault) (each_kind (λ j. not (is_other_word j && is j kinds.Fault)) refl k) h

longer_or : (n most : ℕ) (b : Bool) → nat_lt most n ≡ b → (b ≡ true → ⊥) → n ≤ most
longer_or n most true e h = absurd (h refl)
longer_or n most false e h = grind (arith, e)

other_short : (k : TokenKind) (z : List ℕ) → is_other_word k ≡ true → word_kind z ≡ k → length z ≤ MOST_NAME_BYTES
other_short k z o w =
    longer_or (length z) MOST_NAME_BYTES (nat_lt MOST_NAME_BYTES (length z)) refl
    (λ h. let f : is_other_word kinds.Name ≡ true = subst (λ j. is_other_word j ≡ true) (sym w ∙ long_is_name z h) o in cc)

other_name_of : (k : TokenKind) (z quoted : List ℕ) → is_other_word k ≡ true → Tells k z → IsName (cond (is k kinds.QuotedName) quoted (map to_ascii_lowercase z))
other_name_of k z quoted o t =
    let u = other_unquoted k o in
    let w = t.says.word (other_spelled k o) u in
    rw u (word_name z w.0 t.utf8 (omega (arith, length-map z to_ascii_lowercase, other_short k z o w.1)))

module _ (text : List ℕ) where
  -- names
  short_name : (t : Token) → a_name t ≡ true → is_long_name text t ≡ false → IsShort text t
  short_name t n h = let e : is t.kind kinds.Text ≡ false = name_is_no_text t.kind n in (h, rw e refl)

  name_of : (t : Token) → Own text t → a_name t ≡ true → is_long_name text t ≡ false → IsName (name_in text t)
  name_of t o n h = name_fits text t (o, short_name t n h) n

  pub name_gives : Gives text (name text).texts free (λ (x : TokenKind × List ℕ). IsName x.1)
  name_gives =
      valued (named text) free (λ (x : TokenKind × List ℕ). IsName x.1) (λ t. omega arith)
      (λ t w. name_of t w.0 (first_of (a_name t) (not (is_long_name text t)) w.1) (second_of (a_name t) (is_long_name text t) w.1)) (one (λ t. a_name t && not (is_long_name text t)))

  pub plain_name_gives : Gives text (plain_name text).texts free IsName
  plain_name_gives = valued said free IsName (λ x. omega arith) (λ x w. w) name_gives

  -- a name, or a word that is a name by its kind and so is short
  but_of : (k : TokenKind) → ((j : TokenKind) → is_own_word k j ≡ true) → (t : Token) → Own text t → (a_name t && not (is_long_but text k t)) ≡ true → IsName (name_in text t)
  but_of k own t o h =
      let l = second_of (a_name t) (is_long_but text k t) h in
      let short : a k t ≡ true → is_long_name text t ≡ false = λ e. word_is_short text t o (never_both (a k t) (a kinds.Name t || a kinds.QuotedName t) (own t.kind) e) in
      name_of t o (first_of (a_name t) (not (is_long_but text k t)) h) (not_long (is_long_name text t) (a k t) l short)

  pub name_but_gives : (k : TokenKind) → ((j : TokenKind) → is_own_word k j ≡ true) → Gives text (name_but text k).texts free IsName
  name_but_gives k own = valued (name_in text) free IsName (λ t. omega arith) (λ t w. but_of k own t w.0 w.1) (one (λ t. a_name t && not (is_long_but text k t)))

  other_of : (k : TokenKind) (t : Token) → Own text t → (is_other_name k t && not (is_long_but text k t)) ≡ true → IsName (name_in text t)
  other_of k t o h =
      let n = first_of (is_other_name k t) (not (is_long_but text k t)) h in
      let other = second_of (a_name t) (a k t) n in
      let l = second_of (is_other_name k t) (is_long_but text k t) h in
      name_of t o (first_of (a_name t) (not (a k t)) n) (not_long (is_long_name text t) (a k t) l (λ e. let f : true ≡ false = sym e ∙ other in cc))

  pub other_name_gives : (k : TokenKind) → Gives text (other_name text k).texts free IsName
  other_name_gives k = valued (name_in text) free IsName (λ t. omega arith) (λ t w. other_of k t w.0 w.1) (one (λ t. is_other_name k t && not (is_long_but text k t)))

  -- constants
  pub number_gives : Gives text (number text).texts free (λ (n : ℕ). n ≤ NO_BIGINT)
  number_gives = valued (number_in text) free (λ (n : ℕ). n ≤ NO_BIGINT) (λ t. omega arith) (λ t w. omega arith) (one (a kinds.Number))

  string_of : (t : Token) → Own text t → (a kinds.Text t && not (is_long_text text t)) ≡ true → IsText (string_in text t)
  string_of t o h =
      let n = first_of (a kinds.Text t) (not (is_long_text text t)) h in
      let e : is_name t.kind ≡ false = text_no_name t.kind n in
      string_fits text t (o, (rw e refl, second_of (a kinds.Text t) (is_long_text text t) h)) n

  pub string_gives : Gives text (string text).texts free IsText
  string_gives = valued (string_in text) free IsText (λ t. omega arith) (λ t w. string_of t w.0 w.1) (one (λ t. a kinds.Text t && not (is_long_text text t)))

  -- the words of settings
  either_word : (t : Token) (b : Bool) → a_name t ≡ b → Own text t → (is_setting_word t && not (is_long_name text t)) ≡ true → IsName (name_in text t)
  either_word t true e o h = name_of t o e (second_of (is_setting_word t) (is_long_name text t) h)
  either_word t false e o h =
      let w = first_of (is_setting_word t) (not (is_long_name text t)) h in
      let other : is_other_word t.kind ≡ true = left_other (a_name t) _ e w in
      other_name_of t.kind (bytes_of text t) (undoubled 34 false (inside (bytes_of text t))) other (token_tells text t o (other_no_fault t.kind other))
    where
      left_other : (b c : Bool) → b ≡ false → (b || c) ≡ true → (not b && c) ≡ true
      left_other true c e h = cc
      left_other false c e h = h

  pub setting_word_gives : Gives text (setting_word text).texts free IsSetting
  setting_word_gives =
      valued (λ (t : Token). setting.Word (name_in text t)) free IsSetting (λ t. omega arith) (λ t w. either_word t (a_name t) refl w.0 w.1) (one (λ t. is_setting_word t && not (is_long_name text t)))

  -- the numbers of settings
  number_no_fault : (k : TokenKind) → is k kinds.Number ≡ true → is k kinds.Fault ≡ false
  number_no_fault k h = never_both (is k kinds.Number) (is k kinds.Fault) (each_kind (λ j. not (is j kinds.Number && is j kinds.Fault)) refl k) h

  pub setting_number_gives : Gives text (setting_number text).texts free IsSetting
  setting_number_gives =
      valued (λ (t : Token). setting.Number (without_zeros (bytes_of text t))) free IsSetting (λ t. omega arith)
      (λ t w. numeral (bytes_of text t) ((token_tells text t w.0 (number_no_fault t.kind w.1)).says.number w.1)) (one (a kinds.Number))

  -- expressions
  pub expression_gives : Gives text (expression text).texts (λ (e : Tree). opened_by (marks e)) IsExpression
  expression_gives = record {
    fewest = λ ts e h. omega (arith, opens_least e text ts h, opened_marks e);
    fits = λ ts e o h. gives_writable text ts e (all_of_each (Own text) ts o) h;
  }
