-- Rules of one token or a few have no tokens that are too long, and those without limits have no others.
use Rattle.std.proofs.Common.{◌≡◌, ℕ, Bool, true, false, ◌&&◌, ◌||◌, not, List, refl, eqb-true}
use Rattle.std.specs.Prelude.{Contains}
use Rattle.grammar.specs.Reading.{Class, Rule, nothing, as_value}
use Rattle.grammar.specs.Repeats.{second_of}
use Rattle.grammar.proofs.Laws.{Disjoint}
use Rattle.sql_tokens.specs.Contents.{string_in}
use Rattle.sql_tokens.specs.Tokens.{tokens_of}
use Rattle.sql_tokens.specs.Words as words
use Rattle.sql_tokens.specs.declared.kind.TokenKind.{TokenKind}
use Rattle.sql_tokens.specs.declared.kind.TokenKind.TheVariants as word
use Rattle.sql_tokens.specs.declared.token.Token.{Token}
use Rattle.sql_expressions.specs.Limits.{IsShort}
use Rattle.sql_tokens.specs.Classes.{a, a_name}
use Rattle.sql_expressions.specs.Words.{a_literal, is_long_name, is_long_text, named, name, string, literal_of, literal, either_if, cast, dotted, column}
use Rattle.sql_ast.specs.declared.leaf.Leaf.{Leaf}
use Rattle.sql_ast.specs.declared.leaf.Leaf.TheVariants as leaf
use Rattle.sql_expressions.proofs.Limited.{Of, Limited, one_limited, no_longer_limited, nothing_limited, follow_limited, value_limited, behind_limited, either_limited}
use Rattle.sql_expressions.proofs.TextWords.{may_be_long, word_is_short}
use Rattle.sql_expressions.proofs.WordLaws.{sample, apart}

first_true : (b d : Bool) → (b && d) ≡ true → b ≡ true
first_true true d h = refl
first_true false d h = cc

not_second : (b d : Bool) → (b && not d) ≡ true → d ≡ false
not_second true true h = cc
not_second true false h = refl
not_second false d h = cc

not_first : (b d : Bool) → b ≡ false → (b && d) ≡ false
not_first true d h = cc
not_first false d h = refl

neither : (b d e : Bool) → (b || (d || e)) ≡ false → ((b || d) ≡ false) × (e ≡ false)
neither true d e h = cc
neither false true e h = cc
neither false false e h = (refl, h)

-- a token of the text is short
abbrev pub ShortThere : List ℕ → Token → Type 0
ShortThere text t = Contains (tokens_of text) t → IsShort text t

-- tokens that are neither names nor strings
same_kind : (k : TokenKind) (t : Token) → may_be_long (sample k) ≡ false → a k t ≡ true → may_be_long t ≡ false
same_kind k t h e =
    let i : words.code t.kind ≡ words.code k = eqb-true (words.code t.kind) (words.code k) e in
    rw i h

module _ (text : List ℕ) where
  pub plain : (c : Class Token) → Disjoint c may_be_long → (t : Token) → c t ≡ true → ShortThere text t
  plain c d t h there =
      let p = neither (a word.Name t) (a word.QuotedName t) (a word.Text t) (d t h) in
      (word_is_short text t there p.0, not_first (a word.Text t) _ p.1)

  pub plain_word : (k : TokenKind) → may_be_long (sample k) ≡ false → (t : Token) → a k t ≡ true → ShortThere text t
  plain_word k h = plain (a k) (λ t e. same_kind k t h e)

  abbrev pub Always : {A : Type 0} → Of A → Of A → Type 0
  Always {A} P U = Limited (ShortThere text) (IsShort text) (Unit {0}) (λ (x : A). Unit {0}) P U

  -- names and strings
  name_is_short : (t : Token) → (a_name t && not (is_long_name text t)) ≡ true → ShortThere text t
  name_is_short t h there =
      let d : Disjoint a_name (a word.Text) = apart a_name (a word.Text) (λ t. refl) refl in
      (not_second (a_name t) (is_long_name text t) h, not_first (a word.Text t) _ (d t (first_true (a_name t) _ h)))

  text_is_short : (c : Class Token) → Disjoint c a_name → (t : Token) → (c t && not (is_long_text text t)) ≡ true → ShortThere text t
  text_is_short c d t h there = (not_first (a_name t) _ (d t (first_true (c t) _ h)), not_second (c t) (is_long_text text t) h)

  pub name_limited : Always (name text).texts (name text).free
  name_limited = value_limited (named text) (no_longer_limited a_name (is_long_name text) name_is_short (λ t r. r.0))

  string_limited : Always (string text).texts (string text).free
  string_limited = value_limited (string_in text) (no_longer_limited (a word.Text) (is_long_text text) (text_is_short (a word.Text) (apart (a word.Text) a_name (λ t. refl) refl)) (λ t r. r.1))

  pub literal_limited : Always (literal text).texts (literal text).free
  literal_limited = value_limited (literal_of text) (no_longer_limited a_literal (is_long_text text) (text_is_short a_literal (apart a_literal a_name (λ t. refl) refl)) (λ t r. r.1))

  -- columns
  if_limited : {A : Type 0} (b : Bool) (c : Class Token) (p q : Rule Token A) → Always p.texts p.free → Always q.texts q.free → Always (either_if b c p q).texts (either_if b c p q).free
  if_limited true c p q l l' = either_limited l' l
  if_limited false c p q l l' = l'

  cast_limited : (l : Leaf) → Always (cast l).texts (cast l).free
  cast_limited l = value_limited (λ (t : Token). l) (behind_limited (a word.TypeCast) (plain_word word.TypeCast refl) (one_limited (a word.Regclass) (plain_word word.Regclass refl)))

  maybe_cast : (b : Bool) (l k : Leaf) → Always (either_if b (a word.TypeCast) (cast l) (nothing k)).texts (either_if b (a word.TypeCast) (cast l) (nothing k)).free
  maybe_cast b l k = if_limited b (a word.TypeCast) (cast l) (nothing k) (cast_limited l) (nothing_limited (λ (x : Leaf). Unit {0}) k)

  dotted_limited : (table : List ℕ) → Always (dotted text table).texts (dotted text table).free
  dotted_limited table =
      behind_limited (a word.Dot) (plain_word word.Dot refl)
      (value_limited second_of (follow_limited name_limited (λ x. maybe_cast (words.is x.0 word.Tableoid) (leaf.TableNameOf table) (leaf.ColumnOf table x.1))))

  pub column_limited : (x : TokenKind × List ℕ) → Always (column text x).texts (column text x).free
  column_limited x =
      let casts = maybe_cast (words.is x.0 word.Tableoid) leaf.TableName (leaf.Column x.1) in
      either_limited
      (if_limited (words.is x.0 word.Date) (a word.Text) (as_value leaf.Date (string text)) (either_if (words.is x.0 word.Tableoid) (a word.TypeCast) (cast leaf.TableName) (nothing (leaf.Column x.1)))
      (value_limited leaf.Date string_limited) casts)
      (dotted_limited x.1)
