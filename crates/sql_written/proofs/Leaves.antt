-- Names, constants and expressions are spelled by their rules.
use Rattle.std.proofs.Common.{◌≡◌, ℕ, ◌≤◌, Bool, true, false, cond, ◌&&◌, not, List, [], ◌∷◌, length, inl, inr, refl, sym, ap, ◌∙◌, subst, arith}
use Rattle.std.specs.Fmt.{decimal}
use Rattle.std.specs.Prelude.{nat_lt}
use Rattle.grammar.proofs.WholeLaws.{one_value}
use Rattle.sql_tokens.specs.Contents.{bytes_of, name_in, number_in, string_in}
use Rattle.sql_tokens.specs.Numbers.{number_of_digits}
use Rattle.sql_tokens.specs.Words.{is, is_name, word_kind}
use Rattle.sql_tokens.specs.Written.{quoted}
use Rattle.sql_tokens.specs.declared.kind.TokenKind.{TokenKind}
use Rattle.sql_tokens.specs.declared.kind.TokenKind.TheVariants as kinds
use Rattle.sql_tokens.specs.declared.numbers.TheConstants.{NO_BIGINT}
use Rattle.sql_tokens.specs.declared.token.Token.{Token}
use Rattle.sql_expressions.specs.Grammar.{any, deep_expression, expression}
use Rattle.sql_expressions.specs.Levels.{Deep}
use Rattle.sql_expressions.specs.Limits.{IsShort}
use Rattle.sql_ast.specs.Expressions.{Tree, leaf}
use Rattle.sql_expressions.specs.Words.{name, string}
use Rattle.sql_ast.specs.declared.leaf.Leaf.TheVariants.{Column}
use Rattle.sql_expressions.specs.declared.words.TheConstants.{MOST_NAME_BYTES, MOST_TEXT_BYTES}
use Rattle.sql_expressions.proofs.Limited.{all_of_each}
use Rattle.sql_expressions.proofs.RuleLaws.{expression_law}
use Rattle.sql_expressions.proofs.RuleLimits.{all}
use Rattle.sql_expressions.specs.Lists.{name_but, number, other_name, plain_name, said}
use Rattle.sql_written.specs.Marks.{Mark, mark, bytes_of as bytes_of_mark, text_of}
use Rattle.sql_written.specs.Precedence.{disjunction, level_of, unary}
use Rattle.sql_written.specs.Spelling as spelled
use Rattle.sql_written.specs.Spelling.{is_plain}
use Rattle.sql_written.specs.Writable.{IsName, IsText, IsWritable, depth}
use Rattle.sql_written.specs.Written.{marks}
use Rattle.sql_written.proofs.Back.{back}
use Rattle.sql_written.proofs.LeafTexts.{long_text, named, no_more_of, not_longer, only, string_said}
use Rattle.sql_written.proofs.LevelTexts.{climb, loosest}
use Rattle.sql_written.proofs.MarkTokens.{StandsApart, next, next_append}
use Rattle.sql_written.proofs.MarksApart.{Ends, name_apart, name_first, number_apart, number_back, number_first, plain_apart, plain_first, plain_is, quoted_apart, string_apart}
use Rattle.sql_written.proofs.Said.{Are, name_said, plain_said, quoted_said, token}
use Rattle.sql_written.proofs.ShortMarks.{name_is_no_text, short, short_tokens}
use Rattle.sql_written.proofs.TreeApart.{apart as tree_apart, begins}
use Rattle.sql_written.proofs.Utf8.{quoted_utf8}
use Rattle.sql_written.specs.Words.{name_unless}
use Rattle.sql_written.proofs.Spells.{Begins, Exactly, Spells, exactly, valued}

-- a name without quotes, unless its word is of the kinds c
abbrev NameMark : Bool → List ℕ → Mark
NameMark f z = cond f (mark (word_kind z) z) (mark kinds.QuotedName (quoted 34 z))

pub first_of : (p q : Bool) → (p && q) ≡ true → p ≡ true
first_of true q h = refl
first_of false q h = cc

pub second_of : (p q : Bool) → (p && not q) ≡ true → q ≡ false
second_of true true h = cc
second_of true false h = refl
second_of false q h = cc

mark_apart : (z : List ℕ) (n : ℕ) (f : Bool) → IsName z → (f ≡ true → is_plain z ≡ true) → Ends n → StandsApart (NameMark f z) n
mark_apart z n true w p e = plain_apart z n (plain_is z (p refl)) w.2 e.part
mark_apart z n false w p e = quoted_apart z n w.0 (quoted_utf8 34 z (omega arith) w.2) e.name_quote

mark_first : (z : List ℕ) (n : ℕ) (f : Bool) → (f ≡ true → is_plain z ≡ true) → Begins (next (bytes_of_mark (NameMark f z)) n)
mark_first z n true p = (plain_first z n (plain_is z (p refl))).blank
mark_first z n false p = refl

-- the token of a name
pub record NameToken (text : List ℕ) (z : List ℕ) (c : TokenKind → Bool) (k : TokenKind) (i j : ℕ) : Type 0 where
  pub named : is_name k ≡ true
  pub says : name_in text (token k i j) ≡ z
  pub short : nat_lt MOST_NAME_BYTES (length (name_in text (token k i j))) ≡ false
  pub other : c k ≡ false

name_token : (text z : List ℕ) (c : TokenKind → Bool) (k : TokenKind) (w : List ℕ) (i j : ℕ) → is_name k ≡ true → c k ≡ false → name_said k w ≡ z → length z ≤ MOST_NAME_BYTES → bytes_of text (token k i j) ≡ w → NameToken text z c k i j
name_token text z c k w i j n o e l b =
    let said : name_in text (token k i j) ≡ z = ap (name_said k) b ∙ e in
    record { named = n; says = said; short = rw said (not_longer MOST_NAME_BYTES (length z) l); other = o }

either_token : (text z : List ℕ) (c : TokenKind → Bool) (f : Bool) → c kinds.QuotedName ≡ false → IsName z → (f ≡ true → is_plain z ≡ true) → (f ≡ true → c (word_kind z) ≡ false) → (ts : List Token) → Are text ts (NameMark f z ∷ []) →
    (k : TokenKind) × (i : ℕ) × (j : ℕ) × (ts ≡ token k i j ∷ []) × NameToken text z c k i j
either_token text z c true q w p o ts h =
    let n = plain_is z (p refl) in
    (word_kind z, h.0, h.1, only text (word_kind z) z ts h, name_token text z c (word_kind z) z h.0 h.1 n.named (o refl) (plain_said z n) w.1 h.4)
either_token text z c false q w p o ts h =
    (kinds.QuotedName, h.0, h.1, only text kinds.QuotedName (quoted 34 z) ts h, name_token text z c kinds.QuotedName (quoted 34 z) h.0 h.1 refl q (quoted_said 34 z refl) w.1 h.4)

module _ (text : List ℕ) where
  -- a name by each rule of names
  module _ (z : List ℕ) (w : IsName z) where
    name_spells : Spells Begins text (name text).texts (spelled.name z ∷ []) (λ (k : TokenKind). (k, z))
    name_spells = record {
      reads = λ ts h.
          let t = either_token text z (λ k. false) (is_plain z) refl w (λ e. e) (λ e. refl) ts h in
          let n = t.4 in
          (t.0, (token t.0 t.1 t.2, (t.3, rw (n.named, n.short) refl), ap (λ (y : List ℕ). (t.0, y)) (sym n.says)));
      apart = λ n e. (name_apart z n w e.part e.name_quote, tt);
      first = λ n e. subst (λ b. Begins b) (sym (next_append (bytes_of_mark (spelled.name z)) [] n)) (name_first z n).blank;
    }

    pub plain_name_spells : Exactly Begins text (plain_name text).texts (spelled.name z ∷ []) z
    plain_name_spells = exactly z (valued said name_spells) (λ k. refl)

    pub name_but_spells : (k : TokenKind) → Exactly Begins text (name_but text k).texts (spelled.name z ∷ []) z
    name_but_spells k = record {
      reads = λ ts h.
          let t = either_token text z (λ j. false) (is_plain z) refl w (λ e. e) (λ e. refl) ts h in
          let n = t.4 in
          (tt, (token t.0 t.1 t.2, (t.3, rw (n.named, n.short) refl), sym n.says));
      apart = λ n e. (name_apart z n w e.part e.name_quote, tt);
      first = λ n e. subst (λ b. Begins b) (sym (next_append (bytes_of_mark (spelled.name z)) [] n)) (name_first z n).blank;
    }

    pub name_there : (ts : List Token) → Are text ts (spelled.name z ∷ []) → (k : TokenKind) × (i : ℕ) × (j : ℕ) × (ts ≡ token k i j ∷ []) × NameToken text z (λ k. false) k i j
    name_there ts h = either_token text z (λ k. false) (is_plain z) refl w (λ e. e) (λ e. refl) ts h

    -- in quotes also where it is a word of the kinds c
    module _ (c : TokenKind → Bool) (q : c kinds.QuotedName ≡ false) where
      pub unless_token : (ts : List Token) → Are text ts (name_unless c z ∷ []) → (k : TokenKind) × (i : ℕ) × (j : ℕ) × (ts ≡ token k i j ∷ []) × NameToken text z c k i j
      unless_token ts h =
          either_token text z c (is_plain z && not (c (word_kind z))) q w (λ e. first_of (is_plain z) (not (c (word_kind z))) e) (λ e. second_of (is_plain z) (c (word_kind z)) e) ts h

      pub unless_apart : (n : ℕ) → Ends n → StandsApart (name_unless c z) n
      unless_apart n e = mark_apart z n (is_plain z && not (c (word_kind z))) w (λ i. first_of (is_plain z) (not (c (word_kind z))) i) e

      pub unless_first : (n : ℕ) → Begins (next (text_of (name_unless c z ∷ [])) n)
      unless_first n =
          subst (λ b. Begins b) (sym (next_append (bytes_of_mark (name_unless c z)) [] n))
          (mark_first z n (is_plain z && not (c (word_kind z))) (λ i. first_of (is_plain z) (not (c (word_kind z))) i))

    pub other_name_spells : (k : TokenKind) → is kinds.QuotedName k ≡ false → Exactly Begins text (other_name text k).texts (name_unless (λ j. is j k) z ∷ []) z
    other_name_spells k q = record {
      reads = λ ts h.
          let t = unless_token (λ j. is j k) q ts h in
          let n = t.4 in
          (tt, (token t.0 t.1 t.2, (t.3, rw (n.named, n.short, n.other) refl), sym n.says));
      apart = λ n e. (unless_apart (λ j. is j k) q n e, tt);
      first = λ n e. unless_first (λ j. is j k) q n;
    }

  -- constants
  pub number_spells : (n : ℕ) → n ≤ NO_BIGINT → Exactly Begins text (number text).texts (spelled.number n ∷ []) n
  number_spells n w = record {
    reads = λ ts h.
        let v : number_in text (token kinds.Number h.0 h.1) ≡ n = ap number_of_digits h.4 ∙ number_back n w in
        (tt, (token kinds.Number h.0 h.1, (only text kinds.Number (decimal n) ts h, refl), sym v));
    apart = λ m e. (number_apart n m w e.number, tt);
    first = λ m e. subst (λ b. Begins b) (sym (next_append (decimal n) [] m)) (number_first n m w).0;
  }

  pub string_spells : (z : List ℕ) → IsText z → Exactly Begins text (string text).texts (spelled.string z ∷ []) z
  string_spells z w = record {
    reads = λ ts h.
        let short : nat_lt MOST_TEXT_BYTES (length (string_in text (token kinds.Text h.0 h.1))) ≡ false = long_text text z h.0 h.1 w h.4 in
        (tt, (token kinds.Text h.0 h.1, (only text kinds.Text (quoted 39 z) ts h, rw short refl), sym (string_said text z h.0 h.1 h.4)));
    apart = λ n e. (string_apart z n w e.string_quote, tt);
    first = λ n e. refl;
  }

  -- expressions
  free_at : (ts : List Token) (x : Deep) → (any text).expression.texts ts x → (deep_expression text).free ts x
  free_at ts x h = h

  pub tree_read : (e : Tree) → IsWritable e → (ts : List Token) → Are text ts (marks e) → (expression text).texts ts e
  tree_read e w ts h =
      let free = free_at ts (e, depth e) (climb text (level_of e) disjunction ts (e, depth e) (loosest text (level_of e)) (back text e w.0 ts h)) in
      all text ts e (depth e, free, w.1, all_of_each (IsShort text) ts (short_tokens text (marks e) ts h (short e w.0)))

  pub tree_spells : (e : Tree) → IsWritable e → Exactly Begins text (expression text).texts (marks e) e
  tree_spells e w = record {
    reads = λ ts h. (tt, tree_read e w ts h);
    apart = λ n h. tree_apart e w.0 n h;
    first = λ n h. (begins e w.0).at n;
  }

  -- a name alone is the column of that name
  column_free : (k : TokenKind) (i j : ℕ) (z : List ℕ) → (name text).free (token k i j ∷ []) (k, z) → (deep_expression text).free (token k i j ∷ []) (leaf (Column z), 0)
  column_free k i j z n =
      let ts = token k i j ∷ [] in
      free_at ts (leaf (Column z), 0) (climb text unary disjunction ts (leaf (Column z), 0) refl (named text k z ts [] ts (Column z) refl n (no_more_of text k z)))

  pub column_read : (z : List ℕ) (c : TokenKind → Bool) (k : TokenKind) (i j : ℕ) → NameToken text z c k i j → (expression text).texts (token k i j ∷ []) (leaf (Column z))
  column_read z c k i j n =
      let t = token k i j in
      let free : (name text).free (t ∷ []) (k, z) = (t, inr (refl, rw (n.named, n.short) refl), ap (λ (y : List ℕ). (k, y)) (sym n.says)) in
      let no_text = name_is_no_text k n.named in
      let short : IsShort text t = (rw (n.named, n.short) refl, rw no_text refl) in
      all text (t ∷ []) (leaf (Column z)) (0, column_free k i j z free, omega arith, all_of_each (IsShort text) (t ∷ []) (short, tt))

  -- so no other expression is a name alone
  free_name : (k : TokenKind) (i j : ℕ) (b : Bool) → is_name k ≡ true → nat_lt MOST_NAME_BYTES (length (name_in text (token k i j))) ≡ b → (name text).free (token k i j ∷ []) (k, name_in text (token k i j))
  free_name k i j true n e = (token k i j, inl (refl, rw (n, e) refl), refl)
  free_name k i j false n e = (token k i j, inr (refl, rw (n, e) refl), refl)

  pub column_alone : (e : Tree) (k : TokenKind) (i j : ℕ) → is_name k ≡ true → (expression text).texts (token k i j ∷ []) e → leaf (Column (name_in text (token k i j))) ≡ e
  column_alone e k i j n h =
      let ts = token k i j ∷ [] in
      let z = name_in text (token k i j) in
      one_value (expression_law text) ts e (leaf (Column z)) h ((leaf (Column z), 0), column_free k i j z (free_name k i j (nat_lt MOST_NAME_BYTES (length (name_in text (token k i j)))) n refl), refl)
