-- A name that a token without quotes says is written without quotes, at each place of a name.
use Rattle.std.proofs.Common.{◌≡◌, ℕ, Bool, true, false, cond, ◌&&◌, not, List, [], ◌∷◌, refl, sym, ap, ◌∙◌, subst}
use Rattle.std.specs.Prelude.{codes}
use Rattle.std.specs.Str.{bytes_eq}
use Rattle.sql_tokens.specs.Contents.{name_in}
use Rattle.sql_tokens.specs.Words.{is, is_name, word_kind}
use Rattle.sql_tokens.specs.declared.kind.TokenKind.{TokenKind}
use Rattle.sql_tokens.specs.declared.kind.TokenKind.TheVariants as kinds
use Rattle.sql_tokens.specs.declared.token.Token.{Token}
use Rattle.sql_expressions.specs.Grammar.{expression}
use Rattle.sql_ast.specs.Expressions.{Tree, leaf}
use Rattle.sql_tokens.specs.Classes.{a, a_name}
use Rattle.sql_ast.specs.declared.leaf.Leaf.TheVariants.{Column}
use Rattle.sql_expressions.specs.Lists.{is_long_but, is_other_name, other_name, plain_name}
use Rattle.sql_syntax.specs.CommandGrammar as grammar
use Rattle.sql_ast.specs.Commands.{Edge, min, max, at}
use Rattle.sql_ast.specs.declared.setting_value.SettingValue.TheVariants as setting
use Rattle.sql_written.specs.Marks.{Mark, mark}
use Rattle.sql_written.specs.Spelling as spelled
use Rattle.sql_written.proofs.Needed.{said_bare, said_kind, said_plain}
use Rattle.sql_written.specs.Bare.{BareWhereItMay, IsBare}
use Rattle.sql_written.specs.Commands.{is_end, setting_word}
use Rattle.sql_written.specs.Words.{name_unless, word}
use Rattle.sql_written.proofs.CommandTexts.{equal_bytes}
use Rattle.sql_written.proofs.Leaves.{column_alone, first_of, second_of}

-- the token of a list of one
the_one : (t u : Token) → t ∷ [] ≡ u ∷ [] → u ≡ t
the_one t u e = cc

module _ (text : List ℕ) (t : Token) (b : IsBare text t) where
  unless_said : (c : TokenKind → Bool) → c t.kind ≡ false → name_unless c (name_in text t) ≡ mark t.kind (name_in text t)
  unless_said c n =
      let kind = said_kind text t b.0 b.1 b.2 in
      let free : c (word_kind (name_in text t)) ≡ false = ap c kind ∙ n in
      rw (said_plain text t b.0 b.1 b.2, free) (ap (λ k. mark k (name_in text t)) kind)

pub plain_bare : BareWhereItMay plain_name (λ z. z) spelled.name
plain_bare text name t b h =
    let u = h.1.0 in
    let same : u ≡ t = the_one t u h.1.1.0 in
    let z : name ≡ name_in text t = h.2 ∙ ap (λ (x : TokenKind × List ℕ). x.1) h.1.2 ∙ ap (name_in text) same in
    subst (λ y. spelled.name y ≡ mark t.kind y) (sym z) (said_bare text t b.0 b.1 b.2)

pub other_bare : (k : TokenKind) → BareWhereItMay (λ text. other_name text k) (λ z. z) (name_unless (λ j. is j k))
other_bare k text name t b h =
    let u = h.0 in
    let same : u ≡ t = the_one t u h.1.0 in
    let z : name ≡ name_in text t = h.2 ∙ ap (name_in text) same in
    let c : (is_other_name k t && not (is_long_but text k t)) ≡ true = subst (λ v. (is_other_name k v && not (is_long_but text k v)) ≡ true) same h.1.1 in
    let n : a k t ≡ false = second_of (a_name t) (a k t) (first_of (is_other_name k t) (not (is_long_but text k t)) c) in
    subst (λ y. name_unless (λ j. is j k) y ≡ mark t.kind y) (sym z) (unless_said text t b (λ j. is j k) n)

-- an edge
module _ (e : Tree) (z : List ℕ) where
  no_end : (p q : Bool) → at (leaf (Column z)) ≡ cond p min (cond q max (at e)) → (p ≡ false) × (q ≡ false) × (leaf (Column z) ≡ e)
  no_end true q h = cc
  no_end false true h = cc
  no_end false false h = (refl, refl, cc)

pub edge_bare : BareWhereItMay grammar.edge (λ z. at (leaf (Column z))) (name_unless is_end)
edge_bare text name t b h =
    let n = no_end h.0 name (a kinds.Minvalue t) (a kinds.Maxvalue t) h.2 in
    let alone : leaf (Column (name_in text t)) ≡ h.0 = column_alone text h.0 t.kind t.start t.end b.1 h.1 in
    let z : name ≡ name_in text t = cc (n.2, alone) in
    let free : is_end t.kind ≡ false = rw (n.0, n.1) refl in
    subst (λ y. name_unless is_end y ≡ mark t.kind y) (sym z) (unless_said text t b is_end free)

-- a word of a setting: no name is ON, TRUE or FALSE
module _ (text : List ℕ) (t : Token) (b : IsBare text t) where
  no_word : (k : TokenKind) (y : List ℕ) → word_kind y ≡ k → is_name k ≡ false → name_in text t ≡ y → ⊥
  no_word k y w n e =
      let same : t.kind ≡ k = sym (said_kind text t b.0 b.1 b.2) ∙ ap word_kind e ∙ w in
      let f : true ≡ false = sym b.1 ∙ ap is_name same ∙ n in
      cc

  skip : (k : TokenKind) (y : List ℕ) (m : Mark) (f : Bool) → word_kind y ≡ k → is_name k ≡ false → bytes_eq (name_in text t) y ≡ f → cond f (word k) m ≡ m
  skip k y m true w n e = absurd (no_word k y w n (equal_bytes (name_in text t) y e))
  skip k y m false w n e = refl

  on_kind : word_kind (codes "on") ≡ kinds.On
  unfolding word_kind
  on_kind = refl

  true_kind : word_kind (codes "true") ≡ kinds.True
  unfolding word_kind
  true_kind = refl

  false_kind : word_kind (codes "false") ≡ kinds.False
  unfolding word_kind
  false_kind = refl

  word_said : setting_word (name_in text t) ≡ mark t.kind (name_in text t)
  word_said =
      skip kinds.On (codes "on") _ (bytes_eq (name_in text t) (codes "on")) on_kind refl refl
      ∙ skip kinds.True (codes "true") _ (bytes_eq (name_in text t) (codes "true")) true_kind refl refl
      ∙ skip kinds.False (codes "false") _ (bytes_eq (name_in text t) (codes "false")) false_kind refl refl
      ∙ said_bare text t b.0 b.1 b.2

pub word_bare : BareWhereItMay grammar.setting_word setting.Word setting_word
word_bare text name t b h =
    let same : h.0 ≡ t = the_one t h.0 h.1.0 in
    let w : setting.Word name ≡ setting.Word (name_in text h.0) = h.2 in
    let z : name ≡ name_in text t = cc (w, ap (name_in text) same) in
    subst (λ y. setting_word y ≡ mark t.kind y) (sym z) (word_said text t b)
