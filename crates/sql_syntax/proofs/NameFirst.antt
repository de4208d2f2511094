-- Where a word that may be a name stands first, a name is read, and the token behind it decides. What is read in this way
-- has the texts of the production as it is written, within the limits and without them.
use Rattle.std.proofs.Common.{◌≡◌, ℕ, Bool, true, false, ◌&&◌, not, List, [], ◌∷◌, ◌++◌, Option, Some, None, inl, inr, refl, sym, ◌∙◌, ap, subst}
use Rattle.std.proofs.lemmas.List.{append-nil, append_assoc}
use Rattle.std.specs.Prelude.{◌⊎◌}
use Rattle.grammar.specs.Reading.{Class, Rule, one_texts, nothing_texts, both_texts, follow_texts, value_texts, either_texts, as_value}
use Rattle.grammar.specs.Repeats.{repeats_texts, always, second_of}
use Rattle.grammar.proofs.Depths.{Inside}
use Rattle.grammar.proofs.Build.{said}
use Rattle.grammar.proofs.Laws.{Law, pair_eq}
use Rattle.sql_tokens.specs.Words as words
use Rattle.sql_tokens.specs.declared.kind.TokenKind.{TokenKind}
use Rattle.sql_tokens.specs.declared.kind.TokenKind.TheVariants as word
use Rattle.sql_tokens.specs.declared.token.Token.{Token}
use Rattle.grammar.specs.Words.{◌>>◌, only, snoc}
use Rattle.sql_tokens.specs.Classes.{a, a_name}
use Rattle.sql_expressions.specs.Words.{either_if, is_long_name, named, name}
use Rattle.sql_expressions.proofs.WordLaws.{within}
use Rattle.sql_expressions.specs.Lists as lists
use Rattle.sql_syntax.specs.CommandGrammar as grammar
use Rattle.sql_ast.specs.Commands.{CommandTree, deallocates, deallocates_all}

abbrev Of : Type 0 → Type 1
Of A = List Token → A → Type 0

-- the same texts
pub record Same {A : Type 0} (P Q : Of A) : Type 0 where
  pub to : Inside P Q
  pub from : Inside Q P

-- the word k of W is a name of N, and a name of that kind is the word
record WordName (text : List ℕ) (k : TokenKind) (N : Of (TokenKind × List ℕ)) (W : Of Token) : Type 0 where
  to : (ts : List Token) (t : Token) → W ts t → N ts (named text t) × (words.is t.kind k ≡ true)
  from : (ts : List Token) (x : TokenKind × List ℕ) → N ts x → words.is x.0 k ≡ true → (t : Token) × W ts t

first_true : (b d : Bool) → (b && d) ≡ true → b ≡ true
first_true true d h = refl
first_true false d h = cc

second_true : (b d : Bool) → (b && d) ≡ true → d ≡ true
second_true true d h = h
second_true false d h = cc

short_to : (b l n : Bool) → (b ≡ true → n ≡ true) → (b && not (b && l)) ≡ true → (n && not l) ≡ true
short_to true true n h k = cc
short_to true false n h k = rw (h refl) refl
short_to false l n h k = cc

short_from : (b l n : Bool) → b ≡ true → (n && not l) ≡ true → (b && not (b && l)) ≡ true
short_from true true true e k = cc
short_from true true false e k = cc
short_from true false n e k = refl
short_from false l n e k = cc

module _ (text : List ℕ) (k : TokenKind) (is_name : (t : Token) → a k t ≡ true → a_name t ≡ true) where
  abbrev long : Class Token
  long = is_long_name text

  kind_of : (x : TokenKind × List ℕ) (t : Token) → x ≡ named text t → words.is x.0 k ≡ true → a k t ≡ true
  kind_of x t e h = subst (λ (y : TokenKind × List ℕ). words.is y.0 k ≡ true) e h

  word_texts : WordName text k (name text).texts (lists.name_word text k).texts
  word_texts = record {
    to = λ ts t w. ((t, (w.0, short_to (a k t) (long t) (a_name t) (is_name t) w.1), refl), first_true (a k t) _ w.1);
    from = λ ts x n h. (n.0, (n.1.0, short_from (a k n.0) (long n.0) (a_name n.0) (kind_of x n.0 n.2 h) n.1.1));
  }

  free_to : (ts : List Token) (t : Token) → (lists.name_word text k).free ts t → (name text).free ts (named text t) × (words.is t.kind k ≡ true)
  free_to ts t (inl w) = ((t, inl (w.0, second_true (a k t) (long t) w.1), refl), first_true (a k t) _ w.1)
  free_to ts t (inr w) = ((t, inr (w.0, short_to (a k t) (long t) (a_name t) (is_name t) w.1), refl), first_true (a k t) _ w.1)

  both_true : (b d : Bool) → b ≡ true → d ≡ true → (b && d) ≡ true
  both_true b d h i = rw (h, i) refl

  word_free : WordName text k (name text).free (lists.name_word text k).free
  word_free = record {
    to = free_to;
    from = λ ts x n h. let i = kind_of x n.0 n.2 h in (
      n.0,
      elim n.1 [
        | inl o ↦ inl (o.0, both_true (a k n.0) (long n.0) i o.1)
        | inr o ↦ inr (o.0, short_from (a k n.0) (long n.0) (a_name n.0) i o.1)
      ],
    );
  }

-- P where b says so, or Q
record IsIf {A : Type 0} (b : Bool) (P Q R : Of A) : Type 0 where
  first : b ≡ true → Inside P R
  second : Inside Q R
  parts : (ts : List Token) (x : A) → R ts x → ((b ≡ true) × P ts x) ⊎ Q ts x

module _ {A : Type 0} (P Q : Of A) where
  not_if : IsIf false P Q Q
  not_if = record { first = λ e ts x k. cc e; second = λ ts x k. k; parts = λ ts x k. inr k }

  one_if : IsIf true P Q (either_texts P Q)
  one_if = record { first = λ e ts x k. inl k; second = λ ts x k. inr k; parts = λ ts x k. elim k [ inl i ↦ inl (refl, i) | inr i ↦ inr i ] }

  two_if : (O : Of A) → IsIf true (either_texts O P) Q (either_texts O (either_texts P Q))
  two_if O = record {
    first = λ e ts x k. elim k [ inl i ↦ inl i | inr i ↦ inr (inl i) ];
    second = λ ts x k. inr (inr k);
    parts = λ ts x k. elim k [ inl i ↦ inl (refl, inl i) | inr i ↦ elim i [ inl j ↦ inl (refl, inr j) | inr j ↦ inr j ] ];
  }

module _ {A : Type 0} (c : Class Token) (p q : Rule Token A) where
  if_texts : (b : Bool) → IsIf b p.texts q.texts (either_if b c p q).texts
  if_texts true = one_if p.texts q.texts
  if_texts false = not_if p.texts q.texts

  if_free : (b : Bool) → IsIf b p.free q.free (either_if b c p q).free
  if_free true = one_if p.free q.free
  if_free false = not_if p.free q.free

-- [ IF EXISTS ] and names
module _ (text : List ℕ) (N : Of (TokenKind × List ℕ)) (W : Of Token) (w : WordName text word.If N W) where
  abbrev Names : Of (List ℕ)
  Names = value_texts lists.said N

  abbrev More : List (List ℕ) → Of (List (List ℕ))
  More l = repeats_texts always snoc (λ (x : List (List ℕ)). both_texts (one_texts (a word.Comma)) Names) l

  abbrev Commas : Of (List (List ℕ))
  Commas = value_texts second_of (follow_texts Names (λ c. More (only c)))

  abbrev BehindExists : Of (Bool × List (List ℕ))
  BehindExists = value_texts (grammar.drop_value true) (value_texts (λ (x : Token × List (List ℕ)). x.1) (both_texts (one_texts (a word.Exists)) Commas))

  abbrev BehindName : TokenKind × List ℕ → Of (Bool × List (List ℕ))
  BehindName x = value_texts (grammar.drop_value false) (More (x.1 ∷ []))

  abbrev IfExists : Of Bool
  IfExists = either_texts (value_texts (λ (x : Token × Token). true) (both_texts W (one_texts (a word.Exists)))) (nothing_texts false)

  abbrev Tables : Of (Bool × List (List ℕ))
  Tables = both_texts IfExists Commas

  module _ (B : TokenKind × List ℕ → Of (Bool × List (List ℕ))) (l : (x : TokenKind × List ℕ) → IsIf (words.is x.0 word.If) BehindExists (BehindName x) (B x)) where
    abbrev Dropped : Of (Bool × List (List ℕ))
    Dropped = value_texts second_of (follow_texts N B)

    tables_of : (ts u v : List Token) (x : TokenKind × List ℕ) (z : Bool × List (List ℕ)) → ts ≡ u ++ v → N u x → ((words.is x.0 word.If ≡ true) × BehindExists v z) ⊎ BehindName x v z → Tables ts z
    tables_of ts u v x z e n (inl i) =
        let o = w.from u x n i.0 in
        let k = i.1.1.1 in (
          u ++ k.0,
          k.1,
          e ∙ ap (λ r. u ++ r) k.2 ∙ sym (append_assoc u k.0 k.1),
          inl ((o.0, i.1.1.0.0), (u, k.0, refl, o.1, k.3), ap (λ (r : Bool × List (List ℕ)). r.0) i.1.2),
          subst (Commas k.1) (sym (ap (λ (r : Bool × List (List ℕ)). r.1) i.1.2 ∙ i.1.1.2)) k.4,
        )
    tables_of ts u v x z e n (inr i) = (
      [],
      ts,
      refl,
      inr (refl, ap (λ (r : Bool × List (List ℕ)). r.0) i.2),
      ((x.1, z.1), (u, v, e, (x, n, refl), subst (More (x.1 ∷ []) v) (sym (ap (λ (r : Bool × List (List ℕ)). r.1) i.2)) i.1), refl),
    )

    tables_to : Inside Dropped Tables
    tables_to ts z k = subst (Tables ts) (sym k.2) (tables_of ts k.1.0 k.1.1 k.0.0 k.0.1 k.1.2 k.1.3 ((l k.0.0).parts k.1.1 k.0.1 k.1.4))

    dropped_of : (ts u v : List Token) (z : Bool × List (List ℕ)) → ts ≡ u ++ v → IfExists u z.0 → Commas v z.1 → Dropped ts z
    dropped_of ts u v z e (inl i) k =
        let t = i.0.0 in
        let m = i.1 in
        let n = w.to m.0 t m.3 in
        let y : Bool × List (List ℕ) = (true, z.1) in (
          (named text t, z),
          (
            m.0,
            m.1 ++ v,
            e ∙ ap (λ r. r ++ v) m.2 ∙ append_assoc m.0 m.1 v,
            n.0,
            (l (named text t)).first n.1 (m.1 ++ v) z (z.1, ((i.0.1, z.1), (m.1, v, refl, m.4, k), refl), pair_eq z y i.2 refl),
          ),
          refl,
        )
    dropped_of ts u v z e (inr i) k =
        let m = k.1 in
        let x = m.3.0 in
        let y : Bool × List (List ℕ) = (false, k.0.1) in (
          (x, z),
          (
            m.0,
            m.1,
            e ∙ ap (λ r. r ++ v) i.0 ∙ m.2,
            m.3.1,
            (l x).second m.1 z (k.0.1, subst (λ c. More (only c) m.1 k.0.1) m.3.2 m.4, pair_eq z y i.1 k.2),
          ),
          refl,
        )

    tables_same : Same Dropped Tables
    tables_same = record { to = tables_to; from = λ ts z k. dropped_of ts k.0 k.1 z k.2 k.3 k.4 }

-- [ PREPARE ], and a name or ALL
abbrev All : Of CommandTree
All = value_texts (λ (x : Token). deallocates_all) (one_texts (a word.All))

abbrev AllOr : Of (List ℕ) → Of CommandTree
AllOr P = either_texts All (value_texts deallocates P)

module _ (text : List ℕ) (N : Of (TokenKind × List ℕ)) (W : Of Token) (w : WordName text word.Prepare N W) (O : Of (List ℕ)) where
  abbrev AName : Of (List ℕ)
  AName = value_texts lists.said N

  abbrev Word : Of (Option Token)
  Word = either_texts (value_texts Some W) (nothing_texts None)

  -- D are the names behind a PREPARE, or none
  module _ (D : Option Token → Of (List ℕ)) (plain_to : Inside (D None) AName) (plain_from : Inside AName (D None)) (other_to : (t : Token) → Inside (D (Some t)) O) (other_from : (t : Token) → Inside O (D (Some t)))
      (B : TokenKind × List ℕ → Of CommandTree) (l : (x : TokenKind × List ℕ) → IsIf (words.is x.0 word.Prepare) (AllOr O) (nothing_texts (deallocates x.1)) (B x)) where
    abbrev Prepared : Of CommandTree
    Prepared = value_texts second_of (follow_texts Word (λ o. AllOr (D o)))

    abbrev ByName : Of CommandTree
    ByName = either_texts All (value_texts second_of (follow_texts N B))

    all_or : {P Q : Of (List ℕ)} → Inside P Q → Inside (AllOr P) (AllOr Q)
    all_or i ts z (inl k) = inl k
    all_or i ts z (inr k) = inr (k.0, i ts k.0 k.1, k.2)

    prepared_of : (ts u v : List Token) (x : TokenKind × List ℕ) (z : CommandTree) → ts ≡ u ++ v → N u x → ((words.is x.0 word.Prepare ≡ true) × AllOr O v z) ⊎ nothing_texts (deallocates x.1) v z → Prepared ts z
    prepared_of ts u v x z e n (inl i) =
        let o = w.from u x n i.0 in
        ((Some o.0, z), (u, v, e, inl (o.0, o.1, refl), all_or (other_from o.0) v z i.1), refl)
    prepared_of ts u v x z e n (inr i) =
        let same = e ∙ ap (λ r. u ++ r) i.0 ∙ append-nil u in
        ((None, z), ([], ts, refl, inr (refl, refl), inr (x.1, plain_from ts x.1 (x, subst (λ r. N r x) (sym same) n, refl), i.1)), refl)

    named_to : Inside ByName Prepared
    named_to ts z (inl k) = ((None, z), ([], ts, refl, inr (refl, refl), inl k), refl)
    named_to ts z (inr k) = subst (Prepared ts) (sym k.2) (prepared_of ts k.1.0 k.1.1 k.0.0 k.0.1 k.1.2 k.1.3 ((l k.0.0).parts k.1.1 k.0.1 k.1.4))

    plain_of : (ts v : List Token) (z : CommandTree) → ts ≡ v → AllOr (D None) v z → ByName ts z
    plain_of ts v z e (inl k) = inl (subst (λ r. All r z) (sym e) k)
    plain_of ts v z e (inr k) =
        let n = plain_to v k.0 k.1 in
        inr ((n.0, z), (v, [], e ∙ sym (append-nil v), n.1, (l n.0).second [] z (refl, k.2 ∙ ap deallocates n.2)), refl)

    named_of : (ts u v : List Token) (o : Option Token) (z : CommandTree) → ts ≡ u ++ v → Word u o → AllOr (D o) v z → ByName ts z
    named_of ts u v o z e (inl i) k =
        let n = w.to u i.0 i.1 in
        let m = subst (λ r. AllOr (D r) v z) i.2 k in
        inr ((named text i.0, z), (u, v, e, n.0, (l (named text i.0)).first n.1 v z (all_or (other_to i.0) v z m)), refl)
    named_of ts u v o z e (inr i) k = plain_of ts v z (e ∙ ap (λ r. r ++ v) i.0) (subst (λ r. AllOr (D r) v z) i.1 k)

    named_same : Same ByName Prepared
    named_same = record { to = named_to; from = λ ts z k. subst (ByName ts) (sym k.2) (named_of ts k.1.0 k.1.1 k.0.0 k.0.1 k.1.2 k.1.3 k.1.4) }

-- the productions
module _ (text : List ℕ) where
  if_is_name : (t : Token) → a word.If t ≡ true → a_name t ≡ true
  if_is_name = within (a word.If) a_name (λ t. refl) refl

  prepare_is_name : (t : Token) → a word.Prepare t ≡ true → a_name t ≡ true
  prepare_is_name = within (a word.Prepare) a_name (λ t. refl) refl

  abbrev behind_exists : Rule Token (Bool × List (List ℕ))
  behind_exists = as_value (grammar.drop_value true) (a word.Exists >> lists.commas (lists.plain_name text))

  abbrev behind_name : TokenKind × List ℕ → Rule Token (Bool × List (List ℕ))
  behind_name x = as_value (grammar.drop_value false) (lists.more_commas (lists.plain_name text) (x.1 ∷ []))

  pub dropped_texts : Same (grammar.dropped_by_name text).texts (grammar.tables text).texts
  dropped_texts =
      tables_same text (name text).texts (lists.name_word text word.If).texts (word_texts text word.If if_is_name) (λ x. (grammar.dropped_behind text x).texts)
      (λ x. if_texts (a word.Exists) behind_exists (behind_name x) (words.is x.0 word.If))

  pub dropped_free : Same (grammar.dropped_by_name text).free (grammar.tables text).free
  dropped_free =
      tables_same text (name text).free (lists.name_word text word.If).free (word_free text word.If if_is_name) (λ x. (grammar.dropped_behind text x).free)
      (λ x. if_free (a word.Exists) behind_exists (behind_name x) (words.is x.0 word.If))

  abbrev other : Rule Token (List ℕ)
  other = lists.other_name text word.Transaction

  behind_texts : (n : List ℕ) (b : Bool) → IsIf b (AllOr other.texts) (nothing_texts (deallocates n)) (grammar.behind_if text n b).texts
  behind_texts n true = two_if (value_texts deallocates other.texts) (nothing_texts (deallocates n)) All
  behind_texts n false = not_if (AllOr other.texts) (nothing_texts (deallocates n))

  behind_free : (n : List ℕ) (b : Bool) → IsIf b (AllOr other.free) (nothing_texts (deallocates n)) (grammar.behind_if text n b).free
  behind_free n true = two_if (value_texts deallocates other.free) (nothing_texts (deallocates n)) All
  behind_free n false = not_if (AllOr other.free) (nothing_texts (deallocates n))

  pub prepared_texts : Same (grammar.prepared_by_name text).texts (grammar.prepared text).texts
  prepared_texts =
      named_same text (name text).texts (lists.name_word text word.Prepare).texts (word_texts text word.Prepare prepare_is_name) other.texts (λ o. (grammar.name_behind text o).texts)
      (λ ts x k. k) (λ ts x k. k) (λ t ts x k. k) (λ t ts x k. k) (λ x. (grammar.behind_deallocate text x).texts) (λ x. behind_texts x.1 (words.is x.0 word.Prepare))

  pub prepared_free : Same (grammar.prepared_by_name text).free (grammar.prepared text).free
  prepared_free =
      named_same text (name text).free (lists.name_word text word.Prepare).free (word_free text word.Prepare prepare_is_name) other.free (λ o. (grammar.name_behind text o).free)
      (λ ts x k. k) (λ ts x k. k) (λ t ts x k. k) (λ t ts x k. k) (λ x. (grammar.behind_deallocate text x).free) (λ x. behind_free x.1 (words.is x.0 word.Prepare))

-- a rule that is read in another way, and has the same texts
pub read_as_law : {A : Type 0} (p q : Rule Token A) {f : Class Token} {n : Bool} {c : Class Token} → Same q.texts p.texts → Same q.free p.free → Law q f n c → Law (lists.read_as p q) f n c
read_as_law p q s r l = said p.texts p.free s.to s.from r.to r.from l
