-- The settings of an UPDATE keep the law: the reader looks behind a word SET, and its texts are the manual's.
use Rattle.std.proofs.Common.{◌≡◌, ℕ, Bool, true, false, ◌&&◌, ◌||◌, not, List, [], ◌∷◌, ◌++◌, Option, Some, None, ◌⊎◌, inl, inr, refl, sym, ◌∙◌, ap, subst}
use Rattle.grammar.specs.Reading.{Class, Rule, both, behind, one_texts, nothing_texts, both_texts, follow_texts, value_texts, either_texts}
use Rattle.grammar.specs.Repeats.{always, repeats_texts, second_of}
use Rattle.grammar.proofs.Laws.{Law, Within, pair_eq}
use Rattle.grammar.proofs.Build.{token, valued, wide, seq, then_by, alt, after_token, more, chained_after, said}
use Rattle.sql_tokens.specs.Contents.{name_in}
use Rattle.sql_tokens.specs.declared.kind.TokenKind.{TokenKind}
use Rattle.sql_tokens.specs.declared.kind.TokenKind.TheVariants as word
use Rattle.sql_tokens.specs.declared.token.Token.{Token}
use Rattle.sql_expressions.specs.Grammar.{expression}
use Rattle.sql_ast.specs.Expressions.{Tree}
use Rattle.sql_tokens.specs.Classes.{a, a_name}
use Rattle.sql_expressions.specs.Words.{is_long_name}
use Rattle.sql_expressions.proofs.LevelLaws.{after_expression}
use Rattle.sql_expressions.proofs.RuleLaws.{expression_law}
use Rattle.sql_expressions.proofs.WordLaws.{sample, apart, within}
use Rattle.sql_expressions.specs.Lists as lists
use Rattle.grammar.specs.Words.{only, snoc}
use Rattle.sql_expressions.proofs.ListLaws.{commas_law, plain_name_law, name_but_law, other_name_law}
use Rattle.sql_syntax.specs.QueryGrammar as grammar
use Rattle.sql_ast.specs.Queries.{Setting}

-- The reader.
abbrev pub after_setting : Class Token
after_setting t = after_expression t || a word.Comma t

abbrev begins_settings : Class Token
begins_settings t = a word.As t || (a word.Set t || lists.is_other_name word.Set t)

module _ (text : List ℕ) where
  assignment_law : Law (grammar.assignment text) a_name false after_expression
  assignment_law =
      wide (seq (name_but_law text word.Set refl) (after_token (a word.Equal) (sample word.Equal) refl (expression_law text)) (λ k h. refl))
      (within _ _ (λ t. refl) refl) (within _ _ (λ t. refl) refl)

  assignments_law : Law (lists.commas (grammar.assignment text)) a_name false after_setting
  assignments_law = commas_law assignment_law (apart _ _ (λ t. refl) refl)

  behind_alias_law : (alias : List ℕ) → Law (grammar.behind_alias text alias) (a word.Set) false after_setting
  behind_alias_law alias = valued (λ (xs : List Setting). (Some alias, xs)) (after_token (a word.Set) (sample word.Set) refl assignments_law)

  aliased_law : Law (grammar.aliased text) (a word.As) false after_setting
  aliased_law =
      wide (valued second_of (after_token (a word.As) (sample word.As) refl (then_by (plain_name_law text) behind_alias_law (λ k h. refl))))
      (λ k h. h) (within _ _ (λ t. refl) refl)

  named_so_law : Law (grammar.named_so text) (lists.is_other_name word.Set) false after_setting
  named_so_law =
      wide (valued second_of (then_by (other_name_law text word.Set refl) behind_alias_law (λ k h. refl)))
      (within _ _ (λ t. refl) refl) (within _ _ (λ t. refl) refl)

  more_settings_law : (u : Token) (e : Tree) → Law (grammar.more_settings text u e) (a word.Comma) true after_setting
  more_settings_law u e = more (a word.Comma) (sample word.Comma) refl snoc assignment_law (apart _ _ (λ t. refl) refl) ((name_in text u, e) ∷ [])

  column_set_law : (u : Token) → Law (grammar.column_set text u) (a word.Equal) false after_setting
  column_set_law u =
      wide
      (valued (λ (x : Tree × List Setting). grammar.unaliased x.1)
      (after_token (a word.Equal) (sample word.Equal) refl (then_by (expression_law text) (more_settings_law u) (apart _ _ (λ t. refl) refl))))
      (λ k h. h) (within _ _ (λ t. refl) refl)

  behind_two_law : (t u : Token) → Law (grammar.behind_two text t u) (λ k. a word.Equal k || a_name k) false after_setting
  behind_two_law t u =
      wide (alt (a word.Equal) (column_set_law u) (λ k h. h) (valued (λ (xs : List Setting). (Some (name_in text t), xs)) assignments_law) (apart _ _ (λ t. refl) refl))
      (λ k h. h) (within _ _ (λ t. refl) refl)

  other_assignment_law : Law (grammar.other_assignment text) (lists.is_other_name word.Set) false after_expression
  other_assignment_law =
      wide (seq (other_name_law text word.Set refl) (after_token (a word.Equal) (sample word.Equal) refl (expression_law text)) (λ k h. refl))
      (within _ _ (λ t. refl) refl) (within _ _ (λ t. refl) refl)

  other_first_law : Law (grammar.other_first text) (lists.is_other_name word.Set) false after_setting
  other_first_law =
      wide
      (valued grammar.unaliased (chained_after (a word.Comma) (sample word.Comma) refl only snoc other_assignment_law assignment_law (apart _ _ (λ t. refl) refl)))
      (within _ _ (λ t. refl) refl) (within _ _ (λ t. refl) refl)

  behind_set_law : (t : Token) → Law (grammar.behind_set text t) (λ k. a word.Set k || lists.is_other_name word.Set k) false after_setting
  behind_set_law t =
      wide
      (alt (a word.Set) (valued second_of (then_by (token (a word.Set) (sample word.Set) refl) (behind_two_law t) (λ k h. refl))) (within _ _ (λ t. refl) refl)
      other_first_law (apart _ _ (λ t. refl) refl))
      (λ k h. h) (within _ _ (λ t. refl) refl)

  behind_table_law : Law (grammar.behind_table text) begins_settings false after_setting
  behind_table_law =
      wide
      (alt (a word.As) aliased_law (λ k h. h)
      (alt (a word.Set) (valued second_of (then_by (token (a word.Set) (sample word.Set) refl) behind_set_law (λ k h. refl))) (within _ _ (λ t. refl) refl)
      named_so_law (apart _ _ (λ t. refl) refl)) (apart _ _ (λ t. refl) refl))
      (λ k h. h) (within _ _ (λ t. refl) refl)

-- A text behind one word.
abbrev behind_word : {A : Type 0} → TokenKind → (List Token → A → Type 0) → List Token → A → Type 0
behind_word {A} k Q = value_texts (λ (x : Token × A). x.1) (both_texts (one_texts (a k)) Q)

put : {A : Type 0} (k : TokenKind) (Q : List Token → A → Type 0) (ts : List Token) (t : Token) (z : List Token) (b : A) → ts ≡ t ∷ z → a k t ≡ true → Q z b → behind_word k Q ts b
put k Q ts t z b e h q = ((t, b), (t ∷ [], z, e, (refl, h), q), refl)

record Behind {A : Type 0} (k : TokenKind) (Q : List Token → A → Type 0) (ts : List Token) (b : A) : Type 0 where
  first : Token
  rest : List Token
  whole : ts ≡ first ∷ rest
  is : a k first ≡ true
  text : Q rest b

taken : {A : Type 0} (k : TokenKind) (Q : List Token → A → Type 0) (ts : List Token) (b : A) → behind_word k Q ts b → Behind k Q ts b
taken k Q ts b w = record {
  first = w.0.0;
  rest = w.1.1;
  whole = w.1.2 ∙ ap (λ z. z ++ w.1.1) w.1.3.0;
  is = w.1.3.1;
  text = subst (λ z. Q w.1.1 z) (sym w.2) w.1.4;
}

-- The texts of the manual are those of the reader, whatever a name and an expression are, if a name is another name or a word SET.
module _ (text : List ℕ) (P N O : List Token → List ℕ → Type 0) (E : List Token → Tree → Type 0) where
  abbrev IsSet : List Token → List ℕ → Type 0
  IsSet x n = (t : Token) × (x ≡ t ∷ []) × (a word.Set t ≡ true) × (n ≡ name_in text t)

  abbrev Answer : Type 0
  Answer = Option (List ℕ) × List Setting

  abbrev More : List Setting → List Token → List Setting → Type 0
  More = repeats_texts always snoc (λ _. both_texts (one_texts (a word.Comma)) (both_texts N (behind_word word.Equal E)))

  abbrev All : (List Token → List ℕ → Type 0) → List Token → List Setting → Type 0
  All F = value_texts second_of (follow_texts (both_texts F (behind_word word.Equal E)) (λ c. More (only c)))

  abbrev Sets : List Token → List Setting → Type 0
  Sets = behind_word word.Set (All N)

  abbrev Alias : List Token → Option (List ℕ) → Type 0
  Alias = either_texts (value_texts Some (behind_word word.As P)) (either_texts (value_texts Some N) (nothing_texts None))

  abbrev Said : List Token → Answer → Type 0
  Said = both_texts Alias Sets

  abbrev BehindAlias : List ℕ → List Token → Answer → Type 0
  BehindAlias n = value_texts (λ (xs : List Setting). (Some n, xs)) Sets

  abbrev Aliased : List Token → Answer → Type 0
  Aliased = value_texts second_of (behind_word word.As (follow_texts P BehindAlias))

  abbrev ColumnSet : Token → List Token → Answer → Type 0
  ColumnSet u = value_texts (λ (x : Tree × List Setting). grammar.unaliased x.1) (behind_word word.Equal (follow_texts E (λ e. More ((name_in text u, e) ∷ []))))

  abbrev AliasSet : Token → List Token → Answer → Type 0
  AliasSet t = value_texts (λ (xs : List Setting). (Some (name_in text t), xs)) (All N)

  abbrev BehindTwo : Token → Token → List Token → Answer → Type 0
  BehindTwo t u = either_texts (ColumnSet u) (AliasSet t)

  abbrev BehindSet : Token → List Token → Answer → Type 0
  BehindSet t = either_texts (value_texts second_of (follow_texts (one_texts (a word.Set)) (BehindTwo t))) (value_texts grammar.unaliased (All O))

  abbrev Read : List Token → Answer → Type 0
  Read = either_texts Aliased (either_texts (value_texts second_of (follow_texts (one_texts (a word.Set)) BehindSet)) (value_texts second_of (follow_texts O BehindAlias)))

  -- the manual's are read
  module _ (split : (x : List Token) (n : List ℕ) → N x n → O x n ⊎ IsSet x n) (ts : List Token) (b : Answer) (w : Said ts b) where
    sets : Behind word.Set (All N) w.1 b.1
    sets = taken word.Set (All N) w.1 b.1 w.4

    of_name : (n : List ℕ) → b.0 ≡ Some n → O w.0 n ⊎ IsSet w.0 n → Read ts b
    of_name n q (inl o) = inr (inr ((n, (Some n, b.1)), (w.0, w.1, w.2, o, (b.1, w.4, refl)), pair_eq b (Some n, b.1) q refl))
    of_name n q (inr s) =
        let two : BehindSet s.0 w.1 b =
        inl ((sets.first, b), (sets.first ∷ [], sets.rest, sets.whole, (refl, sets.is), inr (b.1, sets.text, pair_eq b (Some (name_in text s.0), b.1) (q ∙ ap (λ z. Some z) s.3) refl)), refl) in
        inr (inl ((s.0, b), (s.0 ∷ [], w.1, w.2 ∙ ap (λ z. z ++ w.1) s.1, (refl, s.2), two), refl))

    of_first : (l : All N sets.rest b.1) → b.0 ≡ None → O l.1.3.0 l.0.0.0 ⊎ IsSet l.1.3.0 l.0.0.0 → BehindSet sets.first sets.rest b
    of_first l q (inl o) = inr (b.1, (l.0, (l.1.0, l.1.1, l.1.2, (l.1.3.0, l.1.3.1, l.1.3.2, o, l.1.3.4), l.1.4), l.2), pair_eq b (None, b.1) q refl)
    of_first l q (inr s) =
        let e = taken word.Equal E l.1.3.1 l.0.0.1 l.1.3.4 in
        let more : More ((name_in text s.0, l.0.0.1) ∷ []) l.1.1 l.0.1 = subst (λ z. More (z ∷ []) l.1.1 l.0.1) (pair_eq l.0.0 (name_in text s.0, l.0.0.1) s.3 refl) l.1.4 in
        let column : ColumnSet s.0 (l.1.3.1 ++ l.1.1) b = (
          (l.0.0.1, l.0.1),
          put word.Equal (follow_texts E (λ e. More ((name_in text s.0, e) ∷ []))) (l.1.3.1 ++ l.1.1) e.first (e.rest ++ l.1.1) (l.0.0.1, l.0.1) (ap (λ z. z ++ l.1.1) e.whole) e.is
              (e.rest, l.1.1, refl, e.text, more),
          pair_eq b (None, l.0.1) q l.2,
        ) in
        inl ((s.0, b), (s.0 ∷ [], l.1.3.1 ++ l.1.1, l.1.2 ∙ ap (λ z. z ++ l.1.1) (l.1.3.2 ∙ ap (λ z. z ++ l.1.3.1) s.1), (refl, s.2), inl column), refl)

    of_alias : Alias w.0 b.0 → Read ts b
    of_alias (inl v) =
        let k = taken word.As P w.0 v.0 v.1 in
        inl (
          (v.0, (Some v.0, b.1)),
          put word.As (follow_texts P BehindAlias) ts k.first (k.rest ++ w.1) (v.0, (Some v.0, b.1)) (w.2 ∙ ap (λ z. z ++ w.1) k.whole) k.is
              (k.rest, w.1, refl, k.text, (b.1, w.4, refl)),
          pair_eq b (Some v.0, b.1) v.2 refl,
        )
    of_alias (inr (inl v)) = of_name v.0 v.2 (split w.0 v.0 v.1)
    of_alias (inr (inr v)) =
        let l = sets.text in
        inr (inl ((sets.first, b), (sets.first ∷ [], sets.rest, w.2 ∙ ap (λ z. z ++ w.1) v.0 ∙ sets.whole, (refl, sets.is), of_first l v.1 (split l.1.3.0 l.0.0.0 l.1.3.3)), refl))

    said_is_read : Read ts b
    said_is_read = of_alias w.3

  -- what is read is the manual's
  module _ (other : (x : List Token) (n : List ℕ) → O x n → N x n) (set : (t : Token) → a word.Set t ≡ true → N (t ∷ []) (name_in text t)) where
    all : (ts x y : List Token) (b : Answer) (m : Option (List ℕ)) (xs : List Setting) → ts ≡ x ++ y → Alias x m → Sets y xs → b ≡ (m, xs) → Said ts b
    all ts x y b m xs e v w q = (x, y, e, subst (λ z. Alias x z) (sym (ap (λ (z : Answer). z.0) q)) v, subst (λ z. Sets y z) (sym (ap (λ (z : Answer). z.1) q)) w)

    no_alias : (ts : List Token) (t : Token) (z : List Token) (b : Answer) (xs : List Setting) → ts ≡ t ∷ z → a word.Set t ≡ true → All N z xs → b ≡ (None, xs) → Said ts b
    no_alias ts t z b xs e h w q = all ts [] ts b None xs refl (inr (inr (refl, refl))) (put word.Set (All N) ts t z xs e h w) q

    behind_alias : (ts x y : List Token) (b d : Answer) (n : List ℕ) → ts ≡ x ++ y → Alias x (Some n) → b ≡ d → BehindAlias n y d → Said ts b
    behind_alias ts x y b d n e v q w = all ts x y b (Some n) w.0 e v w.1 (q ∙ w.2)

    column_set : (u : Token) (y : List Token) (d : Answer) → a word.Set u ≡ true → (w : ColumnSet u y d) → All N (u ∷ y) w.0.1
    column_set u y d h w =
        let k = taken word.Equal (follow_texts E (λ e. More ((name_in text u, e) ∷ []))) y w.0 w.1 in
        let l = k.text in
        let v : (both_texts N (behind_word word.Equal E)) (u ∷ k.first ∷ l.0) (name_in text u, w.0.0) =
        (u ∷ [], k.first ∷ l.0, refl, set u h, put word.Equal E (k.first ∷ l.0) k.first l.0 w.0.0 refl k.is l.3) in
        (((name_in text u, w.0.0), w.0.1), (u ∷ k.first ∷ l.0, l.1, ap (λ z. u ∷ z) (k.whole ∙ ap (λ z. k.first ∷ z) l.2), v, l.4), refl)

    of_two : (ts : List Token) (t u : Token) (z : List Token) (b d : Answer) → ts ≡ t ∷ u ∷ z → a word.Set t ≡ true → a word.Set u ≡ true → b ≡ d → BehindTwo t u z d → Said ts b
    of_two ts t u z b d e h k q (inl w) = no_alias ts t (u ∷ z) b w.0.1 e h (column_set u z d k w) (q ∙ w.2)
    of_two ts t u z b d e h k q (inr w) =
        all ts (t ∷ []) (u ∷ z) b (Some (name_in text t)) w.0 e (inr (inl (name_in text t, set t h, refl))) (put word.Set (All N) (u ∷ z) u z w.0 refl k w.1) (q ∙ w.2)

    of_set : (ts : List Token) (t : Token) (y : List Token) (b d : Answer) → ts ≡ t ∷ y → a word.Set t ≡ true → b ≡ d → BehindSet t y d → Said ts b
    of_set ts t y b d e h q (inl w) =
        let v = w.1 in
        of_two ts t w.0.0 v.1 b w.0.1 (e ∙ ap (λ z. t ∷ z) (v.2 ∙ ap (λ z. z ++ v.1) v.3.0)) h v.3.1 (q ∙ w.2) v.4
    of_set ts t y b d e h q (inr w) =
        let l = w.1 in
        let k = l.1.3 in
        no_alias ts t y b w.0 e h (l.0, (l.1.0, l.1.1, l.1.2, (k.0, k.1, k.2, other k.0 l.0.0.0 k.3, k.4), l.1.4), l.2) (q ∙ w.2)

    read_is_said : (ts : List Token) (b : Answer) → Read ts b → Said ts b
    read_is_said ts b (inl w) =
        let k = taken word.As (follow_texts P BehindAlias) ts w.0 w.1 in
        let l = k.text in
        behind_alias ts (k.first ∷ l.0) l.1 b w.0.1 w.0.0 (k.whole ∙ ap (λ z. k.first ∷ z) l.2) (inl (w.0.0, put word.As P (k.first ∷ l.0) k.first l.0 w.0.0 refl k.is l.3, refl)) w.2 l.4
    read_is_said ts b (inr (inl w)) = let l = w.1 in of_set ts w.0.0 l.1 b w.0.1 (l.2 ∙ ap (λ z. z ++ l.1) l.3.0) l.3.1 w.2 l.4
    read_is_said ts b (inr (inr w)) = let l = w.1 in behind_alias ts l.0 l.1 b w.0.1 w.0.0 l.2 (inr (inl (w.0.0, other l.0 w.0.0 l.3, refl))) w.2 l.4

-- A name is another name, or a word SET, which is never too long.
set_is_name : Within (a word.Set) a_name
set_is_name = within (a word.Set) a_name (λ t. refl) refl

set_fits : (b l s : Bool) → b ≡ true → s ≡ true → (b && not (l && not s)) ≡ true
set_fits b true s h k = rw (h, k) refl
set_fits b false s h k = rw h refl

no_set : (b l s : Bool) → s ≡ false → (b && not (l && not s)) ≡ true → ((b && not s) && not (l && not s)) ≡ true
no_set true l false e h = h
no_set false l false e h = cc
no_set b l true e h = cc

any_name : (b l s : Bool) → ((b && not s) && not (l && not s)) ≡ true → (b && not (l && not s)) ≡ true
any_name true l true h = cc
any_name true l false h = h
any_name false l s h = cc

module _ (text : List ℕ) where
  abbrev names : Rule Token (List ℕ)
  names = lists.name_but text word.Set

  abbrev others : Rule Token (List ℕ)
  others = lists.other_name text word.Set

  abbrev IsWord : List Token → List ℕ → Type 0
  IsWord x n = (t : Token) × (x ≡ t ∷ []) × (a word.Set t ≡ true) × (n ≡ name_in text t)

  split_texts : (x : List Token) (n : List ℕ) → names.texts x n → others.texts x n ⊎ IsWord x n
  split_texts x n w = by (a word.Set w.0) refl
    where
      by : (s : Bool) → a word.Set w.0 ≡ s → others.texts x n ⊎ IsWord x n
      by true e = inr (w.0, w.1.0, e, w.2)
      by false e = inl (w.0, (w.1.0, no_set (a_name w.0) (is_long_name text w.0) (a word.Set w.0) e w.1.1), w.2)

  split_free : (x : List Token) (n : List ℕ) → names.free x n → others.free x n ⊎ IsWord x n
  split_free x n w = by w.0 w.1 w.2
    where
      short : (v : others.texts x n ⊎ IsWord x n) → others.free x n ⊎ IsWord x n
      short (inl v) = inl (v.0, inr v.1, v.2)
      short (inr v) = inr v

      by : (t : Token) → either_texts (one_texts (lists.is_long_but text word.Set)) (one_texts (λ u. a_name u && not (lists.is_long_but text word.Set u))) x t → n ≡ name_in text t → others.free x n ⊎ IsWord x n
      by t (inl v) q = inl (t, inl v, q)
      by t (inr v) q = short (split_texts x n (t, v, q))

  other_texts : (x : List Token) (n : List ℕ) → others.texts x n → names.texts x n
  other_texts x n w = (w.0, (w.1.0, any_name (a_name w.0) (is_long_name text w.0) (a word.Set w.0) w.1.1), w.2)

  other_free : (x : List Token) (n : List ℕ) → others.free x n → names.free x n
  other_free x n w = by w.0 w.1 w.2
    where
      by : (t : Token) → either_texts (one_texts (lists.is_long_but text word.Set)) (one_texts (λ u. lists.is_other_name word.Set u && not (lists.is_long_but text word.Set u))) x t → n ≡ name_in text t → names.free x n
      by t (inl v) q = (t, inl v, q)
      by t (inr v) q = let k = other_texts x n (t, v, q) in (k.0, inr k.1, k.2)

  set_texts : (t : Token) → a word.Set t ≡ true → names.texts (t ∷ []) (name_in text t)
  set_texts t h = (t, (refl, set_fits (a_name t) (is_long_name text t) (a word.Set t) (set_is_name t h) h), refl)

  set_free : (t : Token) → a word.Set t ≡ true → names.free (t ∷ []) (name_in text t)
  set_free t h = let k = set_texts t h in (k.0, inr k.1, k.2)

  -- the manual's texts behind the name of the table
  abbrev manual : Rule Token (Option (List ℕ) × List Setting)
  manual = both (grammar.set_alias text) (behind (a word.Set) (lists.commas (grammar.assignment text)))

  manual_law : Law (record { texts = manual.texts; free = manual.free; read = (grammar.behind_table text).read }) begins_settings false after_setting
  manual_law =
      let P = lists.plain_name text in
      let E = expression text in
      said manual.texts manual.free
      (read_is_said text P.texts names.texts others.texts E.texts other_texts set_texts) (λ ts b w. said_is_read text P.texts names.texts others.texts E.texts split_texts ts b w)
      (read_is_said text P.free names.free others.free E.free other_free set_free) (λ ts b w. said_is_read text P.free names.free others.free E.free split_free ts b w)
      (behind_table_law text)

  pub settings_law : Law (grammar.settings text) (a word.Update) false after_setting
  settings_law =
      wide (after_token (a word.Update) (sample word.Update) refl (seq (plain_name_law text) manual_law (λ k h. refl)))
      (λ k h. h) (within _ _ (λ t. refl) refl)
