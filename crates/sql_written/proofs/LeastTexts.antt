-- Every text of a level without limits has at least the parentheses and the depth of what is written of its tree.
use Rattle.std.proofs.Common.{◌≡◌, ℕ, zero, suc, ◌+◌, ◌≤◌, Bool, true, false, cond, not, ◌&&◌, ◌||◌, max, List, [], ◌∷◌, ◌++◌, inl, inr, ◌⊎◌, refl, sym, ap, ◌∙◌, subst, arith}
use Rattle.grammar.specs.Depths.{AtSome}
use Rattle.grammar.specs.Reading.{Class, Rule, as_value, nothing, one_texts, nothing_texts, both_texts, follow_texts, value_texts, either_texts}
use Rattle.grammar.specs.Repeats.{all_repeats, always, second_of}
use Rattle.sql_tokens.specs.Contents.{name_in, number_in, string_in}
use Rattle.sql_tokens.specs.Words.{is}
use Rattle.sql_tokens.specs.declared.kind.TokenKind.{TokenKind}
use Rattle.sql_tokens.specs.declared.kind.TokenKind.TheVariants as kinds
use Rattle.sql_tokens.specs.declared.numbers.TheConstants.{MOST_PARAMETER, NO_BIGINT}
use Rattle.sql_tokens.specs.declared.token.Token.{Token}
use Rattle.sql_expressions.specs.Grammar.{Texts, any, endless, nesting, over, nullity_over, product_over, sum_over, conjunction_over, expression_over, test_over}
use Rattle.sql_expressions.specs.Levels as level
use Rattle.sql_expressions.specs.Levels.{Deep, Parts}
use Rattle.sql_ast.specs.Expressions.{leaf, call, call_of_all, negated, in_list, between, is_null, inverted, all_of, any_of, listed}
use Rattle.sql_tokens.specs.Classes.{a, a_name}
use Rattle.sql_expressions.specs.Words.{a_literal, cast, column, column_of, dotted, either_if, is_long_name, is_long_text, literal, literal_of, name, string}
use Rattle.sql_ast.specs.declared.leaf.Leaf.{Leaf}
use Rattle.sql_ast.specs.declared.leaf.Leaf.TheVariants.{Number, Text, Date, Null, Truth, Column, ColumnOf, TableName, TableNameOf}
use Rattle.sql_expressions.proofs.Limited.{Each}
use Rattle.sql_written.specs.Parentheses.{opened}
use Rattle.sql_written.specs.Precedence.{Level, disjunction, conjunction, negation, nullity, comparison, test, sum, product, unary, rank, needs_parentheses}
use Rattle.sql_written.specs.Writable.{HaveTexts, IsLeaf, IsName, IsText, depth, chain_depth}
use Rattle.sql_written.proofs.Costs.{opens, chain_opens}
use Rattle.sql_written.proofs.LevelTexts.{Of, chain_texts}
use Rattle.sql_written.proofs.Least.{Least, LeastChain, Stands, comparison_sign, deeper_one, deeper_some, loosen, one_end, opened_of, opened_one, own_least, product_sign, chain_depth_end, chain_opens_end, stands_least, sum_sign, texts_end, wider}

pub parted : (R : Token → Type 0) (x y : List Token) → Each R (x ++ y) → Each R x × Each R y
parted R [] y h = (tt, h)
parted R (t ∷ x) y h = let p = parted R x y h.1 in ((h.0, p.0), p.1)

-- what tokens say, where R holds of them, can be spelled
pub record Spelled (text : List ℕ) (R : Token → Type 0) : Type 0 where
  pub name : (t : Token) → R t → a_name t ≡ true → IsName (name_in text t)
  pub string : (t : Token) → R t → a kinds.Text t ≡ true → IsText (string_in text t)
  pub parameter : (t : Token) → R t → a kinds.Parameter t ≡ true → number_in text t ≤ MOST_PARAMETER

module _ (text : List ℕ) (R : Token → Type 0) (good : Spelled text R) where
  parts_of : (ts x y : List Token) → ts ≡ x ++ y → Each R ts → Each R x × Each R y
  parts_of ts x y e h = parted R x y (subst (Each R) e h)

  -- all texts of a level keep to the least
  abbrev Keeps : Level → Of Deep → Type 0
  Keeps s P = (ts : List Token) (x : Deep) → P ts x → Least s (opened ts) (Each R ts) x

  -- a chain of operators
  module _ (s r : Level) (sign : Class Token) (stands : (t : Token) → sign t ≡ true → Stands s s r (level.operator_of t)) (P : Of Deep) (keeps : Keeps r P) where
    repeats_least : (xs : List (Token × Deep)) (l : Deep) (v : List Token) (x : Deep) (m : ℕ) (E : Type 0) → Least s m E l → all_repeats always level.join (λ (d : Deep). both_texts (one_texts sign) P) l xs v x → Least s (m + opened v) (E × Each R v) x
    repeats_least [] l v x m E h w = subst (λ (d : Deep). Least s (m + opened v) (E × Each R v) d) (sym w.1) (wider s m (m + opened v) E (E × Each R v) l (omega arith) (λ e. e.0) h)
    repeats_least (y ∷ xs) l v x m E h w =
        let b = w.4 in
        let k = keeps b.1 y.1 b.4 in
        let j = stands_least s s r (level.operator_of y.0) (stands y.0 b.3.1) l y.1 m (opened b.1) E (Each R b.1) h k in
        let i = repeats_least xs (level.join l y.0 y.1) w.2 x (m + opened b.1) (E × Each R b.1) j w.5 in
        wider s (m + opened b.1 + opened w.2) (m + opened v) ((E × Each R b.1) × Each R w.2) (E × Each R v) x (omega (arith, opened_of v w.1 w.2 w.3, opened_of w.1 b.0 b.1 b.2))
        (λ e. let p = parts_of v w.1 w.2 w.3 e.1 in ((e.0, (parts_of w.1 b.0 b.1 b.2 p.0).1), p.1)) i

    chain_least : (Q : Of Deep) → Keeps s Q → Keeps s (chain_texts sign level.itself level.join Q P)
    chain_least Q q ts x w =
        let p = w.1 in
        subst (λ (d : Deep). Least s (opened ts) (Each R ts) d) (sym w.2)
        (wider s (opened p.0 + opened p.1) (opened ts) (Each R p.0 × Each R p.1) (Each R ts) w.0.1 (omega (arith, opened_of ts p.0 p.1 p.2)) (λ e. parts_of ts p.0 p.1 p.2 e)
        (repeats_least p.4.0 w.0.0 p.1 w.0.1 (opened p.0) (Each R p.0) (q p.0 w.0.0 p.3) p.4.1))

  loosened : (s r : Level) (P : Of Deep) → rank s ≤ rank r → Keeps r P → Keeps s P
  loosened s r P h k ts x w = loosen s r (opened ts) (Each R ts) x h (k ts x w)

  -- a chain of parts
  module _ (place : Level) (sign : Class Token) (P : Of Deep) (keeps : Keeps place P) where
    more_least : (xs : List (Token × Deep)) (l : Parts) (v : List Token) (x : Parts) (m : ℕ) (E : Type 0) → LeastChain place m E l → all_repeats always level.add_part (λ (d : Parts). both_texts (one_texts sign) P) l xs v x →
        LeastChain place (m + opened v) (E × Each R v) x
    more_least [] l v x m E h w =
        subst (λ (d : Parts). LeastChain place (m + opened v) (E × Each R v) d) (sym w.1)
        (record { fewest = omega (arith, h.fewest); lowest = h.lowest; has = λ e. h.has e.0; some = h.some })
    more_least (y ∷ xs) l v x m E h w =
        let b = w.4 in
        let k = keeps b.1 y.1 b.4 in
        let j : LeastChain place (m + opened b.1) (E × Each R b.1) (level.add_part l y.0 y.1) = record {
          fewest = omega (arith, h.fewest, k.fewest, chain_opens_end place l.0 y.1.0);
          lowest = omega (arith, h.lowest, k.lowest, chain_depth_end place l.0 y.1.0);
          has = λ e. texts_end l.0 y.1.0 (h.has e.0) (k.has e.1);
          some = one_end l.0 y.1.0;
        } in
        let i = more_least xs (level.add_part l y.0 y.1) w.2 x (m + opened b.1) (E × Each R b.1) j w.5 in
        record {
          fewest = omega (arith, i.fewest, opened_of v w.1 w.2 w.3, opened_of w.1 b.0 b.1 b.2);
          lowest = i.lowest;
          has = λ e. let p = parts_of v w.1 w.2 w.3 e.1 in i.has ((e.0, (parts_of w.1 b.0 b.1 b.2 p.0).1), p.1);
          some = i.some;
        }

    parts_least : (ts : List Token) (x : Parts) → chain_texts sign level.only_part level.add_part P P ts x → LeastChain place (opened ts) (Each R ts) x
    parts_least ts x w =
        let p = w.1 in
        let k = keeps p.0 w.0.0 p.3 in
        let one : LeastChain place (opened p.0) (Each R p.0) (level.only_part w.0.0) = record { fewest = omega (arith, k.fewest); lowest = omega (arith, k.lowest); has = λ e. (k.has e, tt); some = tt } in
        let i = more_least p.4.0 (level.only_part w.0.0) p.1 w.0.1 (opened p.0) (Each R p.0) one p.4.1 in
        subst (λ (d : Parts). LeastChain place (opened ts) (Each R ts) d) (sym w.2)
        (record { fewest = omega (arith, i.fewest, opened_of ts p.0 p.1 p.2); lowest = i.lowest; has = λ e. i.has (parts_of ts p.0 p.1 p.2 e); some = i.some })

  conjunction_least : (p : Parts) (n : ℕ) (E : Type 0) → LeastChain negation n E p → Least conjunction n E (level.all_value p)
  conjunction_least ([], d) n E h = absurd h.some
  conjunction_least (t ∷ [], d) n E h =
      loosen conjunction negation n E (t, d) (omega arith) (record { fewest = omega (arith, h.fewest); lowest = omega (arith, h.lowest); has = λ e. (h.has e).0 })
  conjunction_least (t ∷ u ∷ ts, d) n E h = own_least (all_of (listed (t ∷ u ∷ ts))) n E (suc d) h.fewest (omega (arith, h.lowest)) (λ e. (tt, h.has e))

  disjunction_least : (p : Parts) (n : ℕ) (E : Type 0) → LeastChain conjunction n E p → Least disjunction n E (level.any_value p)
  disjunction_least ([], d) n E h = absurd h.some
  disjunction_least (t ∷ [], d) n E h =
      loosen disjunction conjunction n E (t, d) (omega arith) (record { fewest = omega (arith, h.fewest); lowest = omega (arith, h.lowest); has = λ e. (h.has e).0 })
  disjunction_least (t ∷ u ∷ ts, d) n E h = own_least (any_of (listed (t ∷ u ∷ ts))) n E (suc d) h.fewest (omega (arith, h.lowest)) (λ e. (tt, h.has e))

  -- a list between "(" and ")"
  abbrev word_list : Of Deep → Of Parts
  word_list P =
      value_texts (λ (x : Token × Parts). x.1) (both_texts (one_texts (a kinds.OpenParenthesis))
      (value_texts (λ (x : Parts × Token). x.0) (both_texts (chain_texts (a kinds.Comma) level.only_part level.add_part P P) (one_texts (a kinds.CloseParenthesis)))))

  enclosed_least : (P : Of Deep) → Keeps disjunction P → (ts : List Token) (p : Parts) → word_list P ts p →
      (n : ℕ) × (suc n ≤ opened ts) × LeastChain disjunction n (Each R ts) p
  enclosed_least P keeps ts p w =
      let b = w.1 in
      let i = b.4 in
      let c = i.1 in
      let l = parts_least disjunction (a kinds.Comma) P keeps c.0 i.0.0 c.3 in (
        opened c.0,
        omega (arith, opened_of ts b.0 b.1 b.2, opened_of b.1 c.0 c.1 c.2, opened_one w.0.0 b.0 b.3.0 b.3.1),
        subst (λ (d : Parts). LeastChain disjunction (opened c.0) (Each R ts) d) (sym (w.2 ∙ i.2))
            (record { fewest = l.fewest; lowest = l.lowest; has = λ e. l.has (parts_of b.1 c.0 c.1 c.2 (parts_of ts b.0 b.1 b.2 e).1).0; some = l.some }),
      )

  -- behind a word that opens nothing
  behind_of : {A : Type 0} (c : Class Token) (P : Of A) (ts : List Token) (v : A) → value_texts (λ (x : Token × A). x.1) (both_texts (one_texts c) P) ts v → (y : List Token) × (opened y ≤ opened ts) × (Each R ts → Each R y) × P y v
  behind_of {A} c P ts v w = let b = w.1 in (b.1, omega (arith, opened_of ts b.0 b.1 b.2), λ e. (parts_of ts b.0 b.1 b.2 e).1, subst (λ (x : A). P b.1 x) (sym w.2) b.4)

  -- names
  first_true : (b c : Bool) → (b && c) ≡ true → b ≡ true
  first_true true c h = refl
  first_true false c h = cc

  token_name : (ts : List Token) (t : Token) (z : TokenKind × List ℕ) → ts ≡ t ∷ [] → a_name t ≡ true → z ≡ (t.kind, name_in text t) → Each R ts → IsName z.1
  token_name ts t z e n v h = subst (λ (y : TokenKind × List ℕ). IsName y.1) (sym v) (good.name t (subst (Each R) e h).0 n)

  name_has : (ts : List Token) (z : TokenKind × List ℕ) → (name text).free ts z → Each R ts → IsName z.1
  name_has ts z w h = go w.0 w.1 w.2
    where
      go : (t : Token) → either_texts (one_texts (is_long_name text)) (one_texts (λ t. a_name t && not (is_long_name text t))) ts t → z ≡ (t.kind, name_in text t) → IsName z.1
      go t (inl i) v = token_name ts t z i.0 (first_true (a_name t) _ i.1) v h
      go t (inr i) v = token_name ts t z i.0 (first_true (a_name t) _ i.1) v h

  -- strings
  token_string : (ts : List Token) (t : Token) (z : List ℕ) → ts ≡ t ∷ [] → a kinds.Text t ≡ true → z ≡ string_in text t → Each R ts → IsText z
  token_string ts t z e n v h = subst IsText (sym v) (good.string t (subst (Each R) e h).0 n)

  string_has : (ts : List Token) (z : List ℕ) → (string text).free ts z → Each R ts → IsText z
  string_has ts z w h = go w.0 w.1 w.2
    where
      go : (t : Token) → either_texts (one_texts (is_long_text text)) (one_texts (λ t. a kinds.Text t && not (is_long_text text t))) ts t → z ≡ string_in text t → IsText z
      go t (inl i) v = token_string ts t z i.0 (first_true (a kinds.Text t) _ i.1) v h
      go t (inr i) v = token_string ts t z i.0 (first_true (a kinds.Text t) _ i.1) v h

  -- constants
  number_few : (t : Token) → number_in text t ≤ NO_BIGINT
  number_few t = omega arith

  chosen : (b : Bool) (l m : Leaf) → (b ≡ true → IsLeaf l) → (b ≡ false → IsLeaf m) → IsLeaf (cond b l m)
  chosen true l m h k = h refl
  chosen false l m h k = k refl

  last_true : (b1 b2 b3 b4 b5 b6 : Bool) → (b1 || (b2 || (b3 || (b4 || (b5 || b6))))) ≡ true → b1 ≡ false → b2 ≡ false → b3 ≡ false → b4 ≡ false → b5 ≡ false → b6 ≡ true
  last_true false false false false false b6 h i1 i2 i3 i4 i5 = h
  last_true true b2 b3 b4 b5 b6 h i1 i2 i3 i4 i5 = cc
  last_true false true b3 b4 b5 b6 h i1 i2 i3 i4 i5 = cc
  last_true false false true b4 b5 b6 h i1 i2 i3 i4 i5 = cc
  last_true false false false true b5 b6 h i1 i2 i3 i4 i5 = cc
  last_true false false false false true b6 h i1 i2 i3 i4 i5 = cc

  literal_spelled : (t : Token) → R t → a_literal t ≡ true → IsLeaf (literal_of text t)
  literal_spelled t r h =
      chosen (a kinds.Number t) (Number (number_in text t)) _ (λ e. number_few t)
      (λ i1. chosen (a kinds.Text t) (Text (string_in text t)) _ (λ e. good.string t r e)
      (λ i2. chosen (a kinds.Null t) Null _ (λ e. tt)
      (λ i3. chosen (a kinds.True t) (Truth true) _ (λ e. tt)
      (λ i4. chosen (a kinds.False t) (Truth false) _ (λ e. tt)
      (λ i5. good.parameter t r (last_true (a kinds.Number t) (a kinds.Text t) (a kinds.Null t) (a kinds.True t) (a kinds.False t) (a kinds.Parameter t) h i1 i2 i3 i4 i5))))))

  is_literal_text : (t : Token) → is_long_text text t ≡ true → a_literal t ≡ true
  is_literal_text t h = second (a kinds.Number t) (a kinds.Text t) _ (first_true (a kinds.Text t) _ h)
    where
      second : (b c d : Bool) → c ≡ true → (b || (c || d)) ≡ true
      second true c d e = refl
      second false true d e = refl
      second false false d e = cc

  literal_has : (ts : List Token) (l : Leaf) → (literal text).free ts l → Each R ts → IsLeaf l
  literal_has ts l w h = go w.0 w.1 w.2
    where
      go : (t : Token) → either_texts (one_texts (is_long_text text)) (one_texts (λ t. a_literal t && not (is_long_text text t))) ts t → l ≡ literal_of text t → IsLeaf l
      go t (inl i) v = subst IsLeaf (sym v) (literal_spelled t (subst (Each R) i.0 h).0 (is_literal_text t i.1))
      go t (inr i) v = subst IsLeaf (sym v) (literal_spelled t (subst (Each R) i.0 h).0 (first_true (a_literal t) _ i.1))

  -- columns
  of_if : {A : Type 0} (b : Bool) (c : Class Token) (p q : Rule Token A) (ts : List Token) (x : A) → (either_if b c p q).free ts x → p.free ts x ⊎ q.free ts x
  of_if true c p q ts x w = w
  of_if false c p q ts x w = inr w

  behind_table : (t : List ℕ) → IsName t → (x : TokenKind × List ℕ) → IsName x.1 → (ts : List Token) (l : Leaf) → (column_of t x).free ts l → IsLeaf l
  behind_table t n x m ts l w = go (of_if (is x.0 kinds.Tableoid) (a kinds.TypeCast) (cast (TableNameOf t)) (nothing (ColumnOf t x.1)) ts l w)
    where
      go : (cast (TableNameOf t)).free ts l ⊎ (nothing (ColumnOf t x.1)).free ts l → IsLeaf l
      go (inl i) = subst IsLeaf (sym i.2) n
      go (inr i) = subst IsLeaf (sym i.1) (n, m)

  dotted_has : (t : List ℕ) → IsName t → (ts : List Token) (l : Leaf) → (dotted text t).free ts l → Each R ts → IsLeaf l
  dotted_has t n ts l w h =
      let c = behind_of (a kinds.Dot) (value_texts second_of (follow_texts (name text).free (λ x. (column_of t x).free))) ts l w in
      let b = c.3.1 in
      let e = parts_of c.0 b.0 b.1 b.2 (c.2 h) in
      subst IsLeaf (sym c.3.2) (behind_table t n c.3.0.0 (name_has b.0 c.3.0.0 b.3 e.0) b.1 c.3.0.1 b.4)

  column_has : (x : TokenKind × List ℕ) → IsName x.1 → (ts : List Token) (l : Leaf) → (column text x).free ts l → Each R ts → IsLeaf l
  column_has x n ts l (inl w) h = dotted_has x.1 n ts l w h
  column_has x n ts l (inr w) h = go (of_if (is x.0 kinds.Date) (a kinds.Text) (as_value Date (string text)) (either_if (is x.0 kinds.Tableoid) (a kinds.TypeCast) (cast TableName) (nothing (Column x.1))) ts l w)
    where
      last : (cast TableName).free ts l ⊎ (nothing (Column x.1)).free ts l → IsLeaf l
      last (inl i) = subst IsLeaf (sym i.2) tt
      last (inr i) = subst IsLeaf (sym i.1) n

      go : (as_value Date (string text)).free ts l ⊎ (either_if (is x.0 kinds.Tableoid) (a kinds.TypeCast) (cast TableName) (nothing (Column x.1))).free ts l → IsLeaf l
      go (inl i) = subst IsLeaf (sym i.2) (string_has ts i.0 i.1 h)
      go (inr i) = last (of_if (is x.0 kinds.Tableoid) (a kinds.TypeCast) (cast TableName) (nothing (Column x.1)) ts l i)

  leaf_least : (l : Leaf) (n : ℕ) (E : Type 0) → (E → IsLeaf l) → Least unary n E (leaf l, 0)
  leaf_least l n E h = own_least (leaf l) n E 0 (omega arith) (omega arith) h

  -- the levels over texts that keep to the least
  module _ (k : Texts) (unaries : Keeps unary k.unary) (negations : Keeps negation k.negation) where
    products : Keeps product (product_over k).texts
    products = chain_least product unary level.is_product product_sign k.unary unaries k.unary (loosened product unary k.unary (omega arith) unaries)

    sums : Keeps sum (sum_over k).texts
    sums = chain_least sum product level.is_sum sum_sign (product_over k).texts products (product_over k).texts (loosened sum product (product_over k).texts (omega arith) products)

    conjunctions : Keeps conjunction (conjunction_over k).texts
    conjunctions ts x w =
        subst (λ (d : Deep). Least conjunction (opened ts) (Each R ts) d) (sym w.2)
        (conjunction_least w.0 (opened ts) (Each R ts) (parts_least negation (a kinds.And) k.negation negations ts w.0 w.1))

    expressions : Keeps disjunction (expression_over k).texts
    expressions ts x w =
        subst (λ (d : Deep). Least disjunction (opened ts) (Each R ts) d) (sym w.2)
        (disjunction_least w.0 (opened ts) (Each R ts) (parts_least conjunction (a kinds.Or) (conjunction_over k).texts conjunctions ts w.0 w.1))

    -- IN and BETWEEN
    in_least : (b : Bool) (x : Deep) (p : Parts) (m n j : ℕ) (E F : Type 0) → Least sum m E x → suc n ≤ j → LeastChain disjunction n F p → Least test (m + j) (E × F) (level.in_value b x p)
    in_least b x p m n j E F h i l =
        own_least (in_list b x.0 (listed p.0)) (m + j) (E × F) (suc (max x.1 p.1)) (omega (arith, h.fewest, l.fewest)) (omega (arith, h.lowest, l.lowest)) (λ e. (h.has e.0, l.some, l.has e.1))

    between_least : (b : Bool) (x y z : Deep) (m i j : ℕ) (E F G : Type 0) → Least sum m E x → Least sum i F y → Least sum j G z → Least test (m + (i + j)) (E × (F × G)) (level.between_value b x (y, z))
    between_least b x y z m i j E F G h k l =
        own_least (between b x.0 y.0 z.0) (m + (i + j)) (E × (F × G)) (suc (max x.1 (max y.1 z.1))) (omega (arith, h.fewest, k.fewest, l.fewest)) (omega (arith, h.lowest, k.lowest, l.lowest))
        (λ e. (h.has e.0, k.has e.1.0, l.has e.1.1))

    in_or_between_least : (b : Bool) (x v : Deep) (m : ℕ) (E : Type 0) → Least sum m E x → (ts : List Token) → (level.in_or_between (over k) b x).texts ts v → Least test (m + opened ts) (E × Each R ts) v
    in_or_between_least b x v m E h ts (inl w) =
        let c = behind_of (a kinds.In) (word_list (expression_over k).texts) ts w.0 w.1 in
        let l = enclosed_least (expression_over k).texts expressions c.0 w.0 c.3 in
        subst (λ (d : Deep). Least test (m + opened ts) (E × Each R ts) d) (sym w.2)
        (wider test (m + opened c.0) (m + opened ts) (E × Each R c.0) (E × Each R ts) (level.in_value b x w.0) (omega (arith, c.1)) (λ e. (e.0, c.2 e.1))
        (in_least b x w.0 m l.0 (opened c.0) E (Each R c.0) h l.1 l.2))
    in_or_between_least b x v m E h ts (inr w) =
        let c = behind_of (a kinds.Between) (both_texts (sum_over k).texts (value_texts (λ (y : Token × Deep). y.1) (both_texts (one_texts (a kinds.And)) (sum_over k).texts))) ts w.0 w.1 in
        let b1 = c.3 in
        let d = behind_of (a kinds.And) (sum_over k).texts b1.1 w.0.1 b1.4 in
        let y = sums b1.0 w.0.0 b1.3 in
        let z = sums d.0 w.0.1 d.3 in
        subst (λ (d : Deep). Least test (m + opened ts) (E × Each R ts) d) (sym w.2)
        (wider test (m + (opened b1.0 + opened d.0)) (m + opened ts) (E × (Each R b1.0 × Each R d.0)) (E × Each R ts) (level.between_value b x w.0)
        (omega (arith, c.1, d.1, opened_of c.0 b1.0 b1.1 b1.2)) (λ e. let p = parts_of c.0 b1.0 b1.1 b1.2 (c.2 e.1) in (e.0, (p.0, d.2 p.1)))
        (between_least b x w.0.0 w.0.1 m (opened b1.0) (opened d.0) E (Each R b1.0) (Each R d.0) h y z))

    tested_least : (x v : Deep) (m : ℕ) (E : Type 0) → Least sum m E x → (ts : List Token) → either_texts (level.tested (over k) x).texts (nothing_texts x) ts v → Least test (m + opened ts) (E × Each R ts) v
    tested_least x v m E h ts (inl (inl w)) =
        let c = behind_of (a kinds.Not) (level.in_or_between (over k) true x).texts ts v w in
        wider test (m + opened c.0) (m + opened ts) (E × Each R c.0) (E × Each R ts) v (omega (arith, c.1)) (λ e. (e.0, c.2 e.1)) (in_or_between_least true x v m E h c.0 c.3)
    tested_least x v m E h ts (inl (inr w)) = in_or_between_least false x v m E h ts w
    tested_least x v m E h ts (inr w) =
        subst (λ (d : Deep). Least test (m + opened ts) (E × Each R ts) d) (sym w.1)
        (wider test m (m + opened ts) E (E × Each R ts) x (omega arith) (λ e. e.0) (loosen test sum m E x (omega arith) h))

    followed_least : (s r : Level) (P : Of Deep) → Keeps r P → (Q : Deep → Of Deep) → ((x v : Deep) (m : ℕ) (E : Type 0) → Least r m E x → (ts : List Token) → Q x ts v → Least s (m + opened ts) (E × Each R ts) v) →
        Keeps s (value_texts second_of (follow_texts P Q))
    followed_least s r P keeps Q on ts x w =
        let b = w.1 in
        subst (λ (d : Deep). Least s (opened ts) (Each R ts) d) (sym w.2)
        (wider s (opened b.0 + opened b.1) (opened ts) (Each R b.0 × Each R b.1) (Each R ts) w.0.1 (omega (arith, opened_of ts b.0 b.1 b.2)) (λ e. parts_of ts b.0 b.1 b.2 e)
        (on w.0.0 w.0.1 (opened b.0) (Each R b.0) (keeps b.0 w.0.0 b.3) b.1 b.4))

    tests : Keeps test (test_over k).texts
    tests = followed_least test sum (sum_over k).texts sums (λ x. either_texts (level.tested (over k) x).texts (nothing_texts x)) tested_least

    -- comparisons
    compared_least : (x v : Deep) (m : ℕ) (E : Type 0) → Least test m E x → (ts : List Token) → either_texts (level.compared (over k) x).texts (nothing_texts x) ts v → Least comparison (m + opened ts) (E × Each R ts) v
    compared_least x v m E h ts (inl w) =
        let b = w.1 in
        let t = tests b.1 w.0.1 b.4 in
        subst (λ (d : Deep). Least comparison (m + opened ts) (E × Each R ts) d) (sym w.2)
        (wider comparison (m + opened b.1) (m + opened ts) (E × Each R b.1) (E × Each R ts) (level.compared_value x w.0) (omega (arith, opened_of ts b.0 b.1 b.2)) (λ e. (e.0, (parts_of ts b.0 b.1 b.2 e.1).1))
        (stands_least comparison test test (level.operator_of w.0.0) (comparison_sign w.0.0 b.3.1) x w.0.1 m (opened b.1) E (Each R b.1) h t))
    compared_least x v m E h ts (inr w) =
        subst (λ (d : Deep). Least comparison (m + opened ts) (E × Each R ts) d) (sym w.1)
        (wider comparison m (m + opened ts) E (E × Each R ts) x (omega arith) (λ e. e.0) (loosen comparison test m E x (omega arith) h))

    comparisons : Keeps comparison (value_texts second_of (follow_texts (test_over k).texts (λ x. either_texts (level.compared (over k) x).texts (nothing_texts x))))
    comparisons = followed_least comparison test (test_over k).texts tests (λ x. either_texts (level.compared (over k) x).texts (nothing_texts x)) compared_least

    -- IS NULL
    null_least : (b : Bool) (x : Deep) (n : ℕ) (E : Type 0) → Least nullity n E x → Least nullity n E (level.under (is_null b) x)
    null_least b x n E h = own_least (is_null b x.0) n E (suc x.1) h.fewest (omega (arith, h.lowest)) h.has

    nulls_least : (xs : List (Token × Bool)) (l : Deep) (v : List Token) (x : Deep) (n : ℕ) (E : Type 0) → Least nullity n E l → all_repeats always level.null_join (λ (d : Deep). both_texts (one_texts (a kinds.Is)) level.null_or_not.free) l xs v x → Least nullity n E x
    nulls_least [] l v x n E h w = subst (λ (d : Deep). Least nullity n E d) (sym w.1) h
    nulls_least (y ∷ xs) l v x n E h w = nulls_least xs (level.null_join l y.0 y.1) w.2 x n E (null_least y.1 l n E h) w.5

    nullities : Keeps nullity (nullity_over k).free
    nullities ts x w =
        let b = w.1 in
        let c = loosen nullity comparison (opened b.0) (Each R b.0) w.0.0 (omega arith) (comparisons b.0 w.0.0 b.3) in
        subst (λ (d : Deep). Least nullity (opened ts) (Each R ts) d) (sym w.2)
        (wider nullity (opened b.0) (opened ts) (Each R b.0) (Each R ts) w.0.1 (omega (arith, opened_of ts b.0 b.1 b.2)) (λ e. (parts_of ts b.0 b.1 b.2 e).0)
        (nulls_least b.4.0 w.0.0 b.1 w.0.1 (opened b.0) (Each R b.0) c b.4.1))

    -- NOT
    next_negation : Keeps negation (level.negation endless (over k) (over k) (nullity_over k)).free
    next_negation ts x (inl w) =
        let c = behind_of (a kinds.Not) k.negation ts w.0 w.1 in
        let h = negations c.0 w.0 c.3 in
        subst (λ (d : Deep). Least negation (opened ts) (Each R ts) d) (sym w.2)
        (wider negation (opened c.0) (opened ts) (Each R c.0) (Each R ts) (level.under inverted w.0) c.1 c.2
        (own_least (inverted w.0.0) (opened c.0) (Each R c.0) (suc w.0.1) h.fewest (omega (arith, h.lowest)) h.has))
    next_negation ts x (inr w) = loosen negation nullity (opened ts) (Each R ts) x (omega arith) (nullities ts x w)

    -- calls
    abbrev inner_texts : List ℕ → Of Deep
    inner_texts f = either_texts (value_texts (level.all_call f) (one_texts (a kinds.Star))) (value_texts (level.call_value f) (level.arguments (expression_over k)).texts)

    arguments_least : (ts : List Token) (p : Parts) → (level.arguments (expression_over k)).texts ts p → (chain_opens disjunction (listed p.0) ≤ opened ts) × (chain_depth disjunction (listed p.0) ≤ p.1) × (Each R ts → HaveTexts (listed p.0))
    arguments_least ts p (inl w) = let l = parts_least disjunction (a kinds.Comma) (expression_over k).texts expressions ts p w in (l.fewest, l.lowest, l.has)
    arguments_least ts p (inr w) =
        subst (λ (q : Parts). (chain_opens disjunction (listed q.0) ≤ opened ts) × (chain_depth disjunction (listed q.0) ≤ q.1) × (Each R ts → HaveTexts (listed q.0))) (sym w.1) (omega arith, omega arith, λ e. tt)

    inner_least : (f : List ℕ) (ts : List Token) (x : Deep) → inner_texts f ts x → Least unary (suc (opened ts)) (IsName f × Each R ts) x
    inner_least f ts x (inl w) =
        subst (λ (d : Deep). Least unary (suc (opened ts)) (IsName f × Each R ts) d) (sym w.2)
        (own_least (call_of_all f) (suc (opened ts)) (IsName f × Each R ts) 1 (omega arith) (omega arith) (λ e. e.0))
    inner_least f ts x (inr w) =
        let l = arguments_least ts w.0 w.1 in
        subst (λ (d : Deep). Least unary (suc (opened ts)) (IsName f × Each R ts) d) (sym w.2)
        (own_least (call f (listed w.0.0)) (suc (opened ts)) (IsName f × Each R ts) (suc w.0.1) (omega (arith, l.0)) (omega (arith, l.1)) (λ e. (e.0, l.2 e.1)))

    call_least : (f : List ℕ) (ts : List Token) (x : Deep) → (level.call_of (expression_over k) f).texts ts x → Least unary (opened ts) (IsName f × Each R ts) x
    call_least f ts x w =
        let b = w.1 in
        let i = b.4 in
        let c = i.1 in
        subst (λ (d : Deep). Least unary (opened ts) (IsName f × Each R ts) d) (sym (w.2 ∙ i.2))
        (wider unary (suc (opened c.0)) (opened ts) (IsName f × Each R c.0) (IsName f × Each R ts) i.0.0 (omega (arith, opened_of ts b.0 b.1 b.2, opened_of b.1 c.0 c.1 c.2, opened_one w.0.0 b.0 b.3.0 b.3.1))
        (λ e. (e.0, (parts_of b.1 c.0 c.1 c.2 (parts_of ts b.0 b.1 b.2 e.1).1).0)) (inner_least f c.0 i.0.0 c.3))

    -- "-" unary, "(" expr ")"
    nested_least : Keeps unary (level.nested (over k)).texts
    nested_least ts x (inl w) =
        let c = behind_of (a kinds.Minus) k.unary ts w.0 w.1 in
        let h = unaries c.0 w.0 c.3 in
        subst (λ (d : Deep). Least unary (opened ts) (Each R ts) d) (sym w.2)
        (wider unary (opened c.0) (opened ts) (Each R c.0) (Each R ts) (level.under negated w.0) c.1 c.2
        (own_least (negated w.0.0) (opened c.0) (Each R c.0) (suc w.0.1) h.fewest (omega (arith, h.lowest)) h.has))
    nested_least ts x (inr w) =
        let b = w.1.1 in
        let i = b.4 in
        let c = i.1 in
        let h = expressions c.0 i.0.0 c.3 in
        let e = i.0.0.0 in
        let same : w.0 ≡ i.0.0 = w.1.2 ∙ i.2 in
        subst (λ (d : Deep). Least unary (opened ts) (Each R ts) d) (sym (w.2 ∙ ap level.deeper same))
        (record {
          fewest = omega (arith, h.fewest, deeper_one (needs_parentheses unary e) (opens e), deeper_some (needs_parentheses disjunction e) (opens e), opened_of ts b.0 b.1 b.2, opened_of b.1 c.0 c.1 c.2, opened_one w.1.0.0 b.0 b.3.0 b.3.1);
          lowest = omega (arith, h.lowest, deeper_one (needs_parentheses unary e) (depth e), deeper_some (needs_parentheses disjunction e) (depth e));
          has = λ g. h.has (parts_of b.1 c.0 c.1 c.2 (parts_of ts b.0 b.1 b.2 g).1).0;
        })

    -- names: calls and columns
    named_least : (x : TokenKind × List ℕ) (ts : List Token) (v : Deep) → either_texts (level.call_of (expression_over k) x.1).texts (value_texts level.flat (column text x).free) ts v → Least unary (opened ts) (IsName x.1 × Each R ts) v
    named_least x ts v (inl w) = call_least x.1 ts v w
    named_least x ts v (inr w) =
        subst (λ (d : Deep). Least unary (opened ts) (IsName x.1 × Each R ts) d) (sym w.2)
        (leaf_least w.0 (opened ts) (IsName x.1 × Each R ts) (λ e. column_has x e.0 ts w.0 w.1 e.1))

    next_unary : Keeps unary (level.unary text endless (over k) (over k)).free
    next_unary ts x (inl w) = nested_least ts x w
    next_unary ts x (inr (inl w)) =
        let b = w.1 in
        subst (λ (d : Deep). Least unary (opened ts) (Each R ts) d) (sym w.2)
        (wider unary (opened b.1) (opened ts) (IsName w.0.0.1 × Each R b.1) (Each R ts) w.0.1 (omega (arith, opened_of ts b.0 b.1 b.2))
        (λ e. let p = parts_of ts b.0 b.1 b.2 e in (name_has b.0 w.0.0 b.3 p.0, p.1)) (named_least w.0.0 b.1 w.0.1 b.4))
    next_unary ts x (inr (inr w)) =
        subst (λ (d : Deep). Least unary (opened ts) (Each R ts) d) (sym w.2)
        (leaf_least w.0 (opened ts) (Each R ts) (λ e. literal_has ts w.0 w.1 e))

  -- every depth
  mutual
    unfolding nesting

    unary_at : (n : ℕ) → Keeps unary (nesting text n).unary
    unary_at zero ts x w = absurd w
    unary_at (suc n) ts x (inl w) = unary_at n ts x w
    unary_at (suc n) ts x (inr w) = next_unary (nesting text n) (unary_at n) (negation_at n) ts x w

    negation_at : (n : ℕ) → Keeps negation (nesting text n).negation
    negation_at zero ts x w = absurd w
    negation_at (suc n) ts x (inl w) = negation_at n ts x w
    negation_at (suc n) ts x (inr w) = next_negation (nesting text n) (unary_at n) (negation_at n) ts x w

  pub least : Keeps disjunction (any text).expression.texts
  least = expressions (record { unary = AtSome (λ n. (nesting text n).unary); negation = AtSome (λ n. (nesting text n).negation) }) (λ ts x w. unary_at w.0 ts x w.1) (λ ts x w. negation_at w.0 ts x w.1)
