-- What stands where in an expression: behind BETWEEN, behind a name and ".", and at its end.
use Rattle.std.proofs.Common.{◌≡◌, ℕ, suc, Bool, true, false, ◌&&◌, List, [], ◌∷◌, ◌++◌, length, Err, inl, inr, refl, sym, ◌∙◌, ap, subst, arith}
use Rattle.std.proofs.lemmas.List.{append_assoc}
use Rattle.std.proofs.lemmas.List.Elements.{All-nil, All-cons}
use Rattle.grammar.specs.Reading.{Class, Rule, limit_at, Stop, begins_in, follow, as_value, either}
use Rattle.grammar.specs.Repeats.{second_of, chain_by}
use Rattle.sql_tokens.specs.declared.kind.TokenKind.TheVariants as word
use Rattle.sql_tokens.specs.declared.token.Token.{Token}
use Rattle.sql_expressions.specs.Grammar.{any, freed, below, unary_at, product_at, sum_at, test_at, comparison_at, nullity_at, negation_at, conjunction_at, expression_at, under_depth, tree_of, expression}
use Rattle.sql_expressions.specs.Levels as Levels
use Rattle.sql_expressions.specs.Levels.{Rules}
use Rattle.sql_expressions.specs.Limits.{IsShort}
use Rattle.sql_ast.specs.Expressions.{Tree}
use Rattle.sql_tokens.specs.Classes.{a, a_name}
use Rattle.sql_expressions.specs.Words.{is_long_name, name, literal}
use Rattle.sql_expressions.specs.Words as Words
use Rattle.sql_ast.specs.declared.leaf.Leaf.{Leaf}
use Rattle.sql_ast.specs.declared.leaf.Leaf.TheVariants as leaf
use Rattle.sql_expressions.specs.declared.levels.TheConstants.{MOST_DEPTH}
use Rattle.sql_expressions.proofs.DepthLaws.{unary_to}
use Rattle.sql_expressions.proofs.LevelLaws.{begins_unary}
use Rattle.sql_expressions.proofs.RuleLimits as limits
use Rattle.sql_expressions.proofs.WordLaws.{sample, apart}
use Rattle.sql_expressions.proofs.LevelPlaces.{name_there, alone, all_expressions}
use Rattle.sql_expressions.proofs.Walk.{Of, before, bound, dot, behind, nowhere, step, run, run_append, run_nowhere, leads}

bound_opens_by : (t : Token) (m : List Token) (v : Bool) → begins_unary t ≡ v → run bound (t ∷ m) ≡ behind → begins_unary t ≡ true
bound_opens_by t m true i e = i
bound_opens_by t m false i e =
    let j : step bound t ≡ nowhere = rw i refl in
    let k : nowhere ≡ behind = sym (run_nowhere m) ∙ sym (ap (λ z. run z m) j) ∙ e in cc

bound_opens : (m : List Token) → run bound m ≡ behind → begins_in begins_unary m ≡ true
bound_opens [] e = cc
bound_opens (t ∷ m) e = bound_opens_by t m (begins_unary t) refl e

module _ (text : List ℕ) where
  ends_behind : (ts : List Token) (x : Tree) → (expression text).free ts x → run before ts ≡ behind
  ends_behind ts x w = (all_expressions (sample word.Null) refl text).goes ts w.0 w.1

  to_bound : (y : List Token) (t : Token) (x : Tree) → (expression text).free y x → a word.Between t ≡ true → run before (y ++ t ∷ []) ≡ bound
  to_bound y t x w e = run_append before y (t ∷ []) ∙ ap (λ z. step z t) (ends_behind y x w) ∙ leads behind bound (a word.Between) (λ t. refl) refl t e

  swapped : (y m : List Token) (t u s : Token) (x z : Tree) → (expression text).free y x → (expression text).free (y ++ t ∷ s ∷ m) z → a word.Between t ≡ true → begins_unary u ≡ true →
      (more : List Token) × (c : Tree) × (expression text).free (y ++ t ∷ u ∷ more) c
  swapped y m t u s x z w k e h =
      let o = (all_expressions u h text).swaps (y ++ t ∷ s ∷ m) (y ++ t ∷ []) m s k.0 k.1 (sym (append_assoc y (t ∷ []) (s ∷ m))) (to_bound y t x w e) in
      (o.0, tree_of o.1, (o.1, subst (λ ts. (any text).expression.texts ts o.1) (append_assoc y (t ∷ []) (u ∷ o.0)) o.2, refl))

  -- a name and "."
  to_dot : (n d : Token) → a_name n ≡ true → a word.Dot d ≡ true → run before (n ∷ d ∷ []) ≡ dot
  to_dot n d h e = ap (λ p. step p d) (leads before behind a_name (λ t. refl) refl n h) ∙ leads behind dot (a word.Dot) (λ t. refl) refl d e

  abbrev dotted_leaf : Token → Leaf
  dotted_leaf n = leaf.ColumnOf (Words.named text n).1 (Words.named text (sample word.Name)).1

  dotted_unary : (n d : Token) → a_name n ≡ true → a word.Dot d ≡ true → (any text).unary.texts (n ∷ d ∷ sample word.Name ∷ []) (Levels.flat (dotted_leaf n))
  dotted_unary n d h e =
      let l = dotted_leaf n in
      unary_to text (n ∷ d ∷ sample word.Name ∷ []) (Levels.flat l)
      (inr (inl (
        (Words.named text n, Levels.flat l),
        (
          n ∷ [],
          d ∷ sample word.Name ∷ [],
          refl,
          name_there text n h,
          inr (
            l,
            inl (
              (d, l),
              (
                d ∷ [],
                sample word.Name ∷ [],
                refl,
                (refl, e),
                ((Words.named text (sample word.Name), l), (sample word.Name ∷ [], [], refl, name_there text (sample word.Name) refl, (refl, refl)), refl),
              ),
              refl,
            ),
            refl,
          ),
        ),
        refl,
      )))

  dotted_alone : (n d : Token) → a_name n ≡ true → a word.Dot d ≡ true → (any text).expression.texts (n ∷ d ∷ sample word.Name ∷ []) (Levels.flat (dotted_leaf n))
  dotted_alone n d h e = alone text (n ∷ d ∷ sample word.Name ∷ []) (Levels.flat (dotted_leaf n)) (dotted_unary n d h e)

  not_first : (b d : Bool) → b ≡ false → (b && d) ≡ false
  not_first true d h = cc
  not_first false d h = refl

  short_name : (n : Token) → a_name n ≡ true → is_long_name text n ≡ false → IsShort text n
  short_name n h l = (l, not_first (a word.Text n) _ (apart a_name (a word.Text) (λ t. refl) refl n h))

  short_dot : (d : Token) → a word.Dot d ≡ true → IsShort text d
  short_dot d e = (not_first (a_name d) _ (apart (a word.Dot) a_name (λ t. refl) refl d e), not_first (a word.Text d) _ (apart (a word.Dot) (a word.Text) (λ t. refl) refl d e))

  short_sample : IsShort text (sample word.Name)
  short_sample = (refl, refl)

-- In a whole expression an operator BETWEEN has an operand behind it, which may begin with any token that begins one.
pub opens_between : (text : List ℕ) (y m : List Token) (t : Token) (x z : Tree) → (expression text).free y x → (expression text).free (y ++ t ∷ m) z → a word.Between t ≡ true → begins_in begins_unary m ≡ true
opens_between text y m t x z w k e =
    bound_opens m
    (sym (ap (λ p. run p m) (to_bound text y t x w e)) ∙ sym (run_append before (y ++ t ∷ []) m) ∙ ap (λ ts. run before ts) (append_assoc y (t ∷ []) m) ∙ ends_behind text (y ++ t ∷ m) z k)

pub goes_on_between : (text : List ℕ) (y m : List Token) (t u : Token) (x z : Tree) → (expression text).free y x → (expression text).free (y ++ t ∷ m) z → a word.Between t ≡ true → begins_unary u ≡ true →
    (more : List Token) × (c : Tree) × (expression text).free (y ++ t ∷ u ∷ more) c
goes_on_between text y [] t u x z w k e h = let i : false ≡ true = opens_between text y [] t x z w k e in cc
goes_on_between text y (s ∷ m) t u x z w k e h = swapped text y m t u s x z w k e h

-- Behind a name and "." stands another name.
pub not_starred : (text : List ℕ) (n d s : Token) (m : List Token) (z : Tree) → a_name n ≡ true → a word.Dot d ≡ true → a word.Star s ≡ true → (expression text).free (n ∷ d ∷ s ∷ m) z → ⊥
not_starred text n d s m z h e g k =
    let i = ap (λ p. step p s) (to_dot text n d h e) ∙ leads dot nowhere (a word.Star) (λ t. refl) refl s g in
    let j : nowhere ≡ behind = sym (run_nowhere m) ∙ sym (ap (λ p. run p m) i) ∙ ends_behind text (n ∷ d ∷ s ∷ m) z k in cc

pub not_dot_last : (text : List ℕ) (n d : Token) (z : Tree) → a_name n ≡ true → a word.Dot d ≡ true → (expression text).free (n ∷ d ∷ []) z → ⊥
not_dot_last text n d z h e k = let i : dot ≡ behind = sym (to_dot text n d h e) ∙ ends_behind text (n ∷ d ∷ []) z k in cc

pub dotted : (text : List ℕ) (n d : Token) → a_name n ≡ true → a word.Dot d ≡ true → (c : Tree) × (expression text).free (n ∷ d ∷ sample word.Name ∷ []) c
dotted text n d h e = let x = Levels.flat (dotted_leaf text n) in (tree_of x, (x, dotted_alone text n d h e, refl))

pub dotted_within : (text : List ℕ) (n d : Token) → a_name n ≡ true → a word.Dot d ≡ true → is_long_name text n ≡ false → (c : Tree) × (expression text).texts (n ∷ d ∷ sample word.Name ∷ []) c
dotted_within text n d h e l =
    let x = tree_of (Levels.flat (dotted_leaf text n)) in (
      x,
      limits.all text (n ∷ d ∷ sample word.Name ∷ []) x (
        0,
        dotted_alone text n d h e,
        omega arith,
        All-cons (IsShort text) n (d ∷ sample word.Name ∷ []) (short_name text n h l)
            (All-cons (IsShort text) d (sample word.Name ∷ []) (short_dot text d e)
            (All-cons (IsShort text) (sample word.Name) [] (short_sample text) (All-nil (IsShort text)))),
      ),
    )

-- the readers of the levels stop where that of the first operand does
module _ (ts : List Token) (s : Stop) where
  abbrev Stopped : {A : Type 0} → Rule Token A → Type 0
  Stopped p = p.read ts ≡ Err s

  value_stops : {A B : Type 0} (f : A → B) (p : Rule Token A) → Stopped p → Stopped (as_value f p)
  value_stops f p e = rw e refl

  follow_stops : {A B : Type 0} (p : Rule Token A) (q : A → Rule Token B) → Stopped p → Stopped (follow p q)
  follow_stops p q e = rw e refl

  chain_stops : {A B C : Type 0} (sign : Class Token) (guard : A → Bool) (first : C → A) (join : A → Token → B → A) (q : Rule Token C) (p : A → Rule Token B) → Stopped q → Stopped (chain_by sign guard first join q p)
  chain_stops sign guard first join q p e = rw e refl

  first_stops : {A : Type 0} (c : Class Token) (p q : Rule Token A) → begins_in c ts ≡ true → Stopped p → Stopped (either c p q)
  first_stops c p q b e = rw (b, e) refl

  other_stops : {A : Type 0} (room : Bool) (c : Class Token) (u : Of A) (p q : Rule Token A) → begins_in c ts ≡ false → Stopped q → Stopped (Levels.if_room room c u p q)
  other_stops room c u p q b e = rw (b, e) refl

  -- the levels of a depth of at most n
  module _ (text : List ℕ) (n : ℕ) (r : Rules) (not_nested : begins_in Levels.begins_nested ts ≡ false) (is_name : begins_in a_name ts ≡ true) (not_not : begins_in (a word.Not) ts ≡ false) (e : Stopped (name text)) where
    abbrev lower : Rules
    lower = freed text r

    unary_stops : Stopped (unary_at text n r)
    unary_stops =
        let l = Levels.named_leaf text (below n) (any text) lower in
        other_stops (below n 0) Levels.begins_nested (Levels.nested (any text)).texts (Levels.nested lower) (either a_name l (as_value Levels.flat (literal text))) not_nested
        (first_stops a_name l (as_value Levels.flat (literal text)) is_name
        (value_stops second_of (follow (name text) (Levels.behind_name text (below n) (any text) lower)) (follow_stops (name text) (Levels.behind_name text (below n) (any text) lower) e)))

    product_stops : Stopped (product_at text n r)
    product_stops = chain_stops Levels.is_product (Levels.has_room (below n)) Levels.itself Levels.join (unary_at text n r) (λ x. lower.unary) unary_stops

    sum_stops : Stopped (sum_at text n r)
    sum_stops = chain_stops Levels.is_sum (Levels.has_room (below n)) Levels.itself Levels.join (product_at text n r) (λ x. lower.product) product_stops

    test_stops : Stopped (test_at text n r)
    test_stops =
        let q = Levels.maybe_tested (below n) (any text) lower in
        value_stops second_of (follow (sum_at text n r) q) (follow_stops (sum_at text n r) q sum_stops)

    comparison_stops : Stopped (comparison_at text n r)
    comparison_stops =
        let q = Levels.maybe_compared (below n) (any text) lower in
        value_stops second_of (follow (test_at text n r) q) (follow_stops (test_at text n r) q test_stops)

    nullity_stops : Stopped (nullity_at text n r)
    nullity_stops = chain_stops (a word.Is) (Levels.has_room (below n)) Levels.itself Levels.null_join (comparison_at text n r) (λ x. Levels.null_or_not) comparison_stops

    negation_stops : Stopped (negation_at text n r)
    negation_stops = other_stops (below n 0) (a word.Not) (Levels.inverted_by (any text)).texts (Levels.inverted_by lower) (nullity_at text n r) not_not nullity_stops

    conjunction_stops : Stopped (conjunction_at text n r)
    conjunction_stops =
        let q = Levels.parts (a word.And) (below n) (negation_at text n r) lower.negation in
        value_stops Levels.all_value q (chain_stops (a word.And) (Levels.parts_room (below n)) Levels.only_part Levels.add_part (negation_at text n r) (λ x. lower.negation) negation_stops)

    expression_stops : Stopped (expression_at text n r)
    expression_stops =
        let q = Levels.parts (a word.Or) (below n) (conjunction_at text n r) lower.conjunction in
        value_stops Levels.any_value q (chain_stops (a word.Or) (Levels.parts_room (below n)) Levels.only_part Levels.add_part (conjunction_at text n r) (λ x. lower.conjunction) conjunction_stops)

long_name_read : (text : List ℕ) (n : Token) (ts : List Token) → is_long_name text n ≡ true → (name text).read (n ∷ ts) ≡ Err (limit_at (suc (length ts)))
long_name_read text n ts l = rw l refl

-- A name that is too long is a stop.
pub long_name_stops : (text : List ℕ) (n : Token) (ts : List Token) → a_name n ≡ true → is_long_name text n ≡ true → (expression text).read (n ∷ ts) ≡ Err (limit_at (suc (length ts)))
long_name_stops text n ts h l =
    let s = limit_at (suc (length ts)) in
    let r = under_depth text MOST_DEPTH in
    value_stops (n ∷ ts) s tree_of (expression_at text MOST_DEPTH r)
    (expression_stops (n ∷ ts) s text MOST_DEPTH r (apart a_name Levels.begins_nested (λ t. refl) refl n h) h (apart a_name (a word.Not) (λ t. refl) refl n h) (long_name_read text n ts l))
