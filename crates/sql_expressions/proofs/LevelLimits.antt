-- Each level keeps the limits. Where the texts of what it begins with are those without limits of a depth of at most n,
-- and the texts of its other operands those less deep than n, its own are those of a depth of at most n.
use Rattle.std.proofs.Common.{◌≡◌, ℕ, suc, ◌<◌, ◌≤◌, max, zero-le, Bool, true, false, List, [], ◌∷◌, ◌++◌, inl, inr, refl, sym, ap, subst, arith}
use Rattle.grammar.specs.Reading.{Class, Rule, one_texts, both_texts, value_texts, either_texts, as_value}
use Rattle.grammar.specs.Repeats.{always, second_of}
use Rattle.grammar.proofs.Laws.{Disjoint}
use Rattle.sql_tokens.specs.declared.kind.TokenKind.{TokenKind}
use Rattle.sql_tokens.specs.declared.kind.TokenKind.TheVariants as word
use Rattle.sql_tokens.specs.declared.token.Token.{Token}
use Rattle.sql_expressions.specs.Grammar.{below}
use Rattle.sql_expressions.specs.Levels.{Deep, Parts, Rules, flat, under, deeper, itself, join, only_part, add_part, node_of, has_room, parts_room, list_of, all_call, call_value, arguments, call_of, behind_name, named_leaf, nested, unary, chain, is_comparison, in_value, between_value, in_or_between, tested, maybe_tested, test, compared_value, compared, maybe_compared, comparison, said, null_or_not, null_join, nullity, inverted_by, negation, parts, all_value, any_value, conjunction, disjunction}
use Rattle.sql_expressions.specs.Limits.{IsShort}
use Rattle.sql_ast.specs.Expressions.{Tree, negated, inverted, all_of, any_of, listed}
use Rattle.grammar.specs.Words.{◌>>◌, ◌<<◌, ◌&◌}
use Rattle.sql_tokens.specs.Classes.{a}
use Rattle.sql_expressions.proofs.LevelLaws.{within_any}
use Rattle.sql_expressions.proofs.Limited.{Of, Joins, Limited, adapt, given, granted, one_limited, nothing_limited, both_limited, follow_limited, value_limited, sign_limited, behind_limited, before_limited, either_limited, room_limited, chain_limited}
use Rattle.sql_expressions.proofs.TextWords.{may_be_long}
use Rattle.sql_expressions.proofs.WordLaws.{apart}
use Rattle.sql_expressions.proofs.WordLimits.{ShortThere, Always, plain, plain_word, name_limited, literal_limited, column_limited}

-- the operands of IN and of BETWEEN
abbrev behind_in : Rules → Rule Token Parts
behind_in r = a word.In >> a word.OpenParenthesis >> list_of r.expression << a word.CloseParenthesis

abbrev behind_between : Rules → Rule Token (Deep × Deep)
behind_between r = a word.Between >> r.sum & a word.And >> r.sum

-- room is what is below n
has_below : (n d : ℕ) → d < n → below n d ≡ true
has_below n d h = grind (arith, h)

pub is_below : (n d : ℕ) → below n d ≡ true → d < n
is_below n d h = grind (arith, h)

-- G holds of each value
record Holds {A : Type 0} (G : A → Type 0) (P : List Token → A → Type 0) : Type 0 where
  holds : (ts : List Token) (x : A) → P ts x → G x

each_value : {A B : Type 0} {G : B → Type 0} {P : Of A} (f : A → B) → ((x : A) → G (f x)) → Holds G (value_texts f P)
each_value {G = G} f h = record { holds = λ ts b w. subst G (sym w.2) (h w.0) }

either_case : {A : Type 0} {G : A → Type 0} {P Q : Of A} → Holds G P → Holds G Q → (ts : List Token) (x : A) → either_texts P Q ts x → G x
either_case p q ts x (inl w) = p.holds ts x w
either_case p q ts x (inr w) = q.holds ts x w

either_holds : {A : Type 0} {G : A → Type 0} {P Q : Of A} → Holds G P → Holds G Q → Holds G (either_texts P Q)
either_holds p q = record { holds = either_case p q }

behind_holds : {A : Type 0} {G : A → Type 0} {P : Of A} (c : Class Token) → Holds G P → Holds G (value_texts (λ (x : Token × A). x.1) (both_texts (one_texts c) P))
behind_holds {G = G} c h = record { holds = λ ts x w. subst G (sym w.2) (h.holds w.1.1 w.0.1 w.1.4) }

before_holds : {A : Type 0} {G : A → Type 0} {P : Of A} (c : Class Token) → Holds G P → Holds G (value_texts (λ (x : A × Token). x.0) (both_texts P (one_texts c)))
before_holds {G = G} c h = record { holds = λ ts x w. subst G (sym w.2) (h.holds w.1.0 w.0.0 w.1.3) }

-- one more operator, call or pair of parentheses stands over what it joins
abbrev Over : ℕ → Deep → Type 0
Over d y = d < y.1

module _ (any : Rules) where
  call_deep : (f : List ℕ) → Holds (Over 0) (call_of any.expression f).texts
  call_deep f =
      behind_holds {G = Over 0} (a word.OpenParenthesis) (before_holds {G = Over 0} (a word.CloseParenthesis)
      (either_holds {G = Over 0} (each_value {G = Over 0} (all_call f) (λ t. omega arith)) (each_value {G = Over 0} (call_value f) (λ p. omega arith))))

  nested_deep : Holds (Over 0) (nested any).texts
  nested_deep = either_holds {G = Over 0} (each_value {G = Over 0} (under negated) (λ x. omega arith)) (each_value {G = Over 0} deeper (λ x. omega arith))

  in_or_between_deep : (b : Bool) (x : Deep) → Holds (Over (x.1)) (in_or_between any b x).texts
  in_or_between_deep b x = either_holds {G = Over (x.1)} (each_value {G = Over (x.1)} (in_value b x) (λ p. omega arith)) (each_value {G = Over (x.1)} (between_value b x) (λ y. omega arith))

  tested_deep : (x : Deep) → Holds (Over (x.1)) (tested any x).texts
  tested_deep x = either_holds {G = Over (x.1)} (behind_holds {G = Over (x.1)} (a word.Not) (in_or_between_deep true x)) (in_or_between_deep false x)

  compared_deep : (x : Deep) → Holds (Over (x.1)) (compared any x).texts
  compared_deep x = each_value {G = Over (x.1)} (compared_value x) (λ y. omega arith)

  inverted_deep : Holds (Over 0) (inverted_by any).texts
  inverted_deep = each_value {G = Over 0} (under inverted) (λ x. omega arith)

-- the depth of a chain of parts
node_depth : (f : List Tree → Tree) (ts : List Tree) (d : ℕ) → (node_of f ts d).1 ≤ suc d
node_depth f [] d = omega arith
node_depth f (t ∷ []) d = omega arith
node_depth f (t ∷ u ∷ ts) d = omega arith

more_depth : (f : List Tree → Tree) (t : Tree) (ts : List Tree) (x : Tree) (d : ℕ) → (node_of f (t ∷ (ts ++ x ∷ [])) d).1 ≡ suc d
more_depth f t [] x d = refl
more_depth f t (u ∷ ts) x d = refl

module _ (text : List ℕ) (n : ℕ) where
  abbrev pub Lim : {A : Type 0} → Type 0 → (A → Type 0) → Of A → Of A → Type 0
  Lim F G P U = Limited (ShortThere text) (IsShort text) F G P U

  abbrev pub Low : Deep → Type 0
  Low x = x.1 < n

  abbrev pub High : Deep → Type 0
  High x = x.1 ≤ n

  abbrev LowParts : Parts → Type 0
  LowParts p = p.1 < n

  -- the texts of r are those of `any` whose value keeps G
  pub record RulesLimited (G : Deep → Type 0) (r any : Rules) : Type 0 where
    pub unary : Lim (Unit {0}) G r.unary.texts any.unary.texts
    pub product : Lim (Unit {0}) G r.product.texts any.product.texts
    pub sum : Lim (Unit {0}) G r.sum.texts any.sum.texts
    pub test : Lim (Unit {0}) G r.test.texts any.test.texts
    pub negation : Lim (Unit {0}) G r.negation.texts any.negation.texts
    pub conjunction : Lim (Unit {0}) G r.conjunction.texts any.conjunction.texts
    pub expression : Lim (Unit {0}) G r.expression.texts any.expression.texts

  -- what is joined
  list_joins : Joins always add_part (λ (p : Parts). Unit {0}) LowParts Low
  list_joins = record {
    keep = λ l s x u. tt;
    grow = λ l s x u e h k. omega arith;
    back = λ l s x u h. (refl, omega arith, omega arith);
  }

  chain_joins : Joins (has_room (below n)) join (λ (x : Deep). Unit {0}) High Low
  chain_joins = record {
    keep = λ l s x u. tt;
    grow = λ l s x u e h k. let i = is_below n l.1 e in omega arith;
    back = λ l s x u h. (has_below n l.1 (omega arith), omega arith, omega arith);
  }

  null_joins : Joins (has_room (below n)) null_join (λ (x : Deep). Unit {0}) High (λ (b : Bool). Unit {0})
  null_joins = record {
    keep = λ l s x u. tt;
    grow = λ l s x u e h k. is_below n l.1 e;
    back = λ l s x u h. (has_below n l.1 (omega arith), omega arith, tt);
  }

  module _ (f : List Tree → Tree) where
    abbrev Some_part : Parts → Type 0
    Some_part p = (t : Tree) × (ts : List Tree) × (p.0 ≡ t ∷ ts)

    abbrev HighNode : Parts → Type 0
    HighNode p = (node_of f p.0 p.1).1 ≤ n

    grown : (p : Parts) (s : Token) (x : Deep) → Some_part p → (node_of f (p.0 ++ x.0 ∷ []) (max p.1 x.1)).1 ≡ suc (max p.1 x.1)
    grown p s x u = subst (λ ts. (node_of f (ts ++ x.0 ∷ []) (max p.1 x.1)).1 ≡ suc (max p.1 x.1)) (sym u.2) (more_depth f u.0 u.1 x.0 (max p.1 x.1))

    parts_joins : Joins (parts_room (below n)) add_part Some_part HighNode Low
    parts_joins = record {
      keep = λ p s x u. (u.0, u.1 ++ x.0 ∷ [], ap (λ ts. ts ++ x.0 ∷ []) u.2);
      grow = λ p s x u e h k.
          let i = is_below n p.1 e in
          let g = grown p s x u in omega arith;
      back = λ p s x u h.
          let g = grown p s x u in
          let i : suc (max p.1 x.1) ≤ n = omega arith in
          let d = node_depth f p.0 p.1 in
          (has_below n p.1 (omega arith), omega arith, omega arith);
    }

  -- chains
  module _ (first right : Rule Token Deep) (l : Lim (Unit {0}) High first.texts first.free) (k : (d : ℕ) → below n d ≡ true → Lim (Unit {0}) Low right.texts right.free) where
    pub operators_limited : (sign : Class Token) → Disjoint sign may_be_long → Lim (Unit {0}) High (chain sign (below n) first right).texts (chain sign (below n) first right).free
    operators_limited sign d = chain_limited chain_joins (λ x e. sign_limited sign (plain text sign d) (k x.1 e)) itself (λ x. tt) l

    parts_limited : (f : List Tree → Tree) (sign : Class Token) → Disjoint sign may_be_long → Lim (Unit {0}) (HighNode f) (parts sign (below n) first right).texts (parts sign (below n) first right).free
    parts_limited f sign d = chain_limited (parts_joins f) (λ p e. sign_limited sign (plain text sign d) (k p.1 e)) only_part (λ x. (x.0, [], refl)) l

    pub conjunction_limited : Lim (Unit {0}) High (conjunction (below n) first right).texts (conjunction (below n) first right).free
    conjunction_limited = value_limited {G = High} all_value (parts_limited (λ ts. all_of (listed ts)) (a word.And) (apart (a word.And) may_be_long (λ t. refl) refl))

    pub disjunction_limited : Lim (Unit {0}) High (disjunction (below n) first right).texts (disjunction (below n) first right).free
    disjunction_limited = value_limited {G = High} any_value (parts_limited (λ ts. any_of (listed ts)) (a word.Or) (apart (a word.Or) may_be_long (λ t. refl) refl))

  null_or_not_limited : Always text null_or_not.texts null_or_not.free
  null_or_not_limited =
      let null = one_limited (a word.Null) (plain_word text word.Null refl) in
      either_limited (value_limited (said false) null) (value_limited (said true) (behind_limited (a word.Not) (plain_word text word.Not refl) null))

  pub nullity_limited : (p : Rule Token Deep) → Lim (Unit {0}) High p.texts p.free → Lim (Unit {0}) High (nullity (below n) p).texts (nullity (below n) p).free
  nullity_limited p l = chain_limited null_joins (λ x e. sign_limited (a word.Is) (plain_word text word.Is refl) null_or_not_limited) itself (λ x. tt) l

  -- what stands where there is room
  module _ (any r : Rules) (l : RulesLimited Low r any) where
    list_limited : Lim (Unit {0}) LowParts (list_of r.expression).texts (list_of any.expression).texts
    list_limited = chain_limited list_joins (λ p e. sign_limited (a word.Comma) (plain_word text word.Comma refl) l.expression) only_part (λ x. tt) l.expression

    arguments_limited : 0 < n → Lim (Unit {0}) LowParts (arguments r.expression).texts (arguments any.expression).texts
    arguments_limited h = either_limited (granted h (nothing_limited LowParts ([], 0))) list_limited

    call_limited : 0 < n → (f : List ℕ) → Lim (Unit {0}) High (call_of r.expression f).texts (call_of any.expression f).texts
    call_limited h f =
        behind_limited (a word.OpenParenthesis) (plain_word text word.OpenParenthesis refl)
        (before_limited (a word.CloseParenthesis) (plain_word text word.CloseParenthesis refl)
        (either_limited (value_limited {G = High} (call_value f) (arguments_limited h))
        (value_limited {G = High} (all_call f) (adapt (one_limited (a word.Star) (plain_word text word.Star refl)) (λ t g. h) (λ t g. tt)))))

    nested_limited : Lim (Unit {0}) High (nested r).texts (nested any).texts
    nested_limited =
        either_limited
        (value_limited {G = High} deeper (behind_limited (a word.OpenParenthesis) (plain_word text word.OpenParenthesis refl) (before_limited (a word.CloseParenthesis) (plain_word text word.CloseParenthesis refl) l.expression)))
        (value_limited {G = High} (under negated) (behind_limited (a word.Minus) (plain_word text word.Minus refl) l.unary))

    inverted_limited : Lim (Unit {0}) High (inverted_by r).texts (inverted_by any).texts
    inverted_limited = value_limited {G = High} (under inverted) (behind_limited (a word.Not) (plain_word text word.Not refl) l.negation)

    module _ (x : Deep) (h : Low x) where
      in_limited : (b : Bool) → Lim (Unit {0}) High (as_value (in_value b x) (behind_in r)).texts (as_value (in_value b x) (behind_in any)).texts
      in_limited b =
          value_limited {G = High} (in_value b x)
          (adapt (behind_limited (a word.In) (plain_word text word.In refl) (behind_limited (a word.OpenParenthesis) (plain_word text word.OpenParenthesis refl)
          (before_limited (a word.CloseParenthesis) (plain_word text word.CloseParenthesis refl) list_limited))) (λ p g. omega arith) (λ p g. omega arith))

      between_limited : (b : Bool) → Lim (Unit {0}) High (as_value (between_value b x) (behind_between r)).texts (as_value (between_value b x) (behind_between any)).texts
      between_limited b =
          value_limited {G = High} (between_value b x)
          (adapt (behind_limited (a word.Between) (plain_word text word.Between refl) (both_limited l.sum (behind_limited (a word.And) (plain_word text word.And refl) l.sum)))
          (λ y g. let i = g.0 in let j = g.1 in omega arith) (λ y g. (omega arith, omega arith)))

      in_or_between_limited : (b : Bool) → Lim (Unit {0}) High (in_or_between r b x).texts (in_or_between any b x).texts
      in_or_between_limited b = either_limited (between_limited b) (in_limited b)

      tested_limited : Lim (Unit {0}) High (tested r x).texts (tested any x).texts
      tested_limited = either_limited (in_or_between_limited false) (behind_limited (a word.Not) (plain_word text word.Not refl) (in_or_between_limited true))

      compared_limited : Lim (Unit {0}) High (compared r x).texts (compared any x).texts
      compared_limited =
          value_limited {G = High} (compared_value x)
          (adapt (sign_limited is_comparison (plain text is_comparison (apart is_comparison may_be_long (λ t. refl) refl)) l.test) (λ y g. omega arith) (λ y g. omega arith))

  -- levels that stand over one more operator, call or pair of parentheses only where there is room
  module _ (any r : Rules) (l : (d : ℕ) → below n d ≡ true → RulesLimited Low r any) where
    abbrev lower : Rules
    lower = within_any any r

    behind_name_limited : (x : TokenKind × List ℕ) → Lim (Unit {0}) High (behind_name text (below n) any lower x).texts (behind_name text (below n) any lower x).free
    behind_name_limited x =
        room_limited (value_limited {G = High} flat (adapt (column_limited text x) (λ y g. zero-le) (λ y g. tt))) (below n 0)
        (λ e. call_limited any r (l 0 e) (is_below n 0 e) x.1) (λ ts y w g. let i = (call_deep any x.1).holds ts y w in has_below n 0 (omega arith))

    named_limited : Lim (Unit {0}) High (named_leaf text (below n) any lower).texts (named_leaf text (below n) any lower).free
    named_limited = value_limited {G = High} second_of (follow_limited (name_limited text) behind_name_limited)

    pub unary_limited : Lim (Unit {0}) High (unary text (below n) any lower).texts (unary text (below n) any lower).free
    unary_limited =
        room_limited (either_limited (value_limited {G = High} flat (adapt (literal_limited text) (λ y g. zero-le) (λ y g. tt))) named_limited) (below n 0)
        (λ e. nested_limited any r (l 0 e)) (λ ts y w g. let i = (nested_deep any).holds ts y w in has_below n 0 (omega arith))

    maybe_tested_limited : (x : Deep) → Lim (High x) High (maybe_tested (below n) any lower x).texts (maybe_tested (below n) any lower x).free
    maybe_tested_limited x =
        room_limited (nothing_limited High x) (below n x.1)
        (λ e. let i = is_below n x.1 e in given (omega arith) (tested_limited any r (l x.1 e) x i)) (λ ts y w g. let i = (tested_deep any x).holds ts y w in has_below n x.1 (omega arith))

    pub test_limited : (p : Rule Token Deep) → Lim (Unit {0}) High p.texts p.free → Lim (Unit {0}) High (test (below n) any lower p).texts (test (below n) any lower p).free
    test_limited p k = value_limited {G = High} second_of (follow_limited k maybe_tested_limited)

    maybe_compared_limited : (x : Deep) → Lim (High x) High (maybe_compared (below n) any lower x).texts (maybe_compared (below n) any lower x).free
    maybe_compared_limited x =
        room_limited (nothing_limited High x) (below n x.1)
        (λ e. let i = is_below n x.1 e in given (omega arith) (compared_limited any r (l x.1 e) x i)) (λ ts y w g. let i = (compared_deep any x).holds ts y w in has_below n x.1 (omega arith))

    pub comparison_limited : (p : Rule Token Deep) → Lim (Unit {0}) High p.texts p.free → Lim (Unit {0}) High (comparison (below n) any lower p).texts (comparison (below n) any lower p).free
    comparison_limited p k = value_limited {G = High} second_of (follow_limited k maybe_compared_limited)

    pub negation_limited : (p : Rule Token Deep) → Lim (Unit {0}) High p.texts p.free → Lim (Unit {0}) High (negation (below n) any lower p).texts (negation (below n) any lower p).free
    negation_limited p k =
        room_limited k (below n 0) (λ e. inverted_limited any r (l 0 e)) (λ ts y w g. let i = (inverted_deep any).holds ts y w in has_below n 0 (omega arith))
