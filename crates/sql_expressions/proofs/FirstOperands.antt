-- A level is its first operand, and what stands behind that, from the tightest operators to the loosest.
use Rattle.std.proofs.Common.{◌≡◌, ◌-◌, ℕ, zero, suc, Bool, true, false, List, [], ◌∷◌, length, Result, Ok, Err, refl, ap, sym, ◌∙◌, arith}
use Rattle.grammar.specs.Reading.{Class, Reading, Stop, Rule, ◌>>=◌, given, begins_in}
use Rattle.grammar.specs.Repeats.{always, read_repeats, repeats, second_of}
use Rattle.grammar.specs.Gives.{Refuses}
use Rattle.grammar.proofs.Laws.{Disjoint}
use Rattle.grammar.specs.declared.refused.Refused.{Refused}
use Rattle.grammar.specs.declared.refused.Refused.TheVariants.{NoMemory, Syntax, Limit}
use Rattle.sql_tokens.specs.Classes.{a}
use Rattle.sql_tokens.specs.declared.kind.TokenKind.TheVariants as word
use Rattle.sql_tokens.specs.declared.token.Token.{Token}
use Rattle.sql_expressions.specs.Grammar.{any, below, comparison_at, freed, nullity_at, rules, under_depth}
use Rattle.sql_expressions.specs.Levels.{Deep, Parts, Room, Rules, add_part, has_room, is_product, is_sum, join, list_of, negation, null_join, null_or_not, only_part, parts_room}
use Rattle.sql_expressions.specs.Views.{at, behind, behind_at, behind_sign, climbed, ends_part, first_part, joint_sign, joint_value, maybe_compared, maybe_tested, more_of_joint, not_comes, operand_of, part_of, reach}
use Rattle.sql_expressions.specs.declared.signs.Behind.{Behind}
use Rattle.sql_expressions.specs.declared.signs.Behind.TheVariants as places
use Rattle.sql_expressions.specs.declared.signs.Chain.TheVariants as chains
use Rattle.sql_expressions.specs.declared.signs.Joint.{Joint}
use Rattle.sql_expressions.specs.declared.signs.Joint.TheVariants as joints
use Rattle.sql_expressions.specs.declared.signs.Level.{Level}
use Rattle.sql_expressions.specs.declared.signs.Level.TheVariants as at_levels
use Rattle.sql_expressions.proofs.Alone.{ends_there, single}
use Rattle.sql_expressions.proofs.Deeper.{second_read}
use Rattle.sql_expressions.proofs.WordLaws.{apart}

-- readers one after another
then_then : {A B C : Type 0} (r : Result A Stop) (f : A → Result B Stop) (g : B → Result C Stop) → (r >>= f) >>= g ≡ (r >>= λ x. f x >>= g)
then_then (Ok x) f g = refl
then_then (Err e) f g = refl

-- where the value of the second is that of both
follow_read : {A B : Type 0} (r : Reading Token A) (g : A → List Token → Reading Token B) →
    ((r >>= λ x. g x.0 x.1 >>= λ y. given (x.0, y.0) y.1) >>= λ (z : (A × B) × List Token). given (second_of z.0) z.1) ≡ (r >>= λ x. g x.0 x.1)
follow_read (Ok x) g = second_read x.0 (g x.0 x.1)
follow_read (Err e) g = refl

not_left_out : (room : Room) (everything lower : Rules) (nullity : Rule Token Deep) (ts : List Token) → begins_in (a word.Not) ts ≡ false → (negation room everything lower nullity).read ts ≡ nullity.read ts
not_left_out room everything lower nullity ts h = rw h refl

-- a reader that is two, one after another
module _ {A B : Type 0} (t : Reading Token B) (r : Reading Token A) (f : A × List Token → Reading Token B) (h : t ≡ (r >>= f)) where
  pub first_refuses : (e : Refused) → Refuses e r → Refuses e t
  first_refuses NoMemory k = tt
  first_refuses (Syntax i) k = h ∙ ap (λ z. z >>= f) k
  first_refuses (Limit i) k = h ∙ ap (λ z. z >>= f) k

  pub then_reads : (x : A × List Token) → r ≡ Ok x → t ≡ f x
  then_reads x k = h ∙ ap (λ z. z >>= f) k

module _ (text : List ℕ) (n : ℕ) where
  abbrev pub from : ℕ → ℕ → Deep × List Token → Reading Token Deep
  from place count y = climbed text n place count y.0 y.1

  abbrev step : ℕ → Deep × List Token → Reading Token Deep
  step place y = (behind text n (behind_at place) y.0).read y.1

  -- the parts of a chain, and its value
  abbrev parts_behind : Joint → Deep × List Token → Reading Token Parts
  parts_behind joint y = (repeats (joint_sign joint) (parts_room (below n)) add_part (λ _. part_of joint (under_depth text n)) (only_part y.0)).read y.1

  abbrev part_value : Joint → Parts × List Token → Reading Token Deep
  part_value joint z = given (joint_value joint z.0) z.1

  no_step : (place : ℕ) (r : Reading Token Deep) → r ≡ (r >>= from place 0)
  unfolding climbed
  no_step place (Ok x) = refl
  no_step place (Err e) = refl

  -- one step more at the front
  one_more : (place count : ℕ) (t s r : Reading Token Deep) → s ≡ (r >>= step place) → t ≡ (s >>= from (suc place) count) → t ≡ (r >>= from place (suc count))
  unfolding climbed
  one_more place count t s r e h = h ∙ ap (λ z. z >>= from (suc place) count) e ∙ then_then r (step place) (from (suc place) count)

  module _ (ts : List Token) where
    abbrev unary_read : Reading Token Deep
    unary_read = (rules text n).unary.read ts

    abbrev product_read : Reading Token Deep
    product_read = (rules text n).product.read ts

    abbrev sum_read : Reading Token Deep
    sum_read = (rules text n).sum.read ts

    abbrev test_read : Reading Token Deep
    test_read = (rules text n).test.read ts

    abbrev comparison_read : Reading Token Deep
    comparison_read = (comparison_at text n (under_depth text n)).read ts

    abbrev nullity_read : Reading Token Deep
    nullity_read = (nullity_at text n (under_depth text n)).read ts

    abbrev negation_read : Reading Token Deep
    negation_read = (rules text n).negation.read ts

    abbrev conjunction_read : Reading Token Deep
    conjunction_read = (rules text n).conjunction.read ts

    abbrev expression_read : Reading Token Deep
    expression_read = (rules text n).expression.read ts

    products : product_read ≡ (unary_read >>= step 0)
    products = refl

    sums : sum_read ≡ (product_read >>= step 1)
    sums = refl

    tests : test_read ≡ (sum_read >>= step 2)
    tests = follow_read sum_read (λ x rest. (maybe_tested text n x).read rest)

    comparisons : comparison_read ≡ (test_read >>= step 3)
    comparisons = follow_read test_read (λ x rest. (maybe_compared text n x).read rest)

    nulls : nullity_read ≡ (comparison_read >>= step 4)
    nulls = refl

    conjunctions : conjunction_read ≡ (negation_read >>= step 5)
    conjunctions = then_then negation_read (parts_behind joints.And) (part_value joints.And)

    disjunctions : expression_read ≡ (conjunction_read >>= step 6)
    disjunctions = then_then conjunction_read (parts_behind joints.Or) (part_value joints.Or)

    -- behind an operand that may be tested
    behind_sum : (count : ℕ) (t : Reading Token Deep) → t ≡ (sum_read >>= from 2 count) → t ≡ (unary_read >>= from 0 (suc (suc count)))
    behind_sum count t h = one_more 0 (suc count) t product_read unary_read products (one_more 1 count t sum_read product_read sums h)

    behind_test : (count : ℕ) (t : Reading Token Deep) → t ≡ (test_read >>= from 3 count) → t ≡ (unary_read >>= from 0 (suc (suc (suc count))))
    behind_test count t h = behind_sum (suc count) t (one_more 2 count t test_read sum_read tests h)

    behind_nulls : (count : ℕ) (t : Reading Token Deep) → t ≡ (nullity_read >>= from 5 count) → t ≡ (unary_read >>= from 0 (suc (suc (suc (suc (suc count))))))
    behind_nulls count t h = behind_test (suc (suc count)) t (one_more 3 (suc count) t comparison_read test_read comparisons (one_more 4 count t nullity_read comparison_read nulls h))

    no_not : begins_in (a word.Not) ts ≡ false → negation_read ≡ nullity_read
    no_not h = not_left_out (below n) (any text) (freed text (under_depth text n)) (nullity_at text n (under_depth text n)) ts h

    behind_negation : (count : ℕ) (t : Reading Token Deep) → begins_in (a word.Not) ts ≡ false → t ≡ (negation_read >>= from 5 count) → t ≡ (unary_read >>= from 0 (suc (suc (suc (suc (suc count))))))
    behind_negation count t h e = behind_nulls count t (e ∙ ap (λ z. z >>= from 5 count) (no_not h))

    conjoined : conjunction_read ≡ (negation_read >>= from 5 1)
    conjoined = one_more 5 0 conjunction_read conjunction_read negation_read conjunctions (no_step 6 conjunction_read)

    disjoined : expression_read ≡ (negation_read >>= from 5 2)
    disjoined = one_more 5 1 expression_read conjunction_read negation_read conjunctions (one_more 6 0 expression_read expression_read conjunction_read disjunctions (no_step 7 expression_read))

    pub at_operand : (level : Level) → not_comes level ts ≡ false → (at level (rules text n)).read ts ≡ (unary_read >>= from 0 (reach level - 0))
    at_operand at_levels.Unary h = no_step 0 unary_read
    at_operand at_levels.Product h = one_more 0 0 product_read product_read unary_read products (no_step 1 product_read)
    at_operand at_levels.Sum h = behind_sum 0 sum_read (no_step 2 sum_read)
    at_operand at_levels.Test h = behind_test 0 test_read (no_step 3 test_read)
    at_operand at_levels.Negation h = behind_negation 0 negation_read h (no_step 5 negation_read)
    at_operand at_levels.Conjunction h = behind_negation 1 conjunction_read h conjoined
    at_operand at_levels.Expression h = behind_negation 2 expression_read h disjoined

    never : {A : Type 0} → false ≡ true → A
    never h = absurd (let e : false ≡ true = h in cc)

    pub at_negation : (level : Level) → not_comes level ts ≡ true → (at level (rules text n)).read ts ≡ (negation_read >>= from 5 (reach level - 5))
    at_negation at_levels.Unary h = never h
    at_negation at_levels.Product h = never h
    at_negation at_levels.Sum h = never h
    at_negation at_levels.Test h = never h
    at_negation at_levels.Negation h = no_step 5 negation_read
    at_negation at_levels.Conjunction h = conjoined
    at_negation at_levels.Expression h = disjoined

-- where no AND or OR comes
pub no_joint : (text : List ℕ) (joint : Joint) (n : ℕ) (x : Deep) (ts : List Token) → begins_in (joint_sign joint) ts ≡ false → (more_of_joint text joint n x).read ts ≡ Ok (x, ts)
no_joint text joint n x ts h =
    ap (λ z. z >>= part_value text n joint) (ends_there (joint_sign joint) (parts_room (below n)) add_part (λ _. part_of joint (under_depth text n)) (length ts) (only_part x) ts h)
    ∙ ap (λ z. given z ts) (single joint x)

-- where nothing comes that may stand at a place
pub nothing_behind : (text : List ℕ) (n : ℕ) (b : Behind) (x : Deep) (ts : List Token) → begins_in (behind_sign b) ts ≡ false → (behind text n b x).read ts ≡ Ok (x, ts)
nothing_behind text n places.Products x ts h = ends_there is_product (has_room (below n)) join (λ _. operand_of chains.Product (under_depth text n)) (length ts) x ts h
nothing_behind text n places.Sums x ts h = ends_there is_sum (has_room (below n)) join (λ _. operand_of chains.Sum (under_depth text n)) (length ts) x ts h
nothing_behind text n places.Test x ts h = rw h refl
nothing_behind text n places.Comparison x ts h = rw h refl
nothing_behind text n places.Nulls x ts h = ends_there (a word.Is) (has_room (below n)) null_join (λ _. null_or_not) (length ts) x ts h
nothing_behind text n places.Conjunctions x ts h = no_joint text joints.And n x ts h
nothing_behind text n places.Disjunctions x ts h = no_joint text joints.Or n x ts h

-- a step of the loop
module _ (text : List ℕ) (n place next count more : ℕ) (h : count ≡ suc more) (k : next ≡ suc place) (b : Behind) (q : b ≡ behind_at place) (x : Deep) (ts : List Token) where
  abbrev others : Deep × List Token → Reading Token Deep
  others y = climbed text n next more y.0 y.1

  stepped : climbed text n place count x ts ≡ ((behind text n b x).read ts >>= others)
  unfolding climbed
  stepped = rw (h, k, q) refl

  pub step_refuses : (e : Refused) → Refuses e ((behind text n b x).read ts) → Refuses e (climbed text n place count x ts)
  step_refuses = first_refuses (climbed text n place count x ts) ((behind text n b x).read ts) others stepped

  pub step_reads : (y : Deep) (rest : List Token) → (behind text n b x).read ts ≡ Ok (y, rest) → climbed text n next more y rest ≡ climbed text n place count x ts
  step_reads y rest e = sym (then_reads (climbed text n place count x ts) ((behind text n b x).read ts) others stepped (y, rest) e)

  pub step_skips : begins_in (behind_sign b) ts ≡ false → climbed text n next more x ts ≡ climbed text n place count x ts
  step_skips e = step_reads x ts (nothing_behind text n b x ts e)

-- what ends a part begins none of these
ends_apart : (b : Behind) → Disjoint ends_part (behind_sign b)
ends_apart places.Products = apart ends_part (behind_sign places.Products) (λ t. refl) refl
ends_apart places.Sums = apart ends_part (behind_sign places.Sums) (λ t. refl) refl
ends_apart places.Test = apart ends_part (behind_sign places.Test) (λ t. refl) refl
ends_apart places.Comparison = apart ends_part (behind_sign places.Comparison) (λ t. refl) refl
ends_apart places.Nulls = apart ends_part (behind_sign places.Nulls) (λ t. refl) refl
ends_apart places.Conjunctions = apart ends_part (behind_sign places.Conjunctions) (λ t. refl) refl
ends_apart places.Disjunctions = apart ends_part (behind_sign places.Disjunctions) (λ t. refl) refl

no_sign : (b : Behind) (ts : List Token) → begins_in ends_part ts ≡ true → begins_in (behind_sign b) ts ≡ false
no_sign b [] h = refl
no_sign b (t ∷ ts) h = ends_apart b t h

pub part_ended : (text : List ℕ) (n place count : ℕ) (x : Deep) (ts : List Token) → begins_in ends_part ts ≡ true → climbed text n place count x ts ≡ Ok (x, ts)
unfolding climbed
part_ended text n place zero x ts h = refl
part_ended text n place (suc count) x ts h =
    ap (λ z. z >>= from text n (suc place) count) (nothing_behind text n (behind_at place) x ts (no_sign (behind_at place) ts h))
    ∙ part_ended text n (suc place) count x ts h

pub all_read : (text : List ℕ) (n place count : ℕ) (x : Deep) (ts : List Token) → count ≡ 0 → climbed text n place count x ts ≡ Ok (x, ts)
unfolding climbed
all_read text n place count x ts h = rw h refl

-- a NOT that begins a level
pub not_begins : (level : Level) (ts : List Token) → not_comes level ts ≡ true → begins_in (a word.Not) ts ≡ true
not_begins at_levels.Unary ts h = absurd (let e : false ≡ true = h in cc)
not_begins at_levels.Product ts h = absurd (let e : false ≡ true = h in cc)
not_begins at_levels.Sum ts h = absurd (let e : false ≡ true = h in cc)
not_begins at_levels.Test ts h = absurd (let e : false ≡ true = h in cc)
not_begins at_levels.Negation ts h = h
not_begins at_levels.Conjunction ts h = h
not_begins at_levels.Expression ts h = h

-- a list is its first expression, and what stands behind that
pub list_read : (p : Rule Token Deep) (ts : List Token) → (list_of p).read ts ≡ ((first_part p).read ts >>= λ y. read_repeats (a word.Comma) always add_part (λ _. p.read) (length y.1) y.0 y.1)
list_read p ts = sym (then_then (p.read ts) (λ x. given (only_part x.0) x.1) (λ y. read_repeats (a word.Comma) always add_part (λ _. p.read) (length y.1) y.0 y.1))
