-- The word BETWEEN at or before the place where a reader stopped, with an expression before it: where one stands it is found.
use Rattle.std.proofs.Common.{◌≡◌, ℕ, suc, ◌-◌, ◌≤◌, Bool, true, false, cond, List, [], ◌∷◌, ◌++◌, length, take, drop, Option, Some, None, Ok, Err, refl, sym, ◌∙◌, ap, subst, arith, length-append, length-take-le, take-append-drop, take_at, drop_at}
use Rattle.grammar.specs.Reading.{Class, Reading, begins_in}
use Rattle.grammar.proofs.Laws.{Stops, SameHead, Within, head_eq, tail_eq}
use Rattle.sql_tokens.specs.declared.kind.TokenKind.TheVariants as word
use Rattle.sql_tokens.specs.declared.token.Token.{Token}
use Rattle.sql_expressions.specs.Grammar.{expression}
use Rattle.sql_ast.specs.Expressions.{Tree}
use Rattle.sql_tokens.specs.Classes.{a}
use Rattle.sql_syntax.specs.Items.{ended, ended_by, ended_at, place_of_word}
use Rattle.sql_syntax.proofs.Splits.{Split, same, longer, shorter, split, rest_begins, append_one}
use Rattle.sql_syntax.proofs.WordBehind.{Place, behind, last}

abbrev Found : Type 0
Found = Option ((Tree × Token) × List Token)

some_eq : {A : Type 0} (u v : A) → Some u ≡ Some v → u ≡ v
some_eq u v e = cc

-- what is found
pub record Ended (r : Reading Token Tree) (back : List Token) (e : Tree) (t : Token) (rest : List Token) : Type 0 where
  pub is : r ≡ Ok (e, [])
  pub word : a word.Between t ≡ true
  pub next : back ≡ t ∷ rest

ended_is : (u : Token) (us : List Token) (b : Bool) (r : Reading Token Tree) (e : Tree) (t : Token) (rest : List Token) → a word.Between u ≡ b → cond b (ended u us r) None ≡ Some ((e, t), rest) → Ended r (u ∷ us) e t rest
ended_is u us true (Ok (d, [])) e t rest h q =
    let i = some_eq ((d, u), us) ((e, t), rest) q in
    record {
      is = ap (λ (z : (Tree × Token) × List Token). Ok (z.0.0, [])) i;
      word = subst (λ z. a word.Between z ≡ true) (ap (λ (z : (Tree × Token) × List Token). z.0.1) i) h;
      next = ap (λ (z : (Tree × Token) × List Token). z.0.1 ∷ z.1) i;
    }
ended_is u us true (Ok (d, v ∷ vs)) e t rest h q = cc q
ended_is u us true (Err stop) e t rest h q = cc q
ended_is u us false r e t rest h q = cc q

word_ended : (b : Bool) (r : Reading Token Tree) (e : Tree) (t : Token) (rest : List Token) → b ≡ true → r ≡ Ok (e, []) → cond b (ended t rest r) None ≡ Some ((e, t), rest)
word_ended b r e t rest h q = rw (h, q) refl

module _ (text : List ℕ) where
  ended_by_is : (front back : List Token) (e : Tree) (t : Token) (rest : List Token) → ended_by text front back ≡ Some ((e, t), rest) → Ended ((expression text).read front) back e t rest
  ended_by_is front [] e t rest q = cc q
  ended_by_is front (u ∷ us) e t rest q = ended_is u us (a word.Between u) ((expression text).read front) e t rest refl q

  -- what is found at a place ends there
  pub ended_at_is : (n : ℕ) (ts : List Token) (e : Tree) (t : Token) (rest : List Token) → ended_at text n ts ≡ Some ((e, t), rest) → Ended ((expression text).read (take n ts)) (drop n ts) e t rest
  ended_at_is n ts e t rest q = ended_by_is (take n ts) (drop n ts) e t rest q

  ended_at_word : (x : List Token) (t : Token) (rest : List Token) (e : Tree) (n : ℕ) (ts : List Token) → ts ≡ x ++ t ∷ rest → length x ≡ n → a word.Between t ≡ true → (expression text).read x ≡ Ok (e, []) → ended_at text n ts ≡ Some ((e, t), rest)
  ended_at_word x t rest e n ts q l h r =
      let i : take n ts ≡ x = ap (take n) q ∙ take_at x (t ∷ rest) n l in
      let j : drop n ts ≡ t ∷ rest = ap (drop n) q ∙ drop_at x (t ∷ rest) n l in
      ap (λ z. ended_by text z (drop n ts)) i ∙ ap (λ z. ended_by text x z) j ∙ word_ended (a word.Between t) ((expression text).read x) e t rest h r

  -- the place of the word
  place_if : (b : Bool) (n : ℕ) → (cond b n (n - 1) ≤ n) × (n ≤ suc (cond b n (n - 1)))
  place_if true n = (omega arith, omega arith)
  place_if false n = (omega arith, omega arith)

  place_here : (n : ℕ) (ts : List Token) → begins_in (a word.Between) (drop n ts) ≡ true → place_of_word n ts ≡ n
  place_here n ts h = by (begins_in (a word.Between) (drop n ts)) h
    where
      by : (b : Bool) → b ≡ true → cond b n (n - 1) ≡ n
      by b h = rw h refl

  place_before : (n : ℕ) (ts : List Token) → begins_in (a word.Between) (drop n ts) ≡ false → place_of_word n ts ≡ n - 1
  place_before n ts h = by (begins_in (a word.Between) (drop n ts)) h
    where
      by : (b : Bool) → b ≡ false → cond b n (n - 1) ≡ n - 1
      by b h = rw h refl

  -- a reader stopped behind front
  module _ (ts front after : List Token) (whole : ts ≡ front ++ after) (left : ℕ) (left_is : length after ≡ left) where
    abbrev read : ℕ
    read = length ts - left

    read_front : length front ≡ read
    read_front = omega (arith, ap length whole, length-append front after, left_is)

    drop_read : drop read ts ≡ after
    drop_read = ap (drop read) whole ∙ drop_at front after read read_front

    abbrev k : ℕ
    k = place_of_word read ts

    -- what is found stands there or directly before
    pub placed : (e : Tree) (t : Token) (rest : List Token) → drop k ts ≡ t ∷ rest → Place front after (take k ts) rest t
    placed e t rest q = by (split front after (take k ts) (t ∷ rest) (sym whole ∙ sym (take-append-drop k ts) ∙ ap (λ z. take k ts ++ z) q))
      where
        bounds : (k ≤ read) × (read ≤ suc k)
        bounds = place_if (begins_in (a word.Between) (drop read ts)) read

        taken : length (take k ts) ≡ k
        taken = length-take-le k ts (omega (arith, bounds.0))

        by_last : (v : Token) (z : List Token) → front ≡ take k ts ++ v ∷ z → t ∷ rest ≡ v ∷ (z ++ after) → Place front after (take k ts) rest t
        by_last v [] p r = last (p ∙ ap (λ i. take k ts ++ i ∷ []) (sym (head_eq r))) (tail_eq r)
        by_last v (u ∷ z) p r = absurd (omega (arith, ap length p, length-append (take k ts) (v ∷ u ∷ z), taken, bounds.0, bounds.1, read_front))

        by : Split front after (take k ts) (t ∷ rest) → Place front after (take k ts) rest t
        by (same p r) = behind p r
        by (longer v z p r) = absurd (omega (arith, ap length p, length-append front (v ∷ z), taken, bounds.0, read_front))
        by (shorter v z p r) = by_last v z p r

    -- where an expression and the word stand, they are found
    module _ (o : Class Token) (within : Within (a word.Between) o) where
      no_word : (rest more : List Token) → SameHead rest more → Stops o more → begins_in (a word.Between) rest ≡ false
      no_word [] more s st = refl
      no_word (u ∷ rest) more s st = by (a word.Between u) refl
        where
          by : (b : Bool) → a word.Between u ≡ b → a word.Between u ≡ false
          by true e = let i : o u ≡ true = within u e in let j : o u ≡ false = subst (Stops o) s.1 st in cc
          by false e = e

      pub not_missed : (more x y : List Token) (t : Token) (e : Tree) → a word.Between t ≡ true → SameHead after more → Stops o y → (expression text).read x ≡ Ok (e, []) → Place front more x y t → ended_at text k ts ≡ None → ⊥
      not_missed more x y t e h s st r (behind p q) none =
          let i = rest_begins after more y t s q in
          let c : begins_in (a word.Between) (drop read ts) ≡ true = subst (λ z. begins_in (a word.Between) z ≡ true) (sym (drop_read ∙ i.1)) h in
          let l = place_here read ts c in
          let w = ended_at_word x t i.0 e k ts (whole ∙ ap (λ z. z ++ after) p ∙ ap (λ z. x ++ z) i.1) (ap length (sym p) ∙ read_front ∙ sym l) h r in
          cc (sym none ∙ w)
      not_missed more x y t e h s st r (last p q) none =
          let c : begins_in (a word.Between) (drop read ts) ≡ false = subst (λ z. begins_in (a word.Between) z ≡ false) (sym drop_read) (no_word after more s (subst (Stops o) q st)) in
          let j = place_before read ts c in
          let l : length x ≡ k = omega (arith, j, ap length p, length-append x (t ∷ []), read_front) in
          let w = ended_at_word x t after e k ts (whole ∙ ap (λ z. z ++ after) p ∙ append_one x t after) l h r in
          cc (sym none ∙ w)
