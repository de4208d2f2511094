-- What a parser promises of its answer fixes what the reader gives: a text stops at one place, and for one reason.
use Rattle.std.proofs.Common.{◌≡◌, ℕ, suc, ◌+◌, Bool, List, [], ◌∷◌, ◌++◌, length, Result, Ok, Err, refl, sym, ◌∙◌, ap, subst, arith, append_assoc, length-append}
use Rattle.grammar.specs.Gives.{Gives}
use Rattle.grammar.specs.Parses.{SameNext, FailsAt, GoesOn, IsOnly, Parses}
use Rattle.grammar.specs.Reading.{Class, Rule, Stop, syntax_at, limit_at, read_whole}
use Rattle.grammar.specs.declared.refused.Refused.{Refused}
use Rattle.grammar.specs.declared.refused.Refused.TheVariants.{Syntax, Limit}
use Rattle.grammar.proofs.Laws.{Law}
use Rattle.grammar.proofs.WholeLaws.{parses, reads_text}
use Rattle.sql_syntax.proofs.Splits.{Split, same, longer, shorter, split}

abbrev Within : {T A : Type 0} → (List T → A → Type 0) → (List T → A → Type 0) → Type 0
Within {T} {A} P B = (x : List T) (a : A) → P x a → B x a

same_next : {T : Type 0} (ts : List T) → SameNext ts ts
same_next [] = refl
same_next (t ∷ ts) = (ts, refl)

next_is : {T : Type 0} (after : List T) (t : T) (z more : List T) → after ≡ t ∷ z → SameNext after (t ∷ more)
next_is after t z more e = subst (λ u. SameNext u (t ∷ more)) (sym e) (more, refl)

-- what stops goes on with nothing that begins longer
goes_no_further : {T A : Type 0} {P B : List T → A → Type 0} (ts : List T) (n : ℕ) (h : FailsAt P B ts n) (t : T) (z more : List T) (a : A) (rest : List T) → h.after ≡ t ∷ rest → B ((h.front ++ t ∷ z) ++ more) a → ⊥
goes_no_further {B = B} ts n h t z more a rest e w =
    h.no_more (t ∷ (z ++ more)) a (next_is h.after t rest (z ++ more) e) (subst (λ u. B u a) (append_assoc h.front (t ∷ z) more) w)

-- one place
pub one_place : {T A : Type 0} {P B C : List T → A → Type 0} (ts : List T) (n m : ℕ) → Within P B → Within P C → FailsAt P B ts n → FailsAt P C ts m → n ≡ m
one_place {P = P} {B = B} {C = C} ts n m b c h k = go (split h.front h.after k.front k.after (sym h.whole ∙ k.whole))
  where
    go : Split h.front h.after k.front k.after → n ≡ m
    go (same e i) = sym h.left_is ∙ ap length i ∙ k.left_is
    go (longer t z e i) =
        absurd (goes_no_further ts n h t z k.more k.value (z ++ k.after) i (b ((h.front ++ t ∷ z) ++ k.more) k.value (subst (λ u. P (u ++ k.more) k.value) e k.begins)))
    go (shorter t z e i) =
        absurd (goes_no_further ts m k t z h.more h.value (z ++ h.after) i (c ((k.front ++ t ∷ z) ++ h.more) h.value (subst (λ u. P (u ++ h.more) h.value) e h.begins)))

no_longer : {T : Type 0} (after after' : List T) (t : T) (z : List T) (n : ℕ) → after' ≡ t ∷ (z ++ after) → length after ≡ n → length after' ≡ n → ⊥
no_longer after after' t z n e i j =
    let k : length after' ≡ suc (length (z ++ after)) = ap length e in
    let l : length (z ++ after) ≡ length z + length after = length-append z after in
    omega (arith, k, l, i, j)

-- what begins nothing without limits goes on in no text without limits
pub goes_nowhere : {T A : Type 0} {P U : List T → A → Type 0} (ts : List T) (n : ℕ) → FailsAt P U ts n → GoesOn U ts n → ⊥
goes_nowhere {U = U} ts n h g = go (split h.front h.after g.front (g.next ∷ g.after) (sym h.whole ∙ g.whole))
  where
    go : Split h.front h.after g.front (g.next ∷ g.after) → ⊥
    go (same e i) = h.no_more (g.next ∷ g.more) g.value (next_is h.after g.next g.after g.more i) (subst (λ u. U (u ++ g.next ∷ g.more) g.value) (sym e) g.begins)
    go (longer t z e i) = goes_no_further ts n h t z (g.next ∷ g.more) g.value (z ++ g.next ∷ g.after) i (subst (λ u. U (u ++ g.next ∷ g.more) g.value) e g.begins)
    go (shorter t z e i) = no_longer h.after (g.next ∷ g.after) t z n i h.left_is g.left_is

-- what is a text stops nowhere
pub never_fails : {T A : Type 0} {P B : List T → A → Type 0} (ts : List T) (n : ℕ) (a : A) → B ts a → FailsAt P B ts n → ⊥
never_fails {B = B} ts n a w h = h.no_more h.after a (same_next h.after) (subst (λ z. B z a) h.whole w)

module _ {T A : Type 0} (p : Rule T A) (f : Class T) (n : Bool) (c : Class T) (law : Law p f n c) (ts : List T) where
  abbrev Read : Result A Stop → Type 0
  Read q = read_whole p ts ≡ q

  promise : (r : Result A Refused) → Gives (λ (a : A). a) r (read_whole p ts) → Parses p (λ (a : A). a) ts r
  promise r g = parses (λ (a : A). a) ts r law g

  within : Within p.texts p.free
  within x a w = law.shape.within x a w

  inside : Within p.texts p.texts
  inside x a w = w

  pub reads_all : (a : A) → IsOnly p.texts p.free ts a → read_whole p ts ≡ Ok a
  reads_all a h = reads_text law ts a h.text

  syntax_then : (left : ℕ) → FailsAt p.texts p.free ts left → (q : Result A Stop) → Read q → q ≡ Err (syntax_at left)
  syntax_then left h (Ok a) e = let k : IsOnly p.texts p.free ts a = promise (Ok a) e in absurd (never_fails ts left a (within ts a k.text) h)
  syntax_then left h (Err (syntax_at m)) e =
      let k : FailsAt p.texts p.free ts m = promise (Err (Syntax m)) e in
      ap (λ z. Err (syntax_at z)) (one_place ts m left within within k h)
  syntax_then left h (Err (limit_at m)) e =
      let k : FailsAt p.texts p.texts ts m × GoesOn p.free ts m = promise (Err (Limit m)) e in
      absurd (goes_nowhere ts left h (subst (λ z. GoesOn p.free ts z) (one_place ts m left inside within k.0 h) k.1))

  -- the reader stops where the text begins nothing, even without limits
  pub stops_there : (left : ℕ) → FailsAt p.texts p.free ts left → read_whole p ts ≡ Err (syntax_at left)
  stops_there left h = syntax_then left h (read_whole p ts) refl

  limit_then : (left : ℕ) → FailsAt p.texts p.texts ts left → GoesOn p.free ts left → (q : Result A Stop) → Read q → q ≡ Err (limit_at left)
  limit_then left h g (Ok a) e = let k : IsOnly p.texts p.free ts a = promise (Ok a) e in absurd (never_fails ts left a k.text h)
  limit_then left h g (Err (syntax_at m)) e =
      let k : FailsAt p.texts p.free ts m = promise (Err (Syntax m)) e in
      absurd (goes_nowhere ts left (subst (λ z. FailsAt p.texts p.free ts z) (one_place ts m left within inside k h) k) g)
  limit_then left h g (Err (limit_at m)) e =
      let k : FailsAt p.texts p.texts ts m × GoesOn p.free ts m = promise (Err (Limit m)) e in
      ap (λ z. Err (limit_at z)) (one_place ts m left inside inside k.0 h)

  -- and where only the limits bar what goes on
  pub limits_there : (left : ℕ) → FailsAt p.texts p.texts ts left → GoesOn p.free ts left → read_whole p ts ≡ Err (limit_at left)
  limits_there left h g = limit_then left h g (read_whole p ts) refl
