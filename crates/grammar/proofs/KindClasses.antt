-- The side conditions of the laws, by computation over the kinds of tokens. A crate above has a list
-- of its kinds, a proof that it is complete, and a sample token of each kind.
use Rattle.std.proofs.Common.{◌≡◌, ℕ, zero, suc, ◌<◌, arith, length, get_or, Bool, true, false, ◌&&◌, ◌||◌, not, List, [], ◌∷◌, refl}
use Rattle.grammar.specs.Reading.{Class}
use Rattle.grammar.specs.KindClasses.{of_kind, every}
use Rattle.grammar.proofs.Laws.{Disjoint, Within}

and_left : (a b : Bool) → (a && b) ≡ true → a ≡ true
and_left true b h = refl
and_left false b h = cc

and_right : (a b : Bool) → (a && b) ≡ true → b ≡ true
and_right true b h = h
and_right false b h = cc

apart_if : (a b : Bool) → not (a && b) ≡ true → a ≡ true → b ≡ false
apart_if true true h e = cc
apart_if true false h e = refl
apart_if false b h e = cc

within_if : (a b : Bool) → (not a || b) ≡ true → a ≡ true → b ≡ true
within_if true b h e = h
within_if false b h e = cc

-- The n-th of a list of which each passes the test; for proofs that a list of kinds is complete.
pub every_at : {K : Type 0} (p : K → Bool) (ks : List K) (other : K) (n : ℕ) → every p ks ≡ true → n < length ks → p (get_or ks n other) ≡ true
every_at p [] other n h g = absurd (omega arith)
every_at p (k ∷ ks) other zero h g = and_left (p k) (every p ks) h
every_at p (k ∷ ks) other (suc n) h g = every_at p ks other n (and_right (p k) (every p ks) h) (omega arith)

module _ {T K : Type 0} (kind_of : T → K) (kinds : List K) (complete : (p : K → Bool) → every p kinds ≡ true → (k : K) → p k ≡ true) where
  -- Tests of kinds that never pass together.
  pub apart_kinds : (f c : K → Bool) → every (λ k. not (f k && c k)) kinds ≡ true → Disjoint (of_kind kind_of f) (of_kind kind_of c)
  apart_kinds f c h t e = apart_if (f (kind_of t)) (c (kind_of t)) (complete (λ j. not (f j && c j)) h (kind_of t)) e

  -- A test of kinds that passes where another does.
  pub within_kinds : (f g : K → Bool) → every (λ k. not (f k) || g k) kinds ≡ true → Within (of_kind kind_of f) (of_kind kind_of g)
  within_kinds f g h t e = within_if (f (kind_of t)) (g (kind_of t)) (complete (λ j. not (f j) || g j) h (kind_of t)) e

  -- The same for classes of tokens that look at the kind alone: `(λ t. refl)` shows that they do.
  module _ (sample : K → T) where
    pub apart : (f c : Class T) → ((t : T) → (f t && c t) ≡ (f (sample (kind_of t)) && c (sample (kind_of t)))) → every (λ k. not (f (sample k) && c (sample k))) kinds ≡ true → Disjoint f c
    apart f c same h t e = apart_if (f t) (c t) (rw (same t) (complete (λ k. not (f (sample k) && c (sample k))) h (kind_of t))) e

    pub within : (f g : Class T) → ((t : T) → (not (f t) || g t) ≡ (not (f (sample (kind_of t))) || g (sample (kind_of t)))) → every (λ k. not (f (sample k)) || g (sample k)) kinds ≡ true → Within f g
    within f g same h t e = within_if (f t) (g t) (rw (same t) (complete (λ k. not (f (sample k)) || g (sample k)) h (kind_of t))) e
