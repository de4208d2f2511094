-- The greatest of the numbers in several parts.
use Rattle.std.proofs.Common.{◌≡◌, ℕ, ◌+◌, ◌<◌, max, List, [], ◌∷◌, ◌++◌, map, drop, length, get_or, refl, ap, ◌∙◌, arith}
use Rattle.expression_binder.proofs.Lists.{later_step}
use Rattle.prepared_statements.specs.Numbers.{greatest_of}

pub greatest_both : (xs ys : List ℕ) → greatest_of (xs ++ ys) ≡ max (greatest_of xs) (greatest_of ys)
greatest_both [] ys = omega arith
greatest_both (x ∷ xs) ys = let rest = greatest_both xs ys in omega (arith, rest)

pub of_two : (xs ys all : List ℕ) (a b r : ℕ) → all ≡ xs ++ ys → a ≡ greatest_of xs → b ≡ greatest_of ys → r ≡ max a b → r ≡ greatest_of all
of_two xs ys all a b r is ha hb hr = let w = ap greatest_of is ∙ greatest_both xs ys in omega (arith, w, ha, hb, hr)

pub of_three : (xs ys zs all : List ℕ) (a b d m r : ℕ) → all ≡ xs ++ (ys ++ zs) → a ≡ greatest_of xs → b ≡ greatest_of ys → d ≡ greatest_of zs → m ≡ max b d → r ≡ max a m → r ≡ greatest_of all
of_three xs ys zs all a b d m r is ha hb hd hm hr = of_two xs (ys ++ zs) all a m r is ha (of_two ys zs (ys ++ zs) b d m refl hb hd hm) hr

-- where the numbers of a list are those of its parts, one behind the other: one part more
module _ {A B : Type 0} (f : A → B) (P : List B → List ℕ) (part : B → List ℕ) (step : (b : B) (bs : List B) → P (b ∷ bs) ≡ part b ++ P bs)
    (xs : List A) (i : ℕ) (x : A) (within : i < length xs) (is : x ≡ get_or xs i x) where
  whole : greatest_of (P (map f (drop i xs))) ≡ max (greatest_of (part (f x))) (greatest_of (P (map f (drop (i + 1) xs))))
  whole =
      ap (λ l. greatest_of (P l)) (later_step f xs i x within is)
      ∙ (ap greatest_of (step (f x) (map f (drop (i + 1) xs))) ∙ greatest_both (part (f x)) (P (map f (drop (i + 1) xs))))

  pub part_passed : (m a r total : ℕ) → max m (greatest_of (P (map f (drop i xs)))) ≡ total → a ≡ greatest_of (part (f x)) → r ≡ max m a → max r (greatest_of (P (map f (drop (i + 1) xs)))) ≡ total
  part_passed m a r total so_far first more = let w = whole in omega (arith, w, so_far, first, more)
