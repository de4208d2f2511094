-- Tallies of sorted lists, and of the stored points of one child.
use Rattle.std.proofs.Common.{◌≡◌, ℕ, zero, suc, ◌+◌, ◌<◌, ◌≤◌, Bool, true, false, not, ◌&&◌, ◌||◌, List, [], ◌∷◌, ◌++◌, map, filter, length, take, drop, get_or, refl, sym, ap, ◌∙◌, arith, nat_lt, add-one, if◌then◌else◌}
use Rattle.std.specs.Prelude.{◌==◌, slice_get, Option, Some, None}
use Rattle.std.proofs.lemmas.List.{drop_all}
use Rattle.std.specs.List.{list_any}
use Rattle.std.proofs.lemmas.Bool.Decides.{nat_tests}
use Rattle.part_bounds.specs.Sorted.{insert, sorted}
use Rattle.prune_steps.specs.Tallies.{one, tally}

zero_add : (n : ℕ) → 0 + n ≡ n
zero_add n = omega arith

pub tally_insert : {X : Type 0} (p : X → Bool) (lt : X → X → Bool) (x : X) (xs : List X) → tally p (insert lt x xs) ≡ one (p x) + tally p xs
tally_insert p lt x [] = refl
tally_insert p lt x (y ∷ ys) = by (lt y x) (tally_insert p lt x ys)
  where
    by : (t : Bool) → tally p (insert lt x ys) ≡ one (p x) + tally p ys → tally p (if t then y ∷ insert lt x ys else x ∷ y ∷ ys) ≡ one (p x) + (one (p y) + tally p ys)
    by true ih = omega (arith, ih)
    by false ih = refl

pub tally_sorted : {X : Type 0} (p : X → Bool) (lt : X → X → Bool) (xs : List X) → tally p (sorted lt xs) ≡ tally p xs
tally_sorted p lt [] = refl
tally_sorted p lt (x ∷ xs) = tally_insert p lt x (sorted lt xs) ∙ ap (λ n. one (p x) + n) (tally_sorted p lt xs)

pub tally_append : {X : Type 0} (p : X → Bool) (xs ys : List X) → tally p (xs ++ ys) ≡ tally p xs + tally p ys
tally_append p [] ys = omega arith
tally_append p (x ∷ xs) ys = let ih = tally_append p xs ys in omega (arith, ih)

pub tally_map : {X Y : Type 0} (p : Y → Bool) (f : X → Y) (xs : List X) → tally p (map f xs) ≡ tally (λ x. p (f x)) xs
tally_map p f [] = refl
tally_map p f (x ∷ xs) = ap (λ n. one (p (f x)) + n) (tally_map p f xs)

pub tally_filter : {X : Type 0} (p q : X → Bool) (xs : List X) → tally q (filter p xs) ≡ tally (λ x. p x && q x) xs
tally_filter p q [] = refl
tally_filter p q (x ∷ xs) = by (p x) (tally_filter p q xs)
  where
    by : (t : Bool) → tally q (filter p xs) ≡ tally (λ y. p y && q y) xs → tally q (if t then x ∷ filter p xs else filter p xs) ≡ one (t && q x) + tally (λ y. p y && q y) xs
    by true ih = ap (λ n. one (q x) + n) ih
    by false ih = omega (arith, ih)

pub tally_beside : {X : Type 0} (t : Bool) (q : X → Bool) (xs : List X) → tally (λ x. t && q x) xs ≡ (if t then tally q xs else 0)
tally_beside true q [] = refl
tally_beside false q [] = refl
tally_beside true q (x ∷ xs) = ap (λ n. one (q x) + n) (tally_beside true q xs)
tally_beside false q (x ∷ xs) = let ih = tally_beside false q xs in omega (arith, ih)

-- one more of the first elements
pub tally_more : {X : Type 0} (p : X → Bool) (xs : List X) (i : ℕ) (d : X) → i < length xs → tally p (take (suc i) xs) ≡ one (p (get_or xs i d)) + tally p (take i xs)
tally_more p [] i d h = absurd (omega arith)
tally_more p (x ∷ xs) zero d h = refl
tally_more p (x ∷ xs) (suc i) d h = let ih = tally_more p xs i d (omega (arith, h)) in omega (arith, ih)

pub take_whole : {X : Type 0} (xs : List X) → take (length xs) xs ≡ xs
take_whole [] = refl
take_whole (x ∷ xs) = ap (λ ys. x ∷ ys) (take_whole xs)

-- one element of the list passes
pub tally_any : {X : Type 0} (p : X → Bool) (xs : List X) → nat_lt 0 (tally p xs) ≡ list_any p xs
tally_any p [] = refl
tally_any p (x ∷ xs) = by (p x) (tally_any p xs)
  where
    by : (t : Bool) → nat_lt 0 (tally p xs) ≡ list_any p xs → nat_lt 0 (one t + tally p xs) ≡ (t || list_any p xs)
    by true ih = grind (arith, nat_tests)
    by false ih = rw (zero_add (tally p xs)) ih

tally_both : {X : Type 0} (p q : X → Bool) (xs : List X) → tally (λ x. p x && q x) xs ≤ tally p xs
tally_both p q [] = omega arith
tally_both p q (x ∷ xs) = by (p x) (q x) (tally_both p q xs)
  where
    by : (s t : Bool) → tally (λ y. p y && q y) xs ≤ tally p xs → one (s && t) + tally (λ y. p y && q y) xs ≤ one s + tally p xs
    by true true ih = omega (arith, ih)
    by true false ih = omega (arith, ih)
    by false t ih = omega (arith, ih)

-- of those that pass p, one fails q
pub tally_outside : {X : Type 0} (p q : X → Bool) (xs : List X) → nat_lt (tally (λ x. p x && q x) xs) (tally p xs) ≡ list_any (λ x. p x && not (q x)) xs
tally_outside p q [] = refl
tally_outside p q (x ∷ xs) = by (p x) (q x) (tally_both p q xs) (tally_outside p q xs)
  where
    by : (s t : Bool) → tally (λ y. p y && q y) xs ≤ tally p xs → nat_lt (tally (λ y. p y && q y) xs) (tally p xs) ≡ list_any (λ y. p y && not (q y)) xs
        → nat_lt (one (s && t) + tally (λ y. p y && q y) xs) (one s + tally p xs) ≡ ((s && not t) || list_any (λ y. p y && not (q y)) xs)
    by true true le ih = shift (tally (λ y. p y && q y) xs) (tally p xs) ∙ ih
      where
        shift : (a b : ℕ) → nat_lt (1 + a) (1 + b) ≡ nat_lt a b
        shift a b = grind (arith, nat_tests)
    by true false le ih = below (tally (λ y. p y && q y) xs) (tally p xs) le
      where
        below : (a b : ℕ) → a ≤ b → nat_lt (0 + a) (1 + b) ≡ true
        below a b h = grind (arith, nat_tests, h)
    by false t le ih = rw (zero_add (tally (λ y. p y && q y) xs), zero_add (tally p xs)) ih

pub tally_none : {X : Type 0} (p : X → Bool) (xs : List X) (i : ℕ) (d : X) → i < length xs → p (get_or xs i d) ≡ true → 0 < tally p xs
tally_none p [] i d h e = absurd (omega arith)
tally_none p (x ∷ xs) zero d h e = rw e (omega arith)
tally_none p (x ∷ xs) (suc i) d h e = let ih = tally_none p xs i d (omega (arith, h)) e in omega (arith, ih)

tally_drop : {X : Type 0} (p : X → Bool) (xs : List X) (i : ℕ) (x : X) → slice_get xs i ≡ Some x → tally p (drop i xs) ≡ one (p x) + tally p (drop (suc i) xs)
tally_drop p [] i x e = cc
tally_drop p (y ∷ xs) zero x e = let is : y ≡ x = cc in rw is refl
tally_drop p (y ∷ xs) (suc i) x e = tally_drop p xs i x e

pub tally_at : {X : Type 0} (p : X → Bool) (xs : List X) (i : ℕ) (x : X) → slice_get xs i ≡ Some x → tally p (drop i xs) ≡ one (p x) + tally p (drop (i + 1) xs)
tally_at p xs i x e = tally_drop p xs i x e ∙ rw add-one refl

pub tally_end : {X : Type 0} (p : X → Bool) (xs : List X) (i : ℕ) → length xs ≤ i → tally p (drop i xs) ≡ 0
tally_end p xs i h = rw (drop_all i xs h) refl

pub counted_more : {X : Type 0} (p : X → Bool) (xs : List X) (i n m all : ℕ) (x : X) → slice_get xs i ≡ Some x → m ≡ one (p x) → n + tally p (drop i xs) ≡ all → n + m + tally p (drop (i + 1) xs) ≡ all
counted_more p xs i n m all x e is told = let step = tally_at p xs i x e in omega (arith, step, is, told)

pub counted_most : (t : Bool) (i n m : ℕ) → m ≡ one t → n ≤ i → n + m ≤ i + 1
counted_most true i n m is h = omega (arith, is, h)
counted_most false i n m is h = omega (arith, is, h)

pub counted_end : {X : Type 0} (p : X → Bool) (xs : List X) (i n all : ℕ) → length xs ≤ i → n + tally p (drop i xs) ≡ all → n ≡ all
counted_end p xs i n all h told = let none = tally_end p xs i h in omega (arith, none, told)
