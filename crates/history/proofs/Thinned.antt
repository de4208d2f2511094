-- What is so of a list is so without some of its elements.
use Rattle.std.proofs.Common.{◌≡◌, ap, sym, refl, subst, Bool, false, ◌||◌, List, [], ◌∷◌, ◌++◌, filter, find, map, inl, inr}
use Rattle.std.specs.List.{list_any, flat_map, All}
use Rattle.std.proofs.lemmas.Bool.{cases_Bool}
use Rattle.std.proofs.lemmas.List.Elements.{All-cons, All-head, All-tail}
use Rattle.history.specs.Thinned.{Thins}

-- nothing is left out
pub thin_none : {X : Type 0} (P : X → Type 0) (xs : List X) → Thins P xs xs
thin_none P [] = tt
thin_none P (x ∷ xs) = inr (xs, refl, thin_none P xs)

pub thin_weaker : {X : Type 0} (P Q : X → Type 0) → ((x : X) → P x → Q x) → (xs ys : List X) → Thins P xs ys → Thins Q xs ys
thin_weaker P Q weaker [] [] t = t
thin_weaker P Q weaker [] (y ∷ ys) t = t
thin_weaker P Q weaker (x ∷ xs) ys t = elim t [
  | inl out ↦ inl (weaker x out.0, thin_weaker P Q weaker xs ys out.1)
  | inr kept ↦ inr (kept.0, kept.1, thin_weaker P Q weaker xs kept.0 kept.2)
]

-- a test that none of those passes
pub thin_filter : {X : Type 0} (P : X → Type 0) (p : X → Bool) → ((x : X) → P x → p x ≡ false) → (xs ys : List X) → Thins P xs ys → filter p ys ≡ filter p xs
thin_filter P p fails [] [] t = refl
thin_filter P p fails [] (y ∷ ys) t = absurd t
thin_filter P p fails (x ∷ xs) ys t = elim t [
  | inl out ↦ let off : p x ≡ false = fails x out.0 in rw off (thin_filter P p fails xs ys out.1)
  | inr kept ↦
      let rest = thin_filter P p fails xs kept.0 kept.2 in
      elim (cases_Bool (p x)) [
        | inl y ↦ rw (kept.1, y) (ap (λ zs. x ∷ zs) rest)
        | inr n ↦ rw (kept.1, n) rest
      ]
]

pub thin_find : {X : Type 0} (P : X → Type 0) (p : X → Bool) → ((x : X) → P x → p x ≡ false) → (xs ys : List X) → Thins P xs ys → find p ys ≡ find p xs
thin_find P p fails [] [] t = refl
thin_find P p fails [] (y ∷ ys) t = absurd t
thin_find P p fails (x ∷ xs) ys t = elim t [
  | inl out ↦ let off : p x ≡ false = fails x out.0 in rw off (thin_find P p fails xs ys out.1)
  | inr kept ↦
      let rest = thin_find P p fails xs kept.0 kept.2 in
      elim (cases_Bool (p x)) [ inl y ↦ rw (kept.1, y) refl | inr n ↦ rw (kept.1, n) rest ]
]

pub thin_any : {X : Type 0} (P : X → Type 0) (p : X → Bool) → ((x : X) → P x → p x ≡ false) → (xs ys : List X) → Thins P xs ys → list_any p ys ≡ list_any p xs
thin_any P p fails [] [] t = refl
thin_any P p fails [] (y ∷ ys) t = absurd t
thin_any P p fails (x ∷ xs) ys t = elim t [
  | inl out ↦ let off : p x ≡ false = fails x out.0 in rw off (thin_any P p fails xs ys out.1)
  | inr kept ↦ rw kept.1 (ap (λ b. p x || b) (thin_any P p fails xs kept.0 kept.2))
]

-- those that pass a test, of both
pub thin_passed : {X : Type 0} (P : X → Type 0) (p : X → Bool) (xs ys : List X) → Thins P xs ys → Thins P (filter p xs) (filter p ys)
thin_passed P p [] [] t = tt
thin_passed P p [] (y ∷ ys) t = absurd t
thin_passed P p (x ∷ xs) ys t = elim t [
  | inl out ↦
      let rest = thin_passed P p xs ys out.1 in
      elim (cases_Bool (p x)) [ inl y ↦ rw y (inl (out.0, rest)) | inr n ↦ rw n rest ]
  | inr kept ↦
      let rest = thin_passed P p xs kept.0 kept.2 in
      elim (cases_Bool (p x)) [ inl y ↦ rw (kept.1, y) (inr (filter p kept.0, refl, rest)) | inr n ↦ rw (kept.1, n) rest ]
]

-- more are left out: those that fail a test
pub thin_more_out : {X : Type 0} (P : X → Type 0) (p : X → Bool) (xs ys : List X) → Thins P xs ys → All (λ y. p y ≡ false → P y) ys → Thins P xs (filter p ys)
thin_more_out P p [] [] t out = tt
thin_more_out P p [] (y ∷ ys) t out = absurd t
thin_more_out {X} P p (x ∷ xs) ys t out = elim t [
  | inl gone ↦ inl (gone.0, thin_more_out P p xs ys gone.1 out)
  | inr kept ↦
      let Q : X → Type 0 = λ y. p y ≡ false → P y in
      let all : All Q (x ∷ kept.0) = subst (All Q) kept.1 out in
      let rest = thin_more_out P p xs kept.0 kept.2 (All-tail Q x kept.0 all) in
      elim (cases_Bool (p x)) [
        | inl y ↦ rw (kept.1, y) (inr (filter p kept.0, refl, rest))
        | inr n ↦ rw (kept.1, n) (inl (All-head Q x kept.0 all n, rest))
      ]
]

-- one behind the other
pub thin_append : {X : Type 0} (P : X → Type 0) (xs ys us vs : List X) → Thins P xs ys → Thins P us vs → Thins P (xs ++ us) (ys ++ vs)
thin_append P [] [] us vs t u = u
thin_append P [] (y ∷ ys) us vs t u = absurd t
thin_append P (x ∷ xs) ys us vs t u = elim t [
  | inl out ↦ inl (out.0, thin_append P xs ys us vs out.1 u)
  | inr kept ↦ inr (kept.0 ++ vs, ap (λ zs. zs ++ vs) kept.1, thin_append P xs kept.0 us vs kept.2 u)
]

pub thin_flat_map : {X Y : Type 0} (P : X → Type 0) (f g : Y → List X) (ls : List Y) → All (λ l. Thins P (f l) (g l)) ls → Thins P (flat_map f ls) (flat_map g ls)
thin_flat_map P f g [] all = tt
thin_flat_map {X} {Y} P f g (l ∷ ls) all =
    let Q : Y → Type 0 = λ y. Thins P (f y) (g y) in
    thin_append P (f l) (g l) (flat_map f ls) (flat_map g ls) (All-head Q l ls all) (thin_flat_map P f g ls (All-tail Q l ls all))

pub thin_map : {X Y : Type 0} (P : X → Type 0) (Q : Y → Type 0) (f : X → Y) → ((x : X) → P x → Q (f x)) → (xs ys : List X) → Thins P xs ys → Thins Q (map f xs) (map f ys)
thin_map P Q f to [] [] t = tt
thin_map P Q f to [] (y ∷ ys) t = absurd t
thin_map P Q f to (x ∷ xs) ys t = elim t [
  | inl out ↦ inl (to x out.0, thin_map P Q f to xs ys out.1)
  | inr kept ↦ inr (map f kept.0, ap (map f) kept.1, thin_map P Q f to xs kept.0 kept.2)
]

-- some are left out, and then some more
pub thin_again : {X : Type 0} (P : X → Type 0) (xs ys zs : List X) → Thins P xs ys → Thins P ys zs → Thins P xs zs
thin_again P [] [] zs t u = u
thin_again P [] (y ∷ ys) zs t u = absurd t
thin_again P (x ∷ xs) ys zs t u = elim t [
  | inl out ↦ inl (out.0, thin_again P xs ys zs out.1 u)
  | inr kept ↦ elim (subst (λ l. Thins P l zs) kept.1 u) [
    | inl gone ↦ inl (gone.0, thin_again P xs kept.0 zs kept.2 gone.1)
    | inr left ↦ inr (left.0, left.1, thin_again P xs kept.0 left.0 kept.2 left.2)
  ]
]

-- what holds of all holds of those that are left
pub thin_all : {X : Type 0} (P Q : X → Type 0) (xs ys : List X) → Thins P xs ys → All Q xs → All Q ys
thin_all P Q [] [] t all = all
thin_all P Q [] (y ∷ ys) t all = absurd t
thin_all P Q (x ∷ xs) ys t all = elim t [
  | inl out ↦ thin_all P Q xs ys out.1 (All-tail Q x xs all)
  | inr kept ↦ subst (All Q) (sym kept.1) (All-cons Q x kept.0 (All-head Q x xs all) (thin_all P Q xs kept.0 kept.2 (All-tail Q x xs all)))
]
