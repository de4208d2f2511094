-- The entries below a table in plain order.
use Rattle.std.proofs.Common.{◌≡◌, ℕ, suc, arith, ap, refl, sym, subst, ◌∙◌, Bool, true, false, if◌then◌else◌, List, [], ◌∷◌, filter, map, get_or, inl, inr}
use Rattle.std.specs.List.{All, AllPairs}
use Rattle.std.proofs.lemmas.Bool.{cases_Bool}
use Rattle.std.proofs.lemmas.Bool.Decides.{nat_tests}
use Rattle.std.proofs.lemmas.List.Elements.{All-cons, All-head, All-tail, All-nil}
use Rattle.std.proofs.lemmas.List.Kept.{AllPairs-cons}
use Rattle.bound_forms.specs.declared.partition_bound.Bound.{Bound}
use Rattle.bound_forms.specs.Bounds.{comes_after, with_bound, with_bounds, in_plain_order, overlaps, are_siblings, IsInPlainOrder}
use Rattle.bound_forms.proofs.PlainOrder.{All-with_bound, sorted-with_bound, pairs-with_bound, order_sorts, plain_total}
use Rattle.bound_forms.proofs.OverlapLaws.{overlaps_turned, siblings_turn}
use Rattle.bound_forms.proofs.TotalOrder.{le_trans}
use Rattle.history.specs.declared.catalogue.Entry.{Entry}
use Rattle.row_router.specs.Histories.{placed, all_placed, is_under, children, bound_of}
use Rattle.row_router.specs.Siblings.{CanStandTogether, AreSiblings}

abbrev Before : Bound → Bound → Type 0
Before a b = comes_after a b ≡ false

pairs-head : {X : Type 0} (R : X → X → Type 0) (x : X) (xs : List X) → AllPairs R (x ∷ xs) → All (R x) xs
pairs-head R x xs h i d lt = h 0 (suc i) d (omega arith) (omega arith)

pairs-tail : {X : Type 0} (R : X → X → Type 0) (x : X) (xs : List X) → AllPairs R (x ∷ xs) → AllPairs R xs
pairs-tail R x xs h i j d lt le = h (suc i) (suc j) d (omega arith) (omega arith)

-- ---- as bounds

placed_bounds : (e : Entry) (xs : List Entry) → map bound_of (placed e xs) ≡ with_bound e.bound (map bound_of xs)
placed_bounds e [] = refl
placed_bounds e (x ∷ xs) = elim (cases_Bool (comes_after x.bound e.bound)) [
  | inl y ↦ rw y refl
  | inr n ↦ rw n (ap (λ bs. x.bound ∷ bs) (placed_bounds e xs))
]

all_placed_bounds : (done es : List Entry) → map bound_of (all_placed done es) ≡ with_bounds (map bound_of es) (map bound_of done)
all_placed_bounds done [] = refl
all_placed_bounds done (e ∷ es) = all_placed_bounds (placed e done) es ∙ ap (with_bounds (map bound_of es)) (placed_bounds e done)

pub children_bounds : (entries : List Entry) (t : ℕ) → map bound_of (children entries t) ≡ in_plain_order (map bound_of (filter (is_under t) entries))
children_bounds entries t = all_placed_bounds [] (filter (is_under t) entries)

-- ---- what holds of pairs of entries below a table holds of their bounds in plain order

abbrev BelowOne : (Bound → Bound → Type 0) → Entry → Entry → Type 0
BelowOne R a b = a.parent.number ≡ b.parent.number → R a.bound b.bound

under_all : (R : Bound → Bound → Type 0) (t : ℕ) (e : Entry) (es : List Entry) → e.parent.number ≡ t → All (BelowOne R e) es → All (R e.bound) (map bound_of (filter (is_under t) es))
under_all R t e [] is h = All-nil (R e.bound)
under_all R t e (x ∷ xs) is h = elim (cases_Bool (is_under t x)) [
  | inl y ↦
      let same : x.parent.number ≡ t = grind (arith, nat_tests, y) in
      rw y (All-cons (R e.bound) x.bound (map bound_of (filter (is_under t) xs)) (All-head (BelowOne R e) x xs h (is ∙ sym same)) (under_all R t e xs is (All-tail (BelowOne R e) x xs h)))
  | inr n ↦ rw n (under_all R t e xs is (All-tail (BelowOne R e) x xs h))
]

under_pairs : (R : Bound → Bound → Type 0) (t : ℕ) (es : List Entry) → AllPairs (BelowOne R) es → AllPairs R (map bound_of (filter (is_under t) es))
under_pairs R t [] h = λ i j d lt le. absurd (omega arith)
under_pairs R t (e ∷ es) h =
    let rest = under_pairs R t es (pairs-tail (BelowOne R) e es h) in
    elim (cases_Bool (is_under t e)) [
      | inl y ↦
          let is : e.parent.number ≡ t = grind (arith, nat_tests, y) in
          rw y (AllPairs-cons R e.bound (map bound_of (filter (is_under t) es)) (under_all R t e es is (pairs-head (BelowOne R) e es h)) rest)
      | inr n ↦ rw n rest
    ]

-- each of these bounds stands so to each of those
abbrev AcrossAll : (Bound → Bound → Type 0) → List Bound → List Bound → Type 0
AcrossAll R more bounds = All (λ b. All (R b) bounds) more

across_step : (R : Bound → Bound → Type 0) → ((a b : Bound) → R a b → R b a) → (b : Bound) (more bounds : List Bound) → All (R b) more → AcrossAll R more bounds → AcrossAll R more (with_bound b bounds)
across_step R turn b [] bounds h across = All-nil (λ c. All (R c) (with_bound b bounds))
across_step R turn b (c ∷ more) bounds h across =
    All-cons (λ x. All (R x) (with_bound b bounds)) c more
    (All-with_bound (R c) b bounds (turn b c (All-head (R b) c more h)) (All-head (λ x. All (R x) bounds) c more across))
    (across_step R turn b more bounds (All-tail (R b) c more h) (All-tail (λ x. All (R x) bounds) c more across))

pairs_joined : (R : Bound → Bound → Type 0) → ((a b : Bound) → R a b → R b a) → (more bounds : List Bound) → AllPairs R bounds → AcrossAll R more bounds → AllPairs R more → AllPairs R (with_bounds more bounds)
pairs_joined R turn [] bounds done across h = done
pairs_joined R turn (b ∷ more) bounds done across h =
    let first : All (R b) bounds = All-head (λ x. All (R x) bounds) b more across in
    pairs_joined R turn more (with_bound b bounds)
    (pairs-with_bound R b bounds first (λ i d lt. turn b (get_or bounds i d) (first i d lt)) done)
    (across_step R turn b more bounds (pairs-head R b more h) (All-tail (λ x. All (R x) bounds) b more across))
    (pairs-tail R b more h)

across_none : (R : Bound → Bound → Type 0) (more : List Bound) → AcrossAll R more []
across_none R [] = All-nil (λ b. All (R b) [])
across_none R (b ∷ more) = All-cons (λ x. All (R x) []) b more (All-nil (R b)) (across_none R more)

ordered_pairs : (R : Bound → Bound → Type 0) → ((a b : Bound) → R a b → R b a) → (bounds : List Bound) → AllPairs R bounds → AllPairs R (in_plain_order bounds)
ordered_pairs R turn bounds h = pairs_joined R turn bounds [] (λ i j d lt le. absurd (omega arith)) (across_none R bounds) h

-- siblings stand in plain order, do not overlap, and their moduli suit
pub siblings_in_order : (entries : List Entry) (t : ℕ) → AreSiblings entries → IsInPlainOrder (map bound_of (children entries t))
siblings_in_order entries t h =
    let Apart : Bound → Bound → Type 0 = λ a b. overlaps a b ≡ false in
    let Beside : Bound → Bound → Type 0 = λ a b. are_siblings a b ≡ true in
    let bounds = map bound_of (filter (is_under t) entries) in
    let apart : AllPairs Apart bounds = under_pairs Apart t entries (λ i j d lt le same. (h i j d lt le same).0) in
    let beside : AllPairs Beside bounds = under_pairs Beside t entries (λ i j d lt le same. (h i j d lt le same).1) in
    subst IsInPlainOrder (sym (children_bounds entries t)) (record {
      sorted = order_sorts bounds;
      apart = ordered_pairs Apart (λ a b e. overlaps_turned b a ∙ e) bounds apart;
      siblings = ordered_pairs Beside (λ a b e. siblings_turn b a ∙ e) bounds beside;
    })

-- ---- a part of the entries in plain order is that part in plain order

abbrev IsAfter : Entry → Entry → Type 0
IsAfter e x = comes_after x.bound e.bound ≡ true

before_all : (e : Entry) (xs : List Entry) → All (IsAfter e) xs → placed e xs ≡ e ∷ xs
before_all e [] h = refl
before_all e (x ∷ xs) h = let first : comes_after x.bound e.bound ≡ true = All-head (IsAfter e) x xs h in rw first refl

kept_all : {X : Type 0} (P : X → Type 0) (p : X → Bool) (xs : List X) → All P xs → All P (filter p xs)
kept_all P p [] h = h
kept_all P p (x ∷ xs) h = elim (cases_Bool (p x)) [
  | inl y ↦ rw y (All-cons P x (filter p xs) (All-head P x xs h) (kept_all P p xs (All-tail P x xs h)))
  | inr n ↦ rw n (kept_all P p xs (All-tail P x xs h))
]

-- what stands behind one that comes after an entry comes after it too
after_trans : (e x y : Entry) → IsAfter e x → Before x.bound y.bound → IsAfter e y
after_trans e x y first later = elim (cases_Bool (comes_after y.bound e.bound)) [
  | inl y ↦ y
  | inr over ↦ let whole : comes_after x.bound e.bound ≡ false = le_trans plain_total x.bound y.bound e.bound later over in absurd (cc)
]

all_after : (e x : Entry) (xs : List Entry) → IsAfter e x → All (Before x.bound) (map bound_of xs) → All (IsAfter e) xs
all_after e x [] first h = All-nil (IsAfter e)
all_after e x (y ∷ ys) first h =
    All-cons (IsAfter e) y ys (after_trans e x y first (All-head (Before x.bound) y.bound (map bound_of ys) h)) (all_after e x ys first (All-tail (Before x.bound) y.bound (map bound_of ys) h))

filter_placed : (p : Entry → Bool) (e : Entry) (xs : List Entry) → AllPairs Before (map bound_of xs) → filter p (placed e xs) ≡ (if p e then placed e (filter p xs) else filter p xs)
filter_placed p e [] sorted = refl
filter_placed p e (x ∷ xs) sorted = elim (cases_Bool (comes_after x.bound e.bound)) [
  | inl y ↦
      let all : All (IsAfter e) (x ∷ xs) = All-cons (IsAfter e) x xs y (all_after e x xs y (pairs-head Before x.bound (map bound_of xs) sorted)) in
      let first : placed e (filter p (x ∷ xs)) ≡ e ∷ filter p (x ∷ xs) = before_all e (filter p (x ∷ xs)) (kept_all (IsAfter e) p (x ∷ xs) all) in
      elim (cases_Bool (p e)) [
        | inl t ↦ rw (y, t) (sym first)
        | inr f ↦ rw (y, f) refl
      ]
  | inr n ↦
      let rest = filter_placed p e xs (pairs-tail Before x.bound (map bound_of xs) sorted) in
      elim (cases_Bool (p x)) [
        | inl t ↦ elim (cases_Bool (p e)) [ inl u ↦ rw (n, t, rest, u, n) refl | inr v ↦ rw (n, t, rest, v) refl ]
        | inr f ↦ rw (n, f) rest
      ]
]

sorted_placed : (e : Entry) (xs : List Entry) → AllPairs Before (map bound_of xs) → AllPairs Before (map bound_of (placed e xs))
sorted_placed e xs sorted = subst (AllPairs Before) (sym (placed_bounds e xs)) (sorted-with_bound e.bound (map bound_of xs) sorted)

filter_all_placed : (p : Entry → Bool) (done es : List Entry) → AllPairs Before (map bound_of done) → filter p (all_placed done es) ≡ all_placed (filter p done) (filter p es)
filter_all_placed p done [] sorted = refl
filter_all_placed p done (e ∷ es) sorted =
    let rest = filter_all_placed p (placed e done) es (sorted_placed e done sorted) in
    let here = filter_placed p e done sorted in
    elim (cases_Bool (p e)) [
      | inl t ↦ rw (rest, here, t) refl
      | inr f ↦ rw (rest, here, f) refl
    ]

filters_turned : {X : Type 0} (p q : X → Bool) (xs : List X) → filter p (filter q xs) ≡ filter q (filter p xs)
filters_turned p q [] = refl
filters_turned p q (x ∷ xs) =
    let rest = filters_turned p q xs in
    elim (cases_Bool (p x)) [
      | inl t ↦ elim (cases_Bool (q x)) [ inl u ↦ rw (t, u, t) (ap (λ ys. x ∷ ys) rest) | inr v ↦ rw (t, v) rest ]
      | inr f ↦ elim (cases_Bool (q x)) [ inl u ↦ rw (f, u, f) rest | inr v ↦ rw (f, v) rest ]
    ]

pub children_of_part : (p : Entry → Bool) (entries : List Entry) (t : ℕ) → filter p (children entries t) ≡ children (filter p entries) t
children_of_part p entries t =
    filter_all_placed p [] (filter (is_under t) entries) (λ i j d lt le. absurd (omega arith)) ∙ ap (all_placed []) (filters_turned p (is_under t) entries)

-- what holds of all entries holds of those below a table
all_of_placed : (P : Entry → Type 0) (e : Entry) (xs : List Entry) → P e → All P xs → All P (placed e xs)
all_of_placed P e [] h all = All-cons P e [] h all
all_of_placed P e (x ∷ xs) h all = elim (cases_Bool (comes_after x.bound e.bound)) [
  | inl y ↦ rw y (All-cons P e (x ∷ xs) h all)
  | inr n ↦ rw n (All-cons P x (placed e xs) (All-head P x xs all) (all_of_placed P e xs h (All-tail P x xs all)))
]

all_of_all_placed : (P : Entry → Type 0) (done es : List Entry) → All P done → All P es → All P (all_placed done es)
all_of_all_placed P done [] d h = d
all_of_all_placed P done (e ∷ es) d h = all_of_all_placed P (placed e done) es (all_of_placed P e done (All-head P e es h) d) (All-tail P e es h)

pub all_children : (P : Entry → Type 0) (entries : List Entry) (t : ℕ) → All P entries → All P (children entries t)
all_children P entries t h = all_of_all_placed P [] (filter (is_under t) entries) (All-nil P) (kept_all P (is_under t) entries h)

pub all_kept : (P : Entry → Type 0) (p : Entry → Bool) (entries : List Entry) → All P entries → All P (filter p entries)
all_kept P p entries h = kept_all P p entries h

-- a part of siblings are siblings
part_pairs : (p : Entry → Bool) (entries : List Entry) → AreSiblings entries → AreSiblings (filter p entries)
part_pairs p [] h = h
part_pairs p (e ∷ es) h =
    let rest = part_pairs p es (pairs-tail CanStandTogether e es h) in
    elim (cases_Bool (p e)) [
      | inl y ↦ rw y (AllPairs-cons CanStandTogether e (filter p es) (kept_all (CanStandTogether e) p es (pairs-head CanStandTogether e es h)) rest)
      | inr n ↦ rw n rest
    ]

pub siblings_kept : (p : Entry → Bool) (entries : List Entry) → AreSiblings entries → AreSiblings (filter p entries)
siblings_kept p entries h = part_pairs p entries h

abbrev IsBelow : ℕ → Entry → Type 0
IsBelow t e = e.parent.number ≡ t

under_filter : (t : ℕ) (es : List Entry) → All (IsBelow t) (filter (is_under t) es)
under_filter t [] = All-nil (IsBelow t)
under_filter t (e ∷ es) = elim (cases_Bool (is_under t e)) [
  | inl y ↦ let is : e.parent.number ≡ t = grind (arith, nat_tests, y) in rw y (All-cons (IsBelow t) e (filter (is_under t) es) is (under_filter t es))
  | inr n ↦ rw n (under_filter t es)
]

pub under_children : (entries : List Entry) (t : ℕ) → All (λ e. e.parent.number ≡ t) (children entries t)
under_children entries t = all_of_all_placed (IsBelow t) [] (filter (is_under t) entries) (All-nil (IsBelow t)) (under_filter t entries)
