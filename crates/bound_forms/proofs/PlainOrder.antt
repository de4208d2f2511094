-- Bounds in plain order.
use Rattle.std.proofs.Common.{◌≡◌, ℕ, zero, suc, ◌+◌, ◌≤◌, length, None, Bool, true, false, ◌&&◌, List, [], ◌∷◌, ◌++◌, get_or, append-nil, refl, sym, ap, ◌∙◌, subst, arith, if◌then◌else◌}
use Rattle.std.specs.List.{All, AllPairs, position, position_or_len, insert, remove}
use Rattle.std.specs.Cmp.{IsTotalOrder, on_total, then_total, nat_cmp_total}
use Rattle.std.specs.Cmp.Lexicographic.{slice_cmp, lists_total}
use Rattle.std.specs.List.Sorted.{IsPermutation}
use Rattle.std.specs.declared.cmp.Ordering.{Ordering}
use Rattle.std.specs.declared.cmp.Ordering.TheVariants.{Less, Equal, Greater}
use Rattle.std.specs.Ordering.{is_gt, is_lt, nat_cmp, ordering_then}
use Rattle.std.proofs.lemmas.Map.Lookups.{exact_bytes}
use Rattle.std.proofs.lemmas.List.Elements.{All-cons, All-head, All-tail, All-nil}
use Rattle.std.proofs.lemmas.List.Kept.{AllPairs-cons}
use Rattle.std.proofs.lemmas.List.Sorted.{IsPermutation-refl, IsPermutation-trans, IsPermutation-middle, IsPermutation-append_right, IsPermutation-sym, IsPermutation-insert}
use Rattle.pg_values.specs.declared.value.Value.{Value}
use Rattle.bound_forms.specs.declared.partition_bound.Bound.{Bound}
use Rattle.bound_forms.specs.declared.partition_bound.Bound.TheVariants.{Range, List as Listed, Hash, Default}
use Rattle.bound_forms.specs.Points.{point_order}
use Rattle.bound_forms.specs.Laws.{AddedInEitherOrder, PlainOrderKeeps, PlainOrderIsSorted}
use Rattle.bound_forms.specs.Bounds.{side, numbers, stand, plain_order, comes_after, are_siblings, with_bound, with_bounds, in_plain_order, overlaps, is_filled, BoundOfKind, BoundsFit, IsInPlainOrder}
use Rattle.bound_forms.proofs.PointOrder.{point_total}
use Rattle.bound_forms.proofs.Choice.{position_none, position-None}
use Rattle.bound_forms.proofs.OverlapLaws.{overlaps_turned, siblings_turn, overlap_of_filled}
use Rattle.bound_forms.proofs.ListedLaws.{shared_least}
use Rattle.bound_forms.proofs.Residues.{meets_self}
use Rattle.bound_forms.proofs.TotalOrder.{turn, le_trans, le_lt, gt-le, lt-gt}

pub pairs-nil : {X : Type 0} (R : X → X → Type 0) → AllPairs R []
pairs-nil R i j d lt within = absurd (omega arith)

pub pairs-head : {X : Type 0} (R : X → X → Type 0) (x : X) (xs : List X) → AllPairs R (x ∷ xs) → All (R x) xs
pairs-head R x xs h i d lt = h 0 (suc i) d (omega arith) (omega arith)

pub pairs-tail : {X : Type 0} (R : X → X → Type 0) (x : X) (xs : List X) → AllPairs R (x ∷ xs) → AllPairs R xs
pairs-tail R x xs h i j d lt le = h (suc i) (suc j) d (omega arith) (omega arith)

-- what holds of the bounds and of one more holds of them all
pub All-with_bound : (P : Bound → Type 0) (b : Bound) (bounds : List Bound) → P b → All P bounds → All P (with_bound b bounds)
All-with_bound P b [] p h = All-cons P b [] p h
All-with_bound P b (c ∷ cs) p h = by (comes_after c b) (All-with_bound P b cs p (All-tail P c cs h))
  where
    by : (t : Bool) → All P (with_bound b cs) → All P (if t then b ∷ (c ∷ cs) else c ∷ with_bound b cs)
    by true rest = All-cons P b (c ∷ cs) p h
    by false rest = All-cons P c (with_bound b cs) (All-head P c cs h) rest

pub plain_total : IsTotalOrder plain_order
plain_total = then_total (on_total side nat_cmp_total) (then_total (on_total numbers (lists_total nat_cmp_total)) (on_total stand point_total))

-- a bound that stands before another does not come after it
after_turned : (a b : Bound) → comes_after a b ≡ true → comes_after b a ≡ false
after_turned a b h = gt-le plain_total a b h

after_trans : (a b c : Bound) → comes_after a b ≡ false → comes_after b c ≡ false → comes_after a c ≡ false
after_trans a b c h k = le_trans plain_total a b c h k

abbrev Before : Bound → Bound → Type 0
Before a b = comes_after a b ≡ false

abbrev Apart : Bound → Bound → Type 0
Apart a b = overlaps a b ≡ false

abbrev Siblings : Bound → Bound → Type 0
Siblings a b = are_siblings a b ≡ true

-- one more bound at its place
pub sorted-with_bound : (b : Bound) (bounds : List Bound) → AllPairs Before bounds → AllPairs Before (with_bound b bounds)
sorted-with_bound b [] h = AllPairs-cons Before b [] (All-nil (Before b)) h
sorted-with_bound b (c ∷ cs) h = by (comes_after c b) refl (sorted-with_bound b cs (pairs-tail Before c cs h))
  where
    later : All (Before c) cs
    later = pairs-head Before c cs h

    by : (t : Bool) → comes_after c b ≡ t → AllPairs Before (with_bound b cs) → AllPairs Before (if t then b ∷ (c ∷ cs) else c ∷ with_bound b cs)
    by true e rest =
        let first : Before b c = after_turned c b e in
        AllPairs-cons Before b (c ∷ cs) (All-cons (Before b) c cs first (λ i d lt. after_trans b c (get_or cs i d) first (later i d lt))) h
    by false e rest = AllPairs-cons Before c (with_bound b cs) (All-with_bound (Before c) b cs e later) rest

-- what holds between the bounds, and with one more in either order, holds between them all
pub pairs-with_bound : (R : Bound → Bound → Type 0) (b : Bound) (bounds : List Bound) → All (R b) bounds → All (λ a. R a b) bounds → AllPairs R bounds → AllPairs R (with_bound b bounds)
pairs-with_bound R b [] f g h = AllPairs-cons R b [] f h
pairs-with_bound R b (c ∷ cs) f g h = by (comes_after c b) (pairs-with_bound R b cs (All-tail (R b) c cs f) (All-tail (λ a. R a b) c cs g) (pairs-tail R c cs h))
  where
    by : (t : Bool) → AllPairs R (with_bound b cs) → AllPairs R (if t then b ∷ (c ∷ cs) else c ∷ with_bound b cs)
    by true rest = AllPairs-cons R b (c ∷ cs) f h
    by false rest = AllPairs-cons R c (with_bound b cs) (All-with_bound (R c) b cs (All-head (λ a. R a b) c cs g) (pairs-head R c cs h)) rest

-- a bound that overlaps none
pub apart-with_bound : (b : Bound) (bounds : List Bound) → All (Apart b) bounds → All (λ a. Apart a b) bounds → AllPairs Apart bounds → AllPairs Apart (with_bound b bounds)
apart-with_bound = pairs-with_bound Apart

-- the place of one more bound
pub with_bound-insert : (b : Bound) (bounds : List Bound) → with_bound b bounds ≡ insert bounds (position_or_len (λ c. comes_after c b) bounds) b
with_bound-insert b [] = refl
with_bound-insert b (c ∷ cs) = by (comes_after c b) refl (with_bound-insert b cs)
  where
    by : (t : Bool) → comes_after c b ≡ t → with_bound b cs ≡ insert cs (position_or_len (λ x. comes_after x b) cs) b
        → (if t then b ∷ (c ∷ cs) else c ∷ with_bound b cs) ≡ insert (c ∷ cs) (position_or_len (λ x. comes_after x b) (c ∷ cs)) b
    by true e rest = rw e refl
    by false e rest =
        let n = position_or_len (λ x. comes_after x b) cs in
        let next : 1 + n ≡ suc n = omega arith in
        rw (e, next) (ap (λ l. c ∷ l) rest)

-- a bound that was put at this place
pub placed : (b : Bound) (bounds given items : List Bound) (at : ℕ) → given ≡ bounds → at ≡ position_or_len (λ c. comes_after c b) given → items ≡ insert bounds at b → items ≡ with_bound b bounds
placed b bounds given items at same is put = put ∙ ap (λ n. insert bounds n b) (is ∙ ap (position_or_len (λ c. comes_after c b)) same) ∙ sym (with_bound-insert b bounds)

none_overlaps : (b : Bound) (bounds : List Bound) → position (overlaps b) bounds ≡ None → All (Apart b) bounds
none_overlaps b bounds none = position-None (overlaps b) bounds none

-- what a set keeps with one more bound
pub set-with_bound : (P : Value → Type 0) (b : Bound) (bounds : List Bound) → All (BoundOfKind P) bounds × IsInPlainOrder bounds → BoundOfKind P b → All (λ a. BoundsFit a b) bounds → position (overlaps b) bounds ≡ None
    → All (BoundOfKind P) (with_bound b bounds) × IsInPlainOrder (with_bound b bounds)
set-with_bound P b bounds h kind fit none =
    let apart = none_overlaps b bounds none in
    let turned : All (λ a. Apart a b) bounds = λ i d lt. overlaps_turned (get_or bounds i d) b ∙ apart i d lt in
    let siblings : All (λ a. Siblings a b) bounds = λ i d lt. (fit i d lt).0 in
    let siblings_turned : All (Siblings b) bounds = λ i d lt. siblings_turn b (get_or bounds i d) ∙ siblings i d lt in (
      All-with_bound (BoundOfKind P) b bounds kind h.0,
      record {
        sorted = sorted-with_bound b bounds h.1.sorted;
        apart = apart-with_bound b bounds apart turned h.1.apart;
        siblings = pairs-with_bound Siblings b bounds siblings_turned siblings h.1.siblings;
      },
    )

pub none_in_order : IsInPlainOrder []
none_in_order = record { sorted = λ i j d lt le. absurd (omega arith); apart = λ i j d lt le. absurd (omega arith); siblings = λ i j d lt le. absurd (omega arith) }

-- a bound that was put in and taken out
pub put_back : (bounds : List Bound) (i : ℕ) (b : Bound) → i ≤ length bounds → remove (insert bounds i b) i ≡ bounds
put_back bounds zero b h = refl
put_back [] (suc i) b h = absurd (omega (arith, h))
put_back (c ∷ bounds) (suc i) b h = ap (λ l. c ∷ l) (put_back bounds i b (omega (arith, h)))

-- ---- adding bounds one after the other

-- the bounds still to come can be added to the others
pub record CanJoin (more bounds : List Bound) : Type 0 where
  pub fit : All (λ b. All (λ a. BoundsFit a b) bounds) more
  pub fit_each_other : All (λ a. All (BoundsFit a) more) more
  pub apart : All (λ b. All (Apart b) bounds) more
  pub apart_each_other : AllPairs Apart more

pub join-none : (more : List Bound) → All (λ a. All (BoundsFit a) more) more → AllPairs Apart more → CanJoin more []
join-none more fit apart = record {
  fit = λ i d lt j e le. absurd (omega arith);
  fit_each_other = fit;
  apart = λ i d lt j e le. absurd (omega arith);
  apart_each_other = apart;
}

pub join-step : (b : Bound) (more bounds : List Bound) → CanJoin (b ∷ more) bounds → CanJoin more (with_bound b bounds)
join-step b more bounds h = record {
  fit = λ i d lt. All-with_bound (λ a. BoundsFit a (get_or more i d)) b bounds (h.fit_each_other 0 d (omega arith) (suc i) d (omega arith)) (h.fit (suc i) d (omega arith));
  fit_each_other = λ i d lt j e le. h.fit_each_other (suc i) d (omega arith) (suc j) e (omega arith);
  apart = λ i d lt. All-with_bound (Apart (get_or more i d)) b bounds (overlaps_turned (get_or more i d) b ∙ h.apart_each_other 0 (suc i) d (omega arith) (omega arith)) (h.apart (suc i) d (omega arith));
  apart_each_other = pairs-tail Apart b more h.apart_each_other;
}

pub join-fits : (b : Bound) (more bounds : List Bound) → CanJoin (b ∷ more) bounds → All (λ a. BoundsFit a b) bounds
join-fits b more bounds h = All-head (λ x. All (λ a. BoundsFit a x) bounds) b more h.fit

pub join-apart : (b : Bound) (more bounds : List Bound) → CanJoin (b ∷ more) bounds → position (overlaps b) bounds ≡ None
join-apart b more bounds h = position_none (overlaps b) bounds (λ k d lt. All-head (λ x. All (Apart x) bounds) b more h.apart k d lt)

-- ---- plain order of given bounds

permutation-with_bound : (b : Bound) (bounds : List Bound) → IsPermutation (b ∷ bounds) (with_bound b bounds)
permutation-with_bound b bounds = subst (IsPermutation (b ∷ bounds)) (sym (with_bound-insert b bounds)) (IsPermutation-insert bounds (position_or_len (λ c. comes_after c b) bounds) b)

permutation-with_bounds : (more bounds : List Bound) → IsPermutation (more ++ bounds) (with_bounds more bounds)
permutation-with_bounds [] bounds = IsPermutation-refl bounds
permutation-with_bounds (b ∷ more) bounds =
    let to_end : IsPermutation (b ∷ (more ++ bounds)) (more ++ b ∷ bounds) = IsPermutation-sym _ _ (IsPermutation-middle more b bounds) in
    let placed : IsPermutation (more ++ b ∷ bounds) (more ++ with_bound b bounds) = IsPermutation-append_right more (b ∷ bounds) (with_bound b bounds) (permutation-with_bound b bounds) in
    IsPermutation-trans _ _ _ (IsPermutation-trans _ _ _ to_end placed) (permutation-with_bounds more (with_bound b bounds))

pub order_keeps : PlainOrderKeeps
order_keeps bounds = subst (λ l. IsPermutation l (in_plain_order bounds)) (append-nil bounds) (permutation-with_bounds bounds [])

sorted-with_bounds : (more bounds : List Bound) → AllPairs Before bounds → AllPairs Before (with_bounds more bounds)
sorted-with_bounds [] bounds h = h
sorted-with_bounds (b ∷ more) bounds h = sorted-with_bounds more (with_bound b bounds) (sorted-with_bound b bounds h)

pub order_sorts : PlainOrderIsSorted
order_sorts bounds = sorted-with_bounds bounds [] (λ i j d lt le. absurd (omega arith))

-- ---- two bounds added in either order

before : (b c : Bound) (cs : List Bound) → comes_after c b ≡ true → with_bound b (c ∷ cs) ≡ b ∷ (c ∷ cs)
before b c cs e = rw e refl

behind : (b c : Bound) (cs : List Bound) → comes_after c b ≡ false → with_bound b (c ∷ cs) ≡ c ∷ with_bound b cs
behind b c cs e = rw e refl

with_two : (a b : Bound) (bounds : List Bound) → comes_after b a ≡ true → with_bound a (with_bound b bounds) ≡ with_bound b (with_bound a bounds)
with_two a b [] h = before a b [] h ∙ sym (behind b a [] (after_turned b a h))
with_two a b (c ∷ cs) h = by (comes_after c a) refl (comes_after c b) refl (with_two a b cs h)
  where
    turned : comes_after a b ≡ false
    turned = after_turned b a h

    by : (s : Bool) → comes_after c a ≡ s → (t : Bool) → comes_after c b ≡ t → with_bound a (with_bound b cs) ≡ with_bound b (with_bound a cs)
        → with_bound a (with_bound b (c ∷ cs)) ≡ with_bound b (with_bound a (c ∷ cs))
    by true e true f rest =
        ap (with_bound a) (before b c cs f) ∙ before a b (c ∷ cs) h
        ∙ sym (ap (with_bound b) (before a c cs e) ∙ behind b a (c ∷ cs) turned ∙ ap (λ l. a ∷ l) (before b c cs f))
    by true e false f rest =
        ap (with_bound a) (behind b c cs f) ∙ before a c (with_bound b cs) e
        ∙ sym (ap (with_bound b) (before a c cs e) ∙ behind b a (c ∷ cs) turned ∙ ap (λ l. a ∷ l) (behind b c cs f))
    by false e t f rest =
        let g = after_trans c a b e turned in
        ap (with_bound a) (behind b c cs g) ∙ behind a c (with_bound b cs) e ∙ ap (λ l. c ∷ l) rest
        ∙ sym (ap (with_bound b) (behind a c cs e) ∙ behind b c (with_bound a cs) g)

-- remainders of which none stands behind the other are the same
same_numbers : (m r n s : ℕ) → comes_after (Hash m r) (Hash n s) ≡ false → comes_after (Hash n s) (Hash m r) ≡ false → overlaps (Hash m r) (Hash n s) ≡ true
same_numbers m r n s h k = one (exact_bytes (m ∷ (r ∷ [])) (n ∷ (s ∷ [])) (by (slice_cmp nat_cmp (m ∷ (r ∷ [])) (n ∷ (s ∷ []))) refl h k))
  where
    by : (o : Ordering) → slice_cmp nat_cmp (m ∷ (r ∷ [])) (n ∷ (s ∷ [])) ≡ o → is_gt (ordering_then o Equal) ≡ false → comes_after (Hash n s) (Hash m r) ≡ false → o ≡ Equal
    by Equal e h k = refl
    by Greater e h k = cc
    by Less e h k = let back = rw (turn (lists_total nat_cmp_total) (m ∷ (r ∷ [])) (n ∷ (s ∷ [])) Less e) at k in cc

    one : m ∷ (r ∷ []) ≡ n ∷ (s ∷ []) → overlaps (Hash m r) (Hash n s) ≡ true
    one e =
        let modulus : m ≡ n = cc in
        let remainder : r ≡ s = cc in
        rw (← modulus, ← remainder) (rw (meets_self m r) refl)

-- two bounds that stand at one place overlap, unless one is empty
one_stands_behind : (a b : Bound) → are_siblings a b ≡ true → overlaps a b ≡ false → is_filled a ≡ true → is_filled b ≡ true → comes_after a b ≡ false → comes_after b a ≡ true
one_stands_behind (Range l u) (Range m v) s apart f g h = by (is_gt (point_order m l)) refl
  where
    by : (t : Bool) → is_gt (point_order m l) ≡ t → t ≡ true
    by true e = refl
    by false e =
        let begun : is_lt (point_order m u) ≡ true = le_lt point_total m l u e f in
        let ended : is_gt (point_order v l) ≡ true = sym (lt-gt point_total l v) ∙ le_lt point_total l m v h g in
        let both : is_lt (point_order m u) && is_gt (point_order v l) ≡ true = rw (begun, ended) refl in
        sym apart ∙ (overlap_of_filled m v l u g f ∙ both)
one_stands_behind (Listed values) (Listed others) s apart f g h = by (comes_after (Listed others) (Listed values)) refl
  where
    by : (t : Bool) → comes_after (Listed others) (Listed values) ≡ t → t ≡ true
    by true e = refl
    by false e = sym apart ∙ shared_least values others f g h e
one_stands_behind (Hash m r) (Hash n t) s apart f g h = by (comes_after (Hash n t) (Hash m r)) refl
  where
    by : (b : Bool) → comes_after (Hash n t) (Hash m r) ≡ b → b ≡ true
    by true e = refl
    by false e = sym apart ∙ same_numbers m r n t h e
one_stands_behind (Hash m r) (Range l u) s apart f g h = cc
one_stands_behind (Hash m r) (Listed values) s apart f g h = cc
one_stands_behind (Hash m r) Default s apart f g h = cc
one_stands_behind (Range l u) (Hash n t) s apart f g h = cc
one_stands_behind (Listed values) (Hash n t) s apart f g h = cc
one_stands_behind Default (Hash n t) s apart f g h = cc
one_stands_behind Default Default s apart f g h = cc
one_stands_behind Default (Range l u) s apart f g h = cc
one_stands_behind Default (Listed values) s apart f g h = cc
one_stands_behind (Range l u) Default s apart f g h = refl
one_stands_behind (Listed values) Default s apart f g h = refl
one_stands_behind (Range l u) (Listed values) s apart f g h = cc
one_stands_behind (Listed values) (Range l u) s apart f g h = cc

pub either_order : AddedInEitherOrder
either_order a b bounds s apart f g = by (comes_after a b) refl
  where
    by : (t : Bool) → comes_after a b ≡ t → with_bound a (with_bound b bounds) ≡ with_bound b (with_bound a bounds)
    by true e = sym (with_two b a bounds e)
    by false e = with_two a b bounds (one_stands_behind a b s apart f g e)
