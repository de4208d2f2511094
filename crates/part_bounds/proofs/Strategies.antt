-- The strategy of a level is that of its first bound.
use Rattle.std.proofs.Common.{◌≡◌, ◌<◌, zero, suc, true, false, true≢false, List, [], ◌∷◌, length, get_or, refl, sym, subst, arith}
use Rattle.pg_values.specs.declared.value.Value.{Value}
use Rattle.bound_forms.specs.declared.partition_bound.Bound.{Bound}
use Rattle.bound_forms.specs.declared.partition_bound.Bound.TheVariants.{Range, List as Listed, Hash, Default}
use Rattle.bound_forms.specs.Bounds.{comes_after, are_siblings, takes_default, IsInPlainOrder}
use Rattle.bound_forms.specs.Ordered.{are_alike}
use Rattle.bound_forms.specs.Accepts.{FitsBound, FitsSet}
use Rattle.part_bounds.specs.Stored.{of_ranges, of_lists, of_hashes, HasPoints, IsRangeLevel, IsListLevel, IsHashLevel}

pub ranges_by_first : (bounds : List Bound) (b : Bound) → IsInPlainOrder bounds → b ≡ get_or bounds 0 b → of_ranges b ≡ true → IsRangeLevel bounds
ranges_by_first [] b o at e k d lt = absurd (omega arith)
ranges_by_first (c ∷ bounds) b o at e zero d lt = rw (sym at) e
ranges_by_first (c ∷ bounds) b o at e (suc k) d lt =
    let g : of_ranges c ≡ true = rw (sym at) e in
    by c (get_or bounds k d) g (o.siblings 0 (suc k) d (omega arith) lt) (o.sorted 0 (suc k) d (omega arith) lt)
  where
    by : (a b : Bound) → of_ranges a ≡ true → are_siblings a b ≡ true → comes_after a b ≡ false → of_ranges b ≡ true
    by (Range l u) (Range m v) e f g = refl
    by (Range l u) Default e f g = refl
    by (Range l u) (Listed values) e f g = cc
    by (Range l u) (Hash m n) e f g = cc
    by Default (Range m v) e f g = refl
    by Default Default e f g = refl
    by Default (Listed values) e f g = absurd (true≢false g)
    by Default (Hash m n) e f g = cc
    by (Listed values) b e f g = cc
    by (Hash m n) b e f g = cc

pub lists_by_first : (bounds : List Bound) (b : Bound) → IsInPlainOrder bounds → b ≡ get_or bounds 0 b → of_lists b ≡ true → IsListLevel bounds
lists_by_first [] b o at e k d lt = absurd (omega arith)
lists_by_first (c ∷ bounds) b o at e zero d lt = rw (sym at) e
lists_by_first (c ∷ bounds) b o at e (suc k) d lt =
    let g : of_lists c ≡ true = rw (sym at) e in
    by c (get_or bounds k d) g (o.siblings 0 (suc k) d (omega arith) lt) (o.sorted 0 (suc k) d (omega arith) lt)
  where
    by : (a b : Bound) → of_lists a ≡ true → are_siblings a b ≡ true → comes_after a b ≡ false → of_lists b ≡ true
    by (Listed values) (Listed others) e f g = refl
    by (Listed values) Default e f g = refl
    by (Listed values) (Range m v) e f g = cc
    by (Listed values) (Hash m n) e f g = cc
    by Default (Listed others) e f g = refl
    by Default Default e f g = refl
    by Default (Range m v) e f g = absurd (true≢false g)
    by Default (Hash m n) e f g = cc
    by (Range l u) b e f g = cc
    by (Hash m n) b e f g = cc

pub hashes_by_first : (bounds : List Bound) (b : Bound) → IsInPlainOrder bounds → b ≡ get_or bounds 0 b → of_hashes b ≡ true → IsHashLevel bounds
hashes_by_first [] b o at e k d lt = absurd (omega arith)
hashes_by_first (c ∷ bounds) b o at e zero d lt = rw (sym at) e
hashes_by_first (c ∷ bounds) b o at e (suc k) d lt =
    let g : of_hashes c ≡ true = rw (sym at) e in
    by c (get_or bounds k d) g (o.siblings 0 (suc k) d (omega arith) lt)
  where
    by : (a b : Bound) → of_hashes a ≡ true → are_siblings a b ≡ true → of_hashes b ≡ true
    by (Hash m n) (Hash p q) e f = refl
    by (Hash m n) (Range l u) e f = cc
    by (Hash m n) (Listed values) e f = cc
    by (Hash m n) Default e f = cc
    by (Range l u) b e f = cc
    by (Listed values) b e f = cc
    by Default b e f = cc

pub points_by_first : (bounds : List Bound) (b : Bound) → IsInPlainOrder bounds → b ≡ get_or bounds 0 b → of_hashes b ≡ false → HasPoints bounds
points_by_first [] b o at e k d lt = absurd (omega arith)
points_by_first (c ∷ bounds) b o at e zero d lt = by c (rw (sym at) e)
  where
    by : (c : Bound) → of_hashes c ≡ false → takes_default c ≡ true
    by (Range l u) e = refl
    by (Listed values) e = refl
    by Default e = refl
    by (Hash m n) e = absurd (true≢false e)
points_by_first (c ∷ bounds) b o at e (suc k) d lt =
    let g : of_hashes c ≡ false = rw (sym at) e in
    by c (get_or bounds k d) g (o.siblings 0 (suc k) d (omega arith) lt)
  where
    by : (a b : Bound) → of_hashes a ≡ false → are_siblings a b ≡ true → takes_default b ≡ true
    by (Range l u) (Range m v) e f = refl
    by (Range l u) (Listed others) e f = refl
    by (Range l u) Default e f = refl
    by (Range l u) (Hash m n) e f = cc
    by (Listed values) (Range m v) e f = refl
    by (Listed values) (Listed others) e f = refl
    by (Listed values) Default e f = refl
    by (Listed values) (Hash m n) e f = cc
    by Default (Range m v) e f = refl
    by Default (Listed others) e f = refl
    by Default Default e f = refl
    by Default (Hash m n) e f = cc
    by (Hash m n) b e f = absurd (true≢false e)

pub ranges_have_points : (bounds : List Bound) → IsRangeLevel bounds → HasPoints bounds
ranges_have_points bounds r k d lt = by (get_or bounds k d) (r k d lt)
  where
    by : (b : Bound) → of_ranges b ≡ true → takes_default b ≡ true
    by (Range l u) e = refl
    by Default e = refl
    by (Listed values) e = refl
    by (Hash m n) e = cc

pub lists_have_points : (bounds : List Bound) → IsListLevel bounds → HasPoints bounds
lists_have_points bounds r k d lt = by (get_or bounds k d) (r k d lt)
  where
    by : (b : Bound) → of_lists b ≡ true → takes_default b ≡ true
    by (Range l u) e = refl
    by Default e = refl
    by (Listed values) e = refl
    by (Hash m n) e = cc

-- what has points and does not begin with a range is a level of lists
pub lists_else : (bounds : List Bound) (b : Bound) → IsInPlainOrder bounds → b ≡ get_or bounds 0 b → 0 < length bounds → of_ranges b ≡ false → HasPoints bounds → IsListLevel bounds
lists_else bounds b o at some e points = lists_by_first bounds b o at (by b e (subst (λ x. takes_default x ≡ true) (sym at) (points 0 b some)))
  where
    by : (b : Bound) → of_ranges b ≡ false → takes_default b ≡ true → of_lists b ≡ true
    by (Listed values) e f = refl
    by (Range l u) e f = absurd (true≢false e)
    by Default e f = refl
    by (Hash m n) e f = cc

pub one_column : (bounds : List Bound) (b : Bound) (key : List Value) → b ≡ get_or bounds 0 b → 0 < length bounds → of_ranges b ≡ false → HasPoints bounds → FitsSet bounds key → length key ≡ 1
one_column bounds b key at some e points fits = by b e (subst (λ x. takes_default x ≡ true) (sym at) (points 0 b some)) (subst (FitsBound key) (sym at) (fits 0 b some))
  where
    by : (b : Bound) → of_ranges b ≡ false → takes_default b ≡ true → FitsBound key b → length key ≡ 1
    by (Listed values) e f h = h.0
    by (Range l u) e f h = absurd (true≢false e)
    by Default e f h = absurd (true≢false e)
    by (Hash m n) e f h = cc

-- siblings have a plain order
pub siblings_alike : (a b : Bound) → are_siblings a b ≡ true → are_alike a b ≡ true
siblings_alike Default b e = refl
siblings_alike (Range l u) (Range m v) e = refl
siblings_alike (Range l u) Default e = refl
siblings_alike (Range l u) (Listed values) e = cc
siblings_alike (Range l u) (Hash m n) e = cc
siblings_alike (Listed values) (Listed others) e = refl
siblings_alike (Listed values) Default e = refl
siblings_alike (Listed values) (Range m v) e = cc
siblings_alike (Listed values) (Hash m n) e = cc
siblings_alike (Hash m n) (Hash p q) e = refl
siblings_alike (Hash m n) Default e = refl
siblings_alike (Hash m n) (Range l u) e = cc
siblings_alike (Hash m n) (Listed values) e = cc
