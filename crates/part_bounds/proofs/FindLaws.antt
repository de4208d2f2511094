-- The range that accepts a key, by the number of stored points that are not above the key's point.
use Rattle.std.proofs.Common.{◌≡◌, ◌⊎◌, inl, inr, ℕ, ◌+◌, ◌-◌, ◌*◌, ◌/◌, ◌%◌, ◌<◌, ◌≤◌, Bool, true, false, not, ◌&&◌, ◌||◌, List, [], ◌∷◌, Some, None, map, filter, length, take, get_or, refl, sym, ap, subst, ◌∙◌, arith}
use Rattle.std.specs.Prelude.{if◌then◌else◌}
use Rattle.std.specs.List.{All, position}
use Rattle.std.specs.Ordering.{is_gt, is_le}
use Rattle.std.specs.declared.cmp.Ordering.{Ordering}
use Rattle.std.specs.declared.cmp.Ordering.TheVariants.{Less, Equal, Greater}
use Rattle.std.proofs.lemmas.Bool.{cases_lt}
use Rattle.std.proofs.lemmas.Slice.Zip.{AllZip-long}
use Rattle.pg_values.specs.declared.value.Value.{Value}
use Rattle.bound_forms.specs.declared.partition_bound.Bound.{Bound}
use Rattle.bound_forms.specs.declared.partition_bound.Bound.TheVariants.{Range, List as Listed, Hash, Default}
use Rattle.bound_forms.specs.declared.point.Edge.{Edge}
use Rattle.bound_forms.specs.declared.point.Fill.TheVariants.{Min as WithMin}
use Rattle.bound_forms.specs.Points.{point_order, point_of, is_null, EdgesFit, PointsFit, end_of}
use Rattle.bound_forms.specs.Listed.{only, ValuesFit}
use Rattle.bound_forms.specs.Accepts.{accepts, has_null, lies_between, FitsBound, FitsSet}
use Rattle.part_bounds.specs.Stored.{Each, InRow, points_in, range_points, stored, width, passes, TellsEqual, of_ranges, IsRangeLevel, FitsEnd, Splits}
use Rattle.bound_forms.proofs.Choice.{position_none, position_at}
use Rattle.part_bounds.proofs.StoredLaws.{ChildAt, RangeAt, child_at, each_of, each_stored, stored_row}

gt_if : (r : Ordering) → is_le r ≡ false → is_gt r ≡ true
gt_if Less h = cc
gt_if Equal h = cc
gt_if Greater h = refl

gt_not : (r : Ordering) → is_le r ≡ true → is_gt r ≡ false
gt_not Less h = refl
gt_not Equal h = refl
gt_not Greater h = cc

-- ---- a child against the count

-- the range holds the point where its lower point alone is counted
holds : (bounds : List Bound) (k : ℕ) (l u q : List Edge) (n : ℕ) → RangeAt bounds k l u → Splits (passes true q) (range_points bounds) n → n ≡ 2 * k + 1 → lies_between l u q ≡ true
holds bounds k l u q n r s e =
    let w = r.within in
    let a : is_le (point_order l q) ≡ true = rw (r.low l) at (s.before (2 * k) l (omega arith)) in
    let b : is_gt (point_order u q) ≡ true = gt_if (point_order u q) (rw (r.high u) at (s.behind (2 * k + 1) u (omega arith) (omega (arith, w)))) in
    rw (a, b) refl

holds_not : (bounds : List Bound) (k : ℕ) (l u q : List Edge) (n : ℕ) → RangeAt bounds k l u → Splits (passes true q) (range_points bounds) n → (n ≡ 2 * k + 1 → ⊥) → lies_between l u q ≡ false
holds_not bounds k l u q n r s e = elim (cases_lt (2 * k + 1) n) [
  | inl above ↦
      let b : is_gt (point_order u q) ≡ false = gt_not (point_order u q) (rw (r.high u) at (s.before (2 * k + 1) u above)) in
      last (is_le (point_order l q)) (is_gt (point_order u q)) b
  | inr below ↦
      let w = r.within in
      let le : n ≤ 2 * k = omega (arith, e, below) in
      let a : is_le (point_order l q) ≡ false = rw (r.low l) at (s.behind (2 * k) l le (omega (arith, w))) in
      rw a refl
]
  where
    last : (a b : Bool) → b ≡ false → a && b ≡ false
    last true b e = e
    last false b e = refl

accepts_not : (bounds : List Bound) (key : List Value) (k : ℕ) (n : ℕ) (d : Bound) → ChildAt bounds k → Splits (passes true (point_of key)) (range_points bounds) n → (n ≡ 2 * k + 1 → ⊥) → accepts key (get_or bounds k d) ≡ false
accepts_not bounds key k n d (ChildAt.ranged l u r) s e = rw (r.is d, holds_not bounds k l u (point_of key) n r s e) (by (has_null key))
  where
    by : (t : Bool) → not t && false ≡ false
    by true = refl
    by false = refl
accepts_not bounds key k n d (ChildAt.as_default r) s e = rw (r.is d) refl

pub found : (bounds : List Bound) (key : List Value) (n : ℕ) → InRow bounds → has_null key ≡ false → Splits (passes true (point_of key)) (range_points bounds) n → n % 2 ≡ 1 → Some (n / 2) ≡ position (accepts key) bounds
found bounds key n h null s odd = by (child_at bounds h k lt)
  where
    k : ℕ
    k = n / 2

    short : (bounds : List Bound) → length (range_points bounds) ≤ 2 * length bounds
    short [] = omega arith
    short (Range l u ∷ bounds) = let h = short bounds in omega (arith, h)
    short (Default ∷ bounds) = let h = short bounds in omega (arith, h)
    short (Listed values ∷ bounds) = let h = short bounds in omega (arith, h)
    short (Hash m n ∷ bounds) = let h = short bounds in omega (arith, h)

    lt : n / 2 < length bounds
    lt = let w = s.within in let m = short bounds in omega (arith, w, m, odd)

    is : n ≡ 2 * (n / 2) + 1
    is = omega (arith, odd)

    by : ChildAt bounds (n / 2) → Some (n / 2) ≡ position (accepts key) bounds
    by (ChildAt.ranged l u r) =
        let here : accepts key (Range l u) ≡ true = rw (null, holds bounds (n / 2) l u (point_of key) n r s is) refl in
        sym (position_at (accepts key) bounds (n / 2) (Range l u) lt (sym (r.is (Range l u))) here
        (λ j d below. accepts_not bounds key j n d (child_at bounds h j (omega (arith, below, lt))) s (λ e. omega (arith, e, is, below))))
    by (ChildAt.as_default r) = let w = s.within in let e = r.end in absurd (omega (arith, w, e, is))

pub not_found : (bounds : List Bound) (key : List Value) (n : ℕ) → InRow bounds → Splits (passes true (point_of key)) (range_points bounds) n → (n % 2 ≡ 1 → ⊥) → None ≡ position (accepts key) bounds
not_found bounds key n h s even = sym (position_none (accepts key) bounds (λ k d lt. accepts_not bounds key k n d (child_at bounds h k lt) s (λ e. even (omega (arith, e)))))

pub null_found : (bounds : List Bound) (key : List Value) → IsRangeLevel bounds → has_null key ≡ true → None ≡ position (accepts key) bounds
null_found bounds key r null = sym (position_none (accepts key) bounds (λ k d lt. by (get_or bounds k d) (r k d lt)))
  where
    by : (b : Bound) → of_ranges b ≡ true → accepts key b ≡ false
    by (Range l u) e = rw null refl
    by Default e = refl
    by (Listed values) e = cc
    by (Hash m n) e = cc

-- ---- the point of a whole key

take_all : (key : List Value) → take (length key) key ≡ key
take_all [] = refl
take_all (v ∷ key) = ap (λ l. v ∷ l) (take_all key)

pub end_key : (w : ℕ) (key : List Value) → w ≡ length key + 1 → end_of w (length key) WithMin key ≡ point_of key
end_key w key e = let one : w - length key ≡ 1 = omega (arith, e) in rw (one, take_all key) refl

long_key : (key : List Value) → length (point_of key) ≡ length key + 1
long_key [] = refl
long_key (v ∷ key) = let h = long_key key in omega (arith, h)

-- what the key can be compared with
abbrev KeyFits : List Value → List Edge → Type 0
KeyFits key p = (length p ≡ length key + 1) × PointsFit p (point_of key)

fits_point : (key : List Value) (p : List Edge) → PointsFit p (point_of key) → KeyFits key p
fits_point key p h = let e = AllZip-long EdgesFit p (point_of key) h in let l = long_key key in (omega (arith, e, l), h)

fits_value : (key : List Value) (v : Value) → length key ≡ 1 → has_null key ≡ false → is_null v ≡ false → ValuesFit v (only key) → KeyFits key (point_of (v ∷ []))
fits_value [] v one null some fit = absurd (omega (arith, one))
fits_value (x ∷ []) v one null some fit = (refl, (fit some (by (is_null x) null), (tt, tt)))
  where
    by : (t : Bool) → t || false ≡ false → t ≡ false
    by false e = refl
    by true e = cc
fits_value (x ∷ (y ∷ key)) v one null some fit = absurd (omega (arith, one))

fits_values : (key values : List Value) → length key ≡ 1 → has_null key ≡ false → Each (λ v. ValuesFit v (only key)) values → Each (KeyFits key) (map (λ v. point_of (v ∷ [])) (filter (λ v. not (is_null v)) values))
fits_values key [] one null fit = tt
fits_values key (v ∷ values) one null fit = by (is_null v) refl (fits_values key values one null fit.1)
  where
    by : (t : Bool) → is_null v ≡ t → Each (KeyFits key) (map (λ v. point_of (v ∷ [])) (filter (λ v. not (is_null v)) values)) → Each (KeyFits key) (map (λ v. point_of (v ∷ [])) (if not t then v ∷ filter (λ v. not (is_null v)) values else filter (λ v. not (is_null v)) values))
    by true e go = go
    by false e go = (fits_value key v one null e fit.0, go)

fits_bound : (key : List Value) (b : Bound) → has_null key ≡ false → FitsBound key b → Each (KeyFits key) (points_in b)
fits_bound key (Range l u) null f = (fits_point key l (f null).0, (fits_point key u (f null).1, tt))
fits_bound key (Listed values) null f = fits_values key values f.0 null (each_of (λ v. ValuesFit v (only key)) values f.1)
fits_bound key (Hash m n) null f = tt
fits_bound key Default null f = tt

fits_bounds : (key : List Value) (bounds : List Bound) → has_null key ≡ false → Each (FitsBound key) bounds → Each (λ b. Each (KeyFits key) (points_in b)) bounds
fits_bounds key [] null f = tt
fits_bounds key (b ∷ bounds) null f = (fits_bound key b null f.0, fits_bounds key bounds null f.1)

fits_stored : (bounds : List Bound) (key : List Value) → FitsSet bounds key → has_null key ≡ false → All (KeyFits key) (stored bounds)
fits_stored bounds key f null = each_stored (KeyFits key) bounds (fits_bounds key bounds null (each_of (FitsBound key) bounds f))

-- how many edges the stored points have
width_is : (bounds : List Bound) (key : List Value) → FitsSet bounds key → has_null key ≡ false → 0 < length (stored bounds) → width bounds ≡ length key + 1
width_is bounds key f null some = (fits_stored bounds key f null 0 [] some).0

pub fits_key : (bounds : List Bound) (key : List Value) → FitsSet bounds key → has_null key ≡ false → FitsEnd bounds (length key) WithMin key
fits_key bounds key f null k d lt =
    let fit = fits_stored bounds key f null k d lt in
    let first = width_is bounds key f null (omega (arith, lt)) in
    (fit.0 ∙ sym first, rw (end_key (length (get_or (stored bounds) k d)) key fit.0) fit.1)

end_is : (bounds : List Bound) (key : List Value) → FitsSet bounds key → has_null key ≡ false → 0 < length (stored bounds) → end_of (width bounds) (length key) WithMin key ≡ point_of key
end_is bounds key f null some = end_key (width bounds) key (width_is bounds key f null some)

-- what splits by the filled key splits by the key's point
pub splits_key : (bounds : List Bound) (key : List Value) (n : ℕ) → FitsSet bounds key → has_null key ≡ false → Splits (passes true (end_of (width bounds) (length key) WithMin key)) (stored bounds) n → Splits (passes true (point_of key)) (stored bounds) n
splits_key bounds key n f null s = by (cases_lt 0 (length (stored bounds)))
  where
    by : (0 < length (stored bounds)) ⊎ (length (stored bounds) ≤ 0) → Splits (passes true (point_of key)) (stored bounds) n
    by (inl some) = rw (end_is bounds key f null some) at s
    by (inr none) = let w = s.within in record {
      within = w;
      before = λ k d lt. absurd (omega (arith, w, lt, none));
      behind = λ k d from lt. absurd (omega (arith, lt, none));
    }

pub equal_key : (bounds : List Bound) (key : List Value) (n : ℕ) (equal : Bool) → FitsSet bounds key → has_null key ≡ false → n ≤ length (stored bounds)
    → TellsEqual (stored bounds) (end_of (width bounds) (length key) WithMin key) n equal → TellsEqual (stored bounds) (point_of key) n equal
equal_key bounds key n equal f null le t = by (cases_lt 0 (length (stored bounds)))
  where
    by : (0 < length (stored bounds)) ⊎ (length (stored bounds) ≤ 0) → TellsEqual (stored bounds) (point_of key) n equal
    by (inl some) = rw (end_is bounds key f null some) at t
    by (inr none) = record {
      told = λ e. let some = (t.told e).0 in absurd (omega (arith, some, le, none));
      other = λ e k d lt. absurd (omega (arith, lt, le, none));
    }

-- the stored points of a range level
pub splits_row : (bounds : List Bound) (q : List Edge) (n : ℕ) → InRow bounds → Splits (passes true q) (stored bounds) n → Splits (passes true q) (range_points bounds) n
splits_row bounds q n h s = subst (λ ps. Splits (passes true q) ps n) (stored_row bounds h) s
