-- The stored points of any level ascend, so a search by halves finds how many pass a test and whether the last is equal.
use Rattle.std.proofs.Common.{◌≡◌, inl, inr, ℕ, zero, suc, ◌+◌, ◌-◌, ◌<◌, Bool, true, false, true≢false, List, [], ◌∷◌, map, length, get_or, refl, sym, ap, ◌∙◌, arith}
use Rattle.std.specs.Prelude.{if◌then◌else◌}
use Rattle.std.specs.Ordering.{is_gt, is_lt, is_le, is_eq}
use Rattle.std.specs.declared.cmp.Ordering.{Ordering}
use Rattle.std.specs.declared.cmp.Ordering.TheVariants.{Less, Equal, Greater}
use Rattle.std.proofs.Math.Nat.{eq-or-lt_of_le}
use Rattle.std.proofs.lemmas.List.{get_or_default}
use Rattle.bound_forms.specs.declared.partition_bound.Bound.{Bound}
use Rattle.bound_forms.specs.declared.point.Edge.{Edge}
use Rattle.bound_forms.specs.Points.{point_order}
use Rattle.part_bounds.specs.Stored.{Mark, marks_from, marks, stored, lies_below, passes, TellsEqual}
use Rattle.bound_forms.proofs.PointOrder.{point_total}
use Rattle.bound_forms.proofs.TotalOrder.{lt-gt}
use Rattle.part_bounds.proofs.Halves.{Falls}
use Rattle.part_bounds.proofs.Stable.{NoneLess, Rising, sorted_rising}
use Rattle.part_bounds.proofs.StoredLaws.{marks_weak, passes_down}

first_rises : (m : Mark) (ms : List Mark) → NoneLess lies_below marks_weak m ms → (j : ℕ) (d : List Edge) → j < length (map (λ x. x.point) ms) → is_gt (point_order m.point (get_or (map (λ x. x.point) ms) j d)) ≡ false
first_rises m [] n j d w = absurd (omega arith)
first_rises m (o ∷ ms) n zero d w = sym (lt-gt point_total o.point m.point) ∙ n.0
first_rises m (o ∷ ms) n (suc j) d w = first_rises m ms n.1 j d (omega arith)

rises : (ms : List Mark) → Rising lies_below marks_weak ms → (i j : ℕ) (d : List Edge) → i < j → j < length (map (λ x. x.point) ms) → is_gt (point_order (get_or (map (λ x. x.point) ms) i d) (get_or (map (λ x. x.point) ms) j d)) ≡ false
rises [] r i j d lt w = absurd (omega arith)
rises (m ∷ ms) r i zero d lt w = absurd (omega arith)
rises (m ∷ ms) r zero (suc j) d lt w = first_rises m ms r.0 j d (omega arith)
rises (m ∷ ms) r (suc i) (suc j) d lt w = rises ms r.1 i j d (omega arith) (omega arith)

pub falls_stored : (bounds : List Bound) (e : Bool) (q : List Edge) → Falls (passes e q) (stored bounds)
falls_stored bounds e q = record {
  falls = λ i j d le w k. elim (eq-or-lt_of_le le) [
    | inl same ↦ rw same k
    | inr lt ↦ passes_down e q (get_or (stored bounds) i d) (get_or (stored bounds) j d) (rises (marks bounds) (sorted_rising lies_below marks_weak (marks_from 0 bounds)) i j d lt w) k
  ];
}

-- ---- whether the last point is equal

pub tells_none : (points : List (List Edge)) (q : List Edge) → TellsEqual points q 0 false
tells_none points q = record { told = λ e. absurd (true≢false (sym e)); other = λ e k d lt. absurd (omega arith) }

equal_is : (r : Ordering) → is_eq r ≡ true → r ≡ Equal
equal_is Less h = cc
equal_is Equal h = refl
equal_is Greater h = cc

less_if : (or_equal : Bool) (r : Ordering) → (if or_equal then is_le r else is_lt r) ≡ true → is_eq r ≡ false → is_lt r ≡ true
less_if true Less h k = refl
less_if true Equal h k = absurd (true≢false k)
less_if true Greater h k = absurd (true≢false (sym h))
less_if false r h k = h

pub tells_more : (bounds : List Bound) (q : List Edge) (middle : ℕ) (or_equal equal : Bool) → middle < length (stored bounds) → passes or_equal q (get_or (stored bounds) middle []) ≡ true
    → equal ≡ is_eq (point_order (get_or (stored bounds) middle []) q) → TellsEqual (stored bounds) q (middle + 1) equal
tells_more bounds q middle or_equal equal lt passed e = record {
  told = λ t. (omega arith, let back : middle + 1 - 1 ≡ middle = omega arith in rw back (equal_is (point_order (get_or (stored bounds) middle []) q) (sym e ∙ t)));
  other = λ f k d below.
      let here : is_lt (point_order (get_or (stored bounds) middle []) q) ≡ true = less_if or_equal (point_order (get_or (stored bounds) middle []) q) passed (sym e ∙ f) in
      (falls_stored bounds false q).falls k middle d (omega (arith, below)) lt (rw (get_or_default (stored bounds) middle d [] lt) here);
}

-- a point that is tested passes as its order says
pub passes_is : (or_equal : Bool) (q p : List Edge) (r : Ordering) (t : Bool) → r ≡ point_order p q → t ≡ (if or_equal then is_le r else is_lt r) → t ≡ passes or_equal q p
passes_is or_equal q p r t is e = e ∙ rw is refl
