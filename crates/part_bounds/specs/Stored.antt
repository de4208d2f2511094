-- The stored points of a level, ascending, and their children; the points that a search compares them with, and how many of them pass a
-- test.
use Rattle.std.specs.Prelude.{◌≡◌, ◌<◌, ◌≤◌, ℕ, suc, ◌-◌, Bool, true, false, not, List, [], ◌∷◌, ◌++◌, map, filter, length, All, if◌then◌else◌}
use Rattle.std.specs.List.{slice_index_or, list_any, AllPairs}
use Rattle.std.specs.Ordering.{is_lt, is_le, is_gt}
use Rattle.std.specs.declared.cmp.Ordering.TheVariants.{Equal}
use Rattle.pg_values.specs.declared.value.Value.{Value}
use Rattle.bound_forms.specs.declared.partition_bound.Bound.{Bound}
use Rattle.bound_forms.specs.declared.partition_bound.Bound.TheVariants.{Range, List as Listed, Hash, Default}
use Rattle.bound_forms.specs.declared.point.Edge.{Edge}
use Rattle.bound_forms.specs.declared.point.Fill.{Fill}
use Rattle.bound_forms.specs.Points.{point_order, point_of, is_null, PointsFit, end_of}
use Rattle.bound_forms.specs.Accepts.{lies_between}
use Rattle.bound_forms.specs.Bounds.{CanCompare, is_below, takes_default}
use Rattle.part_bounds.specs.Sorted.{sorted}

-- ---- the stored points

-- a stored point and its child
pub record Mark : Type 0 where
  pub point : List Edge
  pub child : ℕ

-- the lower and the upper point of a range; the listed values that are not null, filled up with MIN
abbrev pub points_in : Bound → List (List Edge)
points_in (Range lower upper) = lower ∷ (upper ∷ [])
points_in (Listed values) = map (λ v. point_of (v ∷ [])) (filter (λ v. not (is_null v)) values)
points_in (Hash modulus remainder) = []
points_in Default = []

-- the points of all bounds, which are numbered from n on
abbrev pub marks_from : ℕ → List Bound → List Mark
marks_from n [] = []
marks_from n (b ∷ bounds) = map (λ p. record { point = p; child = n }) (points_in b) ++ marks_from (suc n) bounds

abbrev pub lies_below : Mark → Mark → Bool
lies_below a b = is_below a.point b.point

-- ascending; points that tie stand in the order of the bounds
abbrev pub marks : List Bound → List Mark
marks bounds = sorted lies_below (marks_from 0 bounds)

abbrev pub stored : List Bound → List (List Edge)
stored bounds = map (λ m. m.point) (marks bounds)

-- the child of each stored point
abbrev pub owners : List Bound → List ℕ
owners bounds = map (λ m. m.child) (marks bounds)

-- ---- strategies

-- ranges, and perhaps a default
abbrev pub of_ranges : Bound → Bool
of_ranges (Range lower upper) = true
of_ranges Default = true
of_ranges _ = false

abbrev pub IsRangeLevel : List Bound → Type 0
IsRangeLevel bounds = All (λ b. of_ranges b ≡ true) bounds

-- lists, and perhaps a default
abbrev pub of_lists : Bound → Bool
of_lists (Listed values) = true
of_lists Default = true
of_lists _ = false

abbrev pub IsListLevel : List Bound → Type 0
IsListLevel bounds = All (λ b. of_lists b ≡ true) bounds

abbrev pub of_hashes : Bound → Bool
of_hashes (Hash modulus remainder) = true
of_hashes _ = false

abbrev pub IsHashLevel : List Bound → Type 0
IsHashLevel bounds = All (λ b. of_hashes b ≡ true) bounds

-- ranges or lists, perhaps with a default
abbrev pub HasPoints : List Bound → Type 0
HasPoints bounds = All (λ b. takes_default b ≡ true) bounds

-- ---- points that are searched for

-- how many edges the stored points have
abbrev pub width : List Bound → ℕ
width bounds = length (slice_index_or (stored bounds) 0 [])

-- each stored point can be compared with it
abbrev pub FitsEnd : List Bound → ℕ → Fill → List Value → Type 0
FitsEnd bounds n fill values = All (λ p. (length p ≡ width bounds) × PointsFit p (end_of (length p) n fill values)) (stored bounds)

-- below the point q, or not above it
abbrev pub passes : Bool → List Edge → List Edge → Bool
passes or_equal q p = if or_equal then is_le (point_order p q) else is_lt (point_order p q)

-- the first n pass, and no other
pub record Splits {A : Type 0} (P : A → Bool) (xs : List A) (n : ℕ) : Type 0 where
  pub within : n ≤ length xs
  pub before : (k : ℕ) (d : A) → k < n → P (slice_index_or xs k d) ≡ true
  pub behind : (k : ℕ) (d : A) → n ≤ k → k < length xs → P (slice_index_or xs k d) ≡ false

-- of the first n points, which are not above q, it is told whether the last is equal to q
pub record TellsEqual (points : List (List Edge)) (q : List Edge) (n : ℕ) (equal : Bool) : Type 0 where
  pub told : equal ≡ true → (0 < n) × (point_order (slice_index_or points (n - 1) []) q ≡ Equal)
  pub other : equal ≡ false → (k : ℕ) (d : List Edge) → k < n → is_lt (point_order (slice_index_or points k d) q) ≡ true

-- ---- ranges in their order

-- the lower and the upper point of a range
abbrev pub points_of_range : Bound → List (List Edge)
points_of_range (Range lower upper) = lower ∷ (upper ∷ [])
points_of_range _ = []

-- those of each range
abbrev pub range_points : List Bound → List (List Edge)
range_points [] = []
range_points (Range lower upper ∷ bounds) = lower ∷ (upper ∷ range_points bounds)
range_points (Listed values ∷ bounds) = range_points bounds
range_points (Hash modulus remainder ∷ bounds) = range_points bounds
range_points (Default ∷ bounds) = range_points bounds

-- a fact of each element, from the front
abbrev pub Each : {X : Type 0} → (X → Type 0) → List X → Type 0
Each P [] = Unit {0}
Each P (x ∷ xs) = P x × Each P xs

-- ranges that are not empty, each behind the one before it, and the default behind them
abbrev pub InRow : List Bound → Type 0
InRow [] = Unit {0}
InRow (Range lower upper ∷ bounds) = (is_below lower upper ≡ true) × Each (λ p. is_gt (point_order upper p) ≡ false) (range_points bounds) × InRow bounds
InRow (Default ∷ bounds) = bounds ≡ []
InRow (Listed values ∷ bounds) = ⊥
InRow (Hash modulus remainder ∷ bounds) = ⊥

-- a point lies in a range
abbrev pub lies_in : List Edge → Bound → Bool
lies_in p (Range lower upper) = lies_between lower upper p
lies_in p _ = false

abbrev pub in_sibling : List Bound → List Edge → Bool
in_sibling bounds p = list_any (lies_in p) bounds

abbrev pub upper_of : Bound → List Edge
upper_of (Range lower upper) = upper
upper_of _ = []

-- each range can be compared with each later one
abbrev pub RangesFit : List Bound → Type 0
RangesFit bounds = AllPairs CanCompare bounds

-- a range begins at the point or below it
abbrev pub begins_up_to : List Edge → Bound → Bool
begins_up_to p (Range lower upper) = not (is_lt (point_order p lower))
begins_up_to p _ = false

abbrev pub CanBegin : List Edge → Bound → Type 0
CanBegin p (Range lower upper) = PointsFit p lower
CanBegin p _ = Unit {0}
