-- The leads of a level are those of its stored points.
use Rattle.std.proofs.Common.{◌≡◌, ◌⊎◌, inl, inr, ℕ, zero, suc, ◌+◌, ◌<◌, ◌≤◌, Bool, true, false, true≢false, not, Some, List, [], ◌∷◌, ◌++◌, length, map, filter, drop, get_or, refl, sym, ap, ◌∙◌, arith, add-one, append-nil}
use Rattle.std.proofs.Math.Seq.{drop-cons}
use Rattle.std.proofs.lemmas.List.{append_assoc, map-append, length-map, get_or-map}
use Rattle.std.specs.List.{All}
use Rattle.std.specs.Prelude.{ℤ, slice_get}
use Rattle.pg_values.specs.declared.value.Value.{Value}
use Rattle.bound_forms.specs.declared.partition_bound.Bound.{Bound}
use Rattle.bound_forms.specs.declared.partition_bound.Bound.TheVariants.{Range, List as Listed, Hash, Default}
use Rattle.bound_forms.specs.declared.point.Edge.{Edge}
use Rattle.bound_forms.specs.declared.point.Fill.{Fill}
use Rattle.bound_forms.specs.Points.{point_of, is_null, end_of}
use Rattle.bound_forms.specs.Bounds.{is_below, BoundOfKind, IsInPlainOrder}
use Rattle.part_bounds.specs.declared.listing.Listing.{Listing}
use Rattle.part_bounds.specs.Listings.{mark_at, StandsFor}
use Rattle.part_bounds.specs.Stored.{Each, InRow, points_in, points_of_range, range_points, stored, width, of_ranges, of_lists, IsRangeLevel, IsListLevel, HasPoints, FitsEnd}
use Rattle.part_bounds.specs.Leads.{value_lead, lead, listed_lead, AreLeads, leads_of}
use Rattle.part_bounds.proofs.ListingLaws.{past_end}
use Rattle.part_bounds.proofs.StoredLaws.{each_of, each_stored, in_row, stored_row}
use Rattle.part_bounds.proofs.Strategies.{ranges_by_first, lists_else}

-- ---- what loops keep

range_first : (b : Bound) (bounds : List Bound) → range_points (b ∷ bounds) ≡ points_of_range b ++ range_points bounds
range_first (Range l u) bounds = refl
range_first (Listed values) bounds = refl
range_first (Hash m n) bounds = refl
range_first Default bounds = refl

pub range_more : (all out : List ℤ) (i : ℕ) (bounds : List Bound) (b : Bound) (new : List ℤ) → i < length bounds → b ≡ get_or bounds i b → new ≡ out ++ map lead (points_of_range b)
    → out ++ map lead (range_points (drop i bounds)) ≡ all → new ++ map lead (range_points (drop (i + 1) bounds)) ≡ all
range_more all out i bounds b new lt at put done =
    let rest = range_points (drop (suc i) bounds) in
    let here : range_points (drop i bounds) ≡ points_of_range b ++ rest = rw (drop-cons bounds i b lt, ← at) (range_first b (drop (suc i) bounds)) in
    let both : map lead (range_points (drop i bounds)) ≡ map lead (points_of_range b) ++ map lead rest = ap (map lead) here ∙ map-append lead (points_of_range b) rest in
    rw (add-one, put) (append_assoc out (map lead (points_of_range b)) (map lead rest) ∙ ap (λ l. out ++ l) (sym both) ∙ done)

pub range_done : (all out : List ℤ) (i : ℕ) (bounds : List Bound) → length bounds ≤ i → out ++ map lead (range_points (drop i bounds)) ≡ all → out ≡ all
range_done all out i bounds over done = sym (append-nil out) ∙ ap (λ l. out ++ map lead (range_points l)) (sym (past_end i bounds over)) ∙ done

pub listed_more : (bounds : List Bound) (all out : List ℤ) (i : ℕ) (listings : List Listing) (d : Listing) (x : ℤ) (new : List ℤ) → i < length listings → x ≡ listed_lead bounds (get_or listings i d) → new ≡ out ++ x ∷ []
    → out ++ map (listed_lead bounds) (drop i listings) ≡ all → new ++ map (listed_lead bounds) (drop (i + 1) listings) ≡ all
listed_more bounds all out i listings d x new lt is put done =
    let rest = map (listed_lead bounds) (drop (suc i) listings) in
    let here : map (listed_lead bounds) (drop i listings) ≡ x ∷ rest = rw (drop-cons listings i d lt, is) refl in
    rw (add-one, put) (append_assoc out (x ∷ []) rest ∙ ap (λ l. out ++ l) (sym here) ∙ done)

pub listed_done : (bounds : List Bound) (all out : List ℤ) (i : ℕ) (listings : List Listing) → length listings ≤ i → out ++ map (listed_lead bounds) (drop i listings) ≡ all → out ≡ all
listed_done bounds all out i listings over done = sym (append-nil out) ∙ ap (λ l. out ++ map (listed_lead bounds) l) (sym (past_end i listings over)) ∙ done

-- ---- the leads of a level

pub level_kind : (bounds : List Bound) → IsInPlainOrder bounds → HasPoints bounds → IsRangeLevel bounds ⊎ IsListLevel bounds
level_kind [] order points = inl (λ k d lt. absurd (omega arith))
level_kind (b ∷ bounds) order points = by (of_ranges b) refl
  where
    by : (t : Bool) → of_ranges b ≡ t → IsRangeLevel (b ∷ bounds) ⊎ IsListLevel (b ∷ bounds)
    by true e = inl (ranges_by_first (b ∷ bounds) b order refl e)
    by false e = inr (lists_else (b ∷ bounds) b order refl (omega arith) e points)

listed_marks : (bounds : List Bound) (listings : List Listing) → map lead (map (λ m. m.point) (map (mark_at bounds) listings)) ≡ map (listed_lead bounds) listings
listed_marks bounds [] = refl
listed_marks bounds (s ∷ listings) = ap (λ l. listed_lead bounds s ∷ l) (listed_marks bounds listings)

no_ranges : (bounds : List Bound) → Each (λ b. of_lists b ≡ true) bounds → range_points bounds ≡ []
no_ranges [] h = refl
no_ranges (Listed values ∷ bounds) h = no_ranges bounds h.1
no_ranges (Default ∷ bounds) h = no_ranges bounds h.1
no_ranges (Range l u ∷ bounds) h = absurd (true≢false (sym h.0))
no_ranges (Hash m n ∷ bounds) h = absurd (true≢false (sym h.0))

pub leads_stand : (P : Value → Type 0) (bounds : List Bound) (listings : List Listing) (leads : List ℤ) → All (BoundOfKind P) bounds → IsInPlainOrder bounds → StandsFor bounds listings → (IsRangeLevel bounds → listings ≡ [])
    → leads ≡ leads_of bounds listings → AreLeads bounds leads
leads_stand P bounds listings leads kinds order stands none is points = is ∙ by (level_kind bounds order points)
  where
    by : IsRangeLevel bounds ⊎ IsListLevel bounds → leads_of bounds listings ≡ map lead (stored bounds)
    by (inl ranges) = rw (none ranges) (append-nil (map lead (range_points bounds)) ∙ ap (map lead) (sym (stored_row bounds (in_row P bounds ranges kinds order))))
    by (inr lists) =
        rw (no_ranges bounds (each_of (λ b. of_lists b ≡ true) bounds lists))
        (sym (ap (λ ms. map lead (map (λ m. m.point) ms)) (sym (stands lists)) ∙ listed_marks bounds listings))

pub leads_long : (bounds : List Bound) (leads : List ℤ) → HasPoints bounds → AreLeads bounds leads → length leads ≡ length (stored bounds)
leads_long bounds leads points are = ap length (are points) ∙ length-map (stored bounds) lead

pub lead_here : (bounds : List Bound) (leads : List ℤ) (i : ℕ) (x : ℤ) → HasPoints bounds → AreLeads bounds leads → i < length (stored bounds) → x ≡ get_or leads i x → x ≡ lead (get_or (stored bounds) i [])
lead_here bounds leads i x points are lt at = at ∙ ap (λ l. get_or l i x) (are points) ∙ get_or-map lead (stored bounds) i [] x lt

-- ---- each stored point has an edge

mapped_wide : (values : List Value) → Each (λ p. 0 < length p) (map (λ v. point_of (v ∷ [])) values)
mapped_wide [] = tt
mapped_wide (v ∷ values) = (omega arith, mapped_wide values)

lists_wide : (bounds : List Bound) → Each (λ b. of_lists b ≡ true) bounds → Each (λ b. Each (λ p. 0 < length p) (points_in b)) bounds
lists_wide [] h = tt
lists_wide (Listed values ∷ bounds) h = (mapped_wide (filter (λ v. not (is_null v)) values), lists_wide bounds h.1)
lists_wide (Default ∷ bounds) h = (tt, lists_wide bounds h.1)
lists_wide (Range l u ∷ bounds) h = absurd (true≢false (sym h.0))
lists_wide (Hash m n ∷ bounds) h = absurd (true≢false (sym h.0))

filled_wide : (l u : List Edge) (w : ℕ) → is_below l u ≡ true → length l ≡ w → length u ≡ w → 0 < w
filled_wide [] [] w filled a b = absurd (true≢false (sym filled))
filled_wide [] (f ∷ u) w filled a b = omega (arith, b)
filled_wide (e ∷ l) u w filled a b = omega (arith, a)

row_wide : (bounds : List Bound) (w : ℕ) → InRow bounds → 0 < length (range_points bounds) → ((i : ℕ) → i < length (range_points bounds) → length (get_or (range_points bounds) i []) ≡ w) → 0 < w
row_wide [] w row some all = absurd (omega arith)
row_wide (Range l u ∷ bounds) w row some all = filled_wide l u w row.0 (all 0 (omega arith)) (all 1 (omega arith))
row_wide (Default ∷ bounds) w row some all = absurd (none bounds row some)
  where
    none : (bounds : List Bound) → bounds ≡ [] → 0 < length (range_points bounds) → ⊥
    none [] e lt = omega arith
    none (b ∷ bounds) e lt = cc
row_wide (Listed values ∷ bounds) w row some all = absurd row
row_wide (Hash m n ∷ bounds) w row some all = absurd row

pub width_some : (P : Value → Type 0) (bounds : List Bound) (n : ℕ) (fill : Fill) (values : List Value) → HasPoints bounds → All (BoundOfKind P) bounds → IsInPlainOrder bounds → FitsEnd bounds n fill values → 0 < length (stored bounds) → 0 < width bounds
width_some P bounds n fill values points kinds order fits some = by (level_kind bounds order points)
  where
    by : IsRangeLevel bounds ⊎ IsListLevel bounds → 0 < width bounds
    by (inl ranges) =
        let row = in_row P bounds ranges kinds order in
        let same = stored_row bounds row in
        row_wide bounds (width bounds) row (omega (arith, some, ap length same)) (λ i lt. ap (λ ps. length (get_or ps i [])) (sym same) ∙ (fits i [] (omega (arith, lt, ap length same))).0)
    by (inr lists) = each_stored (λ p. 0 < length p) bounds (lists_wide bounds (each_of (λ b. of_lists b ≡ true) bounds lists)) 0 [] some

-- ---- the lead of the key's point

pub end_valued : (n : ℕ) (fill : Fill) (values : List Value) (v : Value) (x : ℤ) → (n ≡ 0 → ⊥) → slice_get values 0 ≡ Some v → x ≡ value_lead v → (w : ℕ) → 0 < w → x ≡ lead (end_of w n fill values)
end_valued zero fill values v x more at is w some = absurd (more refl)
end_valued (suc n) fill [] v x more at is w some = cc
end_valued (suc n) fill (u ∷ values) v x more at is w some = let same : u ≡ v = cc in rw same is
