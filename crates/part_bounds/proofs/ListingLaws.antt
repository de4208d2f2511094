-- The sorted array of a list level has its stored points in their order.
use Rattle.std.proofs.Common.{◌≡◌, ℕ, zero, suc, ◌+◌, ◌<◌, ◌≤◌, Bool, true, false, true≢false, not, List, [], ◌∷◌, ◌++◌, Some, map, filter, drop, length, get_or, refl, sym, ap, ◌∙◌, arith, add-one, append-nil}
use Rattle.std.proofs.Math.Seq.{drop-cons}
use Rattle.std.specs.Prelude.{slice_get, if◌then◌else◌}
use Rattle.std.specs.Cmp.{IsStrictWeakOrder}
use Rattle.std.specs.Ordering.{ordering_then}
use Rattle.std.specs.declared.cmp.Ordering.{Ordering}
use Rattle.std.specs.declared.cmp.Ordering.TheVariants.{Less, Equal, Greater}
use Rattle.std.proofs.lemmas.List.{append_assoc, map-append, length-map, get_or-map}
use Rattle.std.proofs.lemmas.List.Sorted.{ranks_by}
use Rattle.std.proofs.lemmas.Option.{slice_get_within, get_or_from_slice_get}
use Rattle.pg_values.specs.declared.value.Value.{Value}
use Rattle.pg_values.specs.declared.value.Value.TheVariants.{Null}
use Rattle.pg_values.specs.Order.{order}
use Rattle.bound_forms.specs.declared.partition_bound.Bound.{Bound}
use Rattle.bound_forms.specs.declared.partition_bound.Bound.TheVariants.{Range, List as Listed, Hash, Default}
use Rattle.part_bounds.specs.declared.listing.Listing.{Listing}
use Rattle.bound_forms.specs.Points.{point_order, edge_order, point_of, is_null, fill_edge, end_of}
use Rattle.bound_forms.specs.declared.point.Edge.TheVariants.{Min, At}
use Rattle.bound_forms.specs.declared.point.Fill.{Fill}
use Rattle.bound_forms.specs.declared.point.Fill.TheVariants.{Min as WithMin, Max as WithMax}
use Rattle.part_bounds.specs.Sorted.{sorted}
use Rattle.part_bounds.specs.Stored.{Each, marks_from, marks, stored, owners, lies_below, of_lists, of_ranges, IsListLevel}
use Rattle.part_bounds.specs.Listings.{values_of, value_at, mark_at, one_place, places_from, listings_from, listing_less, StandsFor}
use Rattle.bound_forms.proofs.PointOrder.{point_total}
use Rattle.part_bounds.proofs.Stable.{map_sorted}
use Rattle.part_bounds.proofs.StoredLaws.{each_of}

-- ---- what a loop over places keeps

pub places_more : (old out : List Listing) (child i : ℕ) (values : List Value) (v : Value) (new : List Listing) → slice_get values i ≡ Some v → new ≡ out ++ one_place child i v → out ++ places_from child i (drop i values) ≡ old → new ++ places_from child (i + 1) (drop (i + 1) values) ≡ old
places_more old out child i values v new at put all =
    let rest = places_from child (suc i) (drop (suc i) values) in
    let here : places_from child i (drop i values) ≡ one_place child i v ++ rest = rw (drop-cons values i v (slice_get_within values i v at), get_or_from_slice_get values i v v at) refl in
    rw (add-one, put) (append_assoc out (one_place child i v) rest ∙ ap (λ l. out ++ l) (sym here) ∙ all)

pub past_end : {A : Type 0} (i : ℕ) (xs : List A) → length xs ≤ i → drop i xs ≡ []
past_end zero [] h = refl
past_end (suc i) [] h = refl
past_end zero (x ∷ xs) h = absurd (omega arith)
past_end (suc i) (x ∷ xs) h = past_end i xs (omega (arith, h))

pub places_done : (old out : List Listing) (child i : ℕ) (values : List Value) → length values ≤ i → out ++ places_from child i (drop i values) ≡ old → out ≡ old
places_done old out child i values over all = sym (append-nil out) ∙ ap (λ l. out ++ places_from child i l) (sym (past_end i values over)) ∙ all

pub child_more : (all out : List Listing) (n : ℕ) (bounds : List Bound) (b : Bound) (new : List Listing) → n < length bounds → b ≡ get_or bounds n b → new ≡ out ++ places_from n 0 (values_of b) → out ++ listings_from n (drop n bounds) ≡ all → new ++ listings_from (n + 1) (drop (n + 1) bounds) ≡ all
child_more all out n bounds b new lt at put done =
    let rest = listings_from (suc n) (drop (suc n) bounds) in
    let here : listings_from n (drop n bounds) ≡ places_from n 0 (values_of b) ++ rest = rw (drop-cons bounds n b lt, ← at) refl in
    rw (add-one, put) (append_assoc out (places_from n 0 (values_of b)) rest ∙ ap (λ l. out ++ l) (sym here) ∙ done)

pub children_done : (all out : List Listing) (n : ℕ) (bounds : List Bound) → length bounds ≤ n → out ++ listings_from n (drop n bounds) ≡ all → out ≡ all
children_done all out n bounds over done = sym (append-nil out) ∙ ap (λ l. out ++ listings_from n l) (sym (past_end n bounds over)) ∙ done

-- ---- points of listed values

then_equal : (r : Ordering) → ordering_then r Equal ≡ r
then_equal Less = refl
then_equal Equal = refl
then_equal Greater = refl

pub one_value : (v w : Value) → point_order (point_of (v ∷ [])) (point_of (w ∷ [])) ≡ order v w
one_value v w = then_equal (order v w)

pub listing_weak : (bounds : List Bound) → IsStrictWeakOrder (listing_less bounds)
listing_weak bounds = ranks_by point_total (λ s. (mark_at bounds s).point)

-- ---- the marks of the places

map_places : (bounds : List Bound) (n k : ℕ) (values : List Value) → ((j : ℕ) → j < length values → get_or (values_of (get_or bounds n Default)) (k + j) Null ≡ get_or values j Null)
    → map (mark_at bounds) (places_from n k values) ≡ map (λ p. record { point = p; child = n }) (map (λ v. point_of (v ∷ [])) (filter (λ v. not (is_null v)) values))
map_places bounds n k [] h = refl
map_places bounds n k (v ∷ values) h = by (is_null v) (map_places bounds n (suc k) values (λ j lt. let e : k + suc j ≡ suc k + j = omega arith in rw e at (h (suc j) (omega (arith, lt)))))
  where
    here : get_or (values_of (get_or bounds n Default)) k Null ≡ v
    here = let e : k + 0 ≡ k = omega arith in rw e at (h 0 (omega arith))

    by : (t : Bool) → map (mark_at bounds) (places_from n (suc k) values) ≡ map (λ p. record { point = p; child = n }) (map (λ v. point_of (v ∷ [])) (filter (λ v. not (is_null v)) values))
        → map (mark_at bounds) ((if t then [] else record { child = n; place = k } ∷ []) ++ places_from n (suc k) values)
        ≡ map (λ p. record { point = p; child = n }) (map (λ v. point_of (v ∷ [])) (if not t then v ∷ filter (λ v. not (is_null v)) values else filter (λ v. not (is_null v)) values))
    by true rest = rest
    by false rest = rw here (ap (λ ms. record { point = point_of (v ∷ []); child = n } ∷ ms) rest)

map_bounds : (all : List Bound) (n : ℕ) (bounds : List Bound) → Each (λ b. of_lists b ≡ true) bounds → ((j : ℕ) → j < length bounds → get_or all (n + j) Default ≡ get_or bounds j Default) → map (mark_at all) (listings_from n bounds) ≡ marks_from n bounds
map_bounds all n [] level h = refl
map_bounds all n (b ∷ bounds) level h = by b level.0 here (map_bounds all (suc n) bounds level.1 (λ j lt. let e : n + suc j ≡ suc n + j = omega arith in rw e at (h (suc j) (omega (arith, lt)))))
  where
    here : get_or all n Default ≡ b
    here = let e : n + 0 ≡ n = omega arith in rw e at (h 0 (omega arith))

    by : (b : Bound) → of_lists b ≡ true → get_or all n Default ≡ b → map (mark_at all) (listings_from (suc n) bounds) ≡ marks_from (suc n) bounds → map (mark_at all) (listings_from n (b ∷ bounds)) ≡ marks_from n (b ∷ bounds)
    by (Listed values) e at rest =
        map-append (mark_at all) (places_from n 0 values) (listings_from (suc n) bounds)
        ∙ ap (λ ms. ms ++ map (mark_at all) (listings_from (suc n) bounds)) (map_places all n 0 values (λ j lt. let z : 0 + j ≡ j = omega arith in rw (at, z) refl))
        ∙ ap (λ ms. map (λ p. record { point = p; child = n }) (map (λ v. point_of (v ∷ [])) (filter (λ v. not (is_null v)) values)) ++ ms) rest
    by Default e at rest = rest
    by (Range l u) e at rest = absurd (true≢false (sym e))
    by (Hash m r) e at rest = absurd (true≢false (sym e))

pub stands : (bounds : List Bound) (listings : List Listing) → listings ≡ sorted (listing_less bounds) (listings_from 0 bounds) → StandsFor bounds listings
stands bounds listings is level =
    ap (map (mark_at bounds)) is
    ∙ map_sorted lies_below (mark_at bounds) (listings_from 0 bounds)
    ∙ ap (sorted lies_below) (map_bounds bounds 0 bounds (each_of (λ b. of_lists b ≡ true) bounds level) (λ j lt. let z : 0 + j ≡ j = omega arith in ap (λ i. get_or bounds i Default) z))

-- a level of ranges lists nothing
pub none_listed : (n : ℕ) (bounds : List Bound) → Each (λ b. of_ranges b ≡ true) bounds → listings_from n bounds ≡ []
none_listed n [] level = refl
none_listed n (Range l u ∷ bounds) level = none_listed (suc n) bounds level.1
none_listed n (Default ∷ bounds) level = none_listed (suc n) bounds level.1
none_listed n (Listed values ∷ bounds) level = absurd (true≢false (sym level.0))
none_listed n (Hash m r ∷ bounds) level = absurd (true≢false (sym level.0))

-- ---- the array by its numbers

pub listed_long : (bounds : List Bound) (listings : List Listing) → IsListLevel bounds → StandsFor bounds listings → length listings ≡ length (stored bounds)
listed_long bounds listings level s =
    sym (length-map listings (mark_at bounds)) ∙ ap length (s level) ∙ sym (length-map (marks bounds) (λ m. m.point))

pub listed_point : (bounds : List Bound) (listings : List Listing) (i : ℕ) (x : Listing) (d : _) → IsListLevel bounds → StandsFor bounds listings → i < length listings → x ≡ get_or listings i x → get_or (stored bounds) i d ≡ point_of (value_at bounds x ∷ [])
listed_point bounds listings i x d level s lt at =
    let mark = mark_at bounds x in
    let n = length-map listings (mark_at bounds) in
    let same : get_or (marks bounds) i mark ≡ mark = ap (λ ms. get_or ms i mark) (sym (s level)) ∙ get_or-map (mark_at bounds) listings i x mark lt ∙ ap (mark_at bounds) (sym at) in
    get_or-map (λ m. m.point) (marks bounds) i mark d (omega (arith, lt, n, ap length (s level))) ∙ ap (λ m. m.point) same

pub listed_owner : (bounds : List Bound) (listings : List Listing) (i : ℕ) (x : Listing) → IsListLevel bounds → StandsFor bounds listings → i < length listings → x ≡ get_or listings i x → x.child ≡ get_or (owners bounds) i 0
listed_owner bounds listings i x level s lt at =
    let mark = mark_at bounds x in
    let n = length-map listings (mark_at bounds) in
    let same : get_or (marks bounds) i mark ≡ mark = ap (λ ms. get_or ms i mark) (sym (s level)) ∙ get_or-map (mark_at bounds) listings i x mark lt ∙ ap (mark_at bounds) (sym at) in
    sym (get_or-map (λ m. m.child) (marks bounds) i mark 0 (omega (arith, lt, n, ap length (s level))) ∙ ap (λ m. m.child) same)

-- ---- the point of a key's first values

pub end_zero : (v : Value) (fill : Fill) (values : List Value) (n : ℕ) → n ≡ 0 → edge_order (At v) (fill_edge fill) ≡ point_order (point_of (v ∷ [])) (end_of 2 n fill values)
end_zero v WithMin values n e = rw e refl
end_zero v WithMax values n e = rw e refl

pub end_one : (v x : Value) (fill : Fill) (values : List Value) (n : ℕ) → n ≡ 1 → slice_get values 0 ≡ Some x → ordering_then (order v x) (edge_order Min (fill_edge fill)) ≡ point_order (point_of (v ∷ [])) (end_of 2 n fill values)
end_one v x fill [] n e at = let lt = slice_get_within [] 0 x at in absurd (omega (arith, lt))
end_one v x fill (y ∷ values) n e at =
    let same : y ≡ x = get_or_from_slice_get (y ∷ values) 0 x x at in
    rw (e, same) (ap (ordering_then (order v x)) (sym (then_equal (edge_order Min (fill_edge fill)))))

pub end_more : (v x : Value) (fill : Fill) (values : List Value) (n : ℕ) → (n ≡ 0 → ⊥) → (n ≡ 1 → ⊥) → n ≤ length values → slice_get values 0 ≡ Some x → ordering_then (order v x) Less ≡ point_order (point_of (v ∷ [])) (end_of 2 n fill values)
end_more v x fill values zero a b h at = absurd (a refl)
end_more v x fill values (suc zero) a b h at = absurd (b refl)
end_more v x fill [] (suc (suc n)) a b h at = absurd (omega (arith, h))
end_more v x fill (y ∷ []) (suc (suc n)) a b h at = absurd (omega (arith, h))
end_more v x fill (y ∷ (z ∷ values)) (suc (suc n)) a b h at =
    let same : y ≡ x = get_or_from_slice_get (y ∷ (z ∷ values)) 0 x x at in
    rw same refl
