-- The list that has a key's value, by the number of stored points that are not above it.
use Rattle.std.proofs.Common.{◌≡◌, ◌⊎◌, inl, inr, ℕ, zero, suc, ◌-◌, ◌<◌, ◌≤◌, Bool, true, false, true≢false, not, ◌||◌, List, [], ◌∷◌, ◌++◌, Some, None, map, filter, length, get_or, refl, sym, ap, ◌∙◌, arith}
use Rattle.std.specs.Prelude.{if◌then◌else◌}
use Rattle.std.specs.List.{All, position, list_any}
use Rattle.std.specs.Ordering.{is_eq, is_le, is_lt}
use Rattle.std.specs.declared.cmp.Ordering.{Ordering}
use Rattle.std.specs.declared.cmp.Ordering.TheVariants.{Less, Equal, Greater}
use Rattle.std.proofs.lemmas.Bool.{cases_lt}
use Rattle.std.proofs.lemmas.List.{get_or-map, get_or_default, length-map}
use Rattle.std.proofs.lemmas.List.Folds.{list_any_none, list_any_at}
use Rattle.pg_values.specs.declared.value.Value.{Value}
use Rattle.pg_values.specs.declared.value.Value.TheVariants.{Null, Int4, Int8, Text, Day, Truth}
use Rattle.pg_values.specs.Order.{order}
use Rattle.bound_forms.specs.declared.partition_bound.Bound.{Bound}
use Rattle.bound_forms.specs.declared.partition_bound.Bound.TheVariants.{Range, List as Listed, Hash, Default}
use Rattle.part_bounds.specs.declared.listing.Listing.{Listing}
use Rattle.bound_forms.specs.declared.point.Edge.{Edge}
use Rattle.bound_forms.specs.Points.{point_order, point_of, is_null}
use Rattle.bound_forms.specs.Listed.{is_same, lists}
use Rattle.bound_forms.specs.Accepts.{accepts, has_null}
use Rattle.bound_forms.specs.Bounds.{IsInPlainOrder}
use Rattle.part_bounds.specs.Stored.{Each, Mark, marks_from, marks, stored, lies_below, passes, of_lists, IsListLevel, Splits, TellsEqual}
use Rattle.part_bounds.specs.Listings.{values_of, value_at, lists_null, StandsFor}
use Rattle.bound_forms.proofs.Choice.{position_none, position_at, position_same, fails_at}
use Rattle.bound_forms.proofs.OverlapLaws.{at_most_one}
use Rattle.part_bounds.proofs.Stable.{any_sorted}
use Rattle.part_bounds.proofs.StoredLaws.{each_of, marks_weak}
use Rattle.part_bounds.proofs.ListingLaws.{one_value, listed_point}

not_null : (w x : Value) → is_null x ≡ false → order w x ≡ Equal → is_null w ≡ false
not_null Null Null h e = h
not_null Null (Int4 n) h e = cc
not_null Null (Int8 n) h e = cc
not_null Null (Text t) h e = cc
not_null Null (Day n) h e = cc
not_null Null (Truth q) h e = cc
not_null (Int4 m) x h e = refl
not_null (Int8 m) x h e = refl
not_null (Text s) x h e = refl
not_null (Day m) x h e = refl
not_null (Truth p) x h e = refl

past : {A : Type 0} (xs : List A) (i : ℕ) (d : A) → length xs ≤ i → get_or xs i d ≡ d
past [] i d h = refl
past (x ∷ xs) zero d h = absurd (omega arith)
past (x ∷ xs) (suc i) d h = past xs i d (omega (arith, h))

-- ---- the child of a value that is not null

record Place (bounds : List Bound) (s : Listing) : Type 0 where
  values : List Value
  child : s.child < length bounds
  is : (d : Bound) → get_or bounds s.child d ≡ Listed values
  within : s.place < length values

there : (bounds : List Bound) (s : Listing) → is_null (value_at bounds s) ≡ false → Place bounds s
there bounds s some = by (get_or bounds s.child Default) refl some
  where
    listed : Bound → Bool
    listed (Listed values) = true
    listed _ = false

    by : (b : Bound) → get_or bounds s.child Default ≡ b → is_null (get_or (values_of b) s.place Null) ≡ false → Place bounds s
    by (Range l u) e h = absurd (true≢false h)
    by (Hash m n) e h = absurd (true≢false h)
    by Default e h = absurd (true≢false h)
    by (Listed values) e h =
        let child : s.child < length bounds = elim (cases_lt s.child (length bounds)) [
          | inl lt ↦ lt
          | inr out ↦ absurd (true≢false (sym (ap listed (sym (past bounds s.child Default out) ∙ e))))
        ] in
        record {
          values = values;
          child = child;
          is = λ d. get_or_default bounds s.child d Default child ∙ e;
          within = elim (cases_lt s.place (length values)) [
            | inl lt ↦ lt
            | inr out ↦ absurd (true≢false (sym (ap is_null (past values s.place Null out)) ∙ h))
          ];
        }

same_if : (r : Ordering) → r ≡ Equal → is_eq r ≡ true
same_if r e = rw e refl

only_accepts : (bounds : List Bound) (key : List Value) (k j : ℕ) (d : Bound) → IsInPlainOrder bounds → k < length bounds → j < k → ((e : Bound) → accepts key (get_or bounds k e) ≡ true) → accepts key (get_or bounds j d) ≡ false
only_accepts bounds key k j d o lt below here = by (accepts key (get_or bounds j d)) refl
  where
    by : (t : Bool) → accepts key (get_or bounds j d) ≡ t → t ≡ false
    by false e = refl
    by true e = let same = at_most_one bounds key j k d o.siblings o.apart (omega (arith, below, lt)) lt e (here d) in absurd (omega (arith, below, same))

found_one : (bounds : List Bound) (x : Value) (s : Listing) → IsInPlainOrder bounds → is_null x ≡ false → order (value_at bounds s) x ≡ Equal → Some s.child ≡ position (accepts (x ∷ [])) bounds
found_one bounds x s o some e =
    let p = there bounds s (not_null (value_at bounds s) x some e) in
    let value : get_or p.values s.place Null ≡ value_at bounds s = ap (λ b. get_or (values_of b) s.place Null) (sym (p.is Default)) in
    let same : is_same (get_or p.values s.place Null) x ≡ true = same_if (order (get_or p.values s.place Null) x) (ap (λ v. order v x) value ∙ e) in
    let here : accepts (x ∷ []) (Listed p.values) ≡ true = list_any_at (λ w. is_same w x) p.values s.place Null p.within same in
    sym (position_at (accepts (x ∷ [])) bounds s.child (Listed p.values) p.child (sym (p.is (Listed p.values))) here
    (λ j d below. only_accepts bounds (x ∷ []) s.child j d o p.child below (λ c. rw (p.is c) here)))

some_value : (x : Value) → has_null (x ∷ []) ≡ false → is_null x ≡ false
some_value x h = by (is_null x) h
  where
    by : (t : Bool) → t || false ≡ false → t ≡ false
    by false e = refl
    by true e = cc

pub list_found : (bounds : List Bound) (listings : List Listing) (key : List Value) (n : ℕ) (s : Listing) → IsInPlainOrder bounds → IsListLevel bounds → StandsFor bounds listings → length key ≡ 1 → has_null key ≡ false → n ≤ length listings
    → TellsEqual (stored bounds) (point_of key) n true → s ≡ get_or listings (n - 1) s → Some s.child ≡ position (accepts key) bounds
list_found bounds listings [] n s o level stands one null le t at = absurd (omega (arith, one))
list_found bounds listings (x ∷ []) n s o level stands one null le t at =
    let told = t.told refl in
    let some = told.0 in
    let point : get_or (stored bounds) (n - 1) [] ≡ point_of (value_at bounds s ∷ []) = listed_point bounds listings (n - 1) s [] level stands (omega (arith, some, le)) at in
    found_one bounds x s o (some_value x null) (sym (one_value (value_at bounds s) x) ∙ ap (λ p. point_order p (point_of (x ∷ []))) (sym point) ∙ told.1)
list_found bounds listings (x ∷ (y ∷ key)) n s o level stands one null le t at = absurd (omega (arith, one))

-- ---- where none is equal, none accepts

abbrev equals : List Edge → Mark → Bool
equals q m = is_eq (point_order m.point q)

any_append : {A : Type 0} (p : A → Bool) (xs ys : List A) → list_any p (xs ++ ys) ≡ (list_any p xs || list_any p ys)
any_append p [] ys = refl
any_append p (x ∷ xs) ys = by (p x) (any_append p xs ys)
  where
    by : (t : Bool) → list_any p (xs ++ ys) ≡ (list_any p xs || list_any p ys) → t || list_any p (xs ++ ys) ≡ (t || list_any p xs) || list_any p ys
    by true e = refl
    by false e = e

null_differs : (v x : Value) → is_null x ≡ false → is_null v ≡ true → is_same v x ≡ false
null_differs v x h e = by (is_same v x) refl
  where
    eq_equal : (r : Ordering) → is_eq r ≡ true → r ≡ Equal
    eq_equal Less h = cc
    eq_equal Equal h = refl
    eq_equal Greater h = cc

    by : (t : Bool) → is_same v x ≡ t → t ≡ false
    by false f = refl
    by true f = absurd (true≢false (sym e ∙ not_null v x h (eq_equal (order v x) f)))

any_values : (n : ℕ) (values : List Value) (x : Value) → is_null x ≡ false → list_any (equals (point_of (x ∷ []))) (map (λ p. record { point = p; child = n }) (map (λ v. point_of (v ∷ [])) (filter (λ v. not (is_null v)) values))) ≡ lists values x
any_values n [] x h = refl
any_values n (v ∷ values) x h = by (is_null v) refl (any_values n values x h)
  where
    by : (t : Bool) → is_null v ≡ t → list_any (equals (point_of (x ∷ []))) (map (λ p. record { point = p; child = n }) (map (λ v. point_of (v ∷ [])) (filter (λ v. not (is_null v)) values))) ≡ lists values x
        → list_any (equals (point_of (x ∷ []))) (map (λ p. record { point = p; child = n }) (map (λ v. point_of (v ∷ [])) (if not t then v ∷ filter (λ v. not (is_null v)) values else filter (λ v. not (is_null v)) values))) ≡ (is_same v x || lists values x)
    by true e go = go ∙ rw (null_differs v x h e) refl
    by false e go = rw (one_value v x, go) refl

any_marks : (n : ℕ) (bounds : List Bound) (x : Value) → is_null x ≡ false → Each (λ b. of_lists b ≡ true) bounds → list_any (equals (point_of (x ∷ []))) (marks_from n bounds) ≡ list_any (accepts (x ∷ [])) bounds
any_marks n [] x h level = refl
any_marks n (Listed values ∷ bounds) x h level =
    any_append (equals (point_of (x ∷ []))) (map (λ p. record { point = p; child = n }) (map (λ v. point_of (v ∷ [])) (filter (λ v. not (is_null v)) values))) (marks_from (suc n) bounds)
    ∙ rw (any_values n values x h, any_marks (suc n) bounds x h level.1) refl
any_marks n (Default ∷ bounds) x h level = any_marks (suc n) bounds x h level.1
any_marks n (Range l u ∷ bounds) x h level = absurd (true≢false (sym level.0))
any_marks n (Hash m r ∷ bounds) x h level = absurd (true≢false (sym level.0))

not_equal : (r : Ordering) → is_lt r ≡ true → is_eq r ≡ false
not_equal Less h = refl
not_equal Equal h = cc
not_equal Greater h = cc

not_equal_above : (r : Ordering) → is_le r ≡ false → is_eq r ≡ false
not_equal_above Less h = refl
not_equal_above Equal h = cc
not_equal_above Greater h = refl

none_equal : (bounds : List Bound) (q : List Edge) (n : ℕ) → Splits (passes true q) (stored bounds) n → TellsEqual (stored bounds) q n false → All (λ m. equals q m ≡ false) (marks bounds)
none_equal bounds q n s t k d lt =
    let long = length-map (marks bounds) (λ (m : Mark). m.point) in
    let w : k < length (stored bounds) = omega (arith, lt, long) in
    let at : get_or (stored bounds) k [] ≡ (get_or (marks bounds) k d).point = get_or-map (λ (m : Mark). m.point) (marks bounds) k d [] lt in
    ap (λ p. is_eq (point_order p q)) (sym at) ∙ by w (cases_lt k n)
  where
    by : k < length (stored bounds) → (k < n) ⊎ (n ≤ k) → is_eq (point_order (get_or (stored bounds) k []) q) ≡ false
    by w (inl below) = not_equal (point_order (get_or (stored bounds) k []) q) (t.other refl k [] below)
    by w (inr above) = not_equal_above (point_order (get_or (stored bounds) k []) q) (s.behind k [] above w)

none_one : (bounds : List Bound) (x : Value) (n : ℕ) → IsListLevel bounds → is_null x ≡ false → Splits (passes true (point_of (x ∷ []))) (stored bounds) n → TellsEqual (stored bounds) (point_of (x ∷ [])) n false → None ≡ position (accepts (x ∷ [])) bounds
none_one bounds x n level some s t =
    let none : list_any (accepts (x ∷ [])) bounds ≡ false =
    sym (any_marks 0 bounds x some (each_of (λ b. of_lists b ≡ true) bounds level))
    ∙ sym (any_sorted lies_below marks_weak (equals (point_of (x ∷ []))) (marks_from 0 bounds))
    ∙ list_any_none (equals (point_of (x ∷ []))) (marks bounds) (none_equal bounds (point_of (x ∷ [])) n s t) in
    sym (position_none (accepts (x ∷ [])) bounds (λ k d lt. fails_at (accepts (x ∷ [])) bounds k d lt none))

pub list_none : (bounds : List Bound) (key : List Value) (n : ℕ) → IsListLevel bounds → length key ≡ 1 → has_null key ≡ false → Splits (passes true (point_of key)) (stored bounds) n → TellsEqual (stored bounds) (point_of key) n false → None ≡ position (accepts key) bounds
list_none bounds [] n level one null s t = absurd (omega (arith, one))
list_none bounds (x ∷ []) n level one null s t = none_one bounds x n level (some_value x null) s t
list_none bounds (x ∷ (y ∷ key)) n level one null s t = absurd (omega (arith, one))

-- ---- NULL

null_same : (v : Value) → is_null v ≡ is_same v Null
null_same Null = refl
null_same (Int4 n) = refl
null_same (Int8 n) = refl
null_same (Text t) = refl
null_same (Day n) = refl
null_same (Truth q) = refl

null_listed : (values : List Value) → list_any is_null values ≡ lists values Null
null_listed [] = refl
null_listed (v ∷ values) = rw (null_same v, null_listed values) refl

null_key : (bounds : List Bound) (x : Value) → IsListLevel bounds → x ≡ Null → position lists_null bounds ≡ position (accepts (x ∷ [])) bounds
null_key bounds x level e = position_same lists_null (accepts (x ∷ [])) bounds (λ k d lt. by (get_or bounds k d) (level k d lt))
  where
    by : (b : Bound) → of_lists b ≡ true → lists_null b ≡ accepts (x ∷ []) b
    by (Listed values) h = rw e (null_listed values)
    by Default h = refl
    by (Range l u) h = absurd (true≢false (sym h))
    by (Hash m r) h = absurd (true≢false (sym h))

pub list_null : (bounds : List Bound) (key : List Value) → IsListLevel bounds → length key ≡ 1 → has_null key ≡ true → position lists_null bounds ≡ position (accepts key) bounds
list_null bounds [] level one null = absurd (omega (arith, one))
list_null bounds (x ∷ []) level one null = null_key bounds x level (by x null)
  where
    by : (x : Value) → has_null (x ∷ []) ≡ true → x ≡ Null
    by Null h = refl
    by (Int4 n) h = cc
    by (Int8 n) h = cc
    by (Text t) h = cc
    by (Day n) h = cc
    by (Truth q) h = cc
list_null bounds (x ∷ (y ∷ key)) level one null = absurd (omega (arith, one))
