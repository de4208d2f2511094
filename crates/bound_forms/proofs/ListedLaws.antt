-- Lists that share a value.
use Rattle.std.proofs.Common.{◌≡◌, Bool, true, false, ℕ, suc, ◌+◌, ◌<◌, List, [], ◌∷◌, length, get_or, refl, sym, ap, ◌∙◌, arith, Some, drop, slice_get, add-one, if◌then◌else◌}
use Rattle.std.specs.List.{All, list_any, fold}
use Rattle.std.proofs.Math.Seq.{drop-cons}
use Rattle.std.proofs.lemmas.Option.{slice_get_within, get_or_from_slice_get}
use Rattle.std.proofs.lemmas.List.Elements.{All-head, All-tail}
use Rattle.std.specs.Ordering.{is_eq, is_gt, ordering_then}
use Rattle.std.specs.declared.cmp.Ordering.{Ordering}
use Rattle.std.specs.declared.cmp.Ordering.TheVariants.{Less, Equal, Greater}
use Rattle.std.proofs.lemmas.List.Folds.{list_any_at}
use Rattle.pg_values.specs.declared.value.Value.{Value}
use Rattle.pg_values.specs.declared.value.Value.TheVariants.{Null, Int4, Int8, Text, Day, Truth}
use Rattle.pg_values.specs.Order.{order}
use Rattle.pg_values.specs.KeyKinds.{order_total}
use Rattle.bound_forms.specs.declared.partition_bound.Bound.TheVariants.{List as Listed}
use Rattle.bound_forms.specs.declared.point.Edge.{Edge}
use Rattle.bound_forms.specs.declared.point.Edge.TheVariants.{At, Max}
use Rattle.bound_forms.specs.Points.{is_null, edge_order}
use Rattle.bound_forms.specs.Bounds.{is_filled, comes_after, overlaps}
use Rattle.bound_forms.specs.Listed.{is_same, lists, share_value, listed_edge, lesser_value, least}
use Rattle.bound_forms.proofs.PointOrder.{edge_total}
use Rattle.bound_forms.proofs.TotalOrder.{turn}

is_equal : (r : Ordering) → is_eq r ≡ true → r ≡ Equal
is_equal Equal h = refl
is_equal Less h = cc
is_equal Greater h = cc

pub same_turned : (v w : Value) → is_same v w ≡ is_same w v
same_turned v w = by (order v w) refl
  where
    by : (r : Ordering) → order v w ≡ r → is_eq r ≡ is_same w v
    by Less e = ap is_eq (sym (turn order_total v w Less e))
    by Equal e = ap is_eq (sym (turn order_total v w Equal e))
    by Greater e = ap is_eq (sym (turn order_total v w Greater e))

-- the same as a third
pub same_trans : (v w x : Value) → is_same v w ≡ true → is_same w x ≡ true → is_same v x ≡ true
same_trans v w x h k = ap is_eq (order_total.congr v w x (is_equal (order v w) h)) ∙ k

-- a value that passes, by its place
pub found : {A : Type 0} (p : A → Bool) (xs : List A) → list_any p xs ≡ true → (i : ℕ) × (i < length xs) × ((d : A) → p (get_or xs i d) ≡ true)
found {A} p [] e = cc
found {A} p (x ∷ xs) e = by (p x) refl e (found p xs)
  where
    by : (t : Bool) → p x ≡ t → list_any p (x ∷ xs) ≡ true → (list_any p xs ≡ true → (i : ℕ) × (i < length xs) × ((d : A) → p (get_or xs i d) ≡ true))
        → (i : ℕ) × (i < length (x ∷ xs)) × ((d : A) → p (get_or (x ∷ xs) i d) ≡ true)
    by true h e rest = (0, omega arith, λ d. h)
    by false h e rest = let more = rest (rw h at e) in (suc more.0, omega (arith, more.1), more.2)

-- two values that are the same, one in each list
pub shares_at : (values others : List Value) (i j : ℕ) (d e : Value) → i < length values → j < length others → is_same (get_or others j e) (get_or values i d) ≡ true → share_value values others ≡ true
shares_at values others i j d e lt le h = list_any_at (λ v. lists others v) values i d lt (list_any_at (λ w. is_same w (get_or values i d)) others j e le h)

-- lists that share no value do not list one key both
pub not_shared : (values others : List Value) (key : Value) → share_value values others ≡ false → lists values key ≡ true → lists others key ≡ false
not_shared values others key apart h = by (lists others key) refl
  where
    by : (t : Bool) → lists others key ≡ t → t ≡ false
    by false e = refl
    by true e =
        let one = found (λ w. is_same w key) values h in
        let two = found (λ w. is_same w key) others e in
        let same = same_trans (get_or others two.0 Null) key (get_or values one.0 Null) (two.2 Null) (same_turned key (get_or values one.0 Null) ∙ one.2 Null) in
        sym (shares_at values others one.0 two.0 Null Null one.1 two.1 same) ∙ apart

share_other : (values others : List Value) → share_value values others ≡ true → share_value others values ≡ true
share_other values others h =
    let one = found (λ v. lists others v) values h in
    let v = get_or values one.0 Null in
    let two = found (λ w. is_same w v) others (one.2 Null) in
    shares_at others values two.0 one.0 Null Null two.1 one.1 (same_turned v (get_or others two.0 Null) ∙ two.2 Null)

pub share_turned : (values others : List Value) → share_value values others ≡ share_value others values
share_turned values others = by (share_value values others) refl (share_value others values) refl
  where
    by : (s : Bool) → share_value values others ≡ s → (t : Bool) → share_value others values ≡ t → s ≡ t
    by true e true f = refl
    by false e false f = refl
    by true e false f = sym (share_other values others e) ∙ f
    by false e true f = sym e ∙ share_other others values f

-- ---- the least listed value

same_self : (v : Value) → is_same v v ≡ true
same_self v = by (order v v) refl
  where
    by : (r : Ordering) → order v v ≡ r → is_eq r ≡ true
    by Equal e = refl
    by Less e = let back = turn order_total v v Less e in cc
    by Greater e = let back = turn order_total v v Greater e in cc

-- each listed value is among those listed
lists_own : (values : List Value) → All (λ v. lists values v ≡ true) values
lists_own values i d lt = list_any_at (λ w. is_same w (get_or values i d)) values i d lt (same_self (get_or values i d))

lesser_keeps : (P : Value → Type 0) (v w : Value) → P v → P w → P (lesser_value v w)
lesser_keeps P v w p q = by (is_gt (edge_order (listed_edge v) (listed_edge w)))
  where
    by : (t : Bool) → P (if t then w else v)
    by true = q
    by false = p

-- what holds of each value holds of the least
fold_keeps : (P : Value → Type 0) (v : Value) (values : List Value) → P v → All P values → P (fold lesser_value v values)
fold_keeps P v [] p all = p
fold_keeps P v (w ∷ values) p all = fold_keeps P (lesser_value v w) values (lesser_keeps P v w p (All-head P w values all)) (All-tail P w values all)

-- the least value is one of those listed
pub least_listed : (values : List Value) → is_filled (Listed values) ≡ true → lists values (least values) ≡ true
least_listed [] f = cc
least_listed (v ∷ values) f =
    let P : Value → Type 0 = λ x. lists (v ∷ values) x ≡ true in
    let own : All P (v ∷ values) = lists_own (v ∷ values) in
    fold_keeps P v values (All-head P v values own) (All-tail P v values own)

pub null_is : (v : Value) → is_null v ≡ true → v ≡ Null
null_is Null h = refl
null_is (Int4 n) h = cc
null_is (Int8 n) h = cc
null_is (Text s) h = cc
null_is (Day n) h = cc
null_is (Truth t) h = cc

-- values with one edge are the same
edge_same : (v w : Value) → edge_order (listed_edge v) (listed_edge w) ≡ Equal → is_same v w ≡ true
edge_same v w h = by (is_null v) refl (is_null w) refl h
  where
    by : (s : Bool) → is_null v ≡ s → (t : Bool) → is_null w ≡ t → edge_order (if s then Max else At v) (if t then Max else At w) ≡ Equal → is_same v w ≡ true
    by true e true f h = rw (null_is v e, null_is w f) refl
    by true e false f h = cc
    by false e true f h = cc
    by false e false f h = ap is_eq h

share_same : (values others : List Value) (x y : Value) → lists values x ≡ true → lists others y ≡ true → is_same x y ≡ true → share_value values others ≡ true
share_same values others x y h k e =
    let one = found (λ v. is_same v x) values h in
    let two = found (λ w. is_same w y) others k in
    let v = get_or values one.0 Null in
    let w = get_or others two.0 Null in
    shares_at values others one.0 two.0 Null Null one.1 two.1 (same_trans w x v (same_trans w y x (two.2 Null) (same_turned y x ∙ e)) (same_turned x v ∙ one.2 Null))

-- lists that stand at one place share their least value
pub shared_least : (values others : List Value) → is_filled (Listed values) ≡ true → is_filled (Listed others) ≡ true → comes_after (Listed values) (Listed others) ≡ false → comes_after (Listed others) (Listed values) ≡ false
    → overlaps (Listed values) (Listed others) ≡ true
shared_least values others f g h k = share_same values others (least values) (least others) (least_listed values f) (least_listed others g) (edge_same (least values) (least others) (by (edge_order e o) refl h k))
  where
    e : Edge
    e = listed_edge (least values)

    o : Edge
    o = listed_edge (least others)

    by : (r : Ordering) → edge_order e o ≡ r → is_gt (ordering_then r Equal) ≡ false → is_gt (ordering_then (edge_order o e) Equal) ≡ false → r ≡ Equal
    by Equal q h k = refl
    by Greater q h k = cc
    by Less q h k = let back = rw (turn edge_total e o Less q) at k in cc

-- ---- the walk to the least value

pub least_start : (values : List Value) → 0 < length values → fold lesser_value (get_or values 0 Null) (drop 1 values) ≡ least values
least_start [] h = absurd (omega arith)
least_start (v ∷ values) h = refl

-- one value more
pub least_step : (values : List Value) (v : Value) (i : ℕ) (w : Value) → slice_get values i ≡ Some w → fold lesser_value v (drop i values) ≡ fold lesser_value (lesser_value v w) (drop (i + 1) values)
least_step values v i w at_w = rw (drop-cons values i w (slice_get_within values i w at_w), get_or_from_slice_get values i w w at_w, add-one) refl

-- the value at the place is behind the next one, which is then the least so far
pub least_taken : (values : List Value) (at i : ℕ) (v w : Value) → slice_get values at ≡ Some v → slice_get values i ≡ Some w → is_gt (edge_order (listed_edge v) (listed_edge w)) ≡ true
    → fold lesser_value (get_or values at Null) (drop i values) ≡ least values → fold lesser_value (get_or values i Null) (drop (i + 1) values) ≡ least values
least_taken values at i v w at_v at_w behind told =
    let here : lesser_value v w ≡ w = rw behind refl in
    let first : fold lesser_value v (drop i values) ≡ least values = ap (λ x. fold lesser_value x (drop i values)) (sym (get_or_from_slice_get values at v Null at_v)) ∙ told in
    ap (λ x. fold lesser_value x (drop (i + 1) values)) (get_or_from_slice_get values i w Null at_w ∙ sym here) ∙ sym (least_step values v i w at_w) ∙ first

-- and else it stays the least
pub least_stays : (values : List Value) (at i : ℕ) (v w : Value) → slice_get values at ≡ Some v → slice_get values i ≡ Some w → is_gt (edge_order (listed_edge v) (listed_edge w)) ≡ false
    → fold lesser_value (get_or values at Null) (drop i values) ≡ least values → fold lesser_value (get_or values at Null) (drop (i + 1) values) ≡ least values
least_stays values at i v w at_v at_w before told =
    let here : lesser_value v w ≡ v = rw before refl in
    let first : fold lesser_value v (drop i values) ≡ least values = ap (λ x. fold lesser_value x (drop i values)) (sym (get_or_from_slice_get values at v Null at_v)) ∙ told in
    ap (λ x. fold lesser_value x (drop (i + 1) values)) (get_or_from_slice_get values at v Null at_v ∙ sym here) ∙ sym (least_step values v i w at_w) ∙ first
