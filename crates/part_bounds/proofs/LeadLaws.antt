-- Points by their leads.
use Rattle.std.proofs.Common.{◌≡◌, w64, ℕ, ◌<◌, Bool, true, false, true≢false, cond, List, [], ◌∷◌, length, get_or, refl, sym, ap, subst, ◌∙◌, arith}
use Rattle.std.proofs.lemmas.Int.{ints, by_lt_z}
use Rattle.std.proofs.lemmas.Cmp.{int_ranked}
use Rattle.std.specs.Cmp.{int_cmp_is}
use Rattle.std.specs.Prelude.{if◌then◌else◌, ℤ, pos, negsuc, FitsSigned, int_lt, ◌<ℤ◌}
use Rattle.std.specs.Ordering.{is_eq, is_le, is_lt, int_cmp, ordering_then}
use Rattle.std.specs.declared.cmp.Ordering.{Ordering}
use Rattle.std.specs.declared.cmp.Ordering.TheVariants.{Less, Equal, Greater}
use Rattle.pg_values.specs.declared.value.Value.{Value}
use Rattle.pg_values.specs.declared.value.Value.TheVariants.{Null, Int4, Int8, Text, Day, Truth}
use Rattle.pg_values.specs.Order.{order, AreComparable}
use Rattle.bound_forms.specs.declared.point.Edge.{Edge}
use Rattle.bound_forms.specs.declared.point.Edge.TheVariants.{Min, At, Max}
use Rattle.bound_forms.specs.declared.partition_bound.Bound.{Bound}
use Rattle.bound_forms.specs.declared.point.Fill.{Fill}
use Rattle.bound_forms.specs.Points.{edge_order, point_order, end_of, EdgesFit, PointsFit}
use Rattle.part_bounds.specs.Stored.{stored, width, passes, FitsEnd}
use Rattle.part_bounds.specs.Leads.{value_lead, edge_lead, lead}

-- ---- the order of two points whose leads differ

value_told : (v w : Value) → AreComparable v w → (value_lead v ≡ value_lead w → ⊥) → order v w ≡ int_cmp (value_lead v) (value_lead w)
value_told Null Null comparable apart = absurd (true≢false (sym comparable))
value_told Null (Int4 n) comparable apart = absurd (true≢false (sym comparable))
value_told Null (Int8 n) comparable apart = absurd (true≢false (sym comparable))
value_told Null (Text t) comparable apart = absurd (true≢false (sym comparable))
value_told Null (Day n) comparable apart = absurd (true≢false (sym comparable))
value_told Null (Truth q) comparable apart = absurd (true≢false (sym comparable))
value_told (Int4 m) Null comparable apart = absurd (true≢false (sym comparable))
value_told (Int4 m) (Int4 n) comparable apart = refl
value_told (Int4 m) (Int8 n) comparable apart = refl
value_told (Int4 m) (Text t) comparable apart = absurd (true≢false (sym comparable))
value_told (Int4 m) (Day n) comparable apart = absurd (true≢false (sym comparable))
value_told (Int4 m) (Truth q) comparable apart = absurd (true≢false (sym comparable))
value_told (Int8 m) Null comparable apart = absurd (true≢false (sym comparable))
value_told (Int8 m) (Int4 n) comparable apart = refl
value_told (Int8 m) (Int8 n) comparable apart = refl
value_told (Int8 m) (Text t) comparable apart = absurd (true≢false (sym comparable))
value_told (Int8 m) (Day n) comparable apart = absurd (true≢false (sym comparable))
value_told (Int8 m) (Truth q) comparable apart = absurd (true≢false (sym comparable))
value_told (Text s) Null comparable apart = absurd (true≢false (sym comparable))
value_told (Text s) (Int4 n) comparable apart = absurd (true≢false (sym comparable))
value_told (Text s) (Int8 n) comparable apart = absurd (true≢false (sym comparable))
value_told (Text s) (Text t) comparable apart = absurd (apart refl)
value_told (Text s) (Day n) comparable apart = absurd (true≢false (sym comparable))
value_told (Text s) (Truth q) comparable apart = absurd (true≢false (sym comparable))
value_told (Day m) Null comparable apart = absurd (true≢false (sym comparable))
value_told (Day m) (Int4 n) comparable apart = absurd (true≢false (sym comparable))
value_told (Day m) (Int8 n) comparable apart = absurd (true≢false (sym comparable))
value_told (Day m) (Text t) comparable apart = absurd (true≢false (sym comparable))
value_told (Day m) (Day n) comparable apart = refl
value_told (Day m) (Truth q) comparable apart = absurd (true≢false (sym comparable))
value_told (Truth p) Null comparable apart = absurd (true≢false (sym comparable))
value_told (Truth p) (Int4 n) comparable apart = absurd (true≢false (sym comparable))
value_told (Truth p) (Int8 n) comparable apart = absurd (true≢false (sym comparable))
value_told (Truth p) (Text t) comparable apart = absurd (true≢false (sym comparable))
value_told (Truth p) (Day n) comparable apart = absurd (true≢false (sym comparable))
value_told (Truth p) (Truth q) comparable apart = absurd (apart refl)

-- no bigint lies below the lead of MINVALUE or above that of MAXVALUE
above_least : (z : ℤ) → FitsSigned w64 z → (negsuc 9223372036854775807 ≡ z → ⊥) → negsuc 9223372036854775807 <ℤ z
above_least z fits apart = by_lt_z (negsuc 9223372036854775807) z (λ h. h) (λ h. absurd (apart (omega (arith, ints))))

below_greatest : (z : ℤ) → FitsSigned w64 z → (z ≡ pos 9223372036854775807 → ⊥) → z <ℤ pos 9223372036854775807
below_greatest z fits apart = by_lt_z z (pos 9223372036854775807) (λ h. h) (λ h. absurd (apart (omega (arith, ints))))

edge_told : (e f : Edge) → EdgesFit e f → FitsSigned w64 (edge_lead e) → FitsSigned w64 (edge_lead f) → (edge_lead e ≡ edge_lead f → ⊥) → edge_order e f ≡ int_cmp (edge_lead e) (edge_lead f)
edge_told Min Min fit a b apart = absurd (apart refl)
edge_told Min (At w) fit a b apart = int_cmp_is (negsuc 9223372036854775807) (value_lead w) Less (above_least (value_lead w) b apart)
edge_told Min Max fit a b apart = refl
edge_told (At v) Min fit a b apart = int_cmp_is (value_lead v) (negsuc 9223372036854775807) Greater (above_least (value_lead v) a (λ e. apart (sym e)))
edge_told (At v) (At w) fit a b apart = value_told v w fit apart
edge_told (At v) Max fit a b apart = int_cmp_is (value_lead v) (pos 9223372036854775807) Less (below_greatest (value_lead v) a apart)
edge_told Max Min fit a b apart = refl
edge_told Max (At w) fit a b apart = int_cmp_is (pos 9223372036854775807) (value_lead w) Greater (below_greatest (value_lead w) b (λ e. apart (sym e)))
edge_told Max Max fit a b apart = absurd (apart refl)

unequal : (x y : ℤ) → (x ≡ y → ⊥) → int_cmp x y ≡ Equal → ⊥
unequal x y apart e = apart (int_ranked x y Equal (sym e))

-- what is not equal decides
by_first : (r s : Ordering) → (r ≡ Equal → ⊥) → ordering_then r s ≡ r
by_first Less s apart = refl
by_first Equal s apart = absurd (apart refl)
by_first Greater s apart = refl

-- the leads tell the order
pub point_told : (p q : List Edge) → PointsFit p q → FitsSigned w64 (lead p) → FitsSigned w64 (lead q) → (lead p ≡ lead q → ⊥) → point_order p q ≡ int_cmp (lead p) (lead q)
point_told [] [] fit a b apart = absurd (apart refl)
point_told [] (f ∷ q) fit a b apart = absurd fit
point_told (e ∷ p) [] fit a b apart = absurd fit
point_told (e ∷ p) (f ∷ q) fit a b apart =
    ap (λ o. ordering_then o (point_order p q)) (edge_told e f fit.0 a b apart)
    ∙ by_first (int_cmp (edge_lead e) (edge_lead f)) (point_order p q) (unequal (edge_lead e) (edge_lead f) apart)

less_test : (r : Ordering) (or_equal : Bool) → (r ≡ Equal → ⊥) → (if or_equal then is_le r else is_lt r) ≡ is_lt r
less_test r false apart = refl
less_test Less true apart = refl
less_test Equal true apart = absurd (apart refl)
less_test Greater true apart = refl

less_is : (x y : ℤ) → is_lt (int_cmp x y) ≡ int_lt x y
less_is x y = by (int_lt x y) (int_lt y x)
  where
    by : (s t : Bool) → is_lt (cond s Less (cond t Greater Equal)) ≡ s
    by true t = refl
    by false true = refl
    by false false = refl

-- so the lesser lead passes
pub lead_passes : (p q : List Edge) (or_equal : Bool) → PointsFit p q → FitsSigned w64 (lead p) → FitsSigned w64 (lead q) → (lead p ≡ lead q → ⊥) → int_lt (lead p) (lead q) ≡ passes or_equal q p
lead_passes p q or_equal fit a b apart =
    sym (ap (λ r. if or_equal then is_le r else is_lt r) (point_told p q fit a b apart) ∙ less_test (int_cmp (lead p) (lead q)) or_equal (unequal (lead p) (lead q) apart) ∙ less_is (lead p) (lead q))

not_equal : (r : Ordering) → (r ≡ Equal → ⊥) → false ≡ is_eq r
not_equal Less apart = refl
not_equal Equal apart = absurd (apart refl)
not_equal Greater apart = refl

-- and no point is equal
pub lead_differs : (p q : List Edge) → PointsFit p q → FitsSigned w64 (lead p) → FitsSigned w64 (lead q) → (lead p ≡ lead q → ⊥) → false ≡ is_eq (point_order p q)
lead_differs p q fit a b apart = not_equal (int_cmp (lead p) (lead q)) (unequal (lead p) (lead q) apart) ∙ ap is_eq (sym (point_told p q fit a b apart))

-- ---- what a search learns of two leads that differ

pub told_before : (p q : List Edge) (x y : ℤ) (or_equal : Bool) → PointsFit p q → x ≡ lead p → y ≡ lead q → FitsSigned w64 x → FitsSigned w64 y → (x ≡ y → ⊥) → int_lt x y ≡ passes or_equal q p
told_before p q x y or_equal fit own other a b apart = rw (own, other) (lead_passes p q or_equal fit (rw own at a) (rw other at b) (λ e. apart (own ∙ e ∙ sym other)))

pub told_equal : (p q : List Edge) (x y : ℤ) → PointsFit p q → x ≡ lead p → y ≡ lead q → FitsSigned w64 x → FitsSigned w64 y → (x ≡ y → ⊥) → false ≡ is_eq (point_order p q)
told_equal p q x y fit own other a b apart = lead_differs p q fit (rw own at a) (rw other at b) (λ e. apart (own ∙ e ∙ sym other))

pub fits_width : (bounds : List Bound) (n : ℕ) (fill : Fill) (values : List Value) (i : ℕ) → FitsEnd bounds n fill values → i < length (stored bounds) → PointsFit (get_or (stored bounds) i []) (end_of (width bounds) n fill values)
fits_width bounds n fill values i fits lt =
    let fit = fits i [] lt in
    subst (λ w. PointsFit (get_or (stored bounds) i []) (end_of w n fill values)) fit.0 fit.1
