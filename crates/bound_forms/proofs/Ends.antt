-- The point of a key's first values, filled up.
use Rattle.std.proofs.Common.{◌≡◌, ℕ, zero, suc, true, false, ◌+◌, ◌-◌, ◌<◌, ◌≤◌, List, [], ◌∷◌, length, map, take, drop, get_or, refl, sym, arith, length-append}
use Rattle.std.specs.Prelude.{replicate, nat_lt}
use Rattle.std.proofs.lemmas.List.{get_or-replicate}
use Rattle.std.proofs.lemmas.Bool.Decides.{nat_tests}
use Rattle.std.proofs.lemmas.Slice.Zip.{AllZip-long}
use Rattle.pg_values.specs.declared.value.Value.{Value}
use Rattle.bound_forms.specs.declared.point.Edge.{Edge}
use Rattle.bound_forms.specs.declared.point.Edge.TheVariants.{At}
use Rattle.bound_forms.specs.declared.point.Fill.{Fill}
use Rattle.bound_forms.specs.Points.{EdgesFit, PointsFit, end_of, end_edge, fill_edge}
use Rattle.bound_forms.proofs.Walk.{Step, walk}

long-replicate : (k : ℕ) (e : Edge) → length (replicate k e) ≡ k
long-replicate zero e = refl
long-replicate (suc k) e = let r = long-replicate k e in omega (arith, r)

long-front : (n : ℕ) (values : List Value) → n ≤ length values → length (map At (take n values)) ≡ n
long-front zero values h = refl
long-front (suc n) [] h = absurd (omega arith)
long-front (suc n) (v ∷ values) h = let r = long-front n values (omega arith) in omega (arith, r)

pub end_long : (w n : ℕ) (fill : Fill) (values : List Value) → n ≤ length values → length (end_of w n fill values) ≡ n + (w - n)
end_long w n fill values h = rw length-append (rw (long-front n values h, long-replicate (w - n) (fill_edge fill)) refl)

not_below : (i n : ℕ) → n ≤ i → nat_lt i n ≡ false
not_below i n h = grind (arith, nat_tests)

one_on : (i n : ℕ) → nat_lt (suc i) (suc n) ≡ nat_lt i n
one_on i n = grind (arith, nat_tests)

zero_below : (n : ℕ) → nat_lt 0 (suc n) ≡ true
zero_below n = grind (arith, nat_tests)

pub end_at : (w n : ℕ) (fill : Fill) (values : List Value) (i : ℕ) (d : Edge) → n ≤ length values → n ≤ w → i < w → get_or (end_of w n fill values) i d ≡ end_edge n fill values i
end_at w zero fill values i d h k lt = rw (not_below i 0 (omega arith)) (get_or-replicate (w - 0) i (fill_edge fill) d (omega arith))
end_at w (suc n) fill [] i d h k lt = absurd (omega arith)
end_at w (suc n) fill (v ∷ values) zero d h k lt = rw (zero_below n) refl
end_at zero (suc n) fill (v ∷ values) (suc i) d h k lt = absurd (omega arith)
end_at (suc w) (suc n) fill (v ∷ values) (suc i) d h k lt =
    let e : suc w - suc n ≡ w - n = omega arith in
    rw (e, one_on i n) (end_at w n fill values i d (omega arith) (omega arith) (omega arith))

pub end_fits : (p : List Edge) (n : ℕ) (fill : Fill) (values : List Value) → n ≤ length values → PointsFit p (end_of (length p) n fill values) → n ≤ length p
end_fits p n fill values h z =
    let e = AllZip-long EdgesFit p (end_of (length p) n fill values) z in
    let l = end_long (length p) n fill values h in
    omega (arith, e, l)

-- the walk along a point and a filled one
pub walk_end : (es p : List Edge) (n : ℕ) (fill : Fill) (values : List Value) (i : ℕ) (e : Edge) → es ≡ p → n ≤ length values → PointsFit p (end_of (length p) n fill values) → i < length es → e ≡ get_or es i e
    → PointsFit (drop i es) (drop i (end_of (length p) n fill values)) → Step es (end_of (length p) n fill values) i e (end_edge n fill values i)
walk_end es p n fill values i e same h z lt at_e fit =
    let within : i < length p = rw same at lt in
    walk es (end_of (length p) n fill values) i e (end_edge n fill values i) lt at_e (sym (end_at (length p) n fill values i _ h (end_fits p n fill values h z) within)) fit
