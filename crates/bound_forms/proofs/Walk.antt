-- Two points that are walked side by side.
use Rattle.std.proofs.Common.{◌≡◌, ◌≢◌, Bool, true, false, ℕ, suc, ◌+◌, ◌<◌, List, ◌∷◌, Some, length, drop, get_or, slice_get, refl, sym, ap, ◌∙◌, arith, add-one}
use Rattle.std.specs.List.{list_any}
use Rattle.std.specs.declared.cmp.Ordering.{Ordering}
use Rattle.std.specs.declared.cmp.Ordering.TheVariants.{Less, Equal, Greater}
use Rattle.std.specs.Ordering.{ordering_then}
use Rattle.std.proofs.Math.Seq.{drop-cons}
use Rattle.std.proofs.lemmas.List.{get_or_default, length-drop}
use Rattle.std.proofs.lemmas.Option.{slice_get_within, get_or_from_slice_get}
use Rattle.std.proofs.lemmas.Slice.Zip.{AllZip-long}
use Rattle.bound_forms.specs.declared.point.Edge.{Edge}
use Rattle.bound_forms.specs.Points.{point_order, edge_order, EdgesFit, PointsFit}

-- what the walk finds at a place: the edges can be compared, so can the rests behind them, and the edges decide before these
pub record Step (es fs : List Edge) (i : ℕ) (e f : Edge) : Type 0 where
  pub fit : EdgesFit e f
  pub later : PointsFit (drop (i + 1) es) (drop (i + 1) fs)
  pub order : point_order (drop i es) (drop i fs) ≡ ordering_then (edge_order e f) (point_order (drop (i + 1) es) (drop (i + 1) fs))

-- the second point has an edge at the place too
pub within : (es fs : List Edge) (i : ℕ) → i < length es → PointsFit (drop i es) (drop i fs) → i < length fs
within es fs i h z = let e = AllZip-long EdgesFit (drop i es) (drop i fs) z in omega (arith, length-drop i es, length-drop i fs)

pub at_default : (es fs : List Edge) (i : ℕ) (d : Edge) → i < length es → PointsFit (drop i es) (drop i fs) → get_or fs i d ≡ get_or fs i (get_or fs i d)
at_default es fs i d h z = get_or_default fs i d (get_or fs i d) (within es fs i h z)

pub walk : (es fs : List Edge) (i : ℕ) (e f : Edge) → i < length es → e ≡ get_or es i e → f ≡ get_or fs i f → PointsFit (drop i es) (drop i fs) → Step es fs i e f
walk es fs i e f h at_e at_f z =
    let es-is : drop i es ≡ e ∷ drop (suc i) es = drop-cons es i e h ∙ ap (λ x. x ∷ drop (suc i) es) (sym at_e) in
    let fs-is : drop i fs ≡ f ∷ drop (suc i) fs = drop-cons fs i f (within es fs i h z) ∙ ap (λ x. x ∷ drop (suc i) fs) (sym at_f) in
    let z' = rw (es-is, fs-is) at z in
    record {
      fit = z'.0;
      later = rw add-one z'.1;
      order = rw (es-is, fs-is, add-one) refl;
    }

-- an edge that is not equal decides
pub decided : (es fs : List Edge) (i : ℕ) (e f : Edge) (r : Ordering) → Step es fs i e f → r ≡ edge_order e f → r ≢ Equal → r ≡ point_order (drop i es) (drop i fs)
decided es fs i e f r step is differs = by r is differs ∙ sym step.order
  where
    by : (r : Ordering) → r ≡ edge_order e f → r ≢ Equal → r ≡ ordering_then (edge_order e f) (point_order (drop (i + 1) es) (drop (i + 1) fs))
    by Less is differs = rw (← is) refl
    by Equal is differs = absurd (differs refl)
    by Greater is differs = rw (← is) refl

-- at equal edges the rests behind them decide
pub tied : (es fs : List Edge) (i : ℕ) (e f : Edge) (r : Ordering) → Step es fs i e f → r ≡ edge_order e f → r ≡ Equal
    → point_order (drop i es) (drop i fs) ≡ point_order (drop (i + 1) es) (drop (i + 1) fs)
tied es fs i e f r step is same = step.order ∙ rw (← is, same) refl

-- one that passes is found
pub any_found : {A : Type 0} (p : A → Bool) (xs : List A) (i : ℕ) (x : A) → slice_get xs i ≡ Some x → p x ≡ true → list_any p (drop i xs) ≡ true
any_found p xs i x at_x here = rw (drop-cons xs i x (slice_get_within xs i x at_x), get_or_from_slice_get xs i x x at_x, here) refl

-- at one that fails the rest decides
pub any_passed : {A : Type 0} (p : A → Bool) (xs : List A) (i : ℕ) (x : A) → slice_get xs i ≡ Some x → p x ≡ false → list_any p (drop i xs) ≡ list_any p (drop (i + 1) xs)
any_passed p xs i x at_x here = rw (drop-cons xs i x (slice_get_within xs i x at_x), get_or_from_slice_get xs i x x at_x, here, add-one) refl
