-- The stored points of a level are points of its key columns.
use Rattle.std.proofs.Common.{◌≡◌, ℕ, zero, suc, ◌+◌, ◌-◌, ◌≤◌, Bool, true, false, not, List, [], ◌∷◌, map, filter, length, get_or, refl, sym, ◌∙◌, arith, if◌then◌else◌}
use Rattle.std.specs.Prelude.{replicate}
use Rattle.std.specs.List.{All, AllPairs}
use Rattle.std.proofs.lemmas.List.Elements.{All-nil, All-cons}
use Rattle.std.proofs.lemmas.List.Kept.{AllPairs-cons}
use Rattle.pg_values.specs.declared.value.Kind.{Kind}
use Rattle.pg_values.specs.declared.value.Value.{Value}
use Rattle.bound_forms.specs.declared.level.Level.{Level}
use Rattle.bound_forms.specs.declared.level.KeyColumn.{KeyColumn}
use Rattle.pg_values.specs.declared.strategy.Strategy.{Strategy}
use Rattle.pg_values.specs.declared.strategy.Strategy.TheVariants.{Range as ByRange, List as ByList, Hash as ByHash}
use Rattle.bound_forms.specs.declared.partition_bound.Bound.{Bound}
use Rattle.bound_forms.specs.declared.partition_bound.Bound.TheVariants.{Range, List as Listed, Hash, Default}
use Rattle.bound_forms.specs.declared.point.Edge.{Edge}
use Rattle.bound_forms.specs.declared.point.Edge.TheVariants.{Min, At, Max}
use Rattle.bound_forms.specs.declared.point.Fill.{Fill}
use Rattle.bound_forms.specs.declared.point.Fill.TheVariants.{Min as WithMin, Max as WithMax}
use Rattle.bound_forms.specs.Points.{is_null, point_of, PointsFit, EdgesFit, end_of, fill_edge}
use Rattle.bound_forms.specs.Bounds.{CanCompare}
use Rattle.bound_forms.specs.Levels.{only_kind, ComparesWith, HasEdges, IsBoundAt, IsEdgeOf, IsOf, IsOfLevel}
use Rattle.bound_forms.proofs.KindLaws.{point_length}
use Rattle.bound_forms.proofs.LevelLaws.{level_compare}
use Rattle.bound_forms.proofs.PlainOrder.{pairs-nil}
use Rattle.part_bounds.specs.Stored.{stored, width, points_in, of_ranges, of_lists, of_hashes, Each}
use Rattle.part_bounds.specs.Laws.{AreForColumns, LevelEndsFit, LevelHasStrategy, LevelRangesFit, StoredPointsAreWide}
use Rattle.part_bounds.proofs.StoredLaws.{each_stored, each_of}

-- ---- strategies

ranges_of : (columns : List KeyColumn) (b : Bound) → IsBoundAt ByRange columns b → of_ranges b ≡ true
ranges_of columns (Range l u) h = refl
ranges_of columns Default h = refl
ranges_of columns (Listed values) h = absurd h
ranges_of columns (Hash m r) h = absurd h

lists_of : (columns : List KeyColumn) (b : Bound) → IsBoundAt ByList columns b → of_lists b ≡ true
lists_of columns (Listed values) h = refl
lists_of columns Default h = refl
lists_of columns (Range l u) h = absurd h
lists_of columns (Hash m r) h = absurd h

hashes_of : (columns : List KeyColumn) (b : Bound) → IsBoundAt ByHash columns b → of_hashes b ≡ true
hashes_of columns (Hash m r) h = refl
hashes_of columns Default h = absurd h
hashes_of columns (Range l u) h = absurd h
hashes_of columns (Listed values) h = absurd h

pub at_strategy : (level : Level) (strategy : Strategy) (bounds : List Bound) → level.strategy ≡ strategy → All (IsOfLevel level) bounds → All (IsBoundAt strategy level.columns) bounds
at_strategy level strategy bounds is h = rw is at h

pub has_strategy : LevelHasStrategy
has_strategy level bounds all = record {
  range = λ is k d lt. ranges_of level.columns (get_or bounds k d) (at_strategy level ByRange bounds is all k d lt);
  list = λ is k d lt. lists_of level.columns (get_or bounds k d) (at_strategy level ByList bounds is all k d lt);
  hash = λ is k d lt. hashes_of level.columns (get_or bounds k d) (at_strategy level ByHash bounds is all k d lt);
}

-- ---- ranges

pub ranges_fit : LevelRangesFit
ranges_fit level bounds all = pairs_of bounds (each_of (IsOfLevel level) bounds all)
  where
    pairs_of : (bounds : List Bound) → Each (IsOfLevel level) bounds → AllPairs CanCompare bounds
    pairs_of [] h = pairs-nil CanCompare
    pairs_of (b ∷ bounds) h = AllPairs-cons CanCompare b bounds (behind bounds h.1) (pairs_of bounds h.1)
      where
        behind : (bs : List Bound) → Each (IsOfLevel level) bs → All (λ c. CanCompare b c) bs
        behind [] k = All-nil (λ c. CanCompare b c)
        behind (c ∷ bs) k = All-cons (λ x. CanCompare b x) c bs (level_compare level b c h.0 k.0) (behind bs k.1)

-- ---- points

values_shaped : (columns : List KeyColumn) (values : List Value) → length columns ≡ 1 → Each (IsOf (only_kind columns)) values → Each (HasEdges columns) (map (λ v. point_of (v ∷ [])) (filter (λ v. not (is_null v)) values))
values_shaped [] values one h = absurd (omega (arith, one))
values_shaped (c ∷ (more ∷ columns)) values one h = absurd (omega (arith, one))
values_shaped (c ∷ []) [] one h = tt
values_shaped (c ∷ []) (v ∷ values) one h = by (is_null v) refl (values_shaped (c ∷ []) values one h.1)
  where
    by : (t : Bool) → is_null v ≡ t → Each (HasEdges (c ∷ [])) (map (λ w. point_of (w ∷ [])) (filter (λ w. not (is_null w)) values))
        → Each (HasEdges (c ∷ [])) (map (λ w. point_of (w ∷ [])) (if not t then v ∷ filter (λ w. not (is_null w)) values else filter (λ w. not (is_null w)) values))
    by true e go = go
    by false e go = (((e, h.0 e), refl), go)

points_shaped : (strategy : Strategy) (columns : List KeyColumn) (b : Bound) → IsBoundAt strategy columns b → Each (HasEdges columns) (points_in b)
points_shaped ByRange columns (Range l u) h = (h.0.edges, (h.1.edges, tt))
points_shaped ByRange columns Default h = tt
points_shaped ByRange columns (Listed values) h = absurd h
points_shaped ByRange columns (Hash m r) h = absurd h
points_shaped ByList columns (Listed values) h = values_shaped columns values h.0.one (each_of (IsOf (only_kind columns)) values h.0.kind)
points_shaped ByList columns Default h = tt
points_shaped ByList columns (Range l u) h = absurd h
points_shaped ByList columns (Hash m r) h = absurd h
points_shaped ByHash columns (Hash m r) h = tt
points_shaped ByHash columns Default h = absurd h
points_shaped ByHash columns (Range l u) h = absurd h
points_shaped ByHash columns (Listed values) h = absurd h

each_shaped : (level : Level) (bounds : List Bound) → Each (IsOfLevel level) bounds → Each (λ b. Each (HasEdges level.columns) (points_in b)) bounds
each_shaped level [] h = tt
each_shaped level (b ∷ bounds) h = (points_shaped level.strategy level.columns b h.0, each_shaped level bounds h.1)

shaped : (level : Level) (bounds : List Bound) → All (IsOfLevel level) bounds → All (HasEdges level.columns) (stored bounds)
shaped level bounds all = each_stored (HasEdges level.columns) bounds (each_shaped level bounds (each_of (IsOfLevel level) bounds all))

pub points_wide : StoredPointsAreWide
points_wide level bounds all k d lt = point_length level.columns (get_or (stored bounds) k d) (shaped level bounds all k d lt)

-- ---- the point of a key's first values

fill_fits : (e : Edge) (fill : Fill) → EdgesFit e (fill_edge fill)
fill_fits Min WithMin = tt
fill_fits Min WithMax = tt
fill_fits (At v) WithMin = tt
fill_fits (At v) WithMax = tt
fill_fits Max WithMin = tt
fill_fits Max WithMax = tt

fills_fit : (p : List Edge) (fill : Fill) → PointsFit p (replicate (length p) (fill_edge fill))
fills_fit [] fill = tt
fills_fit (e ∷ p) fill = (fill_fits e fill, fills_fit p fill)

edge_fits : (kind : Kind) (e : Edge) (v : Value) → IsEdgeOf kind e → is_null v ≡ false → ComparesWith kind v → EdgesFit e (At v)
edge_fits kind Min v h some s = tt
edge_fits kind (At w) v h some s = s w some h.0 h.1
edge_fits kind Max v h some s = tt

less : (w n : ℕ) → suc w - suc n ≡ w - n
less w n = omega arith

whole : (w : ℕ) → w - 0 ≡ w
whole w = omega arith

end_fits : (columns : List KeyColumn) (p : List Edge) (n : ℕ) (fill : Fill) (values : List Value) → HasEdges columns p → AreForColumns columns values → n ≤ length values → PointsFit p (end_of (length p) n fill values)
end_fits columns p zero fill values h s le = rw (whole (length p)) (fills_fit p fill)
end_fits columns p (suc n) fill [] h s le = absurd (omega (arith, le))
end_fits [] p (suc n) fill (v ∷ values) h s le = absurd s
end_fits (c ∷ columns) [] (suc n) fill (v ∷ values) h s le = absurd h
end_fits (c ∷ columns) (e ∷ p) (suc n) fill (v ∷ values) h s le = (edge_fits c.kind e v h.0 s.0 s.1, rw (less (length p) n) (end_fits columns p n fill values h.1 s.2 (omega (arith, le))))

pub ends_fit : LevelEndsFit
ends_fit level bounds n fill values all suit le k d lt =
    let here = shaped level bounds all k d lt in
    let first : width bounds ≡ length level.columns + 1 = points_wide level bounds all 0 [] (omega (arith, lt)) in
    (point_length level.columns (get_or (stored bounds) k d) here ∙ sym first, end_fits level.columns (get_or (stored bounds) k d) n fill values here suit le)
