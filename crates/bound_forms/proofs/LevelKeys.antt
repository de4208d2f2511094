-- Each bound of a level can be asked of each key of it.
use Rattle.std.proofs.Common.{◌≡◌, false, List, [], ◌∷◌, map, get_or, refl, arith}
use Rattle.std.specs.List.{All, AllZip, slice_index_or}
use Rattle.std.proofs.lemmas.List.Elements.{All-head, All-tail}
use Rattle.pg_values.specs.declared.value.Kind.{Kind}
use Rattle.pg_values.specs.declared.value.Value.{Value}
use Rattle.pg_values.specs.declared.value.Value.TheVariants.{Null}
use Rattle.pg_values.specs.declared.strategy.Strategy.{Strategy}
use Rattle.pg_values.specs.declared.strategy.Strategy.TheVariants.{Range as ByRange, List as ByList, Hash as ByHash}
use Rattle.bound_forms.specs.declared.level.KeyColumn.{KeyColumn}
use Rattle.bound_forms.specs.declared.partition_bound.Bound.{Bound}
use Rattle.bound_forms.specs.declared.partition_bound.Bound.TheVariants.{Range, List as Listed, Hash, Default}
use Rattle.bound_forms.specs.declared.point.Edge.{Edge}
use Rattle.bound_forms.specs.declared.point.Edge.TheVariants.{Min, At, Max}
use Rattle.bound_forms.specs.Points.{is_null, point_of, picked, EdgesFit, PointsFit}
use Rattle.bound_forms.specs.Accepts.{has_null, FitsBound}
use Rattle.bound_forms.specs.Levels.{IsOf, IsEdgeOf, HasEdges, AreOf, IsBoundAt, ComparesWith, LevelKeysFit, LevelKeysFitSets, RowsGiveKeys}
use Rattle.bound_forms.proofs.KindLaws.{kinds_compare, or_left, or_right}

abbrev Suit : List KeyColumn → List Value → Type 0
Suit columns key = AllZip (λ c v. ComparesWith c.kind v) columns key

edge_suits : (e : Edge) (v : Value) (kind : Kind) → IsEdgeOf kind e → ComparesWith kind v → is_null v ≡ false → EdgesFit e (At v)
edge_suits Min v kind h k n = tt
edge_suits (At w) v kind h k n = k w n h.0 h.1
edge_suits Max v kind h k n = tt

point_suits : (columns : List KeyColumn) (p : List Edge) (key : List Value) → HasEdges columns p → Suit columns key → has_null key ≡ false → PointsFit p (point_of key)
point_suits [] p [] h k n = rw h (tt, tt)
point_suits [] p (v ∷ key) h k n = absurd k
point_suits (c ∷ columns) [] key h k n = absurd h
point_suits (c ∷ columns) (e ∷ p) [] h k n = absurd k
point_suits (c ∷ columns) (e ∷ p) (v ∷ key) h k n = (edge_suits e v c.kind h.0 k.0 (or_left (is_null v) (has_null key) n), point_suits columns p key h.1 k.1 (or_right (is_null v) (has_null key) n))

list_suits : (columns : List KeyColumn) (values key : List Value) → AreOf columns values → Suit columns key → FitsBound key (Listed values)
list_suits [] values key h k = absurd (omega (arith, h.one))
list_suits (c ∷ []) values [] h k = absurd k
list_suits (c ∷ []) values (v ∷ []) h k = (refl, λ i d lt w n. k.0 (get_or values i d) n w (h.kind i d lt w))
list_suits (c ∷ []) values (v ∷ (w ∷ key)) h k = absurd k.1
list_suits (c ∷ (more ∷ columns)) values key h k = absurd (omega (arith, h.one))

fits_at : (strategy : Strategy) (columns : List KeyColumn) (b : Bound) (key : List Value) → IsBoundAt strategy columns b → Suit columns key → FitsBound key b
fits_at ByRange columns (Range l u) key h k = λ n. (point_suits columns l key h.0.edges k n, point_suits columns u key h.1.edges k n)
fits_at ByRange columns (Listed values) key h k = absurd h
fits_at ByRange columns (Hash m r) key h k = tt
fits_at ByRange columns Default key h k = tt
fits_at ByList columns (Range l u) key h k = absurd h
fits_at ByList columns (Listed values) key h k = list_suits columns values key h.0 k
fits_at ByList columns (Hash m r) key h k = tt
fits_at ByList columns Default key h k = tt
fits_at ByHash columns (Range l u) key h k = absurd h
fits_at ByHash columns (Listed values) key h k = absurd h
fits_at ByHash columns (Hash m r) key h k = tt
fits_at ByHash columns Default key h k = tt

pub level_keys : LevelKeysFit
level_keys level b key h k = fits_at level.strategy level.columns b key h k

pub level_keys_sets : LevelKeysFitSets
level_keys_sets level bounds key all k i d lt = level_keys level (get_or bounds i d) key (all i d lt) k

-- what is null or of the kind compares with the kind
pub compares : (kind : Kind) (v : Value) → IsOf kind v → ComparesWith kind v
compares kind v h w n m e = kinds_compare w v kind (m, e) (n, h n)

row_suits : (row : List Value) (columns : List KeyColumn) → All (λ c. IsOf c.kind (slice_index_or row c.position Null)) columns → Suit columns (picked row (map (λ c. c.position) columns))
row_suits row [] h = tt
row_suits row (c ∷ columns) h =
    let P : KeyColumn → Type 0 = λ c. IsOf c.kind (slice_index_or row c.position Null) in
    (compares c.kind (slice_index_or row c.position Null) (All-head P c columns h), row_suits row columns (All-tail P c columns h))

pub row_keys : RowsGiveKeys
row_keys level row h = row_suits row level.columns h
