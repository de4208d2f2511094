-- Each bound of a level is what a check gives for some bound as it is written.
use Rattle.std.proofs.Common.{◌≡◌, ℕ, suc, ◌<◌, ◌≤◌, Bool, true, false, not, ◌||◌, ◌==◌, List, [], ◌∷◌, length, take, map, Ok, refl, sym, ap, subst, ◌∙◌, arith, eq-eqb}
use Rattle.std.specs.List.{All, AllPairs, filter}
use Rattle.std.proofs.lemmas.Bool.{lt-ltb, le-leb}
use Rattle.std.proofs.lemmas.List.Elements.{All-head, All-tail}
use Rattle.pg_values.specs.declared.fault.Fault.{Fault}
use Rattle.pg_values.specs.declared.value.Kind.{Kind}
use Rattle.pg_values.specs.declared.value.Value.{Value}
use Rattle.pg_values.specs.declared.value.Value.TheVariants.{Null, Int4, Int8, Text, Day, Truth}
use Rattle.pg_values.specs.declared.strategy.Strategy.{Strategy}
use Rattle.pg_values.specs.declared.strategy.Strategy.TheVariants.{Range as ByRange, List as ByList, Hash as ByHash}
use Rattle.bound_forms.specs.declared.level.KeyColumn.{KeyColumn}
use Rattle.table_binder.specs.declared.raw_bound.RawValue.TheVariants.{Given}
use Rattle.table_binder.specs.declared.raw_bound.RawEdge.{RawEdge}
use Rattle.table_binder.specs.declared.raw_bound.RawEdge.TheVariants.{Min as RawMin, At as RawAt, Max as RawMax}
use Rattle.table_binder.specs.declared.raw_bound.RawBound.{RawBound}
use Rattle.table_binder.specs.declared.raw_bound.RawBound.TheVariants.{Range as RawRange, List as RawList, Hash as RawHash, Default as RawDefault}
use Rattle.bound_forms.specs.declared.partition_bound.Bound.{Bound}
use Rattle.bound_forms.specs.declared.partition_bound.TheConstants.{MOST_MODULUS}
use Rattle.bound_forms.specs.declared.partition_bound.Bound.TheVariants.{Range, List as Listed, Hash, Default}
use Rattle.bound_forms.specs.declared.point.Edge.{Edge}
use Rattle.bound_forms.specs.declared.point.Edge.TheVariants.{Min, At, Max}
use Rattle.bound_forms.specs.Listed.{is_same}
use Rattle.bound_forms.specs.Bounds.{is_below, is_filled}
use Rattle.table_binder.specs.RawBounds.{value_for, edge_for, edges_for, values_for, point_for, each_once}
use Rattle.bound_forms.specs.Levels.{only_kind, IsOf, IsEdgeOf, HasEdges, Repeats, IsPointOf, AreOf, IsBoundAt}
use Rattle.pg_values.specs.Refusals.{faults_in, read_in, unless, or_first}
use Rattle.refusals.specs.Refusals.{wrong_bound_count, null_in_range, empty_range, bad_remainder}
use Rattle.table_binder.specs.Checks.{count_faults, is_null_edge, has_null_edge, repeat_faults, word_faults, is_remainder, checked}
use Rattle.table_binder.specs.CheckedBounds.{LevelBoundsAreChecked}
use Rattle.table_binder.proofs.CheckLaws.{all_kept}
use Rattle.table_binder.proofs.CheckedLaws.{checked_of_level}
use Rattle.bound_forms.proofs.PlainOrder.{pairs-head, pairs-tail}

-- ---- values

own_value : (kind : Kind) (v : Value) → IsOf kind v → value_for kind (Given v) ≡ Ok v
own_value kind Null h = refl
own_value kind (Int4 n) h = let P : Kind → Type 0 = λ k. value_for k (Given (Int4 n)) ≡ Ok (Int4 n) in subst P (h refl) refl
own_value kind (Int8 n) h = let P : Kind → Type 0 = λ k. value_for k (Given (Int8 n)) ≡ Ok (Int8 n) in subst P (h refl) refl
own_value kind (Text s) h = let P : Kind → Type 0 = λ k. value_for k (Given (Text s)) ≡ Ok (Text s) in subst P (h refl) refl
own_value kind (Day d) h = let P : Kind → Type 0 = λ k. value_for k (Given (Day d)) ≡ Ok (Day d) in subst P (h refl) refl
own_value kind (Truth p) h = let P : Kind → Type 0 = λ k. value_for k (Given (Truth p)) ≡ Ok (Truth p) in subst P (h refl) refl

-- ---- points

abbrev given_edge : Edge → RawEdge
given_edge Min = RawMin
given_edge (At v) = RawAt (Given v)
given_edge Max = RawMax

own_edge : (kind : Kind) (e : Edge) → IsEdgeOf kind e → edge_for kind (given_edge e) ≡ Ok e
own_edge kind Min h = refl
own_edge kind (At v) h = rw (own_value kind v (λ n. h.1)) refl
own_edge kind Max h = refl

edge_not_null : (kind : Kind) (e : Edge) → IsEdgeOf kind e → is_null_edge (given_edge e) ≡ false
edge_not_null kind Min h = refl
edge_not_null kind (At v) h = h.0
edge_not_null kind Max h = refl

abbrev given_edges : List KeyColumn → List Edge → List RawEdge
given_edges [] p = []
given_edges (c ∷ columns) [] = []
given_edges (c ∷ columns) (e ∷ p) = given_edge e ∷ given_edges columns p

given_length : (columns : List KeyColumn) (p : List Edge) → HasEdges columns p → length (given_edges columns p) ≡ length columns
given_length [] p h = refl
given_length (c ∷ columns) [] h = absurd h
given_length (c ∷ columns) (e ∷ p) h = ap suc (given_length columns p h.1)

given_read : (columns : List KeyColumn) (p : List Edge) → HasEdges columns p → (faults_in (edges_for columns (given_edges columns p)) ≡ []) × (point_for columns (given_edges columns p) ≡ p)
given_read [] p h = (refl, sym h)
given_read (c ∷ columns) [] h = absurd h
given_read (c ∷ columns) (e ∷ p) h = let rest = given_read columns p h.1 in rw (own_edge c.kind e h.0) (rest.0, ap (λ q. e ∷ q) rest.1)

given_no_null : (columns : List KeyColumn) (p : List Edge) → HasEdges columns p → has_null_edge (given_edges columns p) ≡ false
given_no_null [] p h = refl
given_no_null (c ∷ columns) [] h = absurd h
given_no_null (c ∷ columns) (e ∷ p) h = rw (edge_not_null c.kind e h.0) (given_no_null columns p h.1)

word_repeated : (e f : Edge) → Repeats e f → repeat_faults (given_edge e) (given_edge f) ≡ []
word_repeated Min f h = rw h refl
word_repeated (At v) f h = refl
word_repeated Max f h = rw h refl

given_words : (columns : List KeyColumn) (p : List Edge) → HasEdges columns p → AllPairs Repeats (take (length columns) p) → word_faults (given_edges columns p) ≡ []
given_words [] p h w = refl
given_words (c ∷ columns) [] h w = refl
given_words (c ∷ []) (e ∷ p) h w = refl
given_words (c ∷ (more ∷ columns)) (e ∷ []) h w = refl
given_words (c ∷ (more ∷ columns)) (e ∷ (f ∷ p)) h w =
    let behind = take (length (more ∷ columns)) (f ∷ p) in
    let here : Repeats e f = pairs-head Repeats e behind w 0 f (omega arith) in
    rw (word_repeated e f here) (given_words (more ∷ columns) (f ∷ p) h.1 (pairs-tail Repeats e behind w))

-- ---- the bound of a range

no_nulls : (s t : Bool) → s ≡ false → t ≡ false → not (s || t) ≡ true
no_nulls s t a b = rw (a, b) refl

holds : (t : Bool) → t ≡ true → (f : Fault) → unless t f ≡ []
holds t h f = rw h refl

counted : (n m : ℕ) → n ≡ m → count_faults n m ≡ []
counted n m h = holds (n == m) (eq-eqb n m h) (wrong_bound_count n m)

range_given : (columns : List KeyColumn) (l u : List Edge) → IsPointOf columns l → IsPointOf columns u → is_below l u ≡ true → (raw : RawBound) × (checked ByRange columns raw ≡ Ok (Range l u))
range_given columns l u h k below =
    let lower = given_edges columns l in
    let upper = given_edges columns u in
    let p = given_read columns l h.edges in
    let q = given_read columns u k.edges in
    let filled : is_below (point_for columns lower) (point_for columns upper) ≡ true = rw (p.1, q.1) below in
    let kept = all_kept (count_faults (length lower) (length columns)) (count_faults (length upper) (length columns)) (faults_in (edges_for columns lower)) (faults_in (edges_for columns upper)) (unless (not (has_null_edge lower || has_null_edge upper)) null_in_range) (word_faults lower) (word_faults upper) (unless (is_below (point_for columns lower) (point_for columns upper)) empty_range) (Range (point_for columns lower) (point_for columns upper))
    (counted (length lower) (length columns) (given_length columns l h.edges))
    (counted (length upper) (length columns) (given_length columns u k.edges))
    p.0 q.0
    (holds (not (has_null_edge lower || has_null_edge upper)) (no_nulls (has_null_edge lower) (has_null_edge upper) (given_no_null columns l h.edges) (given_no_null columns u k.edges)) null_in_range)
    (given_words columns l h.edges h.words) (given_words columns u k.edges k.words)
    (holds (is_below (point_for columns lower) (point_for columns upper)) filled empty_range) in
    let meant : Range (point_for columns lower) (point_for columns upper) ≡ Range l u = ap (λ x. Range x (point_for columns upper)) p.1 ∙ ap (λ y. Range l y) q.1 in
    (RawRange lower upper, kept ∙ ap Ok meant)

-- ---- the bound of a list

keeps_all : (p : Value → Bool) (xs : List Value) → All (λ x. p x ≡ true) xs → filter p xs ≡ xs
keeps_all p [] h = refl
keeps_all p (x ∷ xs) h = rw (All-head (λ x. p x ≡ true) x xs h) (ap (λ ys. x ∷ ys) (keeps_all p xs (All-tail (λ x. p x ≡ true) x xs h)))

own_once : (values : List Value) → AllPairs (λ v w. is_same v w ≡ false) values → each_once values ≡ values
own_once [] h = refl
own_once (v ∷ values) h =
    let R : Value → Value → Type 0 = λ v w. is_same v w ≡ false in
    let new : All (λ w. not (is_same v w) ≡ true) values = λ i d lt. ap not (pairs-head R v values h i d lt) in
    rw (own_once values (pairs-tail R v values h), keeps_all (λ w. not (is_same v w)) values new) refl

given_values : (kind : Kind) (values : List Value) → All (IsOf kind) values → (faults_in (values_for kind (map Given values)) ≡ []) × (read_in (values_for kind (map Given values)) ≡ values)
given_values kind [] h = (refl, refl)
given_values kind (v ∷ values) h =
    let rest = given_values kind values (All-tail (IsOf kind) v values h) in
    rw (own_value kind v (All-head (IsOf kind) v values h)) (rest.0, ap (λ xs. v ∷ xs) rest.1)

answers : {T : Type 0} (fs : List Fault) (v w : T) → fs ≡ [] → v ≡ w → or_first fs v ≡ Ok w
answers fs v w none is = rw (none, is) refl

list_given : (columns : List KeyColumn) (values : List Value) → AreOf columns values → is_filled (Listed values) ≡ true → (raw : RawBound) × (checked ByList columns raw ≡ Ok (Listed values))
list_given columns [] h some = cc
list_given columns (v ∷ values) h some =
    let kind = only_kind columns in
    let raw = map Given (v ∷ values) in
    let p = given_values kind (v ∷ values) h.kind in
    let is : each_once (read_in (values_for kind raw)) ≡ v ∷ values = ap each_once p.1 ∙ own_once (v ∷ values) h.once in
    (RawList raw, answers (faults_in (values_for kind raw)) (Listed (each_once (read_in (values_for kind raw)))) (Listed (v ∷ values)) p.0 (ap Listed is))

hash_given : (columns : List KeyColumn) (m r : ℕ) → r < m → m ≤ MOST_MODULUS → (raw : RawBound) × (checked ByHash columns raw ≡ Ok (Hash m r))
hash_given columns m r below most =
    let fits : is_remainder m r ≡ true = rw (le-leb m MOST_MODULUS most, lt-ltb r m below) refl in
    (RawHash m r, answers (unless (is_remainder m r) bad_remainder) (Hash m r) (Hash m r) (holds (is_remainder m r) fits bad_remainder) refl)

given_at : (strategy : Strategy) (columns : List KeyColumn) (b : Bound) → IsBoundAt strategy columns b → (raw : RawBound) × (checked strategy columns raw ≡ Ok b)
given_at ByRange columns (Range l u) h = range_given columns l u h.0 h.1 h.2
given_at ByRange columns (Listed values) h = absurd h
given_at ByRange columns (Hash m r) h = absurd h
given_at ByRange columns Default h = (RawDefault, refl)
given_at ByList columns (Range l u) h = absurd h
given_at ByList columns (Listed values) h = list_given columns values h.0 h.1
given_at ByList columns (Hash m r) h = absurd h
given_at ByList columns Default h = (RawDefault, refl)
given_at ByHash columns (Range l u) h = absurd h
given_at ByHash columns (Listed values) h = absurd h
given_at ByHash columns (Hash m r) h = hash_given columns m r h.0 h.1
given_at ByHash columns Default h = absurd h

pub level_checked : LevelBoundsAreChecked
level_checked level b = (given_at level.strategy level.columns b, λ (raw, h). checked_of_level level raw b h)
