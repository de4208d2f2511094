-- What is checked is a bound of its level.
use Rattle.std.proofs.Common.{◌≡◌, ◌==◌, ℕ, Bool, true, false, not, ◌&&◌, ◌||◌, List, [], ◌∷◌, ◌++◌, length, Result, Ok, Err, refl, subst}
use Rattle.std.specs.Prelude.{nat_le, nat_lt, IfOk}
use Rattle.std.specs.List.{All, filter}
use Rattle.std.proofs.lemmas.Bool.{eqb-true, leb-true, ltb-true}
use Rattle.std.proofs.lemmas.List.Elements.{All-nil, All-cons, All-head, All-tail, All-filter}
use Rattle.pg_values.specs.declared.fault.Fault.{Fault}
use Rattle.pg_values.specs.declared.fault.Refusal.{Refusal}
use Rattle.pg_values.specs.Refusals.{IsAnswer, faults_in, read_in, unless}
use Rattle.pg_values.specs.declared.value.Kind.{Kind}
use Rattle.pg_values.specs.declared.value.Value.{Value}
use Rattle.refusals.specs.Refusals.{wrong_bound_count, null_in_range, empty_range, bad_remainder}
use Rattle.bound_forms.specs.declared.level.Level.{Level}
use Rattle.pg_values.specs.declared.strategy.Strategy.{Strategy}
use Rattle.pg_values.specs.declared.strategy.Strategy.TheVariants.{Range as ByRange, List as ByList, Hash as ByHash}
use Rattle.bound_forms.specs.declared.level.KeyColumn.{KeyColumn}
use Rattle.table_binder.specs.declared.raw_bound.RawValue.{RawValue}
use Rattle.table_binder.specs.declared.raw_bound.RawEdge.{RawEdge}
use Rattle.table_binder.specs.declared.raw_bound.RawBound.{RawBound}
use Rattle.table_binder.specs.declared.raw_bound.RawBound.TheVariants.{Range as RawRange, List as RawList, Hash as RawHash, Default as RawDefault}
use Rattle.bound_forms.specs.declared.partition_bound.Bound.{Bound}
use Rattle.bound_forms.specs.declared.partition_bound.TheConstants.{MOST_MODULUS}
use Rattle.bound_forms.specs.declared.partition_bound.Bound.TheVariants.{Range, List as Listed, Hash, Default}
use Rattle.bound_forms.specs.Listed.{is_same}
use Rattle.bound_forms.specs.Bounds.{is_below, is_filled}
use Rattle.table_binder.specs.RawBounds.{value_for, edges_for, values_for, point_for, each_once}
use Rattle.bound_forms.specs.Levels.{only_kind, IsOf, IsBoundAt, IsOfLevel}
use Rattle.table_binder.specs.Checks.{count_faults, has_null_edge, word_faults, range_faults, is_remainder, checked}
use Rattle.table_binder.proofs.CheckLaws.{none_found, answered, kept, none_left, none_behind}
use Rattle.table_binder.proofs.RawLaws.{value_is}
use Rattle.table_binder.proofs.RangeLaws.{no_null}
use Rattle.table_binder.proofs.WordLaws.{point_at, once_apart}

range_at : (columns : List KeyColumn) (lower upper : List RawEdge) → range_faults columns lower upper ≡ [] → IsBoundAt ByRange columns (Range (point_for columns lower) (point_for columns upper))
range_at columns lower upper h =
    let a = count_faults (length lower) (length columns) in
    let b = count_faults (length upper) (length columns) in
    let c = faults_in (edges_for columns lower) in
    let d = faults_in (edges_for columns upper) in
    let n = unless (not (has_null_edge lower || has_null_edge upper)) null_in_range in
    let l = word_faults lower in
    let u = word_faults upper in
    let z = unless (is_below (point_for columns lower) (point_for columns upper)) empty_range in
    let hb = none_behind a (b ++ (c ++ (d ++ (n ++ (l ++ (u ++ z)))))) h in
    let hc = none_behind b (c ++ (d ++ (n ++ (l ++ (u ++ z))))) hb in
    let hd = none_behind c (d ++ (n ++ (l ++ (u ++ z)))) hc in
    let hn = none_behind d (n ++ (l ++ (u ++ z))) hd in
    let hl = none_behind n (l ++ (u ++ z)) hn in
    let hu = none_behind l (u ++ z) hl in
    let hz = none_behind u z hu in
    let nulls = no_null (has_null_edge lower) (has_null_edge upper) null_in_range (none_left n (l ++ (u ++ z)) hn) in
    let long = eqb-true (length lower) (length columns) (kept (length lower == length columns) (wrong_bound_count (length lower) (length columns)) (none_left a (b ++ (c ++ (d ++ (n ++ (l ++ (u ++ z)))))) h)) in
    let named = none_left l (u ++ z) hl in
    let repeated = none_left u z hu in
    let wide = eqb-true (length upper) (length columns) (kept (length upper == length columns) (wrong_bound_count (length upper) (length columns)) (none_left b (c ++ (d ++ (n ++ (l ++ (u ++ z))))) hb)) in (
      point_at columns lower long (none_left c (d ++ (n ++ (l ++ (u ++ z)))) hc) nulls.0 named,
      point_at columns upper wide (none_left d (n ++ (l ++ (u ++ z))) hd) nulls.1 repeated,
      kept (is_below (point_for columns lower) (point_for columns upper)) empty_range hz,
    )

read_kinds : (kind : Kind) (values : List RawValue) → All (IsOf kind) (read_in (values_for kind values))
read_kinds kind [] = All-nil (IsOf kind)
read_kinds kind (x ∷ values) = by (value_for kind x) refl (read_kinds kind values)
  where
    by : (r : Result Value Fault) → value_for kind x ≡ r → All (IsOf kind) (read_in (values_for kind values)) → All (IsOf kind) (read_in (r ∷ values_for kind values))
    by (Ok v) e rest = All-cons (IsOf kind) v (read_in (values_for kind values)) (value_is kind x v e) rest
    by (Err f) e rest = rest

once_keeps : (P : Value → Type 0) (values : List Value) → All P values → All P (each_once values)
once_keeps P [] h = h
once_keeps P (v ∷ values) h =
    All-cons P v (filter (λ w. not (is_same v w)) (each_once values)) (All-head P v values h) (All-filter (λ w. not (is_same v w)) P (each_once values) (once_keeps P values (All-tail P v values h)))

some_read : (r : Result Value Fault) (rest : List (Result Value Fault)) → faults_in (r ∷ rest) ≡ [] → is_filled (Listed (each_once (read_in (r ∷ rest)))) ≡ true
some_read (Ok v) rest h = refl
some_read (Err f) rest h = cc

list_at : (columns : List KeyColumn) (x : RawValue) (values : List RawValue) → length columns ≡ 1 → faults_in (values_for (only_kind columns) (x ∷ values)) ≡ []
    → IsBoundAt ByList columns (Listed (each_once (read_in (values_for (only_kind columns) (x ∷ values)))))
list_at columns x values one h =
    let kind = only_kind columns in
    let read = read_in (values_for kind (x ∷ values)) in (
      record { one = one; kind = once_keeps (IsOf kind) read (read_kinds kind (x ∷ values)); once = once_apart read },
      some_read (value_for kind x) (values_for kind values) h,
    )

both : (s t : Bool) → s && t ≡ true → (s ≡ true) × (t ≡ true)
both true true h = (refl, refl)
both true false h = cc
both false t h = cc

remainder_at : (columns : List KeyColumn) (m r : ℕ) → is_remainder m r ≡ true → IsBoundAt ByHash columns (Hash m r)
remainder_at columns m r h = let p = both (nat_le m MOST_MODULUS) (nat_lt r m) h in (ltb-true r m p.1, leb-true m MOST_MODULUS p.0)

-- what is checked is a bound of its level
checked_at : (strategy : Strategy) (columns : List KeyColumn) (raw : RawBound) (b : Bound) → (strategy ≡ ByList → length columns ≡ 1) → checked strategy columns raw ≡ Ok b → IsBoundAt strategy columns b
checked_at ByRange columns (RawRange lower upper) b one h =
    let meant = Range (point_for columns lower) (point_for columns upper) in
    subst (IsBoundAt ByRange columns) (answered (range_faults columns lower upper) meant b h) (range_at columns lower upper (none_found (range_faults columns lower upper) meant b h))
checked_at ByRange columns RawDefault b one h = subst (IsBoundAt ByRange columns) (answered [] Default b h) tt
checked_at ByRange columns (RawList values) b one h = cc
checked_at ByRange columns (RawHash m r) b one h = cc
checked_at ByList columns (RawList []) b one h = cc
checked_at ByList columns (RawList (x ∷ values)) b one h =
    let read = values_for (only_kind columns) (x ∷ values) in
    let meant = Listed (each_once (read_in read)) in
    subst (IsBoundAt ByList columns) (answered (faults_in read) meant b h) (list_at columns x values (one refl) (none_found (faults_in read) meant b h))
checked_at ByList columns RawDefault b one h = subst (IsBoundAt ByList columns) (answered [] Default b h) tt
checked_at ByList columns (RawRange lower upper) b one h = cc
checked_at ByList columns (RawHash m r) b one h = cc
checked_at ByHash columns (RawHash m r) b one h =
    let rule = unless (is_remainder m r) bad_remainder in
    subst (IsBoundAt ByHash columns) (answered rule (Hash m r) b h) (remainder_at columns m r (kept (is_remainder m r) bad_remainder (none_found rule (Hash m r) b h)))
checked_at ByHash columns (RawRange lower upper) b one h = cc
checked_at ByHash columns (RawList values) b one h = cc
checked_at ByHash columns RawDefault b one h = cc

pub checked_of_level : (level : Level) (raw : RawBound) (b : Bound) → checked level.strategy level.columns raw ≡ Ok b → IsOfLevel level b
checked_of_level level raw b h = checked_at level.strategy level.columns raw b level.one_if_list h

-- and so is what an answer gives
pub answer_of_level : (level : Level) (raw : RawBound) (r : Result Bound Refusal) → IsAnswer r (checked level.strategy level.columns raw) → IfOk r (λ b. IsOfLevel level b)
answer_of_level level raw (Ok b) h = checked_of_level level raw b h
answer_of_level level raw (Err e) h = tt
