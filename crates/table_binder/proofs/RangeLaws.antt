-- The rules of a range, one behind the other.
use Rattle.std.proofs.Common.{◌≡◌, ◌≢◌, ◌<◌, ℕ, Bool, true, false, not, ◌||◌, ◌==◌, List, [], ◌∷◌, length, get_or, arith, Ok, Err, refl, ap, subst, ◌∙◌}
use Rattle.std.proofs.lemmas.Bool.{eqb-true}
use Rattle.pg_values.specs.declared.fault.Fault.{Fault}
use Rattle.pg_values.specs.declared.fault.Refusal.{Refusal}
use Rattle.pg_values.specs.Refusals.{IsAnswer, faults_in, read_in, or_first, unless}
use Rattle.pg_values.specs.declared.value.Value.{Value}
use Rattle.refusals.specs.Refusals.{null_in_range, empty_range, wrong_bound_count}
use Rattle.table_binder.specs.declared.raw_bound.RawValue.{RawValue}
use Rattle.bound_forms.specs.declared.level.KeyColumn.{KeyColumn}
use Rattle.table_binder.specs.declared.raw_bound.RawEdge.{RawEdge}
use Rattle.bound_forms.specs.declared.partition_bound.Bound.{Bound}
use Rattle.bound_forms.specs.declared.partition_bound.Bound.TheVariants.{Range, List as Listed}
use Rattle.bound_forms.specs.declared.point.Edge.{Edge}
use Rattle.bound_forms.specs.Bounds.{is_below}
use Rattle.table_binder.specs.RawBounds.{edges_for, values_for, point_for, each_once}
use Rattle.bound_forms.specs.Levels.{only_kind, HasEdges}
use Rattle.table_binder.specs.Checks.{count_faults, has_null_edge, word_faults, range_faults, list_faults}
use Rattle.table_binder.proofs.CheckLaws.{none_found, answered, kept, last, all_kept}
use Rattle.table_binder.proofs.RawLaws.{point_is}

-- as many as are wanted
pub count_is : {T : Type 0} (given wanted : ℕ) (u w : T) → or_first (count_faults given wanted) u ≡ Ok w → given ≡ wanted
count_is given wanted u w h = eqb-true given wanted (kept (given == wanted) (wrong_bound_count given wanted) (none_found (count_faults given wanted) u w h))

-- no null on either side
pub no_null : (s t : Bool) (f : Fault) → unless (not (s || t)) f ≡ [] → (s ≡ false) × (t ≡ false)
no_null true t f h = cc
no_null false true f h = cc
no_null false false f h = (refl, refl)

-- what was read is a point of the key columns
pub read_is : (columns : List KeyColumn) (edges : List RawEdge) (p : List Edge) → length edges ≡ length columns
    → or_first (faults_in (edges_for columns edges)) (point_for columns edges) ≡ Ok p → has_null_edge edges ≡ false → HasEdges columns p
read_is columns edges p long h n =
    subst (HasEdges columns) (answered (faults_in (edges_for columns edges)) (point_for columns edges) p h)
    (point_is columns edges long (none_found (faults_in (edges_for columns edges)) (point_for columns edges) p h) n)

-- where each rule is kept the range is the one that is meant
pub range_made : {U : Type 0} (u : U) (columns : List KeyColumn) (lower upper : List RawEdge) (from to : List Edge)
    → or_first (count_faults (length lower) (length columns)) u ≡ Ok u → or_first (count_faults (length upper) (length columns)) u ≡ Ok u
    → or_first (faults_in (edges_for columns lower)) (point_for columns lower) ≡ Ok from → or_first (faults_in (edges_for columns upper)) (point_for columns upper) ≡ Ok to
    → or_first (unless (not (has_null_edge lower || has_null_edge upper)) null_in_range) u ≡ Ok u
    → or_first (word_faults lower) u ≡ Ok u → or_first (word_faults upper) u ≡ Ok u → or_first (unless (is_below from to) empty_range) u ≡ Ok u
    → or_first (range_faults columns lower upper) (Range (point_for columns lower) (point_for columns upper)) ≡ Ok (Range from to)
range_made u columns lower upper from to ha hb hc hd hn hl hu hz =
    let a = count_faults (length lower) (length columns) in
    let b = count_faults (length upper) (length columns) in
    let c = faults_in (edges_for columns lower) in
    let d = faults_in (edges_for columns upper) in
    let n = unless (not (has_null_edge lower || has_null_edge upper)) null_in_range in
    let p = point_for columns lower in
    let q = point_for columns upper in
    let z = unless (is_below p q) empty_range in
    let at_p : p ≡ from = answered c p from hc in
    let at_q : q ≡ to = answered d q to hd in
    let filled : z ≡ [] = rw (at_p, at_q) (none_found (unless (is_below from to) empty_range) u u hz) in
    let same : Range p q ≡ Range from to = rw (at_p, at_q) refl in
    all_kept a b c d n (word_faults lower) (word_faults upper) z (Range p q) (none_found a u u ha) (none_found b u u hb) (none_found c p from hc) (none_found d q to hd) (none_found n u u hn)
    (none_found (word_faults lower) u u hl) (none_found (word_faults upper) u u hu) filled
    ∙ ap Ok same

-- ---- the rules of a list

first_kind : (columns : List KeyColumn) (d : KeyColumn) → 0 < length columns → (get_or columns 0 d).kind ≡ only_kind columns
first_kind [] d h = absurd (omega arith)
first_kind (c ∷ columns) d h = refl

some_values : (columns : List KeyColumn) (values : List RawValue) → values ≢ [] → list_faults columns values ≡ faults_in (values_for (only_kind columns) values)
some_values columns [] h = absurd (h refl)
some_values columns (x ∷ values) h = refl

-- where each value is read the list is the one that is meant
pub list_made : (columns : List KeyColumn) (d : KeyColumn) (values : List RawValue) (read : List Value) → 0 < length columns → values ≢ []
    → or_first (faults_in (values_for (get_or columns 0 d).kind values)) (each_once (read_in (values_for (get_or columns 0 d).kind values))) ≡ Ok read
    → or_first (list_faults columns values) (Listed (each_once (read_in (values_for (only_kind columns) values)))) ≡ Ok (Listed read)
list_made columns d values read some given h =
    let k : or_first (faults_in (values_for (only_kind columns) values)) (each_once (read_in (values_for (only_kind columns) values))) ≡ Ok read = rw (first_kind columns d some) at h in
    let meant = each_once (read_in (values_for (only_kind columns) values)) in
    rw (some_values columns values given, none_found (faults_in (values_for (only_kind columns) values)) meant read k, answered (faults_in (values_for (only_kind columns) values)) meant read k) refl

-- and else its first fault is that of the list
pub list_fails : (e : Refusal) (columns : List KeyColumn) (d : KeyColumn) (values : List RawValue) → 0 < length columns → values ≢ []
    → IsAnswer {T = List Value} (Err e) (or_first (faults_in (values_for (get_or columns 0 d).kind values)) (each_once (read_in (values_for (get_or columns 0 d).kind values))))
    → IsAnswer {T = Bound} (Err e) (or_first (list_faults columns values) (Listed (each_once (read_in (values_for (only_kind columns) values)))))
list_fails e columns d values some given h =
    let kind = (get_or columns 0 d).kind in
    rw (some_values columns values given, ← (first_kind columns d some))
    (last e (faults_in (values_for kind values)) (each_once (read_in (values_for kind values))) (Listed (each_once (read_in (values_for kind values)))) h)
