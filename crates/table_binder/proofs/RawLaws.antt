-- What is read of the expressions of a bound is of its key columns' kinds.
use Rattle.std.proofs.Common.{◌≡◌, ◌<◌, ℕ, suc, ◌+◌, ◌*◌, Bool, true, false, ◌||◌, List, [], ◌∷◌, ◌++◌, length, drop, Some, None, Option, Result, Ok, Err, ℤ, get_or, codes, append_assoc, refl, sym, ap, subst, ◌∙◌, arith, add-one, if◌then◌else◌}
use Rattle.std.proofs.Math.Seq.{drop-cons}
use Rattle.pg_values.specs.declared.fault.Fault.{Fault}
use Rattle.pg_values.specs.declared.fault.Refusal.{Refusal}
use Rattle.pg_values.specs.declared.fault.Refusal.TheVariants.{Sql, NoMemory}
use Rattle.pg_values.specs.Refusals.{IsAnswer, faults_in, read_in}
use Rattle.pg_values.specs.declared.value.Kind.{Kind}
use Rattle.pg_values.specs.declared.value.Kind.TheVariants.{Int4 as KInt4, Int8 as KInt8, Text as KText, Day as KDay, Truth as KTruth}
use Rattle.pg_values.specs.declared.value.Value.{Value}
use Rattle.pg_values.specs.declared.value.Value.TheVariants.{Null, Int4, Int8, Text, Day, Truth}
use Rattle.value_rules.specs.declared.assignment.CoerceFault.{CoerceFault}
use Rattle.value_rules.specs.declared.assignment.CoerceFault.TheVariants.{Kinds, Range as PastRange}
use Rattle.value_rules.specs.Ranges.{or_fault, fitted, is_integer, is_bigint}
use Rattle.value_rules.specs.Reads as spelling
use Rattle.value_rules.specs.Reads.{reading, reads, in_range, truth_of, date_of, day_of, two_at, is_there, is_date_form, integer_of}
use Rattle.pg_values.specs.Kinds.{kind_of}
use Rattle.value_rules.specs.Assignment.{assigned}
use Rattle.std.specs.Str.{str_eq_ignore_ascii_case}
use Rattle.bound_forms.specs.declared.level.KeyColumn.{KeyColumn}
use Rattle.table_binder.specs.declared.raw_bound.RawValue.{RawValue}
use Rattle.table_binder.specs.declared.raw_bound.RawValue.TheVariants.{Literal, Given, Faulty}
use Rattle.table_binder.specs.declared.raw_bound.RawEdge.{RawEdge}
use Rattle.table_binder.specs.declared.raw_bound.RawEdge.TheVariants.{Min as RawMin, At as RawAt, Max as RawMax}
use Rattle.bound_forms.specs.declared.point.Edge.{Edge}
use Rattle.bound_forms.specs.declared.point.Edge.TheVariants.{Min, At, Max}
use Rattle.bound_forms.specs.Points.{is_null}
use Rattle.table_binder.specs.RawBounds.{given_to, value_for, edge_at, edge_for, edges_for, values_for, point_for}
use Rattle.table_binder.specs.Checks.{is_null_value, is_null_edge, has_null_edge}
use Rattle.bound_forms.specs.Levels.{IsOf, IsEdgeOf, HasEdges}
use Rattle.bound_forms.proofs.KindLaws.{IsKind, or_left, or_right}

-- ---- the walk over the entries

pub edges_step : (columns : List KeyColumn) (edges : List RawEdge) (i : ℕ) (d : KeyColumn) (e : RawEdge) → i < length columns → i < length edges → e ≡ get_or edges i e
    → edges_for (drop i columns) (drop i edges) ≡ edge_for (get_or columns i d).kind e ∷ edges_for (drop (i + 1) columns) (drop (i + 1) edges)
edges_step columns edges i d e here within at_e =
    let first : drop i columns ≡ get_or columns i d ∷ drop (suc i) columns = drop-cons columns i d here in
    let second : drop i edges ≡ e ∷ drop (suc i) edges = drop-cons edges i e within ∙ ap (λ x. x ∷ drop (suc i) edges) (sym at_e) in
    rw (first, second, add-one) refl

pub values_step : (kind : Kind) (values : List RawValue) (i : ℕ) (x : RawValue) → i < length values → x ≡ get_or values i x
    → values_for kind (drop i values) ≡ value_for kind x ∷ values_for kind (drop (i + 1) values)
values_step kind values i x within at_x =
    let first : drop i values ≡ x ∷ drop (suc i) values = drop-cons values i x within ∙ ap (λ y. y ∷ drop (suc i) values) (sym at_x) in
    rw (first, add-one) refl

-- one more that is read
pub read_more : {A : Type 0} (done more : List A) (x : A) (rest all : List A) → more ≡ done ++ x ∷ [] → done ++ (x ∷ rest) ≡ all → more ++ rest ≡ all
read_more done more x rest all is told = rw is (append_assoc done (x ∷ []) rest ∙ told)

pub edges_end : (columns : List KeyColumn) → edges_for columns [] ≡ []
edges_end [] = refl
edges_end (c ∷ columns) = refl

-- what is read of an entry that is refused is refused
pub edge_refused : (e : Refusal) (r : Result Value Fault) → IsAnswer {T = Value} (Err e) r → IsAnswer {T = Edge} (Err e) (edge_at r)
edge_refused (Sql f) r h = rw h refl
edge_refused NoMemory r h = tt

-- ---- the kinds of what is read

kind_at : (E : Type 0) (kind : Kind) (w v : Value) → IsKind kind w → (let given : Result Value E = Ok w in given ≡ Ok v) → IsKind kind v
kind_at E kind w v p h = let same : w ≡ v = cc in subst (IsKind kind) same p

chosen : {E : Type 0} (t : Bool) (r : Result Value E) (e : E) (v : Value) → (if t then r else Err e) ≡ Ok v → r ≡ Ok v
chosen true r e v h = h
chosen false r e v h = cc

integer_kind : {E : Type 0} (e : E) (z : ℤ) (v : Value) → or_fault e (fitted false z) ≡ Ok v → IsKind KInt4 v
integer_kind {E} e z v h = by (is_integer z) h
  where
    by : (t : Bool) → or_fault e (if t then Some (Int4 z) else None) ≡ Ok v → IsKind KInt4 v
    by true k = kind_at E KInt4 (Int4 z) v (refl, refl) k
    by false k = cc

bigint_kind : {E : Type 0} (e : E) (z : ℤ) (v : Value) → or_fault e (fitted true z) ≡ Ok v → IsKind KInt8 v
bigint_kind {E} e z v h = by (is_bigint z) h
  where
    by : (t : Bool) → or_fault e (if t then Some (Int8 z) else None) ≡ Ok v → IsKind KInt8 v
    by true k = kind_at E KInt8 (Int8 z) v (refl, refl) k
    by false k = cc

number_kind : (z : Option ℤ) (v : Value) → in_range false z ≡ Ok v → IsKind KInt4 v
number_kind None v h = cc
number_kind (Some z) v h = integer_kind _ z v h

large_kind : (z : Option ℤ) (v : Value) → in_range true z ≡ Ok v → IsKind KInt8 v
large_kind None v h = cc
large_kind (Some z) v h = bigint_kind _ z v h

day_at : {E : Type 0} (t : Bool) (d : ℤ) (e : E) (v : Value) → (if t then Ok (Day d) else Err e) ≡ Ok v → IsKind KDay v
day_at {E} true d e v h = kind_at E KDay (Day d) v (refl, refl) h
day_at false d e v h = cc

day_kind : (y m d : ℕ) (v : Value) → day_of y m d ≡ Ok v → IsKind KDay v
day_kind y m d v h = day_at (is_there y m d) _ _ v h

date_kind : (s : List ℕ) (v : Value) → date_of s ≡ Ok v → IsKind KDay v
date_kind s v h =
    let y = two_at s 0 * 100 + two_at s 2 in
    day_kind y (two_at s 5) (two_at s 8) v (chosen (is_date_form s) (day_of y (two_at s 5) (two_at s 8)) _ v h)

truth_at : {E : Type 0} (a b : Bool) (e : E) (v : Value) → (if a then Ok (Truth true) else (if b then Ok (Truth false) else Err e)) ≡ Ok v → IsKind KTruth v
truth_at {E} true b e v h = kind_at E KTruth (Truth true) v (refl, refl) h
truth_at {E} false true e v h = kind_at E KTruth (Truth false) v (refl, refl) h
truth_at false false e v h = cc

truth_kind : (s : List ℕ) (v : Value) → truth_of s ≡ Ok v → IsKind KTruth v
truth_kind s v h =
    truth_at (str_eq_ignore_ascii_case s (codes "t") || str_eq_ignore_ascii_case s (codes "true")) (str_eq_ignore_ascii_case s (codes "f") || str_eq_ignore_ascii_case s (codes "false")) _ v h

reading_kind : (kind : Kind) (s : List ℕ) (v : Value) → reading kind s ≡ Ok v → IsKind kind v
reading_kind KInt4 s v h = number_kind (integer_of s) v h
reading_kind KInt8 s v h = large_kind (integer_of s) v h
reading_kind KText s v h = kind_at _ KText (Text s) v (refl, refl) h
reading_kind KDay s v h = date_kind s v h
reading_kind KTruth s v h = truth_kind s v h

ok_is : {E : Type 0} (g : Result Value E → Result Value Fault) → ((w : Value) → g (Ok w) ≡ Ok w) → ((e : E) → (f : Fault) × (g (Err e) ≡ Err f)) → (r : Result Value E) (v : Value) → g r ≡ Ok v → r ≡ Ok v
ok_is g at_ok at_err (Ok w) v h = let k = sym (at_ok w) ∙ h in let same : w ≡ v = cc in ap Ok same
ok_is g at_ok at_err (Err e) v h = let k = sym (at_err e).1 ∙ h in cc

was_read : (kind : Kind) (s : List ℕ) (v : Value) → reads kind s ≡ Ok v → reading kind s ≡ Ok v
was_read kind s v h = ok_is (spelling.told kind s) (λ w. refl) (λ e. (_, refl)) (reading kind s) v h

was_assigned : (given kind : Kind) (r : Result Value CoerceFault) (v : Value) → given_to given kind r ≡ Ok v → r ≡ Ok v
was_assigned given kind (Ok w) v h = let same : w ≡ v = cc in ap Ok same
was_assigned given kind (Err Kinds) v h = cc
was_assigned given kind (Err PastRange) v h = cc

assigned_kind : (w : Value) (kind : Kind) (v : Value) → is_null w ≡ false → assigned w kind ≡ Ok v → IsKind kind v
assigned_kind Null kind v n h = cc
assigned_kind (Int4 m) KInt4 v n h = kind_at CoerceFault KInt4 (Int4 m) v (refl, refl) h
assigned_kind (Int4 m) KInt8 v n h = kind_at CoerceFault KInt8 (Int8 m) v (refl, refl) h
assigned_kind (Int4 m) KText v n h = cc
assigned_kind (Int4 m) KDay v n h = cc
assigned_kind (Int4 m) KTruth v n h = cc
assigned_kind (Int8 m) KInt4 v n h = integer_kind PastRange m v h
assigned_kind (Int8 m) KInt8 v n h = kind_at CoerceFault KInt8 (Int8 m) v (refl, refl) h
assigned_kind (Int8 m) KText v n h = cc
assigned_kind (Int8 m) KDay v n h = cc
assigned_kind (Int8 m) KTruth v n h = cc
assigned_kind (Text s) KText v n h = kind_at CoerceFault KText (Text s) v (refl, refl) h
assigned_kind (Text s) KInt4 v n h = cc
assigned_kind (Text s) KInt8 v n h = cc
assigned_kind (Text s) KDay v n h = cc
assigned_kind (Text s) KTruth v n h = cc
assigned_kind (Day d) KDay v n h = kind_at CoerceFault KDay (Day d) v (refl, refl) h
assigned_kind (Day d) KInt4 v n h = cc
assigned_kind (Day d) KInt8 v n h = cc
assigned_kind (Day d) KText v n h = cc
assigned_kind (Day d) KTruth v n h = cc
assigned_kind (Truth p) KTruth v n h = kind_at CoerceFault KTruth (Truth p) v (refl, refl) h
assigned_kind (Truth p) KInt4 v n h = cc
assigned_kind (Truth p) KInt8 v n h = cc
assigned_kind (Truth p) KText v n h = cc
assigned_kind (Truth p) KDay v n h = cc

-- an expression that is not null gives a value of the kind
pub value_kind : (kind : Kind) (x : RawValue) (v : Value) → value_for kind x ≡ Ok v → is_null_value x ≡ false → IsKind kind v
value_kind kind (Literal s) v h n = reading_kind kind s v (was_read kind s v h)
value_kind kind (Given w) v h n = assigned_kind w kind v n (was_assigned (kind_of w) kind (assigned w kind) v h)
value_kind kind (Faulty f) v h n = cc

null_given : (w : Value) (kind : Kind) (v : Value) → is_null w ≡ true → assigned w kind ≡ Ok v → Null ≡ v
null_given Null kind v n h = cc
null_given (Int4 m) kind v n h = cc
null_given (Int8 m) kind v n h = cc
null_given (Text s) kind v n h = cc
null_given (Day d) kind v n h = cc
null_given (Truth p) kind v n h = cc

null_value : (kind : Kind) (x : RawValue) (v : Value) → value_for kind x ≡ Ok v → is_null_value x ≡ true → Null ≡ v
null_value kind (Literal s) v h n = cc
null_value kind (Given w) v h n = null_given w kind v n (was_assigned (kind_of w) kind (assigned w kind) v h)
null_value kind (Faulty f) v h n = cc

-- and any gives one of the kind, or null
pub value_is : (kind : Kind) (x : RawValue) (v : Value) → value_for kind x ≡ Ok v → IsOf kind v
value_is kind x v h = by (is_null_value x) refl
  where
    by : (t : Bool) → is_null_value x ≡ t → IsOf kind v
    by false n = λ g. (value_kind kind x v h n).1
    by true n = λ g. let P : Value → Type 0 = λ w. is_null w ≡ false in let wrong : true ≡ false = subst P (sym (null_value kind x v h n)) g in cc

-- ---- the point that is read of FROM or TO

edge_kind : (kind : Kind) (e : RawEdge) (x : Edge) → edge_for kind e ≡ Ok x → is_null_edge e ≡ false → IsEdgeOf kind x
edge_kind kind RawMin x h n = let same : Min ≡ x = cc in subst (IsEdgeOf kind) same tt
edge_kind kind RawMax x h n = let same : Max ≡ x = cc in subst (IsEdgeOf kind) same tt
edge_kind kind (RawAt raw) x h n = by (value_for kind raw) refl h
  where
    by : (r : Result Value Fault) → value_for kind raw ≡ r → edge_at r ≡ Ok x → IsEdgeOf kind x
    by (Ok v) e g = let same : At v ≡ x = cc in subst (IsEdgeOf kind) same (value_kind kind raw v e n)
    by (Err f) e g = cc

-- without a fault and without null it is one of the key columns
pub point_is : (columns : List KeyColumn) (edges : List RawEdge) → length edges ≡ length columns → faults_in (edges_for columns edges) ≡ [] → has_null_edge edges ≡ false → HasEdges columns (point_for columns edges)
point_is [] edges long none n = refl
point_is (c ∷ columns) [] long none n = absurd (omega (arith, long))
point_is (c ∷ columns) (e ∷ edges) long none n =
    by (edge_for c.kind e) refl none (λ k. point_is columns edges (omega (arith, long)) k (or_right (is_null_edge e) (has_null_edge edges) n))
  where
    by : (r : Result Edge Fault) → edge_for c.kind e ≡ r → faults_in (r ∷ edges_for columns edges) ≡ [] → (faults_in (edges_for columns edges) ≡ [] → HasEdges columns (point_for columns edges))
        → HasEdges (c ∷ columns) (read_in (r ∷ edges_for columns edges) ++ Min ∷ [])
    by (Ok x) is k rest = (edge_kind c.kind e x is (or_left (is_null_edge e) (has_null_edge edges) n), rest k)
    by (Err f) is k rest = cc
