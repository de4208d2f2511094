-- MINVALUE and MAXVALUE are repeated in a point, and a value stands once in a list.
use Rattle.std.proofs.Common.{◌≡◌, ◌+◌, Bool, true, false, not, List, [], ◌∷◌, ◌++◌, length, take, Result, Ok, Err, refl, sym, ap, subst, ◌∙◌, arith}
use Rattle.std.specs.List.{All, AllPairs, filter}
use Rattle.std.proofs.Math.Seq.{take-append_seam}
use Rattle.std.proofs.lemmas.List.Elements.{All-nil, All-cons, filter_passes}
use Rattle.std.proofs.lemmas.List.Kept.{AllPairs-cons, AllPairs-filter}
use Rattle.pg_values.specs.declared.fault.Fault.{Fault}
use Rattle.pg_values.specs.declared.value.Kind.{Kind}
use Rattle.pg_values.specs.declared.value.Value.{Value}
use Rattle.bound_forms.specs.declared.level.KeyColumn.{KeyColumn}
use Rattle.table_binder.specs.declared.raw_bound.RawEdge.{RawEdge}
use Rattle.table_binder.specs.declared.raw_bound.RawEdge.TheVariants.{Min as RawMin, At as RawAt, Max as RawMax}
use Rattle.bound_forms.specs.declared.point.Edge.{Edge}
use Rattle.bound_forms.specs.declared.point.Edge.TheVariants.{Min, At, Max}
use Rattle.bound_forms.specs.Listed.{is_same}
use Rattle.table_binder.specs.RawBounds.{value_for, edge_at, edge_for, edges_for, point_for, each_once}
use Rattle.pg_values.specs.Refusals.{faults_in, read_in}
use Rattle.table_binder.specs.Checks.{repeat_faults, word_faults, has_null_edge}
use Rattle.bound_forms.specs.Levels.{HasEdges, Repeats, IsPointOf}
use Rattle.table_binder.proofs.CheckLaws.{none_left, none_behind}
use Rattle.bound_forms.proofs.KindLaws.{point_length}
use Rattle.bound_forms.proofs.PlainOrder.{pairs-nil}
use Rattle.table_binder.proofs.RawLaws.{point_is}

-- ---- words

-- an entry behind which only itself may stand gives the same edge to the end
all_word : (raw : RawEdge) (made : Edge) → ((f : RawEdge) → repeat_faults raw f ≡ [] → f ≡ raw) → ((kind : Kind) → edge_for kind raw ≡ Ok made)
    → (columns : List KeyColumn) (edges : List RawEdge) → word_faults (raw ∷ edges) ≡ [] → All (λ y. y ≡ made) (read_in (edges_for columns edges))
all_word raw made only gives [] edges h = All-nil (λ y. y ≡ made)
all_word raw made only gives (c ∷ columns) [] h = All-nil (λ y. y ≡ made)
all_word raw made only gives (c ∷ columns) (f ∷ edges) h =
    let same : f ≡ raw = only f (none_left (repeat_faults raw f) (word_faults (f ∷ edges)) h) in
    let P : RawEdge → Type 0 = λ g. word_faults (g ∷ edges) ≡ [] in
    let rest : word_faults (raw ∷ edges) ≡ [] = subst P same (none_behind (repeat_faults raw f) (word_faults (f ∷ edges)) h) in
    let read : edge_for c.kind f ≡ Ok made = ap (edge_for c.kind) same ∙ gives c.kind in
    rw read (All-cons (λ y. y ≡ made) made (read_in (edges_for columns edges)) refl (all_word raw made only gives columns edges rest))

only_min : (f : RawEdge) → repeat_faults RawMin f ≡ [] → f ≡ RawMin
only_min RawMin h = refl
only_min (RawAt x) h = cc
only_min RawMax h = cc

only_max : (f : RawEdge) → repeat_faults RawMax f ≡ [] → f ≡ RawMax
only_max RawMin h = cc
only_max (RawAt x) h = cc
only_max RawMax h = refl

-- what is read behind an entry repeats it
repeated : (columns : List KeyColumn) (edges : List RawEdge) (kind : Kind) (e : RawEdge) (x : Edge) → edge_for kind e ≡ Ok x → word_faults (e ∷ edges) ≡ [] → All (Repeats x) (read_in (edges_for columns edges))
repeated columns edges kind RawMin x is h = let same : Min ≡ x = cc in let P : Edge → Type 0 = λ y. All (Repeats y) (read_in (edges_for columns edges)) in subst P same (all_word RawMin Min only_min (λ k. refl) columns edges h)
repeated columns edges kind RawMax x is h = let same : Max ≡ x = cc in let P : Edge → Type 0 = λ y. All (Repeats y) (read_in (edges_for columns edges)) in subst P same (all_word RawMax Max only_max (λ k. refl) columns edges h)
repeated columns edges kind (RawAt raw) x is h = by (value_for kind raw) is
  where
    by : (r : Result Value Fault) → edge_at r ≡ Ok x → All (Repeats x) (read_in (edges_for columns edges))
    by (Ok v) g = let same : At v ≡ x = cc in let P : Edge → Type 0 = λ y. All (Repeats y) (read_in (edges_for columns edges)) in subst P same (λ i d lt. tt)
    by (Err f) g = cc

words_behind : (e : RawEdge) (edges : List RawEdge) → word_faults (e ∷ edges) ≡ [] → word_faults edges ≡ []
words_behind e [] h = refl
words_behind e (f ∷ edges) h = none_behind (repeat_faults e f) (word_faults (f ∷ edges)) h

words_read : (columns : List KeyColumn) (edges : List RawEdge) → faults_in (edges_for columns edges) ≡ [] → word_faults edges ≡ [] → AllPairs Repeats (read_in (edges_for columns edges))
words_read [] edges none h = pairs-nil Repeats
words_read (c ∷ columns) [] none h = pairs-nil Repeats
words_read (c ∷ columns) (e ∷ edges) none h = by (edge_for c.kind e) refl none (λ k. words_read columns edges k (words_behind e edges h))
  where
    by : (r : Result Edge Fault) → edge_for c.kind e ≡ r → faults_in (r ∷ edges_for columns edges) ≡ [] → (faults_in (edges_for columns edges) ≡ [] → AllPairs Repeats (read_in (edges_for columns edges)))
        → AllPairs Repeats (read_in (r ∷ edges_for columns edges))
    by (Ok x) is k rest = AllPairs-cons Repeats x (read_in (edges_for columns edges)) (repeated columns edges c.kind e x is h) (rest k)
    by (Err f) is k rest = cc

push_length : (xs : List Edge) (e : Edge) → length (xs ++ e ∷ []) ≡ length xs + 1
push_length [] e = refl
push_length (x ∷ xs) e = omega (arith, push_length xs e)

-- the entries of FROM or TO that break no rule give a point
pub point_at : (columns : List KeyColumn) (edges : List RawEdge) → length edges ≡ length columns → faults_in (edges_for columns edges) ≡ [] → has_null_edge edges ≡ false → word_faults edges ≡ [] → IsPointOf columns (point_for columns edges)
point_at columns edges long none nulls h =
    let read = read_in (edges_for columns edges) in
    let has : HasEdges columns (read ++ Min ∷ []) = point_is columns edges long none nulls in
    let same : length read ≡ length columns = omega (arith, point_length columns (read ++ Min ∷ []) has, push_length read Min) in
    let taken : take (length columns) (read ++ Min ∷ []) ≡ read = ap (λ n. take n (read ++ Min ∷ [])) (sym same) ∙ take-append_seam read (Min ∷ []) in
    record { edges = has; words = subst (AllPairs Repeats) (sym taken) (words_read columns edges none h) }

-- ---- values of a list

not_true : (t : Bool) → not t ≡ true → t ≡ false
not_true true h = cc
not_true false h = refl

pub once_apart : (values : List Value) → AllPairs (λ v w. is_same v w ≡ false) (each_once values)
once_apart [] = pairs-nil (λ v w. is_same v w ≡ false)
once_apart (v ∷ values) =
    let rest = each_once values in
    let new = filter (λ w. not (is_same v w)) rest in
    AllPairs-cons (λ v w. is_same v w ≡ false) v new (λ i d lt. not_true _ (filter_passes (λ w. not (is_same v w)) rest i d lt)) (AllPairs-filter (λ v w. is_same v w ≡ false) (λ w. not (is_same v w)) rest (once_apart values))
