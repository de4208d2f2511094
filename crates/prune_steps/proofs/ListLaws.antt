-- Comparisons at a level by list: child by child, what they keep.
use Rattle.std.proofs.Common.{◌≡◌, inl, inr, ℕ, zero, suc, ◌+◌, ◌-◌, ◌<◌, ◌≤◌, Bool, true, false, true≢false, not, ◌&&◌, ◌||◌, List, [], ◌∷◌, ◌++◌, map, filter, length, take, get_or, refl, sym, ap, subst, ◌∙◌, arith, nat_lt, add-one, if◌then◌else◌}
use Rattle.std.specs.Prelude.{◌==◌}
use Rattle.std.specs.List.{list_any, All}
use Rattle.std.specs.Ordering.{is_lt, is_le, is_eq, is_gt, is_ge, is_ne}
use Rattle.std.specs.declared.cmp.Ordering.{Ordering}
use Rattle.std.specs.declared.cmp.Ordering.TheVariants.{Less, Equal, Greater}
use Rattle.std.proofs.lemmas.Bool.Decides.{nat_tests}
use Rattle.std.proofs.lemmas.List.Folds.{list_any_none, list_any_at}
use Rattle.pg_values.specs.declared.value.Value.{Value}
use Rattle.pg_values.specs.Order.{order}
use Rattle.bound_forms.specs.declared.partition_bound.Bound.{Bound}
use Rattle.bound_forms.specs.declared.partition_bound.Bound.TheVariants.{Range, List as Listed, Hash, Default}
use Rattle.bound_forms.specs.declared.point.Edge.{Edge}
use Rattle.bound_forms.specs.Points.{is_null, point_of, point_order}
use Rattle.bound_forms.specs.Accepts.{is_default}
use Rattle.part_bounds.specs.Listings.{values_of}
use Rattle.part_bounds.specs.Stored.{Mark, points_in, marks_from, marks, lies_below, stored, owners, of_lists, IsListLevel}
use Rattle.part_bounds.proofs.ListingLaws.{one_value}
use Rattle.cond_logic.specs.declared.cond.CompareOp.{CompareOp}
use Rattle.cond_logic.specs.declared.cond.CompareOp.TheVariants.{Eq, Ne, Lt, Le, Gt, Ge}
use Rattle.cond_logic.specs.Truths.{passes_by}
use Rattle.prune_steps.specs.Bits.{bit, in_run, AreBits}
use Rattle.prune_steps.specs.Kept.{lists_some, lists_passing, default_keeps, list_keeps}
use Rattle.prune_steps.specs.Lists.{owned_by, count_at, is_counted, looked_for, passes_inside, keeps_default, RunOf}
use Rattle.prune_steps.specs.Tallies.{one, tally}
use Rattle.prune_steps.proofs.Tallies.{tally_sorted, tally_append, tally_map, tally_filter, tally_beside, tally_more, take_whole, tally_any, tally_outside, tally_none}

-- ---- the stored points of one child

abbrev pub Of : ℕ → (List Edge → Bool) → Mark → Bool
Of k q m = (m.child == k) && q m.point

marked : (q : List Edge → Bool) (n k : ℕ) (ps : List (List Edge)) → tally (Of k q) (map (λ p. record { point = p; child = n }) ps) ≡ (if n == k then tally q ps else 0)
marked q n k ps = tally_map (Of k q) (λ p. record { point = p; child = n }) ps ∙ tally_beside (n == k) q ps

other : (a b : ℕ) (x : ℕ) → a < b → (if b == a then x else 0) ≡ 0
other a b x h = let e : (b == a) ≡ false = grind (arith, nat_tests, h) in rw e refl

own : (a b : ℕ) (x : ℕ) → a ≡ b → (if b == a then x else 0) ≡ x
own a b x h = let e : (b == a) ≡ true = grind (arith, nat_tests, h) in rw e refl

marks_before : (q : List Edge → Bool) (bounds : List Bound) (n k : ℕ) → k < n → tally (Of k q) (marks_from n bounds) ≡ 0
marks_before q [] n k h = refl
marks_before q (b ∷ bounds) n k h =
    let front = marked q n k (points_in b) ∙ other k n (tally q (points_in b)) h in
    let rest = marks_before q bounds (suc n) k (omega (arith, h)) in
    tally_append (Of k q) (map (λ p. record { point = p; child = n }) (points_in b)) (marks_from (suc n) bounds) ∙ omega (arith, front, rest)

other_up : (a b : ℕ) (x : ℕ) → b < a → (if b == a then x else 0) ≡ 0
other_up a b x h = let e : (b == a) ≡ false = grind (arith, nat_tests, h) in rw e refl

marks_at : (q : List Edge → Bool) (bounds : List Bound) (n k : ℕ) → k < length bounds → tally (Of (n + k) q) (marks_from n bounds) ≡ tally q (points_in (get_or bounds k Default))
marks_at q [] n k h = absurd (omega arith)
marks_at q (b ∷ bounds) n zero h =
    let front = marked q n (n + 0) (points_in b) ∙ own (n + 0) n (tally q (points_in b)) (omega arith) in
    let rest = marks_before q bounds (suc n) (n + 0) (omega arith) in
    tally_append (Of (n + 0) q) (map (λ p. record { point = p; child = n }) (points_in b)) (marks_from (suc n) bounds) ∙ omega (arith, front, rest)
marks_at q (b ∷ bounds) n (suc k) h =
    let front = marked q n (n + suc k) (points_in b) ∙ other_up (n + suc k) n (tally q (points_in b)) (omega arith) in
    let at : n + suc k ≡ suc n + k = omega arith in
    let rest = ap (λ i. tally (Of i q) (marks_from (suc n) bounds)) at ∙ marks_at q bounds (suc n) k (omega (arith, h)) in
    tally_append (Of (n + suc k) q) (map (λ p. record { point = p; child = n }) (points_in b)) (marks_from (suc n) bounds) ∙ omega (arith, front, rest)

zero_left : (k : ℕ) → k ≡ 0 + k
zero_left k = omega arith

pub child_marks : (q : List Edge → Bool) (bounds : List Bound) (k : ℕ) → k < length bounds → tally (Of k q) (marks bounds) ≡ tally q (points_in (get_or bounds k Default))
child_marks q bounds k h = tally_sorted (Of k q) lies_below (marks_from 0 bounds) ∙ ap (λ i. tally (Of i q) (marks_from 0 bounds)) (zero_left k) ∙ marks_at q bounds 0 k h

-- the values that are not null, by their points
value_points : (q : List Edge → Bool) (b : Bound) → of_lists b ≡ true → tally q (points_in b) ≡ tally (λ w. not (is_null w) && q (point_of (w ∷ []))) (values_of b)
value_points q (Listed values) h = tally_map q (λ v. point_of (v ∷ [])) (filter (λ v. not (is_null v)) values) ∙ tally_filter (λ v. not (is_null v)) (λ v. q (point_of (v ∷ []))) values
value_points q Default h = refl
value_points q (Range lower upper) h = cc
value_points q (Hash modulus remainder) h = cc

-- ---- a run

pub get_map : {X Y : Type 0} (f : X → Y) (xs : List X) (i : ℕ) (d : Y) (e : X) → i < length xs → get_or (map f xs) i d ≡ f (get_or xs i e)
get_map f [] i d e h = absurd (omega arith)
get_map f (x ∷ xs) zero d e h = refl
get_map f (x ∷ xs) (suc i) d e h = get_map f xs i d e (omega (arith, h))

pub length_map : {X Y : Type 0} (f : X → Y) (xs : List X) → length (map f xs) ≡ length xs
length_map f [] = refl
length_map f (x ∷ xs) = let ih = length_map f xs in omega (arith, ih)

no_mark : Mark
no_mark = record { point = []; child = 0 }

owned_tally : (bounds : List Bound) (q : List Edge → Bool) (from to k i : ℕ) → i ≤ length (stored bounds)
    → ((j : ℕ) (d : List Edge) → j < length (stored bounds) → q (get_or (stored bounds) j d) ≡ in_run from to j)
    → owned_by (owners bounds) from to i k ≡ tally (Of k q) (take i (marks bounds))
owned_tally bounds q from to k zero h each = refl
owned_tally bounds q from to k (suc i) h each =
    let long = length_map (λ m. m.point) (marks bounds) in
    let lt : i < length (marks bounds) = omega (arith, h, long) in
    let child = get_map (λ m. m.child) (marks bounds) i 0 no_mark lt in
    let point = get_map (λ m. m.point) (marks bounds) i [] no_mark lt in
    let here : in_run from to i ≡ q (get_or (marks bounds) i no_mark).point = sym (each i [] (omega (arith, h))) ∙ ap q point in
    let before = owned_tally bounds q from to k i (omega (arith, h)) each in
    rw (child, here, before) (sym (tally_more (Of k q) (marks bounds) i no_mark lt))

past_run : (from to m : ℕ) → in_run from to (to + m) ≡ false
past_run from to m = by (nat_lt (to + m) from) (nat_lt (to + m) to) (grind (arith, nat_tests))
  where
    by : (s t : Bool) → t ≡ false → (not s && t) ≡ false
    by true t h = refl
    by false t h = h

and_no : (s t : Bool) → t ≡ false → one (s && t) ≡ 0
and_no true t h = ap one h
and_no false t h = refl

owned_past : (os : List ℕ) (from to k m : ℕ) → owned_by os from to (to + m) k ≡ owned_by os from to to k
owned_past os from to k zero = ap (λ i. owned_by os from to i k) (omega arith)
owned_past os from to k (suc m) =
    let e : to + suc m ≡ suc (to + m) = omega arith in
    let ih = owned_past os from to k m in
    let no = and_no (get_or os (to + m) 0 == k) (in_run from to (to + m)) (past_run from to m) in
    ap (λ i. owned_by os from to i k) e ∙ omega (arith, ih, no)

-- the number of a child's values that the looked for operator passes
pub counted : (bounds : List Bound) (op : CompareOp) (v : Value) (from to k : ℕ) → IsListLevel bounds → RunOf bounds op v from to → k < length bounds
    → owned_by (owners bounds) from to to k ≡ tally (λ w. not (is_null w) && passes_by (looked_for op) (order w v)) (values_of (get_or bounds k Default))
counted bounds op v from to k lists run h =
    let q : List Edge → Bool = λ p. passes_by (looked_for op) (point_order p (point_of (v ∷ []))) in
    let n = length (stored bounds) in
    let long = length_map (λ m. m.point) (marks bounds) in
    let w = run.within in
    let m : n ≡ to + (n - to) = omega (arith, w) in
    sym (ap (λ i. owned_by (owners bounds) from to i k) m ∙ owned_past (owners bounds) from to k (n - to))
    ∙ owned_tally bounds q from to k n (omega arith) run.each
    ∙ ap (tally (Of k q)) (ap (λ i. take i (marks bounds)) long ∙ take_whole (marks bounds))
    ∙ child_marks q bounds k h
    ∙ value_points q (get_or bounds k Default) (lists k Default h)
    ∙ same_tally (λ w. not (is_null w) && q (point_of (w ∷ []))) (λ w. not (is_null w) && passes_by (looked_for op) (order w v)) (λ x. ap (λ o. not (is_null x) && passes_by (looked_for op) o) (one_value x v)) (values_of (get_or bounds k Default))
  where
    same_tally : {X : Type 0} (p r : X → Bool) → ((x : X) → p x ≡ r x) → (xs : List X) → tally p xs ≡ tally r xs
    same_tally p r e [] = refl
    same_tally p r e (x ∷ xs) = rw (e x, same_tally p r e xs) refl

-- ---- child by child

inside_passes : (op : CompareOp) (o : Ordering) → passes_inside op ≡ true → passes_by (looked_for op) o ≡ passes_by op o
inside_passes Eq o h = refl
inside_passes Ne o h = cc
inside_passes Lt o h = refl
inside_passes Le o h = refl
inside_passes Gt o h = cc
inside_passes Ge o h = cc

outside_passes : (op : CompareOp) (o : Ordering) → passes_inside op ≡ false → not (passes_by (looked_for op) o) ≡ passes_by op o
outside_passes Eq o h = cc
outside_passes Ne Less h = refl
outside_passes Ne Equal h = refl
outside_passes Ne Greater h = refl
outside_passes Lt o h = cc
outside_passes Le o h = cc
outside_passes Gt Less h = refl
outside_passes Gt Equal h = refl
outside_passes Gt Greater h = refl
outside_passes Ge Less h = refl
outside_passes Ge Equal h = refl
outside_passes Ge Greater h = refl

same_any : {X : Type 0} (p r : X → Bool) → ((x : X) → p x ≡ r x) → (xs : List X) → list_any p xs ≡ list_any r xs
same_any p r e [] = refl
same_any p r e (x ∷ xs) = rw (e x, same_any p r e xs) refl

pub is_passing : (bounds : List Bound) (op : CompareOp) (v : Value) (from to k : ℕ) (inside : Bool) → inside ≡ passes_inside op → IsListLevel bounds → RunOf bounds op v from to → k < length bounds
    → is_counted inside (owned_by (owners bounds) from to to k) (get_or bounds k Default) ≡ lists_passing op v (get_or bounds k Default)
is_passing bounds op v from to k true is lists run h =
    ap (nat_lt 0) (counted bounds op v from to k lists run h)
    ∙ tally_any (λ w. not (is_null w) && passes_by (looked_for op) (order w v)) (values_of (get_or bounds k Default))
    ∙ same_any (λ w. not (is_null w) && passes_by (looked_for op) (order w v)) (λ w. not (is_null w) && passes_by op (order w v)) (λ w. ap (λ t. not (is_null w) && t) (inside_passes op (order w v) (sym is))) (values_of (get_or bounds k Default))
is_passing bounds op v from to k false is lists run h =
    ap (λ n. nat_lt n (tally (λ w. not (is_null w)) (values_of (get_or bounds k Default)))) (counted bounds op v from to k lists run h)
    ∙ tally_outside (λ w. not (is_null w)) (λ w. passes_by (looked_for op) (order w v)) (values_of (get_or bounds k Default))
    ∙ same_any (λ w. not (is_null w) && not (passes_by (looked_for op) (order w v))) (λ w. not (is_null w) && passes_by op (order w v)) (λ w. ap (λ t. not (is_null w) && t) (outside_passes op (order w v) (sym is))) (values_of (get_or bounds k Default))

-- ---- the default

-- where a child has a value that passes, a stored point of the run is its
some_run : (bounds : List Bound) (v : Value) (from to k : ℕ) → IsListLevel bounds → RunOf bounds Eq v from to → k < length bounds → from ≡ to → lists_passing Eq v (get_or bounds k Default) ≡ false
some_run bounds v from to k lists run h e =
    sym (is_passing bounds Eq v from to k true refl lists run h) ∙ ap (nat_lt 0) (none (owners bounds) to)
  where
    empty : (i : ℕ) → in_run from to i ≡ false
    empty i = by (nat_lt i from) (nat_lt i to) (ap (nat_lt i) e)
      where
        by : (s t : Bool) → s ≡ t → (not s && t) ≡ false
        by true t g = refl
        by false t g = sym g

    none : (os : List ℕ) (i : ℕ) → owned_by os from to i k ≡ 0
    none os zero = refl
    none os (suc i) = let no = and_no (get_or os i 0 == k) (in_run from to i) (empty i) in let ih = none os i in omega (arith, no, ih)

owner_in : (bounds : List Bound) (i : ℕ) → i < length (stored bounds) → get_or (owners bounds) i 0 < length bounds
owner_in bounds i h = by (nat_lt (get_or (owners bounds) i 0) (length bounds)) refl
  where
    past : (n : ℕ) (bs : List Bound) (m : ℕ) → n + length bs ≤ m → tally (λ x. not (nat_lt x.child m)) (marks_from n bs) ≡ 0
    past n [] m le = refl
    past n (b ∷ bs) m le =
        let front = tally_map (λ (x : Mark). not (nat_lt x.child m)) (λ p. record { point = p; child = n }) (points_in b) ∙ low (not (nat_lt n m)) (points_in b) (ap not (yes n m (omega (arith, le)))) in
        let rest = past (suc n) bs m (omega (arith, le)) in
        tally_append (λ x. not (nat_lt x.child m)) (map (λ p. record { point = p; child = n }) (points_in b)) (marks_from (suc n) bs) ∙ omega (arith, front, rest)
      where
        yes : (a c : ℕ) → a < c → nat_lt a c ≡ true
        yes a c g = grind (arith, nat_tests, g)

        low : {X : Type 0} (t : Bool) (xs : List X) → t ≡ false → tally (λ x. t) xs ≡ 0
        low t [] g = refl
        low t (x ∷ xs) g = let ih = low t xs g in let z = ap one g in omega (arith, ih, z)

    by : (t : Bool) → nat_lt (get_or (owners bounds) i 0) (length bounds) ≡ t → get_or (owners bounds) i 0 < length bounds
    by true e = grind (arith, nat_tests, e)
    by false e =
        let long = length_map (λ m. m.point) (marks bounds) in
        let lt : i < length (marks bounds) = omega (arith, h, long) in
        let child = get_map (λ m. m.child) (marks bounds) i 0 no_mark lt in
        let fails : not (nat_lt (get_or (marks bounds) i no_mark).child (length bounds)) ≡ true = ap not (sym (ap (λ c. nat_lt c (length bounds)) child) ∙ e) in
        let some = tally_none (λ x. not (nat_lt x.child (length bounds))) (marks bounds) i no_mark lt fails in
        let none = tally_sorted (λ x. not (nat_lt x.child (length bounds))) lies_below (marks_from 0 bounds) ∙ past 0 bounds (length bounds) (omega arith) in
        absurd (omega (arith, some, none))

pub owner_within : (bounds : List Bound) (i : ℕ) → i < length (stored bounds) → get_or (owners bounds) i 0 < length bounds
owner_within = owner_in

-- the first point of a run that is not empty is the child's that lists it
some_listed : (bounds : List Bound) (v : Value) (from to : ℕ) → IsListLevel bounds → RunOf bounds Eq v from to → from < to → list_any (lists_passing Eq v) bounds ≡ true
some_listed bounds v from to lists run lt =
    let w = run.within in
    let k = get_or (owners bounds) from 0 in
    let within = owner_in bounds from (omega (arith, w, lt)) in
    list_any_at (lists_passing Eq v) bounds k Default within (sym (is_passing bounds Eq v from to k true refl lists run within) ∙ has (owners bounds) to lt)
  where
    inside : in_run from to from ≡ true
    inside = by (nat_lt from from) (nat_lt from to) (grind (arith, nat_tests)) (grind (arith, nat_tests, lt))
      where
        by : (s t : Bool) → s ≡ false → t ≡ true → (not s && t) ≡ true
        by true t g f = cc
        by false t g f = f

    more : (os : List ℕ) (i : ℕ) → from < i → 0 < owned_by os from to i (get_or os from 0)
    more os zero g = absurd (omega arith)
    more os (suc i) g = by (from == i) refl (λ f. more os i f)
      where
        here : (j : ℕ) → from ≡ j → one ((get_or os j 0 == get_or os from 0) && in_run from to j) ≡ 1
        here j e = let same : (get_or os j 0 == get_or os from 0) ≡ true = rw (← e) (self (get_or os from 0)) in let inn : in_run from to j ≡ true = rw (← e) inside in rw (same, inn) refl
          where
            self : (a : ℕ) → (a == a) ≡ true
            self a = grind (arith, nat_tests)

        by : (t : Bool) → (from == i) ≡ t → (from < i → 0 < owned_by os from to i (get_or os from 0)) → 0 < owned_by os from to (suc i) (get_or os from 0)
        by true e go = let z = here i (grind (arith, nat_tests, e)) in omega (arith, z)
        by false e go = let ih = go (grind (arith, nat_tests, e, g)) in omega (arith, ih)

    has : (os : List ℕ) (i : ℕ) → from < i → nat_lt 0 (owned_by os from to i (get_or os from 0)) ≡ true
    has os i g = let z = more os i g in grind (arith, nat_tests, z)

pub default_is : (bounds : List Bound) (op : CompareOp) (v : Value) (from to : ℕ) → IsListLevel bounds → RunOf bounds op v from to → keeps_default op from to ≡ default_keeps bounds op v
default_is bounds Eq v from to lists run = by (from == to) refl
  where
    by : (t : Bool) → (from == to) ≡ t → (from == to) ≡ not (list_any (lists_passing Eq v) bounds)
    by true e = e ∙ ap not (sym (list_any_none (lists_passing Eq v) bounds (λ k d h. fails k d h)))
      where
        fails : (k : ℕ) (d : Bound) → k < length bounds → lists_passing Eq v (get_or bounds k d) ≡ false
        fails k d h = ap (lists_passing Eq v) (default_same bounds k d h) ∙ some_run bounds v from to k lists run h (grind (arith, nat_tests, e))
          where
            default_same : (bs : List Bound) (i : ℕ) (x : Bound) → i < length bs → get_or bs i x ≡ get_or bs i Default
            default_same [] i x g = absurd (omega arith)
            default_same (b ∷ bs) zero x g = refl
            default_same (b ∷ bs) (suc i) x g = default_same bs i x (omega (arith, g))
    by false e = let o = run.order in e ∙ ap not (sym (some_listed bounds v from to lists run (grind (arith, nat_tests, e, o))))
default_is bounds Ne v from to lists run = refl
default_is bounds Lt v from to lists run = refl
default_is bounds Le v from to lists run = refl
default_is bounds Gt v from to lists run = refl
default_is bounds Ge v from to lists run = refl

-- the marked children and the default together
pub all_listed : (bounds : List Bound) (op : CompareOp) (v : Value) (from to : ℕ) (inside keeps : Bool) (counts : List ℕ) (none middle new : List ℕ) → IsListLevel bounds → RunOf bounds op v from to → length bounds ≤ 1024
    → inside ≡ passes_inside op → keeps ≡ keeps_default op from to → ((k : ℕ) → k < 1024 → count_at counts k ≡ owned_by (owners bounds) from to to k) → AreBits 1024 none (λ k. false)
    → AreBits (length bounds) middle (λ k. bit none k || is_counted inside (count_at counts k) (get_or bounds k Default)) → AreBits (length bounds) new (λ k. bit middle k || (is_default (get_or bounds k Default) && keeps))
    → AreBits (length bounds) new (λ k. list_keeps bounds op v (get_or bounds k Default))
all_listed bounds op v from to inside keeps counts none middle new lists run small is by_default count empty add last k h =
    let big : k < 1024 = omega (arith, h, small) in
    let default : keeps ≡ default_keeps bounds op v = by_default ∙ default_is bounds op v from to lists run in
    let here : bit middle k ≡ lists_passing op v (get_or bounds k Default) = add k h ∙ rw (empty k big, count k big) (is_passing bounds op v from to k inside is lists run h) in
    last k h ∙ rw (here, default) refl

-- ---- counting the points of a run

before_run : (from to i : ℕ) → i < from → in_run from to i ≡ false
before_run from to i h = by (nat_lt i from) (grind (arith, nat_tests, h))
  where
    by : (t : Bool) → t ≡ true → (not t && nat_lt i to) ≡ false
    by true e = refl
    by false e = cc

pub owned_start : (os : List ℕ) (from to i k : ℕ) → i ≤ from → owned_by os from to i k ≡ 0
owned_start os from to zero k h = refl
owned_start os from to (suc i) k h =
    let no = and_no (get_or os i 0 == k) (in_run from to i) (before_run from to i (omega (arith, h))) in
    let ih = owned_start os from to i k (omega (arith, h)) in
    omega (arith, no, ih)

pub owned_next : (os : List ℕ) (from to i k owner old new : ℕ) → owner ≡ get_or os i 0 → from ≤ i → i < to → new ≡ one (k == owner) + old → old ≡ owned_by os from to i k → old ≤ i
    → (new ≡ owned_by os from to (i + 1) k) × (new ≤ i + 1)
owned_next os from to i k owner old new is low high more told few =
    let inside : in_run from to i ≡ true = within (nat_lt i from) (nat_lt i to) (grind (arith, nat_tests, low)) (grind (arith, nat_tests, high)) in
    let same : one (k == owner) ≡ one ((get_or os i 0 == k) && in_run from to i) = rw (inside, ← is) (ap one (turn k owner) ∙ ap one (sym (and_true (owner == k)))) in
    let most = at_most_one (k == owner) in
    (rw add-one (omega (arith, more, same, told)), omega (arith, more, most, few))
  where
    within : (s t : Bool) → s ≡ false → t ≡ true → (not s && t) ≡ true
    within false t e f = f
    within true t e f = cc

    turn : (a b : ℕ) → (a == b) ≡ (b == a)
    turn a b = grind (arith, nat_tests)

    and_true : (t : Bool) → (t && true) ≡ t
    and_true true = refl
    and_true false = refl

    at_most_one : (t : Bool) → one t ≤ 1
    at_most_one true = omega arith
    at_most_one false = omega arith

pub owned_end : (os : List ℕ) (from to i k : ℕ) → to ≤ i → owned_by os from to i k ≡ owned_by os from to to k
owned_end os from to i k h = let m : i ≡ to + (i - to) = omega (arith, h) in ap (λ j. owned_by os from to j k) m ∙ owned_past os from to k (i - to)
