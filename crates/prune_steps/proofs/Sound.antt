-- A condition that a row passes keeps the child that accepts the row.
use Rattle.std.proofs.Common.{◌≡◌, ◌⊎◌, inl, inr, ℕ, zero, suc, ◌+◌, ◌<◌, ◌≤◌, Bool, true, false, not, ◌&&◌, ◌||◌, List, [], ◌∷◌, ◌++◌, map, length, take, drop, get_or, true≢false, refl, sym, ap, subst, ◌∙◌, arith, nat_lt, if◌then◌else◌}
use Rattle.std.specs.Prelude.{slice_index_or, slice_get, Option, Some, None, position, ◌==◌, ◌%◌}
use Rattle.std.proofs.lemmas.Grind.{common_steps}
use Rattle.std.proofs.lemmas.Bool.Decides.{nat_tests}
use Rattle.std.proofs.lemmas.List.Quantifiers.{position-Some}
use Rattle.std.specs.List.{list_any}
use Rattle.std.specs.Ordering.{is_eq, is_ne, is_gt, is_ge, is_le, is_lt, ordering_reverse}
use Rattle.std.specs.declared.cmp.Ordering.{Ordering}
use Rattle.std.specs.declared.cmp.Ordering.TheVariants.{Less, Equal, Greater}
use Rattle.pg_values.specs.declared.value.Kind.TheVariants.{Int4 as KInt4}
use Rattle.pg_values.specs.declared.value.Value.{Value}
use Rattle.pg_values.specs.declared.value.Value.TheVariants.{Null, Int4, Int8, Text, Day, Truth}
use Rattle.pg_values.specs.Order.{order, are_comparable}
use Rattle.pg_values.specs.Hash.{value_hash, next_hash, key_hash, key_hash_from}
use Rattle.pg_values.specs.KeyKinds.{order_total, hash_alike}
use Rattle.bound_forms.specs.declared.level.KeyColumn.{KeyColumn}
use Rattle.pg_values.specs.declared.strategy.Strategy.{Strategy}
use Rattle.pg_values.specs.declared.strategy.Strategy.TheVariants.{Range as ByRange, List as ByList, Hash as ByHash}
use Rattle.bound_forms.specs.declared.partition_bound.Bound.{Bound}
use Rattle.bound_forms.specs.declared.partition_bound.Bound.TheVariants.{Range, List as Listed, Hash, Default}
use Rattle.bound_forms.specs.declared.point.Edge.{Edge}
use Rattle.bound_forms.specs.Accepts.{accepts, accepts_among, has_null, is_default, lies_between}
use Rattle.bound_forms.specs.Bounds.{is_below, greater, lesser}
use Rattle.bound_forms.specs.Levels.{IsOfLevel, IsBoundAt}
use Rattle.bound_forms.specs.Listed.{lists, only, is_same}
use Rattle.part_bounds.specs.Listings.{values_of, lists_null}
use Rattle.bound_forms.specs.Points.{point_order, point_of, is_null}
use Rattle.part_bounds.specs.Stored.{lies_in, in_sibling}
use Rattle.bound_forms.proofs.PointOrder.{point_total}
use Rattle.cond_logic.specs.declared.truth.Truth3.{Truth3}
use Rattle.cond_logic.specs.declared.truth.Truth3.TheVariants.{Yes, No, Unknown}
use Rattle.cond_logic.specs.declared.cond.CompareOp.{CompareOp}
use Rattle.cond_logic.specs.declared.cond.CompareOp.TheVariants.{Eq, Ne, Lt, Le, Gt, Ge}
use Rattle.cond_logic.specs.declared.cond.Operand.{Operand}
use Rattle.cond_logic.specs.declared.cond.Operand.TheVariants.{Column, Lit, Param}
use Rattle.cond_logic.specs.Tuples.{Places, place, put, value_in, value_of}
use Rattle.cond_logic.specs.Trees.{CondTree, CondTrees, no_more, and_more, all_of, any_of, inverted, compares, null_test, known}
use Rattle.cond_logic.specs.Truths as truths
use Rattle.cond_logic.specs.Truths.{truth, least_of, greatest_of, least, greatest, opposite, compared, decided, passes_by}
use Rattle.prune_steps.specs.Atoms.{Asked, key_of, literal, known_null, suits, on_key, or_else, turned, reading, is_one, equal_on, null_on, first_of, given, first_given, added, values_before, Reading, Never, Anything, On}
use Rattle.prune_steps.specs.Chains.{Chain, chain_of, chain_keeps, is_gap}
use Rattle.prune_steps.specs.Kept.{by_chain, range_keeps, lists_passing, default_keeps, list_keeps, on_keeps, reading_keeps, null_keeps, not_null_keeps, inverted_keeps, is_not_no, key_keeps, full_key, part_keeps, parts_keep, choices_keep, whole_keeps}
use Rattle.prune_steps.specs.Laws.{row_key}
use Rattle.prune_steps.proofs.Gaps.{and_yes1, and_yes2, both, gap, or_no1, or_no2, or_yes1, or_yes2}
use Rattle.prune_steps.proofs.Inside.{Agrees, within, Within}
use Rattle.prune_steps.proofs.ListLaws.{get_map, length_map}
use Rattle.prune_steps.proofs.Orders.{le_above, not_le}

-- ---- truths

least_yes : (t u : Truth3) → least t u ≡ Yes → (t ≡ Yes) × (u ≡ Yes)
least_yes Yes u h = (refl, h)
least_yes No u h = cc
least_yes Unknown Yes h = cc
least_yes Unknown No h = cc
least_yes Unknown Unknown h = cc

greatest_yes : (t u : Truth3) → greatest t u ≡ Yes → (t ≡ Yes) ⊎ (u ≡ Yes)
greatest_yes Yes u h = inl refl
greatest_yes No u h = inr h
greatest_yes Unknown Yes h = inr refl
greatest_yes Unknown No h = cc
greatest_yes Unknown Unknown h = cc

decided_yes : (t : Bool) → decided t ≡ Yes → t ≡ true
decided_yes true h = refl
decided_yes false h = cc

not_decided : (t : Bool) → opposite (decided t) ≡ Yes → t ≡ false
not_decided false h = refl
not_decided true h = cc

comparable_left : (v w : Value) → are_comparable v w ≡ true → is_null v ≡ false
comparable_left Null w h = cc
comparable_left (Int4 n) w h = refl
comparable_left (Int8 n) w h = refl
comparable_left (Text s) w h = refl
comparable_left (Day d) w h = refl
comparable_left (Truth t) w h = refl

null_left : (v w : Value) → truths.is_null v ≡ true → are_comparable v w ≡ true → ⊥
null_left Null w n h = cc
null_left (Int4 n) w e h = cc
null_left (Int8 n) w e h = cc
null_left (Text s) w e h = cc
null_left (Day d) w e h = cc
null_left (Truth t) w e h = cc

null_right : (v w : Value) → truths.is_null w ≡ true → are_comparable v w ≡ true → ⊥
null_right Null Null n h = cc
null_right (Int4 n) Null e h = cc
null_right (Int8 n) Null e h = cc
null_right (Text s) Null e h = cc
null_right (Day d) Null e h = cc
null_right (Truth t) Null e h = cc
null_right v (Int4 n) e h = cc
null_right v (Int8 n) e h = cc
null_right v (Text s) e h = cc
null_right v (Day d) e h = cc
null_right v (Truth t) e h = cc

comparable_right : (v w : Value) → are_comparable v w ≡ true → is_null w ≡ false
comparable_right v Null h = absurd (null_right v Null refl h)
comparable_right v (Int4 n) h = refl
comparable_right v (Int8 n) h = refl
comparable_right v (Text s) h = refl
comparable_right v (Day d) h = refl
comparable_right v (Truth t) h = refl

same_null : (v : Value) → truths.is_null v ≡ is_null v
same_null Null = refl
same_null (Int4 n) = refl
same_null (Int8 n) = refl
same_null (Text s) = refl
same_null (Day d) = refl
same_null (Truth t) = refl

null_is : (v : Value) → is_null v ≡ true → v ≡ Null
null_is Null h = refl
null_is (Int4 n) h = cc
null_is (Int8 n) h = cc
null_is (Text s) h = cc
null_is (Day d) h = cc
null_is (Truth t) h = cc

compared_yes : (op : CompareOp) (v w : Value) → compared op v w ≡ Yes → (are_comparable v w ≡ true) × (passes_by op (order v w) ≡ true)
compared_yes op v w h = by (are_comparable v w) refl h
  where
    by : (t : Bool) → are_comparable v w ≡ t → (if t then decided (passes_by op (order v w)) else Unknown) ≡ Yes → (are_comparable v w ≡ true) × (passes_by op (order v w) ≡ true)
    by true e k = (e, decided_yes (passes_by op (order v w)) k)
    by false e k = cc

passes_turned : (op : CompareOp) (o : Ordering) → passes_by op o ≡ passes_by (turned op) (ordering_reverse o)
passes_turned Eq Less = refl
passes_turned Eq Equal = refl
passes_turned Eq Greater = refl
passes_turned Ne Less = refl
passes_turned Ne Equal = refl
passes_turned Ne Greater = refl
passes_turned Lt Less = refl
passes_turned Lt Equal = refl
passes_turned Lt Greater = refl
passes_turned Le Less = refl
passes_turned Le Equal = refl
passes_turned Le Greater = refl
passes_turned Gt Less = refl
passes_turned Gt Equal = refl
passes_turned Gt Greater = refl
passes_turned Ge Less = refl
passes_turned Ge Equal = refl
passes_turned Ge Greater = refl

eq_pass : (o : Ordering) → is_eq o ≡ true → o ≡ Equal
eq_pass Less h = cc
eq_pass Equal h = refl
eq_pass Greater h = cc

-- ---- lists of values

split_at : (key : List Value) (j : ℕ) → j < length key → key ≡ take j key ++ slice_index_or key j Null ∷ drop (suc j) key
split_at [] j h = absurd (omega arith)
split_at (k ∷ key) zero h = refl
split_at (k ∷ key) (suc j) h = ap (λ l. k ∷ l) (split_at key j (omega arith))

take_more : (key : List Value) (j : ℕ) → j < length key → take (suc j) key ≡ take j key ++ slice_index_or key j Null ∷ []
take_more [] j h = absurd (omega arith)
take_more (k ∷ key) zero h = refl
take_more (k ∷ key) (suc j) h = ap (λ l. k ∷ l) (take_more key j (omega arith))

take_size : (key : List Value) (j : ℕ) → j ≤ length key → length (take j key) ≡ j
take_size [] zero h = refl
take_size [] (suc j) h = absurd (omega arith)
take_size (k ∷ key) zero h = refl
take_size (k ∷ key) (suc j) h = let e = take_size key j (omega arith) in omega (arith, e)

take_all : (key : List Value) → take (length key) key ≡ key
take_all [] = refl
take_all (k ∷ key) = ap (λ l. k ∷ l) (take_all key)

none_left : (xs : List Value) (j : ℕ) → length xs ≤ j → drop j xs ≡ []
none_left [] zero h = refl
none_left [] (suc j) h = refl
none_left (x ∷ xs) zero h = absurd (omega arith)
none_left (x ∷ xs) (suc j) h = none_left xs j (omega arith)

drop_size : (xs : List Value) (j : ℕ) → j < length xs → length xs ≡ j + 1 + length (drop (suc j) xs)
drop_size [] j h = absurd (omega arith)
drop_size (x ∷ xs) zero h = omega arith
drop_size (x ∷ xs) (suc j) h = let e = drop_size xs j (omega arith) in omega (arith, e)

pushed_long : (p : List Value) (v : Value) → length (p ++ v ∷ []) ≡ suc (length p)
pushed_long [] v = refl
pushed_long (w ∷ p) v = let ih = pushed_long p v in omega (arith, ih)

null_at : (key : List Value) (j : ℕ) → j < length key → is_null (slice_index_or key j Null) ≡ true → list_any is_null key ≡ true
null_at [] j h e = absurd (omega arith)
null_at (k ∷ key) zero h e = rw e refl
null_at (k ∷ key) (suc j) h e = or_yes2 (is_null k) (list_any is_null key) (null_at key j (omega arith) e)

-- equal values, one by one
abbrev Same : List Value → List Value → Type 0
Same [] key = key ≡ []
Same (v ∷ p) [] = ⊥
Same (v ∷ p) (k ∷ key) = (order k v ≡ Equal) × Same p key

same_push : (p key : List Value) (v k : Value) → Same p key → order k v ≡ Equal → Same (p ++ v ∷ []) (key ++ k ∷ [])
same_push [] key v k h e = rw h (e, refl)
same_push (w ∷ p) [] v k h e = absurd h
same_push (w ∷ p) (x ∷ key) v k h e = (h.0, same_push p key v k h.1 e)

-- a value that equals null is null
next_same : (hash : ℕ) (k v : Value) → order k v ≡ Equal → next_hash hash v ≡ next_hash hash k
next_same hash Null Null e = refl
next_same hash (Int4 m) (Int4 n) e = rw (hash_alike (Int4 m) (Int4 n) e) refl
next_same hash (Int4 m) (Int8 n) e = rw (hash_alike (Int4 m) (Int8 n) e) refl
next_same hash (Int8 m) (Int4 n) e = rw (hash_alike (Int8 m) (Int4 n) e) refl
next_same hash (Int8 m) (Int8 n) e = rw (hash_alike (Int8 m) (Int8 n) e) refl
next_same hash (Text m) (Text n) e = rw (hash_alike (Text m) (Text n) e) refl
next_same hash (Day m) (Day n) e = rw (hash_alike (Day m) (Day n) e) refl
next_same hash (Truth m) (Truth n) e = rw (hash_alike (Truth m) (Truth n) e) refl
next_same hash Null (Int4 n) e = cc
next_same hash Null (Int8 n) e = cc
next_same hash Null (Text n) e = cc
next_same hash Null (Day n) e = cc
next_same hash Null (Truth n) e = cc
next_same hash (Int4 m) Null e = cc
next_same hash (Int4 m) (Text n) e = cc
next_same hash (Int4 m) (Day n) e = cc
next_same hash (Int4 m) (Truth n) e = cc
next_same hash (Int8 m) Null e = cc
next_same hash (Int8 m) (Text n) e = cc
next_same hash (Int8 m) (Day n) e = cc
next_same hash (Int8 m) (Truth n) e = cc
next_same hash (Text m) Null e = cc
next_same hash (Text m) (Int4 n) e = cc
next_same hash (Text m) (Int8 n) e = cc
next_same hash (Text m) (Day n) e = cc
next_same hash (Text m) (Truth n) e = cc
next_same hash (Day m) Null e = cc
next_same hash (Day m) (Int4 n) e = cc
next_same hash (Day m) (Int8 n) e = cc
next_same hash (Day m) (Text n) e = cc
next_same hash (Day m) (Truth n) e = cc
next_same hash (Truth m) Null e = cc
next_same hash (Truth m) (Int4 n) e = cc
next_same hash (Truth m) (Int8 n) e = cc
next_same hash (Truth m) (Text n) e = cc
next_same hash (Truth m) (Day n) e = cc

hash_same : (p key : List Value) (acc : ℕ) → Same p key → key_hash_from acc p ≡ key_hash_from acc key
hash_same [] key acc h = rw h refl
hash_same (v ∷ p) [] acc h = absurd h
hash_same (v ∷ p) (k ∷ key) acc h = ap (λ a. key_hash_from a p) (next_same acc k v h.0) ∙ hash_same p key (next_hash acc k) h.1

-- ---- listed values

-- what a child lists that accepts k passes where k does
passing_listed : (op : CompareOp) (values : List Value) (k v : Value) → is_null k ≡ false → passes_by op (order k v) ≡ true → list_any (λ w. is_same w k) values ≡ true → list_any (λ w. not (is_null w) && passes_by op (order w v)) values ≡ true
passing_listed op [] k v n h l = cc
passing_listed op (w ∷ values) k v n h l = by (is_same w k) refl l (passing_listed op values k v n h)
  where
    there : order w k ≡ Equal → is_null w ≡ false
    there e = not_null w k n e
      where
        not_null : (x y : Value) → is_null y ≡ false → order x y ≡ Equal → is_null x ≡ false
        not_null Null Null g f = cc
        not_null Null (Int4 m) g f = cc
        not_null Null (Int8 m) g f = cc
        not_null Null (Text m) g f = cc
        not_null Null (Day m) g f = cc
        not_null Null (Truth m) g f = cc
        not_null (Int4 m) y g f = refl
        not_null (Int8 m) y g f = refl
        not_null (Text m) y g f = refl
        not_null (Day m) y g f = refl
        not_null (Truth m) y g f = refl

    by : (t : Bool) → is_same w k ≡ t → t || list_any (λ x. is_same x k) values ≡ true → (list_any (λ x. is_same x k) values ≡ true → list_any (λ x. not (is_null x) && passes_by op (order x v)) values ≡ true)
        → (not (is_null w) && passes_by op (order w v)) || list_any (λ x. not (is_null x) && passes_by op (order x v)) values ≡ true
    by true e l' go =
        let eq = eq_pass (order w k) e in
        or_yes1 (not (is_null w) && passes_by op (order w v)) _ (both (not (is_null w)) (passes_by op (order w v)) (ap not (there eq)) (ap (passes_by op) (order_total.congr w k v eq) ∙ h))
    by false e l' go = or_yes2 (not (is_null w) && passes_by op (order w v)) _ (go l')

-- a list with a value that equals v lists what equals v
equal_listed : (values : List Value) (k v : Value) → order k v ≡ Equal → list_any (λ w. not (is_null w) && passes_by Eq (order w v)) values ≡ true → list_any (λ w. is_same w k) values ≡ true
equal_listed [] k v e h = cc
equal_listed (w ∷ values) k v e h = by (is_null w) (is_eq (order w v)) refl h (equal_listed values k v e)
  where
    by : (s t : Bool) → is_eq (order w v) ≡ t → (not s && t) || list_any (λ x. not (is_null x) && passes_by Eq (order x v)) values ≡ true → (list_any (λ x. not (is_null x) && passes_by Eq (order x v)) values ≡ true → list_any (λ x. is_same x k) values ≡ true)
        → is_same w k || list_any (λ x. is_same x k) values ≡ true
    by false true f h' go =
        let same : order w k ≡ Equal = order_total.congr w v k (eq_pass (order w v) f) ∙ order_total.antisymm v k ∙ ap ordering_reverse e in
        or_yes1 (is_same w k) _ (ap is_eq same)
    by false false f h' go = or_yes2 (is_same w k) _ (go h')
    by true t f h' go = or_yes2 (is_same w k) _ (go h')

null_same : (values : List Value) (k : Value) → is_null k ≡ true → list_any (λ w. is_same w k) values ≡ list_any is_null values
null_same values k n = rw (null_is k n) (by values)
  where
    one : (w : Value) → is_same w Null ≡ is_null w
    one Null = refl
    one (Int4 m) = refl
    one (Int8 m) = refl
    one (Text m) = refl
    one (Day m) = refl
    one (Truth m) = refl

    by : (ws : List Value) → list_any (λ w. is_same w Null) ws ≡ list_any is_null ws
    by [] = refl
    by (w ∷ ws) = rw (one w, by ws) refl

some_value : (values : List Value) (k : Value) → is_null k ≡ false → list_any (λ w. is_same w k) values ≡ true → list_any (λ w. not (is_null w) && true) values ≡ true
some_value [] k n l = cc
some_value (w ∷ values) k n l = by (is_null w) refl (is_same w k) refl l (some_value values k n)
  where
    contrary : is_null w ≡ true → is_same w k ≡ true → ⊥
    contrary e f = true≢false (sym (ap is_null (sym (null_is w e)) ∙ e) ∙ never k n (rw (null_is w e) at f))
      where
        never : (y : Value) → is_null y ≡ false → is_same Null y ≡ true → true ≡ false
        never Null g h = cc
        never (Int4 m) g h = cc
        never (Int8 m) g h = cc
        never (Text m) g h = cc
        never (Day m) g h = cc
        never (Truth m) g h = cc

    by : (s : Bool) → is_null w ≡ s → (t : Bool) → is_same w k ≡ t → t || list_any (λ x. is_same x k) values ≡ true → (list_any (λ x. is_same x k) values ≡ true → list_any (λ x. not (is_null x) && true) values ≡ true) → (not s && true) || list_any (λ x. not (is_null x) && true) values ≡ true
    by false e t f l' go = refl
    by true e false f l' go = go l'
    by true e true f l' go = absurd (contrary e f)

-- where no bound accepts, no bound has what would
none_of : {X : Type 0} (p q : X → Bool) → ((x : X) → q x ≡ true → p x ≡ true) → (xs : List X) → list_any p xs ≡ false → list_any q xs ≡ false
none_of p q i [] h = refl
none_of p q i (x ∷ xs) h = by (q x) refl (none_of p q i xs (or_no2 (p x) (list_any p xs) h))
  where
    by : (t : Bool) → q x ≡ t → list_any q xs ≡ false → t || list_any q xs ≡ false
    by true e rest = absurd (true≢false (sym (i x e) ∙ or_no1 (p x) (list_any p xs) h))
    by false e rest = rest

not_yes : (t : Bool) → not t ≡ true → t ≡ false
not_yes true h = cc
not_yes false h = refl

-- points are between
between : (lower upper p from to : List Edge) → is_le (point_order lower p) ≡ true → is_gt (point_order upper p) ≡ true → is_le (point_order from p) ≡ true → is_gt (point_order to p) ≡ true → is_below (greater from lower) (lesser to upper) ≡ true
between lower upper p from to l u f t = by (is_below from lower) (is_below to upper)
  where
    by : (s r : Bool) → is_below (if s then lower else from) (if r then to else upper) ≡ true
    by true true = le_above point_total lower to p l t
    by true false = le_above point_total lower upper p l u
    by false true = le_above point_total from to p f t
    by false false = le_above point_total from upper p f u

put_own : (p : Places) (n i : ℕ) (row : List Value) → (n == i) ≡ true → i < 4 → place (put p i row) n ≡ Some row
put_own p n i row e h = grind (arith, common_steps, e, h)

no_column : KeyColumn
no_column = record { position = 0; kind = KInt4 }

module _ (a : Asked) (bounds : List Bound) (rows : Places) (args : List Value) (row : List Value) (b : Bound) (few : a.item < 4) (of : IsOfLevel a.level b) (acc : accepts_among bounds (row_key a row) b ≡ true) where
  abbrev full : Places
  full = put rows a.item row

  abbrev key : List Value
  key = row_key a row

  key_long : length key ≡ length a.level.columns
  key_long = length_map (λ i. slice_index_or row i Null) (map (λ c. c.position) a.level.columns) ∙ length_map (λ c. c.position) a.level.columns

  key_is : (x : Operand) (j : ℕ) → key_of a x ≡ Some j → (j < length key) × (value_of (put rows a.item row) args x ≡ slice_index_or key j Null)
  key_is (Lit w) j e = cc
  key_is (Param i) j e = cc
  key_is (Column c) j e = by (c.item == a.item) refl e
    where
      by : (t : Bool) → (c.item == a.item) ≡ t → (if t then position (λ k. k.position == c.position) a.level.columns else None) ≡ Some j → (j < length key) × (value_of (put rows a.item row) args (Column c) ≡ slice_index_or key j Null)
      by false h e' = cc
      by true h e' =
          let r = position-Some (λ k. k.position == c.position) a.level.columns j no_column e' in
          let lt = r.0 in
          let at : (get_or a.level.columns j no_column).position ≡ c.position = grind (arith, nat_tests, r.1) in
          let long = length_map (λ k. k.position) a.level.columns in
          let here : slice_index_or key j Null ≡ slice_index_or row c.position Null =
          get_map (λ i. slice_index_or row i Null) (map (λ k. k.position) a.level.columns) j Null 0 (omega (arith, lt, long))
          ∙ ap (λ i. slice_index_or row i Null) (get_map (λ k. k.position) a.level.columns j 0 no_column lt ∙ at) in
          (omega (arith, lt, key_long), ap (λ q. value_in q c.position) (put_own rows c.item a.item row h few) ∙ sym here)

  literal_is : (x : Operand) (v : Value) → literal x ≡ Some v → value_of (put rows a.item row) args x ≡ v
  literal_is (Column c) v e = cc
  literal_is (Lit w) v e = cc
  literal_is (Param i) v e = cc

  literal_null : (x : Operand) → known_null (literal x) ≡ true → truths.is_null (value_of (put rows a.item row) args x) ≡ true
  literal_null (Column c) e = cc
  literal_null (Lit w) e = e
  literal_null (Param i) e = cc

  -- ---- comparisons

  -- what a true comparison says of the key
  abbrev ReadTrue : Reading → Type 0
  ReadTrue Never = ⊥
  ReadTrue Anything = Unit {0}
  ReadTrue (On j op v) = (j < length key) × (is_null (slice_index_or key j Null) ≡ false) × (passes_by op (order (slice_index_or key j Null) v) ≡ true)

  on_true : (op : CompareOp) (x y : Operand) → are_comparable (value_of (put rows a.item row) args x) (value_of (put rows a.item row) args y) ≡ true → passes_by op (order (value_of (put rows a.item row) args x) (value_of (put rows a.item row) args y)) ≡ true
      → ReadTrue (on_key a.level.columns op (key_of a x) (literal y))
  on_true op x y c h = by (key_of a x) refl (literal y) refl
    where
      by : (r : Option ℕ) → key_of a x ≡ r → (s : Option Value) → literal y ≡ s → ReadTrue (on_key a.level.columns op r s)
      by None er s es = tt
      by (Some j) er None es = tt
      by (Some j) er (Some v) es = fits (suits (slice_get a.level.columns j) v)
        where
          fits : (t : Bool) → ReadTrue (if t then On j op v else Anything)
          fits false = tt
          fits true =
              let k = key_is x j er in
              (k.0, ap is_null (sym k.1) ∙ comparable_left _ _ c, rw (k.1, literal_is y v es) at h)

  comparable_turned : (v w : Value) → are_comparable v w ≡ true → are_comparable w v ≡ true
  comparable_turned (Int4 m) (Int4 n) h = refl
  comparable_turned (Int4 m) (Int8 n) h = refl
  comparable_turned (Int8 m) (Int4 n) h = refl
  comparable_turned (Int8 m) (Int8 n) h = refl
  comparable_turned (Text m) (Text n) h = refl
  comparable_turned (Day m) (Day n) h = refl
  comparable_turned (Truth m) (Truth n) h = refl
  comparable_turned Null w h = cc
  comparable_turned v Null h = absurd (null_right v Null refl h)
  comparable_turned (Int4 m) (Text n) h = cc
  comparable_turned (Int4 m) (Day n) h = cc
  comparable_turned (Int4 m) (Truth n) h = cc
  comparable_turned (Int8 m) (Text n) h = cc
  comparable_turned (Int8 m) (Day n) h = cc
  comparable_turned (Int8 m) (Truth n) h = cc
  comparable_turned (Text m) (Int4 n) h = cc
  comparable_turned (Text m) (Int8 n) h = cc
  comparable_turned (Text m) (Day n) h = cc
  comparable_turned (Text m) (Truth n) h = cc
  comparable_turned (Day m) (Int4 n) h = cc
  comparable_turned (Day m) (Int8 n) h = cc
  comparable_turned (Day m) (Text n) h = cc
  comparable_turned (Day m) (Truth n) h = cc
  comparable_turned (Truth m) (Int4 n) h = cc
  comparable_turned (Truth m) (Int8 n) h = cc
  comparable_turned (Truth m) (Text n) h = cc
  comparable_turned (Truth m) (Day n) h = cc

  else_true : (r s : Reading) → ReadTrue r → ReadTrue s → ReadTrue (or_else r s)
  else_true Never s h k = absurd h
  else_true Anything s h k = k
  else_true (On j op v) s h k = h

  read_true : (op : CompareOp) (x y : Operand) → compared op (value_of (put rows a.item row) args x) (value_of (put rows a.item row) args y) ≡ Yes → ReadTrue (reading a op x y)
  read_true op x y passed = by (known_null (literal x)) refl (known_null (literal y)) refl
    where
      v : Value
      v = value_of (put rows a.item row) args x

      w : Value
      w = value_of (put rows a.item row) args y

      parts : (are_comparable v w ≡ true) × (passes_by op (order v w) ≡ true)
      parts = compared_yes op v w passed

      back : passes_by (turned op) (order w v) ≡ true
      back = ap (passes_by (turned op)) (order_total.antisymm w v) ∙ sym (passes_turned op (order v w)) ∙ parts.1

      by : (s : Bool) → known_null (literal x) ≡ s → (t : Bool) → known_null (literal y) ≡ t → ReadTrue (if s || t then Never else or_else (on_key a.level.columns op (key_of a x) (literal y)) (on_key a.level.columns (turned op) (key_of a y) (literal x)))
      by true e t f = absurd (null_left v w (literal_null x e) parts.0)
      by false e true f = absurd (null_right v w (literal_null y f) parts.0)
      by false e false f = else_true _ _ (on_true op x y parts.0 parts.1) (on_true (turned op) y x (comparable_turned v w parts.0) back)

  -- ---- what a flattened AND gives

  -- the key column equals the value; beside equalities alone neither is null
  record Gives (nulls : Bool) (j : ℕ) (v : Value) : Type 0 where
    pub below : j < length key
    pub equal : order (slice_index_or key j Null) v ≡ Equal
    pub there : nulls ≡ false → is_null (slice_index_or key j Null) ≡ false

  abbrev Given : Bool → (ℕ → Option Value) → Type 0
  Given nulls first = (j : ℕ) (v : Value) → first j ≡ Some v → Gives nulls j v

  equal_gives : (nulls : Bool) (r : Reading) → ReadTrue r → Given nulls (equal_on r)
  equal_gives nulls Never h j v e = absurd h
  equal_gives nulls Anything h j v e = cc
  equal_gives nulls (On i Ne w) h j v e = cc
  equal_gives nulls (On i Lt w) h j v e = cc
  equal_gives nulls (On i Le w) h j v e = cc
  equal_gives nulls (On i Gt w) h j v e = cc
  equal_gives nulls (On i Ge w) h j v e = cc
  equal_gives nulls (On i Eq w) h j v e = by (i == j) refl e
    where
      by : (t : Bool) → (i == j) ≡ t → (if t then Some w else None) ≡ Some v → Gives nulls j v
      by false g k = cc
      by true g k =
          let at : i ≡ j = grind (arith, nat_tests, g) in
          let is : w ≡ v = cc in
          let q = rw (at, is) at h in
          record { below = q.0; equal = eq_pass (order (slice_index_or key j Null) v) q.2; there = λ n. q.1 }

  null_gives : (x : Operand) → truths.is_null (value_of (put rows a.item row) args x) ≡ true → Given true (null_on (key_of a x))
  null_gives x n j v e = by (key_of a x) refl e
    where
      by : (r : Option ℕ) → key_of a x ≡ r → null_on r j ≡ Some v → Gives true j v
      by None er k = cc
      by (Some i) er k = at (i == j) refl k
        where
          at : (t : Bool) → (i == j) ≡ t → (if t then Some Null else None) ≡ Some v → Gives true j v
          at false g k' = cc
          at true g k' =
              let same : i ≡ j = grind (arith, nat_tests, g) in
              let is : v ≡ Null = cc in
              let q = key_is x i er in
              let null : slice_index_or key j Null ≡ Null = null_is (slice_index_or key j Null) (ap (λ i'. is_null (slice_index_or key i' Null)) (sym same) ∙ ap is_null (sym q.1) ∙ sym (same_null (value_of (put rows a.item row) args x)) ∙ n) in
              let lt = q.0 in
              record { below = omega (arith, lt, same); equal = rw (null, is) refl; there = λ z. cc }

  first_gives : (nulls : Bool) (r s : ℕ → Option Value) → Given nulls r → Given nulls s → Given nulls (λ j. first_of (r j) (s j))
  first_gives nulls r s h k j v e = by (r j) refl e
    where
      by : (o : Option Value) → r j ≡ o → first_of o (s j) ≡ Some v → Gives nulls j v
      by (Some w) f g = h j v (f ∙ g)
      by None f g = k j v g

  one_yes : (t : Truth3) → greatest t No ≡ Yes → least t Yes ≡ Yes
  one_yes Yes h = refl
  one_yes No h = cc
  one_yes Unknown h = cc

  mutual
    given_true : (nulls : Bool) (t : CondTree) → truth (put rows a.item row) args t ≡ Yes → Given nulls (given a nulls t)
    given_true nulls (all_of ts) h = firsts_true nulls ts h
    given_true nulls (any_of no_more) h = cc
    given_true nulls (any_of (and_more t no_more)) h = λ j v e. firsts_true nulls (and_more t no_more) (one_yes (truth (put rows a.item row) args t) h) j v e
    given_true nulls (any_of (and_more t (and_more u ts))) h = λ j v e. cc
    given_true nulls (inverted t) h = λ j v e. cc
    given_true nulls (compares op x y) h = equal_gives nulls (reading a op x y) (read_true op x y h)
    given_true false (null_test x) h = λ j v e. cc
    given_true true (null_test x) h = null_gives x (decided_yes _ h)
    given_true nulls (known t) h = λ j v e. cc

    firsts_true : (nulls : Bool) (ts : CondTrees) → least_of (put rows a.item row) args ts ≡ Yes → Given nulls (first_given a nulls ts)
    firsts_true nulls no_more h = λ j v e. cc
    firsts_true nulls (and_more t ts) h =
        let q = least_yes (truth (put rows a.item row) args t) (least_of (put rows a.item row) args ts) h in
        first_gives nulls (given a nulls t) (first_given a nulls ts) (given_true nulls t q.0) (firsts_true nulls ts q.1)

  -- ---- by hash

  all_same : (first : ℕ → Option Value) → Given true first → (j : ℕ) (p : List Value) → j ≤ length key → values_before first j ≡ Some p → Same p (take j key)
  all_same first f zero p le e = let is : p ≡ [] = cc in rw is refl
  all_same first f (suc j) p le e = by (values_before first j) refl (first j) refl e (λ q k. all_same first f j q (omega (arith, le)) k)
    where
      by : (r : Option (List Value)) → values_before first j ≡ r → (s : Option Value) → first j ≡ s → added r s ≡ Some p → ((q : List Value) → values_before first j ≡ Some q → Same q (take j key)) → Same p (take (suc j) key)
      by None er s es k go = cc
      by (Some q) er None es k go = cc
      by (Some q) er (Some v) es k go =
          let g = f j v es in
          let is : p ≡ q ++ v ∷ [] = cc in
          rw (is, take_more key j g.below) (same_push q (take j key) v (slice_index_or key j Null) (go q er) g.equal)

  key_true : (t : CondTree) → truth (put rows a.item row) args t ≡ Yes → key_keeps a.level.strategy (full_key a t) b ≡ true
  key_true t h = by a.level.strategy refl (full_key a t) refl
    where
      hashed : (p : List Value) → Same p key → (d : Bound) → IsBoundAt ByHash a.level.columns d → accepts_among bounds key d ≡ true → accepts p d ≡ true
      hashed p s (Hash m r) o c = ap (λ n. n % m == r) (hash_same p key 0 s) ∙ hash_only m r c
        where
          hash_only : (m r : ℕ) → accepts_among bounds key (Hash m r) ≡ true → accepts key (Hash m r) ≡ true
          hash_only m r c' = by' (accepts key (Hash m r)) c'
            where
              by' : (t' : Bool) → t' || (false && not (list_any (accepts key) bounds)) ≡ true → t' ≡ true
              by' true z = refl
              by' false z = cc
      hashed p s Default o c = absurd o
      hashed p s (Range l u) o c = absurd o
      hashed p s (Listed vs) o c = absurd o

      by : (s : Strategy) → a.level.strategy ≡ s → (k : Option (List Value)) → full_key a t ≡ k → key_keeps s k b ≡ true
      by ByRange es k ek = refl
      by ByList es k ek = refl
      by ByHash es None ek = refl
      by ByHash es (Some p) ek =
          let same : Same p (take (length a.level.columns) key) = all_same (given a true t) (given_true true t h) (length a.level.columns) p (omega (arith, key_long)) ek in
          let whole : take (length a.level.columns) key ≡ key = ap (λ n. take n key) (sym key_long) ∙ take_all key in
          hashed p (subst (Same p) whole same) b (rw es at of) acc

  -- ---- by range

  push_agrees : (p front : List Value) (k v : Value) → Agrees p front → length front ≡ length p → order v k ≡ Equal → is_null k ≡ false → Agrees (p ++ v ∷ []) (front ++ k ∷ [])
  push_agrees [] [] k v h l e n = (e, n, tt)
  push_agrees [] (x ∷ front) k v h l e n = absurd (omega arith)
  push_agrees (x ∷ p) [] k v h l e n = absurd h
  push_agrees (x ∷ p) (y ∷ front) k v h l e n = (h.0, h.1, push_agrees p front k v h.2 (omega arith) e n)

  record IsPrefix (j : ℕ) (p : List Value) : Type 0 where
    pub agrees : Agrees p (take j key)
    pub size : length p ≡ j

  prefix_is : (first : ℕ → Option Value) → Given false first → (j : ℕ) (p : List Value) → j ≤ length key → values_before first j ≡ Some p → IsPrefix j p
  prefix_is first f zero p h e = let is : p ≡ [] = cc in rw is (record { agrees = tt; size = refl })
  prefix_is first f (suc j) p h e = by (values_before first j) refl (first j) refl e (λ q k. prefix_is first f j q (omega (arith, h)) k)
    where
      by : (r : Option (List Value)) → values_before first j ≡ r → (s : Option Value) → first j ≡ s → added r s ≡ Some p → ((q : List Value) → values_before first j ≡ Some q → IsPrefix j q) → IsPrefix (suc j) p
      by None hr s hs k go = cc
      by (Some q) hr None hs k go = cc
      by (Some q) hr (Some v) hs k go =
          let i = go q hr in
          let g = f j v hs in
          let turned' : order v (slice_index_or key j Null) ≡ Equal = order_total.antisymm v (slice_index_or key j Null) ∙ ap ordering_reverse g.equal in
          let is : p ≡ q ++ v ∷ [] = cc in
          let size : length (take j key) ≡ j = take_size key j (omega (arith, h)) in
          let il = i.size in
          rw is (record { agrees = rw (take_more key j g.below) (push_agrees q (take j key) (slice_index_or key j Null) v i.agrees (omega (arith, il, size)) turned' (g.there refl)); size = omega (arith, il, pushed_long q v) })

  no_null : (p front : List Value) (k : Value) → Agrees p front → length front ≡ length p → is_null k ≡ false → list_any is_null (front ++ k ∷ []) ≡ false
  no_null [] [] k h l n = rw n refl
  no_null [] (x ∷ front) k h l n = absurd (omega arith)
  no_null (x ∷ p) [] k h l n = absurd h
  no_null (x ∷ p) (y ∷ front) k h l n = rw h.1 (no_null p front k h.2 (omega arith) n)

  range_only : (l u : List Edge) → accepts_among bounds key (Range l u) ≡ true → accepts key (Range l u) ≡ true
  range_only l u c = by (accepts key (Range l u)) c
    where
      by : (t : Bool) → t || (false && not (list_any (accepts key) bounds)) ≡ true → t ≡ true
      by true z = refl
      by false z = cc

  list_only : (vs : List Value) → accepts_among bounds key (Listed vs) ≡ true → accepts key (Listed vs) ≡ true
  list_only vs c = by (accepts key (Listed vs)) c
    where
      by : (t : Bool) → t || (false && not (list_any (accepts key) bounds)) ≡ true → t ≡ true
      by true z = refl
      by false z = cc

  default_only : accepts_among bounds key Default ≡ true → list_any (accepts key) bounds ≡ false
  default_only c = not_yes (list_any (accepts key) bounds) c

  -- a chain that has the key's point keeps the child that accepts the key
  chain_sound : (c : Chain) (short : Bool) → is_le (point_order c.from (point_of key)) ≡ true → is_gt (point_order c.to (point_of key)) ≡ true → (short ≡ false → has_null key ≡ false) → (d : Bound) → IsBoundAt ByRange a.level.columns d → accepts_among bounds key d ≡ true → chain_keeps bounds short c d ≡ true
  chain_sound c short from to whole (Range lower upper) o acc' =
      let i = and_yes2 (not (has_null key)) (lies_between lower upper (point_of key)) (range_only lower upper acc') in
      between lower upper (point_of key) c.from c.to (and_yes1 _ _ i) (and_yes2 (is_le (point_order lower (point_of key))) _ i) from to
  chain_sound c short from to whole (Listed vs) o acc' = absurd o
  chain_sound c short from to whole (Hash m r) o acc' = absurd o
  chain_sound c short from to whole Default o acc' = by short refl
    where
      lies : (t : Bool) → in_sibling bounds c.from ≡ t → has_null key ≡ false → not t || list_any (is_gap bounds c) bounds ≡ true
      lies false e n = refl
      lies true e n = gap bounds c (point_of key) from to (none_of (accepts key) (lies_in (point_of key)) inside bounds (default_only acc')) e
        where
          inside : (x : Bound) → lies_in (point_of key) x ≡ true → accepts key x ≡ true
          inside (Range l u) h = both (not (has_null key)) (lies_between l u (point_of key)) (ap not n) h
          inside Default h = cc
          inside (Listed vs) h = cc
          inside (Hash m r) h = cc

      by : (t : Bool) → short ≡ t → t || not (in_sibling bounds c.from) || list_any (is_gap bounds c) bounds ≡ true
      by true e = refl
      by false e = lies (in_sibling bounds c.from) refl (whole e)

  range_sound : (first : ℕ → Option Value) → Given false first → IsBoundAt ByRange a.level.columns b → (j : ℕ) (op : CompareOp) (v : Value) → ReadTrue (On j op v) → range_keeps bounds (length a.level.columns) (values_before first j) j op v b ≡ true
  range_sound first f o j op v h = by (values_before first j) refl
    where
      n : ℕ
      n = length a.level.columns

      k : Value
      k = slice_index_or key j Null

      later : List Value
      later = drop (suc j) key

      whole : key ≡ take j key ++ slice_index_or key j Null ∷ drop (suc j) key
      whole = split_at key j h.0

      lt : j < length key
      lt = h.0

      by : (r : Option (List Value)) → values_before first j ≡ r → range_keeps bounds (length a.level.columns) r j op v b ≡ true
      by None e = refl
      by (Some p) e = go (chain_of (length a.level.columns + 1) op p v) (within p (take j key) (drop (suc j) key) (slice_index_or key j Null) (length a.level.columns) l i.agrees c op v (order (slice_index_or key j Null) v) refl h.2)
        where
          i : IsPrefix j p
          i = prefix_is first f j p (omega (arith, lt)) e

          l : length (take j key) ≡ length p
          l = let s = take_size key j (omega (arith, lt)) in let z = i.size in omega (arith, s, z)

          c : length a.level.columns ≡ length p + 1 + length (drop (suc j) key)
          c = let z = i.size in omega (arith, z, key_long, drop_size key j lt)

          go : (r : Option Chain) → Within p (take j key) (drop (suc j) key) (slice_index_or key j Null) (length a.level.columns) l i.agrees c r → by_chain bounds (nat_lt (j + 1) (length a.level.columns)) r b ≡ true
          go None w = refl
          go (Some ch) w = chain_sound ch (nat_lt (j + 1) (length a.level.columns)) (at_key (λ q. is_le (point_order ch.from (point_of q)) ≡ true) w.0) (at_key (λ q. is_gt (point_order ch.to (point_of q)) ≡ true) w.1) short b o acc
            where
              at_key : (P : List Value → Type 0) → P (take j key ++ slice_index_or key j Null ∷ drop (suc j) key) → P key
              at_key P z = subst P (sym whole) z

              short : nat_lt (j + 1) (length a.level.columns) ≡ false → has_null key ≡ false
              short s =
                  let m : length a.level.columns ≤ j + 1 = grind (arith, nat_tests, s) in
                  let none : drop (suc j) key ≡ [] = none_left key (suc j) (omega (arith, m, key_long)) in
                  at_key (λ q. list_any is_null q ≡ false) (rw none (no_null p (take j key) (slice_index_or key j Null) i.agrees l h.1))

  -- ---- by list

  one_key : a.level.strategy ≡ ByList → (j : ℕ) → j < length key → slice_index_or key j Null ≡ only key
  one_key is zero lt = refl
  one_key is (suc j) lt = let one = a.level.one_if_list is in absurd (omega (arith, one, key_long, lt))

  list_sound : a.level.strategy ≡ ByList → (j : ℕ) (op : CompareOp) (v : Value) → ReadTrue (On j op v) → (d : Bound) → IsBoundAt ByList a.level.columns d → accepts_among bounds key d ≡ true → list_keeps bounds op v d ≡ true
  list_sound is j op v h (Listed vs) o c =
      let at = one_key is j h.0 in
      or_yes1 (lists_passing op v (Listed vs)) _ (passing_listed op vs (only key) v (ap is_null (sym at) ∙ h.1) (ap (λ k. passes_by op (order k v)) (sym at) ∙ h.2) (list_only vs c))
  list_sound is j op v h (Range l u) o c = absurd o
  list_sound is j op v h (Hash m r) o c = absurd o
  list_sound is j op v h Default o c = by op refl
    where
      by : (p : CompareOp) → op ≡ p → list_keeps bounds p v Default ≡ true
      by Ne e = refl
      by Lt e = refl
      by Le e = refl
      by Gt e = refl
      by Ge e = refl
      by Eq e = ap not (none_of (accepts key) (lists_passing Eq v) inside bounds (default_only c))
        where
          at : slice_index_or key j Null ≡ only key
          at = one_key is j h.0

          equal : order (only key) v ≡ Equal
          equal = eq_pass (order (only key) v) (ap (λ k. passes_by Eq (order k v)) (sym at) ∙ ap (λ p. passes_by p (order (slice_index_or key j Null) v)) (sym e) ∙ h.2)

          inside : (x : Bound) → lists_passing Eq v x ≡ true → accepts key x ≡ true
          inside (Listed vs) g = equal_listed vs (only key) v equal g
          inside (Range l u) g = cc
          inside (Hash m r) g = cc
          inside Default g = cc

  -- ---- atoms

  reading_sound : (first : ℕ → Option Value) → Given false first → (r : Reading) → ReadTrue r → reading_keeps a bounds first r b ≡ true
  reading_sound first f Never h = absurd h
  reading_sound first f Anything h = refl
  reading_sound first f (On j op v) h = by a.level.strategy refl
    where
      by : (s : Strategy) → a.level.strategy ≡ s → on_keeps a bounds first s j op v b ≡ true
      by ByRange e = range_sound first f (rw e at of) j op v h
      by ByList e = list_sound e j op v h b (rw e at of) acc
      by ByHash e = refl

  null_sound : (x : Operand) → truths.is_null (value_of (put rows a.item row) args x) ≡ true → null_keeps a.level.strategy bounds (key_of a x) b ≡ true
  null_sound x n = by (key_of a x) refl a.level.strategy refl
    where
      at_null : (j : ℕ) → key_of a x ≡ Some j → is_null (slice_index_or key j Null) ≡ true
      at_null j e = ap is_null (sym (key_is x j e).1) ∙ sym (same_null (value_of (put rows a.item row) args x)) ∙ n

      ranged : (j : ℕ) → key_of a x ≡ Some j → (d : Bound) → IsBoundAt ByRange a.level.columns d → accepts_among bounds key d ≡ true → is_default d ≡ true
      ranged j e Default o c = refl
      ranged j e (Range l u) o c =
          let some : has_null key ≡ true = null_at key j (key_is x j e).0 (at_null j e) in
          let no : not (has_null key) ≡ true = and_yes1 (not (has_null key)) (lies_between l u (point_of key)) (range_only l u c) in
          absurd (true≢false (sym no ∙ ap not some))
      ranged j e (Listed vs) o c = absurd o
      ranged j e (Hash m r) o c = absurd o

      listed : a.level.strategy ≡ ByList → (j : ℕ) → key_of a x ≡ Some j → (d : Bound) → IsBoundAt ByList a.level.columns d → accepts_among bounds key d ≡ true → lists_null d || (is_default d && not (list_any lists_null bounds)) ≡ true
      listed is j e d o c = by' d o c
        where
          only_null : is_null (only key) ≡ true
          only_null = ap is_null (sym (one_key is j (key_is x j e).0)) ∙ at_null j e

          by' : (d' : Bound) → IsBoundAt ByList a.level.columns d' → accepts_among bounds key d' ≡ true → lists_null d' || (is_default d' && not (list_any lists_null bounds)) ≡ true
          by' (Listed vs) o' c' = or_yes1 (lists_null (Listed vs)) _ (sym (null_same vs (only key) only_null) ∙ list_only vs c')
          by' (Range l u) o' c' = absurd o'
          by' (Hash m r) o' c' = absurd o'
          by' Default o' c' = ap not (none_of (accepts key) lists_null inside bounds (default_only c'))
            where
              inside : (y : Bound) → lists_null y ≡ true → accepts key y ≡ true
              inside (Listed vs) g = null_same vs (only key) only_null ∙ g
              inside (Range l u) g = cc
              inside (Hash m r) g = cc
              inside Default g = cc

      by : (r : Option ℕ) → key_of a x ≡ r → (s : Strategy) → a.level.strategy ≡ s → null_keeps s bounds r b ≡ true
      by None e s es = refl
      by (Some j) e ByRange es = ranged j e b (rw es at of) acc
      by (Some j) e ByList es = listed es j e b (rw es at of) acc
      by (Some j) e ByHash es = refl

  not_null_sound : (x : Operand) → truths.is_null (value_of (put rows a.item row) args x) ≡ false → not_null_keeps a.level.strategy (key_of a x) b ≡ true
  not_null_sound x n = by (key_of a x) refl a.level.strategy refl
    where
      listed : a.level.strategy ≡ ByList → (j : ℕ) → key_of a x ≡ Some j → (d : Bound) → IsBoundAt ByList a.level.columns d → accepts_among bounds key d ≡ true → not_null_keeps ByList (Some j) d ≡ true
      listed is j e (Listed vs) o c =
          let there : is_null (only key) ≡ false = ap is_null (sym (one_key is j (key_is x j e).0)) ∙ ap is_null (sym (key_is x j e).1) ∙ sym (same_null (value_of (put rows a.item row) args x)) ∙ n in
          or_yes1 (list_any (λ w. not (is_null w) && true) vs) _ (some_value vs (only key) there (list_only vs c))
      listed is j e Default o c = refl
      listed is j e (Range l u) o c = absurd o
      listed is j e (Hash m r) o c = absurd o

      by : (r : Option ℕ) → key_of a x ≡ r → (s : Strategy) → a.level.strategy ≡ s → not_null_keeps s r b ≡ true
      by None e s es = refl
      by (Some j) e ByRange es = refl
      by (Some j) e ByList es = listed es j e b (rw es at of) acc
      by (Some j) e ByHash es = refl

  inverted_sound : (t : CondTree) → opposite (truth (put rows a.item row) args t) ≡ Yes → inverted_keeps a t b ≡ true
  inverted_sound (null_test x) h = not_null_sound x (not_decided _ h)
  inverted_sound (all_of ts) h = refl
  inverted_sound (any_of ts) h = refl
  inverted_sound (inverted t) h = refl
  inverted_sound (compares op x y) h = refl
  inverted_sound (known t) h = refl

  known_sound : (t : Truth3) → t ≡ Yes → is_not_no t ≡ true
  known_sound t h = rw h refl

  -- ---- conditions

  mutual
    part_sound : (first : ℕ → Option Value) → Given false first → (t : CondTree) → truth (put rows a.item row) args t ≡ Yes → part_keeps a bounds first t b ≡ true
    part_sound first f (all_of ts) h = parts_sound first f ts h
    part_sound first f (any_of no_more) h = cc
    part_sound first f (any_of (and_more t no_more)) h = parts_sound first f (and_more t no_more) (one_yes (truth (put rows a.item row) args t) h)
    part_sound first f (any_of (and_more t (and_more u ts))) h = choices_sound (and_more t (and_more u ts)) h
    part_sound first f (inverted t) h = inverted_sound t h
    part_sound first f (compares op x y) h = reading_sound first f (reading a op x y) (read_true op x y h)
    part_sound first f (null_test x) h = null_sound x (decided_yes _ h)
    part_sound first f (known t) h = known_sound t h

    parts_sound : (first : ℕ → Option Value) → Given false first → (ts : CondTrees) → least_of (put rows a.item row) args ts ≡ Yes → parts_keep a bounds first ts b ≡ true
    parts_sound first f no_more h = refl
    parts_sound first f (and_more t ts) h =
        let q = least_yes (truth (put rows a.item row) args t) (least_of (put rows a.item row) args ts) h in
        both (part_keeps a bounds first t b) (parts_keep a bounds first ts b) (part_sound first f t q.0) (parts_sound first f ts q.1)

    choices_sound : (ts : CondTrees) → greatest_of (put rows a.item row) args ts ≡ Yes → choices_keep a bounds ts b ≡ true
    choices_sound no_more h = cc
    choices_sound (and_more t ts) h = elim (greatest_yes (truth (put rows a.item row) args t) (greatest_of (put rows a.item row) args ts) h) [
      | inl here ↦ or_yes1 (whole_keeps a bounds t b) (choices_keep a bounds ts b) (both (key_keeps a.level.strategy (full_key a t) b) (part_keeps a bounds (given a false t) t b) (key_true t here) (part_sound (given a false t) (given_true false t here) t here))
      | inr there ↦ or_yes2 (whole_keeps a bounds t b) (choices_keep a bounds ts b) (choices_sound ts there)
    ]

  -- a row that passes lies in a kept child
  pub sound : (t : CondTree) → truth (put rows a.item row) args t ≡ Yes → whole_keeps a bounds t b ≡ true
  sound t h = both (key_keeps a.level.strategy (full_key a t) b) (part_keeps a bounds (given a false t) t b) (key_true t h) (part_sound (given a false t) (given_true false t h) t h)
