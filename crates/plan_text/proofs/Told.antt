-- The texts of a plan, part by part.
use Rattle.std.proofs.Common.{◌≡◌, ℕ, ◌+◌, ◌==◌, ◌<◌, ◌≤◌, Bool, if◌then◌else◌, false, List, [], ◌∷◌, ◌++◌, codes, map, drop, take, length, get_or, add-one, arith, refl, sym, ap, ap₂, ◌∙◌, append-nil, append_assoc, true, Result, Ok, Err}
use Rattle.std.specs.Prelude.{OnOk, Option, Some, None, option_map}
use Rattle.std.specs.List.{flat_map}
use Rattle.std.proofs.Math.Seq.{take-suc}
use Rattle.std.proofs.lemmas.Bool.Decides.{nat_tests}
use Rattle.std.proofs.lemmas.List.{flat_map_more, length-map, map-append, take_all}
use Rattle.std.proofs.lemmas.List.Folds.{flat_map-map}
use Rattle.cond_logic.specs.declared.cond.Cond.{Cond}
use Rattle.cond_logic.specs.declared.select.SortKey.{SortKey}
use Rattle.cond_logic.specs.Asked.{OutputTree, SelectMeant}
use Rattle.cond_logic.specs.Tables.{Leaf}
use Rattle.cond_logic.specs.Conjuncts as conditions
use Rattle.cond_logic.specs.Trees.{CondTree, CondTrees, no_more, and_more, all_of, any_of, inverted, compares, null_test, known, listed, cond_tree}
use Rattle.prune_steps.proofs.CondTrees.{parts_step}
use Rattle.plan_tree.specs.Counts.{join_count, pairs_count, given_count}
use Rattle.plan_tree.specs.OrderedAppends.{sorted_parts}
use Rattle.plan_tree.specs.Plans.{PlannedItem, Planned, Pair, both, behind, unpaired, is_empty}
use Rattle.plan_tree.specs.declared.count.Count.{Count}
use Rattle.plan_text.specs.declared.named_item.NamedItem.{NamedItem}
use Rattle.plan_text.specs.Conditions.{conjuncts, all_conjuncts, condition}
use Rattle.plan_text.specs.Nodes.{Node, counted, alone, each}
use Rattle.plan_text.specs.Plans.{Counts, told, join_details, join_text, join, joined, joins, item, items, never, result, pair_joins, all_joins, rows, sort_detail, sorted, sorted_part, ordered_append, in_order}

-- ---- the conjuncts of an AND

-- one part more
pub conjuncts_step : (ns : List NamedItem) (before now : List (List ℕ)) (parts : List Cond) (i : ℕ) (x : Cond) (all : List (List ℕ)) → i < length parts → x ≡ get_or parts i x → now ≡ before ++ conjuncts ns (cond_tree x)
    → before ++ all_conjuncts ns (listed (map cond_tree (drop i parts))) ≡ all → now ++ all_conjuncts ns (listed (map cond_tree (drop (i + 1) parts))) ≡ all
conjuncts_step ns before now parts i x all less is more told =
    let rest = all_conjuncts ns (listed (map cond_tree (drop (i + 1) parts))) in
    ap (λ l. l ++ rest) more ∙ append_assoc before (conjuncts ns (cond_tree x)) rest ∙ ap (λ ts. before ++ all_conjuncts ns ts) (sym (parts_step parts i x less is)) ∙ told

-- they are those of the condition, each told by itself
mutual
  pub told_parts : (ns : List NamedItem) (t : CondTree) → conjuncts ns t ≡ map (condition ns) (conditions.conjuncts t)
  told_parts ns (all_of ts) = all_told_parts ns ts
  told_parts ns (any_of ts) = refl
  told_parts ns (inverted t) = refl
  told_parts ns (compares op x y) = refl
  told_parts ns (null_test x) = refl
  told_parts ns (known t) = refl

  all_told_parts : (ns : List NamedItem) (ts : CondTrees) → all_conjuncts ns ts ≡ map (condition ns) (conditions.all_conjuncts ts)
  all_told_parts ns no_more = refl
  all_told_parts ns (and_more t ts) = rw (told_parts ns t, all_told_parts ns ts) (sym (map-append (condition ns) (conditions.conjuncts t) (conditions.all_conjuncts ts)))

-- ---- joins

-- the last is joined with all before it
joined_last : (ns : List NamedItem) (c : Counts) (n : Node) (is : List PlannedItem) (i : PlannedItem) → joined ns c n (is ++ i ∷ []) ≡ join ns c (joined ns c n is) i
joined_last ns c n [] i = refl
joined_last ns c n (j ∷ js) i = joined_last ns c (join ns c n j) js i

pub joins_last : (ns : List NamedItem) (c : Counts) (is : List PlannedItem) (i : PlannedItem) (d : ℕ) → 0 < length is → joins ns c (is ++ i ∷ []) d ≡ join ns c (joins ns c is) i d
joins_last ns c [] i d some = absurd (omega (arith, some))
joins_last ns c (j ∷ js) i d some = ap (λ (n : Node). n d) (joined_last ns c (item ns c j) js i)

-- a line is told, and what stands below it
three_told : (a b e o0 o1 o2 o3 : List (List ℕ)) → o1 ≡ o0 ++ a → o2 ≡ o1 ++ b → o3 ≡ o2 ++ e → o3 ≡ o0 ++ (a ++ (b ++ e))
three_told a b e o0 o1 o2 o3 head left right = right ∙ ap (λ l. l ++ e) (left ∙ ap (λ l. l ++ b) head) ∙ append_assoc (o0 ++ a) b e ∙ append_assoc o0 a (b ++ e)

abbrev pub join_line : List NamedItem → Counts → PlannedItem → Node
join_line ns c i = alone (told (join_count i.number i.part) c (join_text i.join)) (join_details ns i)

-- a join is told, the items before and the last
pub join_told : (ns : List NamedItem) (c : Counts) (is : List PlannedItem) (i : PlannedItem) (all : List PlannedItem) (d : ℕ) (o0 o1 o2 o3 : List (List ℕ)) → 0 < length is → all ≡ is ++ i ∷ []
    → o1 ≡ o0 ++ join_line ns c i d → o2 ≡ o1 ++ joins ns c is (d + 1) → o3 ≡ o2 ++ item ns c i (d + 1) → o3 ≡ o0 ++ joins ns c all d
join_told ns c is i all d o0 o1 o2 o3 some split head left right =
    three_told (join_line ns c i d) (joins ns c is (d + 1)) (item ns c i (d + 1)) o0 o1 o2 o3 head left right
    ∙ ap (λ l. o0 ++ l) (sym (joins_last ns c is i d some) ∙ ap (λ l. joins ns c l d) (sym split))

-- and onto others
pub onto_told : (ns : List NamedItem) (c : Counts) (n : Node) (is : List PlannedItem) (i : PlannedItem) (all : List PlannedItem) (d : ℕ) (o0 o1 o2 o3 : List (List ℕ)) → all ≡ is ++ i ∷ []
    → o1 ≡ o0 ++ join_line ns c i d → o2 ≡ o1 ++ joined ns c n is (d + 1) → o3 ≡ o2 ++ item ns c i (d + 1) → o3 ≡ o0 ++ joined ns c n all d
onto_told ns c n is i all d o0 o1 o2 o3 split head left right =
    three_told (join_line ns c i d) (joined ns c n is (d + 1)) (item ns c i (d + 1)) o0 o1 o2 o3 head left right
    ∙ ap (λ l. o0 ++ l) (ap (λ (m : Node). m d) (sym (joined_last ns c n is i)) ∙ ap (λ l. joined ns c n l d) (sym split))

-- ---- pairs

pub pair_told : (ns : List NamedItem) (c : Counts) (p : Pair) (d : ℕ) (o0 o1 o2 o3 : List (List ℕ)) → o1 ≡ o0 ++ join_line ns c p.right d → o2 ≡ o1 ++ item ns c p.left (d + 1) → o3 ≡ o2 ++ item ns c p.right (d + 1)
    → o3 ≡ o0 ++ joins ns c (both p) d
pair_told ns c p d o0 o1 o2 o3 head left right = three_told (join_line ns c p.right d) (item ns c p.left (d + 1)) (item ns c p.right (d + 1)) o0 o1 o2 o3 head left right

pub all_pairs_told : {X : Type 0} (ns : List NamedItem) (c : Counts) (f : X → Pair) (xs : List X) (d i : ℕ) (o0 o1 : List (List ℕ)) → length xs ≤ i → o1 ≡ o0 ++ flat_map (λ x. joins ns c (both (f x)) d) (take i xs) → o1 ≡ o0 ++ each (λ p. joins ns c (both p)) (map f xs) d
all_pairs_told ns c f xs d i o0 o1 past put =
    put ∙ ap (λ l. o0 ++ flat_map (λ x. joins ns c (both (f x)) d) l) (take_all i xs past) ∙ ap (λ l. o0 ++ l) (sym (flat_map-map (λ p. joins ns c (both p) d) f xs))

-- there is none, one, or more
module _ {X : Type 0} (ns : List NamedItem) (c : Counts) (f : X → Pair) (d : ℕ) (count : Option Count) where
  pub no_pair_told : (xs : List X) (o0 o1 : List (List ℕ)) → (length xs == 0) ≡ true → count ≡ option_map (pairs_count (map f xs)) c
      → o1 ≡ o0 ++ alone (counted (codes "Result") count) (codes "One-Time Filter: false" ∷ []) d → o1 ≡ o0 ++ pair_joins ns c (map f xs) d
  no_pair_told [] o0 o1 none times put = put ∙ ap (λ n. o0 ++ alone (counted (codes "Result") n) (codes "One-Time Filter: false" ∷ []) d) times
  no_pair_told (x ∷ xs) o0 o1 none times put = let none_left : length (x ∷ xs) ≡ 0 = grind (arith, nat_tests, none) in absurd (omega (arith, none_left))

  pub one_pair_told : (xs : List X) (x : X) (o0 o1 : List (List ℕ)) → length xs ≡ 1 → x ≡ get_or xs 0 x → o1 ≡ o0 ++ joins ns c (both (f x)) d → o1 ≡ o0 ++ pair_joins ns c (map f xs) d
  one_pair_told [] x o0 o1 one at put = absurd (omega (arith, one))
  one_pair_told (y ∷ []) x o0 o1 one at put = put ∙ ap (λ z. o0 ++ joins ns c (both (f z)) d) at
  one_pair_told (y ∷ z ∷ xs) x o0 o1 one at put = absurd (omega (arith, one))

  pub pairs_told : (xs : List X) (o0 o1 o2 : List (List ℕ)) → (length xs == 0) ≡ false → (length xs ≡ 1 → ⊥) → count ≡ option_map (pairs_count (map f xs)) c
      → o1 ≡ o0 ++ alone (counted (codes "Append") count) [] d → o2 ≡ o1 ++ each (λ p. joins ns c (both p)) (map f xs) (d + 1) → o2 ≡ o0 ++ pair_joins ns c (map f xs) d
  pairs_told [] o0 o1 o2 some more times head rest = absurd (cc)
  pairs_told (x ∷ []) o0 o1 o2 some more times head rest = absurd (more refl)
  pairs_told (x ∷ y ∷ xs) o0 o1 o2 some more times head rest =
      let line = alone (counted (codes "Append") count) [] d in
      let below = each (λ p. joins ns c (both p)) (map f (x ∷ y ∷ xs)) (d + 1) in
      rest ∙ ap (λ l. l ++ below) head ∙ append_assoc o0 line below ∙ ap (λ n. o0 ++ (alone (counted (codes "Append") n) [] d ++ below)) times

-- ---- all rows

module _ (ns : List NamedItem) (c : Counts) (p : Planned) (b : Bool) (is : b ≡ is_empty p) where
  pub rows_never : b ≡ true → rows ns c p ≡ never given_count c
  rows_never none = ap (λ (e : Bool). if e then never given_count c else all_joins ns c p.pairs (unpaired p)) (sym is ∙ none)

  rows_some : b ≡ false → rows ns c p ≡ all_joins ns c p.pairs (unpaired p)
  rows_some some = ap (λ (e : Bool). if e then never given_count c else all_joins ns c p.pairs (unpaired p)) (sym is ∙ some)

  pub rows_onto : (ps : List Pair) (js : List PlannedItem) → b ≡ false → p.pairs ≡ Some ps → js ≡ unpaired p → rows ns c p ≡ joined ns c (pair_joins ns c ps) js
  rows_onto ps js some pairs same = rows_some some ∙ ap (λ qs. all_joins ns c qs (unpaired p)) pairs ∙ ap (joined ns c (pair_joins ns c ps)) (sym same)

  pub rows_one_by_one : b ≡ false → p.pairs ≡ None → rows ns c p ≡ items ns c p.items
  rows_one_by_one some none = rows_some some ∙ ap (λ qs. all_joins ns c qs (behind qs p.items)) none

few_behind : {X : Type 0} (ps : Option X) (is : List PlannedItem) → length (behind ps is) ≤ length is
few_behind None is = omega arith
few_behind (Some x) [] = omega arith
few_behind (Some x) (i ∷ []) = omega arith
few_behind (Some x) (i ∷ j ∷ is) = omega arith

pub few_unpaired : (p : Planned) → length (unpaired p) ≤ length p.items
few_unpaired p = few_behind p.pairs p.items

pub few_onto : {X : Type 0} (f : X → PlannedItem) (xs : List X) (p : Planned) (d : ℕ) → map f xs ≡ unpaired p → d + length p.items ≤ 97 → d + length xs ≤ 97
few_onto f xs p d same few = omega (arith, few, few_unpaired p, ap length same, length-map xs f)

pub few_items : {X : Type 0} (f : X → PlannedItem) (xs ys : List X) (d : ℕ) → ys ≡ xs → d + length (map f xs) ≤ 97 → d + length ys ≤ 99
few_items f xs ys d same few = omega (arith, few, ap length same, length-map xs f)

-- one by one, where there are any
module _ {X : Type 0} (ns : List NamedItem) (c : Counts) (f : X → PlannedItem) (n d : ℕ) where
  pub none_asked : (xs : List X) → n ≡ length xs → (n == 0) ≡ true → items ns c (map f xs) d ≡ result given_count c [] d
  none_asked [] size none = refl
  none_asked (x ∷ xs) size none = let zero : n ≡ 0 = grind (arith, nat_tests, none) in absurd (omega (arith, size, zero))

  pub some_asked : (xs : List X) → n ≡ length xs → (n == 0) ≡ false → items ns c (map f xs) d ≡ joins ns c (map f xs) d
  some_asked [] size some = let zero : (n == 0) ≡ true = grind (arith, nat_tests, size) in absurd (cc)
  some_asked (x ∷ xs) size some = refl

pub some_items : {X : Type 0} (f : X → PlannedItem) (xs : List X) → (length xs == 0) ≡ false → 0 < length (map f xs)
some_items f [] none = absurd (cc)
some_items f (x ∷ xs) some = omega arith

-- ---- ORDER BY

-- a sort is told, and what stands below it
pub sorted_told : (ns : List NamedItem) (c : Counts) (os : List OutputTree) (order : List SortKey) (n : Node) (d : ℕ) (count : Option Count) (o0 o1 o2 details : List (List ℕ)) → (length order == 0) ≡ false → count ≡ option_map given_count c → details ≡ sort_detail ns os order
    → o1 ≡ o0 ++ alone (counted (codes "Sort") count) details d → o2 ≡ o1 ++ n (d + 1) → o2 ≡ o0 ++ sorted ns c os order n d
sorted_told ns c os [] n d count o0 o1 o2 details none given keyed head rest = absurd (cc)
sorted_told ns c os (k ∷ ks) n d count o0 o1 o2 details some given keyed head rest =
    let first = head ∙ ap (λ m. o0 ++ alone (counted (codes "Sort") m) details d) given ∙ ap (λ x. o0 ++ alone (told given_count c (codes "Sort")) x d) keyed in
    rest ∙ ap (λ l. l ++ n (d + 1)) first ∙ append_assoc o0 (alone (told given_count c (codes "Sort")) (sort_detail ns os (k ∷ ks)) d) (n (d + 1))

-- where parts are sorted by themselves
pub ordered_told : {Y X : Type 0} (ns : List NamedItem) (c : Counts) (keys : List (List ℕ)) (f : Y → PlannedItem) (is : List Y) (i : Y) (now : X → List Leaf) (parts : List X) (d n : ℕ) (count : Option Count) (o0 o1 o2 : List (List ℕ)) → n ≡ length is → (n == 0) ≡ false → i ≡ get_or is 0 i → count ≡ option_map given_count c
    → o1 ≡ o0 ++ alone (counted (codes "Ordered Append") count) [] d → o2 ≡ o1 ++ flat_map (λ (p : X). sorted_part ns c keys (f i) (now p) (d + 1)) parts → o2 ≡ o0 ++ ordered_append ns c keys (map f is) (map now parts) d
ordered_told ns c keys f [] i now parts d n count o0 o1 o2 size some first given head rest = absurd (cc)
ordered_told ns c keys f (j ∷ js) i now parts d n count o0 o1 o2 size some first given head rest =
    let line = alone (told given_count c (codes "Ordered Append")) [] d in
    let each_of = λ (k : PlannedItem). flat_map (λ p. sorted_part ns c keys k (now p) (d + 1)) parts in
    let start : o1 ≡ o0 ++ line = head ∙ ap (λ m. o0 ++ alone (counted (codes "Ordered Append") m) [] d) given in
    rest ∙ ap (λ l. l ++ each_of (f i)) start ∙ append_assoc o0 line (each_of (f i)) ∙ ap (λ k. o0 ++ (line ++ each_of (f k))) first
    ∙ ap (λ l. o0 ++ (line ++ l)) (sym (flat_map-map (λ ls. sorted_part ns c keys (f j) ls (d + 1)) now parts))

pub no_item : {Y : Type 0} (ns : List NamedItem) (c : Counts) (keys : List (List ℕ)) (f : Y → PlannedItem) (is : List Y) (parts : List (List Leaf)) (d n : ℕ) (o : List (List ℕ)) → n ≡ length is → (n == 0) ≡ true → o ≡ o ++ ordered_append ns c keys (map f is) parts d
no_item ns c keys f [] parts d n o size none = sym (append-nil o)
no_item ns c keys f (i ∷ is) parts d n o size none = let zero : n ≡ 0 = grind (arith, nat_tests, none) in absurd (omega (arith, size, zero))

-- no part is, so all rows are sorted
pub in_order_none : {X : Type 0} (ns : List NamedItem) (c : Counts) (m : SelectMeant) (p : Planned) (now : X → List Leaf) (xs : List X) (d n : ℕ) (os : List OutputTree) (ks : List SortKey) → map now xs ≡ sorted_parts m p → n ≡ length xs → (n == 0) ≡ true
    → os ≡ m.outputs → ks ≡ m.order → sorted ns c os ks (rows ns c p) d ≡ in_order ns c m p (sorted_parts m p) d
in_order_none ns c m p now [] d n os ks same size none outs order = ap₂ (λ os ks. sorted ns c os ks (rows ns c p) d) outs order ∙ ap (λ parts. in_order ns c m p parts d) same
in_order_none ns c m p now (x ∷ xs) d n os ks same size none outs order = let zero : n ≡ 0 = grind (arith, nat_tests, none) in absurd (omega (arith, size, zero))

-- each part is
pub in_order_some : {X : Type 0} (ns : List NamedItem) (c : Counts) (m : SelectMeant) (p : Planned) (now : X → List Leaf) (xs ys : List X) (d n : ℕ) (os : List OutputTree) (ks : List SortKey) (keys : List (List ℕ)) → map now xs ≡ sorted_parts m p → n ≡ length xs → (n == 0) ≡ false
    → os ≡ m.outputs → ks ≡ m.order → keys ≡ sort_detail ns os ks → ys ≡ xs → ordered_append ns c keys p.items (map now ys) d ≡ in_order ns c m p (sorted_parts m p) d
in_order_some ns c m p now [] ys d n os ks keys same size some outs order keyed lent = absurd (cc)
in_order_some ns c m p now (x ∷ xs) ys d n os ks keys same size some outs order keyed lent =
    ap₂ (λ keys ps. ordered_append ns c keys p.items (map now ps) d) (keyed ∙ ap₂ (sort_detail ns) outs order) lent ∙ ap (λ parts. in_order ns c m p parts d) same

-- ---- scans

-- one scan more
pub one_scan : {X : Type 0} (f : X → List (List ℕ)) (start before now : List (List ℕ)) (xs : List X) (i : ℕ) (x : X) → i < length xs → x ≡ get_or xs i x → before ≡ start ++ flat_map f (take i xs) → now ≡ before ++ f x
    → now ≡ start ++ flat_map f (take (i + 1) xs)
one_scan f start before now xs i x less is had more =
    more ∙ ap (λ l. l ++ f x) had ∙ flat_map_more f start (take i xs) x
    ∙ ap (λ l. start ++ flat_map f l) (ap (λ y. take i xs ++ y ∷ []) is ∙ sym (take-suc xs i x less))
    ∙ ap (λ n. start ++ flat_map f (take n xs)) (sym (add-one i))

-- ---- where something is done

pub on_ok : {E P Q : Type 0} (r : Result (Unit {0}) E) → (P → Q) → OnOk r P → OnOk r Q
on_ok (Ok x) f h = f h
on_ok (Err e) f h = tt
