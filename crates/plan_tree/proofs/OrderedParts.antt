-- The parts of an Ordered Append, one by one.
use Rattle.std.proofs.Common.{◌≡◌, ℕ, zero, suc, ◌+◌, ◌≤◌, ◌<◌, arith, Bool, true, false, not, List, [], ◌∷◌, ◌++◌, refl, sym, ap, ap₂, ◌∙◌, subst, add-one, drop-cons, length, take, drop, map, min, get_or, append_assoc, append-nil}
use Rattle.std.specs.Prelude.{◌==◌, ◌&&◌, ◌||◌, nat_le, if◌then◌else◌, Option, Some, None, is_some, option_map, slice_get}
use Rattle.std.specs.List.{list_any, sum_by}
use Rattle.std.proofs.lemmas.Bool.Decides.{nat_tests}
use Rattle.std.proofs.lemmas.Option.{slice_get_within, get_or_from_slice_get}
use Rattle.std.proofs.lemmas.List.{length-map, take-append-drop, drop-drop, drop_all, length-append, length-drop, length-take-le}
use Rattle.std.proofs.lemmas.List.Folds.{list_any-append}
use Rattle.std.proofs.lemmas.List.Sums.{prefix_len-le-length, prefix_len-drop_yes, prefix_len-drop_no, prefix_len-drop_all, sum_by-drop_more}
use Rattle.pg_values.specs.declared.ids.LeafId.{LeafId}
use Rattle.bound_forms.specs.declared.level.KeyColumn.{KeyColumn}
use Rattle.bound_forms.specs.declared.partition_bound.Bound.{Bound}
use Rattle.bound_forms.specs.Accepts.{is_default}
use Rattle.row_router.specs.declared.tree.Tree.{Tree}
use Rattle.row_router.specs.Trees.{TableTree, LeafTable, LevelTable, Trees, End, More, trees_of, leaves, all_leaves}
use Rattle.row_router.specs.Seen.{seen}
use Rattle.cond_logic.specs.declared.select.SortKey.{SortKey}
use Rattle.cond_logic.specs.Asked.{OutputTree, SelectMeant}
use Rattle.cond_logic.specs.Tables.{Leaf}
use Rattle.plan_tree.specs.OrderedAppends.{goes_by, begins_with, is_nested, is_settled, is_range, is_leaf, lies_under, first_under, put_part, parts_under, parts_joined, if_whole, follows, parts_in, only_parts}
use Rattle.plan_tree.specs.Parameters.{has_parameter}
use Rattle.plan_tree.specs.Parts.{emptied, all_emptied, one_of, in_part, in_partition}
use Rattle.plan_tree.specs.Plans.{PlannedItem, planned_item, unless_paired}
use Rattle.plan_tree.specs.declared.item.PlanItem.{PlanItem}

-- ---- what is left of a list

pub left_at : {X : Type 0} (xs : List X) (i : ℕ) (d : X) → i < length xs → drop i xs ≡ get_or xs i d ∷ drop (i + 1) xs
left_at xs i d less = rw (add-one i) (drop-cons xs i d less)

pub left_from : {X : Type 0} (xs : List X) (i : ℕ) (x : X) → i < length xs → x ≡ get_or xs i x → drop i xs ≡ x ∷ drop (i + 1) xs
left_from xs i x less is = left_at xs i x less ∙ ap (λ y. y ∷ drop (i + 1) xs) (sym is)

pub left_got : {X : Type 0} (xs : List X) (i : ℕ) (x : X) → slice_get xs i ≡ Some x → drop i xs ≡ x ∷ drop (i + 1) xs
left_got xs i x at = left_from xs i x (slice_get_within xs i x at) (sym (get_or_from_slice_get xs i x x at))

-- ---- the keys of ORDER BY

-- there are fewer keys than columns
pub keys_end : (os : List OutputTree) (ks : List SortKey) (cs : List KeyColumn) (i : ℕ) → i < length cs → length ks ≤ i → begins_with os (drop i ks) (drop i cs) ≡ false
keys_end os ks [] i less end = absurd (omega (arith, less))
keys_end os [] (c ∷ cs) zero less end = refl
keys_end os [] (c ∷ cs) (suc i) less end = drop_none cs i (omega (arith, less))
  where
    drop_none : (ds : List KeyColumn) (n : ℕ) → n < length ds → begins_with os [] (drop n ds) ≡ false
    drop_none [] n lt = absurd (omega (arith, lt))
    drop_none (d ∷ ds) zero lt = refl
    drop_none (d ∷ ds) (suc n) lt = drop_none ds n (omega (arith, lt))
keys_end os (k ∷ ks) (c ∷ cs) zero less end = absurd (omega (arith, end))
keys_end os (k ∷ ks) (c ∷ cs) (suc i) less end = keys_end os ks cs i (omega (arith, less)) (omega (arith, end))

-- one key more
pub key_step : (os : List OutputTree) (ks : List SortKey) (cs : List KeyColumn) (i : ℕ) (k : SortKey) (c : KeyColumn) → i < length cs → i < length ks
    → begins_with os (drop i ks) (drop i cs) ≡ (goes_by os (get_or ks i k) (get_or cs i c) && begins_with os (drop (i + 1) ks) (drop (i + 1) cs))
key_step os ks cs i k c less here = ap₂ (begins_with os) (left_at ks i k here) (left_at cs i c less)

pub key_no : (os : List OutputTree) (ks : List SortKey) (cs : List KeyColumn) (i : ℕ) (k : SortKey) (c : KeyColumn) (b : Bool) → i < length cs → i < length ks → b ≡ goes_by os (get_or ks i k) (get_or cs i c) → b ≡ false
    → begins_with os (drop i ks) (drop i cs) ≡ begins_with os ks cs → false ≡ begins_with os ks cs
key_no os ks cs i k c b less here told is all = ap (λ t. t && begins_with os (drop (i + 1) ks) (drop (i + 1) cs)) (sym is ∙ told) ∙ sym (key_step os ks cs i k c less here) ∙ all

-- ---- the leaves under a table

-- of the first child, and of those behind it
pub held_by : (id : LeafId) (kids : List Tree) (i : ℕ) (x : Tree) → i < length kids → x ≡ get_or kids i x
    → list_any (is_leaf id) (all_leaves (trees_of (map seen (drop i kids)))) ≡ (list_any (is_leaf id) (leaves (seen x)) || list_any (is_leaf id) (all_leaves (trees_of (map seen (drop (i + 1) kids)))))
held_by id kids i x less is =
    ap (λ ts. list_any (is_leaf id) (all_leaves (trees_of (map seen ts)))) (left_from kids i x less is)
    ∙ list_any-append (is_leaf id) (leaves (seen x)) (all_leaves (trees_of (map seen (drop (i + 1) kids))))

-- one leaf more, where it lies there, and where it does not
pub under_yes : (t : TableTree) (ls : List Leaf) (i : ℕ) (x : Leaf) → i < length ls → x ≡ get_or ls i x → lies_under t x ≡ true → first_under t (drop i ls) ≡ 1 + first_under t (drop (i + 1) ls)
under_yes t ls i x less is lies = prefix_len-drop_yes (lies_under t) ls i x less (ap (lies_under t) (sym is) ∙ lies)

pub under_no : (t : TableTree) (ls : List Leaf) (i : ℕ) (x : Leaf) → i < length ls → x ≡ get_or ls i x → lies_under t x ≡ false → first_under t (drop i ls) ≡ 0
under_no t ls i x less is lies = prefix_len-drop_no (lies_under t) ls i x less (ap (lies_under t) (sym is) ∙ lies)

pub under_end : (t : TableTree) (ls : List Leaf) (i : ℕ) → length ls ≤ i → first_under t (drop i ls) ≡ 0
under_end t ls i end = prefix_len-drop_all (lies_under t) ls i end

-- ---- the parts

-- no bound is left, or the default's
pub no_bound : (ls : List Leaf) (bs : List Bound) (ks : Trees) (i : ℕ) → length bs ≤ i → parts_under ls (drop i bs) ks ≡ []
no_bound ls bs End i end = refl
no_bound ls [] (More k ks) zero end = refl
no_bound ls [] (More k ks) (suc i) end = refl
no_bound ls (b ∷ bs) (More k ks) zero end = absurd (omega (arith, end))
no_bound ls (b ∷ bs) (More k ks) (suc i) end = no_bound ls bs (More k ks) i (omega (arith, end))

pub at_default : (ls : List Leaf) (bs : List Bound) (ks : Trees) (i : ℕ) (b : Bound) → slice_get bs i ≡ Some b → is_default b ≡ true → parts_under ls (drop i bs) ks ≡ []
at_default ls bs End i b at is = refl
at_default ls [] (More k ks) i b at is = absurd (cc)
at_default ls (d ∷ ds) (More k ks) zero b at is =
    let same : d ≡ b = cc in
    ap (λ t. if t then [] else put_part (take (first_under k ls) ls) (parts_under (drop (first_under k ls) ls) ds ks)) (ap is_default same ∙ is)
at_default ls (d ∷ ds) (More k ks) (suc i) b at is = at_default ls ds (More k ks) i b at is

-- one part more
pub part_step : (ls : List Leaf) (bs : List Bound) (kids : List Tree) (i : ℕ) (b : Bound) (x : Tree) → i < length kids → slice_get bs i ≡ Some b → is_default b ≡ false → x ≡ get_or kids i x
    → parts_under ls (drop i bs) (trees_of (map seen (drop i kids)))
    ≡ put_part (take (first_under (seen x) ls) ls) (parts_under (drop (first_under (seen x) ls) ls) (drop (i + 1) bs) (trees_of (map seen (drop (i + 1) kids))))
part_step ls bs kids i b x less at is child =
    ap₂ (λ xs ts. parts_under ls xs (trees_of (map seen ts))) (left_got bs i b at) (left_from kids i x less child)
    ∙ ap (λ t. if t then [] else put_part (take (first_under (seen x) ls) ls) (parts_under (drop (first_under (seen x) ls) ls) (drop (i + 1) bs) (trees_of (map seen (drop (i + 1) kids))))) is

put_before : (ls : List Leaf) (parts : List (List Leaf)) → put_part ls parts ≡ put_part ls [] ++ parts
put_before [] parts = refl
put_before (l ∷ ls) parts = refl

put_joined : (ls : List Leaf) (parts : List (List Leaf)) → parts_joined (put_part ls parts) ≡ ls ++ parts_joined parts
put_joined [] parts = refl
put_joined (l ∷ ls) parts = refl

-- the parts so far, and those under the children that are left
pub record GoesOn (ls : List Leaf) (bs : List Bound) (kids : List Tree) (old : List (List Leaf)) (place start : ℕ) (parts : List (List Leaf)) : Type 0 where
  pub within : start ≤ length ls
  pub told : parts ++ parts_under (drop start ls) (drop place bs) (trees_of (map seen (drop place kids))) ≡ old ++ parts_under ls bs (trees_of (map seen kids))
  pub counted : start + length (parts_joined (parts_under (drop start ls) (drop place bs) (trees_of (map seen (drop place kids))))) ≡ length (parts_joined (parts_under ls bs (trees_of (map seen kids))))

none_more : (n : ℕ) → 0 + n ≡ n
none_more n = omega arith

pub parts_begin : (ls : List Leaf) (bs : List Bound) (kids : List Tree) (old : List (List Leaf)) → GoesOn ls bs kids old 0 0 old
parts_begin ls bs kids old = record { within = omega arith; told = refl; counted = none_more (length (parts_joined (parts_under ls bs (trees_of (map seen kids))))) }

module _ (ls : List Leaf) (bs : List Bound) (kids : List Tree) (old : List (List Leaf)) (place start : ℕ) (parts : List (List Leaf)) (g : GoesOn ls bs kids old place start parts) where
  -- the leaves of the next child are put behind them
  pub part_put : (b : Bound) (x : Tree) (rest part : List Leaf) (count next : ℕ) (now : List (List Leaf)) → place < length kids → slice_get bs place ≡ Some b → is_default b ≡ false → x ≡ get_or kids place x
      → rest ≡ drop start ls → count ≡ first_under (seen x) rest → part ≡ take count (drop start ls) → now ≡ parts ++ put_part part [] → next ≡ start + count → GoesOn ls bs kids old (place + 1) next now
  part_put b x rest part count next now less at bounded child left counts is put goes =
      let n : count ≡ first_under (seen x) (drop start ls) = counts ∙ ap (first_under (seen x)) left in
      let few = prefix_len-le-length (lies_under (seen x)) (drop start ls) in
      let long = length-drop start ls in
      let in_rest : count ≤ length (drop start ls) = omega (arith, n, few) in
      let behind = parts_under (drop next ls) (drop (place + 1) bs) (trees_of (map seen (drop (place + 1) kids))) in
      let same : drop count (drop start ls) ≡ drop next ls = drop-drop count start ls ∙ ap (λ k. drop k ls) (sym goes) in
      let step : parts_under (drop start ls) (drop place bs) (trees_of (map seen (drop place kids))) ≡ put_part (take count (drop start ls)) behind =
      part_step (drop start ls) bs kids place b x less at bounded child
      ∙ ap (λ k. put_part (take k (drop start ls)) (parts_under (drop k (drop start ls)) (drop (place + 1) bs) (trees_of (map seen (drop (place + 1) kids))))) (sym n)
      ∙ ap (λ l. put_part (take count (drop start ls)) (parts_under l (drop (place + 1) bs) (trees_of (map seen (drop (place + 1) kids))))) same in
      let front : length (take count (drop start ls)) ≡ count = length-take-le count (drop start ls) in_rest in
      let joined = ap (λ ps. length (parts_joined ps)) step ∙ ap length (put_joined (take count (drop start ls)) behind) in
      let all = length-append (take count (drop start ls)) (parts_joined behind) in
      let counted = g.counted in
      let within = g.within in
      record {
        within = omega (arith, in_rest, long, goes, within);
        told = ap (λ ps. ps ++ behind) (put ∙ ap (λ p. parts ++ put_part p []) is) ∙ append_assoc parts (put_part (take count (drop start ls)) []) behind
            ∙ ap (λ ps. parts ++ ps) (sym (put_before (take count (drop start ls)) behind)) ∙ ap (λ ps. parts ++ ps) (sym step) ∙ g.told;
        counted = omega (arith, counted, joined, all, front, goes);
      }

  -- no child is left that has a part
  parts_end : parts_under (drop start ls) (drop place bs) (trees_of (map seen (drop place kids))) ≡ [] → (parts ≡ old ++ parts_under ls bs (trees_of (map seen kids))) × (start ≡ length (parts_joined (parts_under ls bs (trees_of (map seen kids)))))
  parts_end none = (
    sym (append-nil parts) ∙ ap (λ ps. parts ++ ps) (sym none) ∙ g.told,
    let counted = ap (λ ps. start + length (parts_joined ps)) (sym none) ∙ g.counted in omega (arith, counted),
  )

  pub no_child : length kids ≤ place → (parts ≡ old ++ parts_under ls bs (trees_of (map seen kids))) × (start ≡ length (parts_joined (parts_under ls bs (trees_of (map seen kids)))))
  no_child end = parts_end (ap (λ ks. parts_under (drop start ls) (drop place bs) (trees_of (map seen ks))) (drop_all place kids end))

  pub no_bound_left : length bs ≤ place → (parts ≡ old ++ parts_under ls bs (trees_of (map seen kids))) × (start ≡ length (parts_joined (parts_under ls bs (trees_of (map seen kids)))))
  no_bound_left end = parts_end (no_bound (drop start ls) bs (trees_of (map seen (drop place kids))) place end)

  pub default_left : (b : Bound) → slice_get bs place ≡ Some b → is_default b ≡ true → (parts ≡ old ++ parts_under ls bs (trees_of (map seen kids))) × (start ≡ length (parts_joined (parts_under ls bs (trees_of (map seen kids)))))
  default_left b at is = parts_end (at_default (drop start ls) bs (trees_of (map seen (drop place kids))) place b at is)

-- ---- what is counted of a part

pub rows_step : (f : Leaf → ℕ) (ls : List Leaf) (i : ℕ) (x : Leaf) (most rows now all : ℕ) → i < length ls → x ≡ get_or ls i x → now ≡ min (rows + f x) most → min (rows + sum_by f (drop i ls)) most ≡ all → min (now + sum_by f (drop (i + 1) ls)) most ≡ all
rows_step f ls i x most rows now all less is more told =
    let step = sum_by-drop_more f ls i x less in
    let same = ap f is in
    omega (arith, step, same, more, told)

-- ---- two or more, and no leaf in another place

pub parts_kept : {X : Type 0} (now : X → List Leaf) (xs : List X) (ls : List Leaf) (ps : List (List Leaf)) → map now xs ≡ ps → 2 ≤ length xs → length (parts_joined ps) ≡ length ls → map now xs ≡ if_whole ls ps
parts_kept now xs ls ps same two whole =
    let many : 2 ≤ length ps = let n = ap length same in let m = length-map xs now in omega (arith, n, m, two) in
    let a : nat_le 2 (length ps) ≡ true = grind (arith, nat_tests, many) in
    let b : (length (parts_joined ps) == length ls) ≡ true = grind (arith, nat_tests, whole) in
    same ∙ sym (ap₂ (λ (x y : Bool). if x && y then ps else []) a b)

too_few : (ls : List Leaf) (ps : List (List Leaf)) → length ps < 2 → [] ≡ if_whole ls ps
too_few ls ps less =
    let a : nat_le 2 (length ps) ≡ false = grind (arith, nat_tests, less) in
    sym (ap (λ (x : Bool). if x && (length (parts_joined ps) == length ls) then ps else []) a)

pub parts_few : {X : Type 0} (now : X → List Leaf) (xs : List X) (ls : List Leaf) (ps : List (List Leaf)) → map now xs ≡ ps → length xs < 2 → [] ≡ if_whole ls ps
parts_few now xs ls ps same few = too_few ls ps (let n = ap length same in let m = length-map xs now in omega (arith, n, m, few))

pub parts_torn : (ls : List Leaf) (ps : List (List Leaf)) → (length (parts_joined ps) == length ls) ≡ false → [] ≡ if_whole ls ps
parts_torn ls ps torn = by (nat_le 2 (length ps)) ∙ sym (ap (λ (y : Bool). if nat_le 2 (length ps) && y then ps else []) torn)
  where
    by : (x : Bool) → [] ≡ (if x && false then ps else [])
    by true = refl
    by false = refl

-- ---- all leaves

-- leaves that stand in front of a list
pub record IsFront (front ls : List Leaf) : Type 0 where
  pub rest : List Leaf
  pub is : ls ≡ front ++ rest

parts_front : (ls : List Leaf) (bs : List Bound) (ks : Trees) → IsFront (parts_joined (parts_under ls bs ks)) ls
parts_front ls bs End = record { rest = ls; is = refl }
parts_front ls [] (More k ks) = record { rest = ls; is = refl }
parts_front ls (b ∷ bs) (More k ks) = by (is_default b) (parts_front (drop (first_under k ls) ls) bs ks)
  where
    n : ℕ
    n = first_under k ls

    by : (d : Bool) → IsFront (parts_joined (parts_under (drop n ls) bs ks)) (drop n ls) → IsFront (parts_joined (if d then [] else put_part (take n ls) (parts_under (drop n ls) bs ks))) ls
    by true further = record { rest = ls; is = refl }
    by false further = record {
      rest = further.rest;
      is = sym (take-append-drop n ls) ∙ ap (λ l. take n ls ++ l) further.is ∙ sym (append_assoc (take n ls) (parts_joined (parts_under (drop n ls) bs ks)) further.rest)
          ∙ ap (λ l. l ++ further.rest) (sym (put_joined (take n ls) (parts_under (drop n ls) bs ks)));
    }

as_long : (front ls : List Leaf) → IsFront front ls → length front ≡ length ls → front ≡ ls
as_long front ls f same = by f.rest f.is
  where
    by : (rest : List Leaf) → ls ≡ front ++ rest → front ≡ ls
    by [] is = sym (is ∙ append-nil front)
    by (l ∷ rest) is = let n = ap length is in let m = length-append front (l ∷ rest) in absurd (omega (arith, n, m, same))

whole_by : (ls : List Leaf) (ps : List (List Leaf)) → IsFront (parts_joined ps) ls → (a b : Bool) → b ≡ (length (parts_joined ps) == length ls) → 0 < length (if a && b then ps else []) → parts_joined (if a && b then ps else []) ≡ ls
whole_by ls ps front false b is some = absurd (omega (arith, some))
whole_by ls ps front true false is some = absurd (omega (arith, some))
whole_by ls ps front true true is some = as_long (parts_joined ps) ls front (grind (arith, nat_tests, is))

-- a part has a leaf
some_leaf : (ls : List Leaf) (bs : List Bound) (ks : Trees) → 0 < length (parts_under ls bs ks) → 0 < length (parts_joined (parts_under ls bs ks))
some_leaf ls bs End some = absurd (omega (arith, some))
some_leaf ls [] (More k ks) some = absurd (omega (arith, some))
some_leaf ls (b ∷ bs) (More k ks) some = by (is_default b) (some_leaf (drop (first_under k ls) ls) bs ks) some
  where
    first : (part : List Leaf) (parts : List (List Leaf)) → (0 < length parts → 0 < length (parts_joined parts)) → 0 < length (put_part part parts) → 0 < length (parts_joined (put_part part parts))
    first [] parts behind here = behind here
    first (l ∷ part) parts behind here = let n = length-append (l ∷ part) (parts_joined parts) in omega (arith, n)

    by : (d : Bool) → ((0 < length (parts_under (drop (first_under k ls) ls) bs ks)) → 0 < length (parts_joined (parts_under (drop (first_under k ls) ls) bs ks)))
        → 0 < length (if d then [] else put_part (take (first_under k ls) ls) (parts_under (drop (first_under k ls) ls) bs ks))
        → 0 < length (parts_joined (if d then [] else put_part (take (first_under k ls) ls) (parts_under (drop (first_under k ls) ls) bs ks)))
    by true behind here = absurd (omega (arith, here))
    by false behind here = first (take (first_under k ls) ls) (parts_under (drop (first_under k ls) ls) bs ks) behind here

-- what holds of an item over which parts stand
pub record IsOver (i : PlannedItem) (parts : List (List Leaf)) : Type 0 where
  pub nested : is_nested i.join ≡ true
  pub once : i.is_asked_again ≡ false
  pub whole : parts_joined parts ≡ i.leaves
  pub some : 0 < length i.leaves

settled_over : (i : PlannedItem) (parts : List (List Leaf)) (j a h : Bool) → is_nested i.join ≡ j → i.is_asked_again ≡ a → j && (not a && not h) ≡ true → parts_joined parts ≡ i.leaves → 0 < length (parts_joined parts) → IsOver i parts
settled_over i parts true false h join again is whole some = record { nested = join; once = again; whole = whole; some = subst (λ ls. 0 < length ls) whole some }
settled_over i parts true true h join again is whole some = absurd (cc)
settled_over i parts false a h join again is whole some = absurd (cc)

parts_over : (m : SelectMeant) (i : PlannedItem) (t : TableTree) → 0 < length (parts_in m i t) → IsOver i (parts_in m i t)
parts_over m i (LeafTable node leaf) some = absurd (omega (arith, some))
parts_over m i (LevelTable node level bounds kids) some =
    by (is_range level.strategy) (begins_with m.outputs m.order level.columns) (is_settled i) refl some
  where
    ps : List (List Leaf)
    ps = parts_under i.leaves bounds kids

    kept : (x y : Bool) → 0 < length (if x && y then ps else []) → 0 < length (parts_joined (if x && y then ps else []))
    kept true true here = some_leaf i.leaves bounds kids here
    kept true false here = absurd (omega (arith, here))
    kept false y here = absurd (omega (arith, here))

    by : (r b s : Bool) → s ≡ is_settled i → 0 < length (if r && (b && s) then if_whole i.leaves ps else []) → IsOver i (if r && (b && s) then if_whole i.leaves ps else [])
    by true true true is here =
        settled_over i (if_whole i.leaves ps) (is_nested i.join) i.is_asked_again (list_any has_parameter i.conjuncts) refl refl (sym is)
        (whole_by i.leaves ps (parts_front i.leaves bounds kids) (nat_le 2 (length ps)) (length (parts_joined ps) == length i.leaves) refl here)
        (kept (nat_le 2 (length ps)) (length (parts_joined ps) == length i.leaves) here)
    by true true false is here = absurd (omega (arith, here))
    by true false s is here = absurd (omega (arith, here))
    by false b s is here = absurd (omega (arith, here))

-- they are all leaves of the only item
pub record AreAll {X : Type 0} (pairs : Option X) (is : List PlannedItem) (parts : List (List Leaf)) : Type 0 where
  pub item : PlannedItem
  pub unpaired : pairs ≡ None
  pub alone : is ≡ item ∷ []
  pub over : IsOver item parts

pub parts_are_all : {X : Type 0} (m : SelectMeant) (pairs : Option X) (is : List PlannedItem) (parts : List (List Leaf)) → parts ≡ only_parts m (unless_paired pairs is) → 0 < length parts → AreAll pairs is parts
parts_are_all m None [] parts same some = let n = ap length same in absurd (omega (arith, n, some))
parts_are_all m None (i ∷ []) parts same some = record {
  item = i;
  unpaired = refl;
  alone = refl;
  over = subst (IsOver i) (sym same) (parts_over m i i.tree (subst (λ ps. 0 < length ps) same some));
}
parts_are_all m None (i ∷ j ∷ js) parts same some = let n = ap length same in absurd (omega (arith, n, some))
parts_are_all m (Some pairs) is parts same some = let n = ap length same in absurd (omega (arith, n, some))

-- ---- one partition alone

-- no leaf lies under a table without partitions
none_first : (k : TableTree) (ls : List Leaf) → first_under (emptied k) ls ≡ 0
none_first k [] = refl
none_first k (l ∷ ls) = refl

-- so it is no part
no_part : (k : TableTree) (ls : List Leaf) (b : Bound) (bs : List Bound) (ks : Trees) → parts_under ls (b ∷ bs) (More (emptied k) ks) ≡ (if is_default b then [] else parts_under ls bs ks)
no_part k ls b bs ks = ap (λ n. if is_default b then [] else put_part (take n ls) (parts_under (drop n ls) bs ks)) (none_first k ls)

none_under : (ls : List Leaf) (bs : List Bound) (ks : Trees) → length (parts_under ls bs (all_emptied ks)) ≡ 0
none_under ls bs End = refl
none_under ls [] (More k ks) = refl
none_under ls (b ∷ bs) (More k ks) = ap (length {A = List Leaf}) (no_part k ls b bs (all_emptied ks)) ∙ by (is_default b) (none_under ls bs ks)
  where
    by : (d : Bool) → length (parts_under ls bs (all_emptied ks)) ≡ 0 → length (if d then [] else parts_under ls bs (all_emptied ks)) ≡ 0
    by true none = refl
    by false none = none

one_under : (n : ℕ) (ls : List Leaf) (bs : List Bound) (ks : Trees) → length (parts_under ls bs (one_of n ks)) < 2
one_under n ls bs End = omega arith
one_under zero ls [] (More k ks) = omega arith
one_under (suc n) ls [] (More k ks) = omega arith
one_under zero ls (b ∷ bs) (More k ks) = by (is_default b) (take (first_under k ls) ls) (none_under (drop (first_under k ls) ls) bs ks)
  where
    behind : List (List Leaf)
    behind = parts_under (drop (first_under k ls) ls) bs (all_emptied ks)

    by : (d : Bool) (part : List Leaf) → length behind ≡ 0 → length (if d then [] else put_part part behind) < 2
    by true part none = omega arith
    by false [] none = omega (arith, none)
    by false (l ∷ part) none = omega (arith, none)
one_under (suc n) ls (b ∷ bs) (More k ks) = subst (λ ps. length ps < 2) (sym (no_part k ls b bs (one_of n ks))) (by (is_default b) (one_under n ls bs ks))
  where
    by : (d : Bool) → length (parts_under ls bs (one_of n ks)) < 2 → length (if d then [] else parts_under ls bs (one_of n ks)) < 2
    by true few = omega arith
    by false few = few

-- an item over one partition has no parts
one_part : (m : SelectMeant) (i : PlannedItem) (n : ℕ) (t : TableTree) → [] ≡ parts_in m i (in_partition n t)
one_part m i n (LeafTable node leaf) = refl
one_part m i n (LevelTable node level bounds kids) = by (follows m i level) (too_few i.leaves (parts_under i.leaves bounds (one_of n kids)) (one_under n i.leaves bounds kids))
  where
    by : (f : Bool) → [] ≡ if_whole i.leaves (parts_under i.leaves bounds (one_of n kids)) → [] ≡ (if f then if_whole i.leaves (parts_under i.leaves bounds (one_of n kids)) else [])
    by true none = none
    by false none = refl

-- ---- the only item

part_none : (m : SelectMeant) (i : PlannedItem) (part : Option ℕ) (t : TableTree) → is_some part ≡ true → [] ≡ parts_in m i (in_part part t)
part_none m i None t some = absurd (cc)
part_none m i (Some n) t some = one_part m i n t

whole_tree : (part : Option ℕ) (t : TableTree) → is_some part ≡ false → t ≡ in_part part t
whole_tree None t none = refl
whole_tree (Some n) t none = absurd (cc)

module _ {X Y : Type 0} (f : X → Y) (m : SelectMeant) (pairs : Option X) (is : List PlanItem) (i : PlanItem) (unpaired : is_some pairs ≡ false) (one : length is ≡ 1) (at : i ≡ get_or is 0 i) where
  only : parts_in m (planned_item i) (in_part i.part (seen i.tree.now)) ≡ only_parts m (unless_paired (option_map f pairs) (map planned_item is))
  only = by pairs is unpaired one at
    where
      by : (ps : Option X) (js : List PlanItem) → is_some ps ≡ false → length js ≡ 1 → i ≡ get_or js 0 i → parts_in m (planned_item i) (in_part i.part (seen i.tree.now)) ≡ only_parts m (unless_paired (option_map f ps) (map planned_item js))
      by (Some p) js none long first = absurd (cc)
      by None [] none long first = absurd (omega (arith, long))
      by None (x ∷ []) none long first = ap (λ (j : PlanItem). parts_in m (planned_item j) (in_part j.part (seen j.tree.now))) first
      by None (x ∷ y ∷ js) none long first = absurd (omega (arith, long))

  pub only_whole : is_some i.part ≡ false → parts_in m (planned_item i) (seen i.tree.now) ≡ only_parts m (unless_paired (option_map f pairs) (map planned_item is))
  only_whole whole = ap (parts_in m (planned_item i)) (whole_tree i.part (seen i.tree.now) whole) ∙ only

  pub only_part : is_some i.part ≡ true → [] ≡ only_parts m (unless_paired (option_map f pairs) (map planned_item is))
  only_part some = part_none m (planned_item i) i.part (seen i.tree.now) some ∙ only
