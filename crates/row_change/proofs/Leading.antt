-- The way of a row leads to its leaf.
use Rattle.std.proofs.Common.{◌≡◌, ℕ, zero, suc, ◌==◌, arith, ap, refl, subst, ◌∙◌, true, false, List, [], ◌∷◌, ◌++◌, ◌⊎◌, inl, inr, Option, Some, None, Ok}
use Rattle.std.specs.Prelude.{◌≢◌}
use Rattle.std.specs.List.{All, AllPairs}
use Rattle.std.proofs.lemmas.Bool.Decides.{nat_tests}
use Rattle.std.proofs.lemmas.List.Elements.{All-head, All-tail}
use Rattle.pg_values.specs.declared.value.Value.{Value}
use Rattle.pg_values.specs.declared.ids.LeafId.{LeafId}
use Rattle.pg_values.specs.declared.ids.TableNo.{TableNo}
use Rattle.row_router.specs.Trees.{TableTree, LeafTable, LevelTable, Trees, End, More, leaves, all_leaves, child_of, routed, routed_in}
use Rattle.row_change.specs.Laws.{WaysLeadToLeaves}
use Rattle.row_change.specs.Ways.{root, way_below, way_among, way_to, way_to_one, first_way}

-- ---- leaves of which no two are one

abbrev Apart : LeafId → LeafId → Type 0
Apart a b = a.number ≢ b.number

abbrev Each : (LeafId → Type 0) → List LeafId → Type 0
Each P [] = Unit {0}
Each P (l ∷ ls) = P l × Each P ls

abbrev Distinct : List LeafId → Type 0
Distinct [] = Unit {0}
Distinct (l ∷ ls) = Each (Apart l) ls × Distinct ls

abbrev In : LeafId → List LeafId → Type 0
In leaf [] = ⊥
In leaf (l ∷ ls) = (l ≡ leaf) ⊎ In leaf ls

each_of : (P : LeafId → Type 0) (ls : List LeafId) → All P ls → Each P ls
each_of P [] all = tt
each_of P (l ∷ ls) all = (All-head P l ls all, each_of P ls (All-tail P l ls all))

pairs_head : (l : LeafId) (ls : List LeafId) → AllPairs Apart (l ∷ ls) → All (Apart l) ls
pairs_head l ls h i d lt = h 0 (suc i) d (omega arith) (omega arith)

pairs_tail : (l : LeafId) (ls : List LeafId) → AllPairs Apart (l ∷ ls) → AllPairs Apart ls
pairs_tail l ls h i j d lt le = h (suc i) (suc j) d (omega arith) (omega arith)

distinct_of : (ls : List LeafId) → AllPairs Apart ls → Distinct ls
distinct_of [] h = tt
distinct_of (l ∷ ls) h = (each_of (Apart l) ls (pairs_head l ls h), distinct_of ls (pairs_tail l ls h))

each_parts : (P : LeafId → Type 0) (ls ms : List LeafId) → Each P (ls ++ ms) → Each P ls × Each P ms
each_parts P [] ms h = (tt, h)
each_parts P (l ∷ ls) ms h = let rest = each_parts P ls ms h.1 in ((h.0, rest.0), rest.1)

left_distinct : (ls ms : List LeafId) → Distinct (ls ++ ms) → Distinct ls
left_distinct [] ms h = tt
left_distinct (l ∷ ls) ms h = ((each_parts (Apart l) ls ms h.0).0, left_distinct ls ms h.1)

right_distinct : (ls ms : List LeafId) → Distinct (ls ++ ms) → Distinct ms
right_distinct [] ms h = h
right_distinct (l ∷ ls) ms h = right_distinct ls ms h.1

each_in : (P : LeafId → Type 0) (ls : List LeafId) (leaf : LeafId) → Each P ls → In leaf ls → P leaf
each_in P [] leaf all at = absurd at
each_in P (l ∷ ls) leaf all (inl here) = subst P here all.0
each_in P (l ∷ ls) leaf all (inr later) = each_in P ls leaf all.1 later

-- one of the right is none of the left
apart_left : (ls ms : List LeafId) (leaf : LeafId) → Distinct (ls ++ ms) → In leaf ms → Each (λ l. Apart l leaf) ls
apart_left [] ms leaf h at = tt
apart_left (l ∷ ls) ms leaf h at = (each_in (Apart l) ms leaf (each_parts (Apart l) ls ms h.0).1 at, apart_left ls ms leaf h.1 at)

in_left : (ls ms : List LeafId) (leaf : LeafId) → In leaf ls → In leaf (ls ++ ms)
in_left [] ms leaf at = absurd at
in_left (l ∷ ls) ms leaf (inl here) = inl here
in_left (l ∷ ls) ms leaf (inr later) = inr (in_left ls ms leaf later)

in_right : (ls ms : List LeafId) (leaf : LeafId) → In leaf ms → In leaf (ls ++ ms)
in_right [] ms leaf at = at
in_right (l ∷ ls) ms leaf at = inr (in_right ls ms leaf at)

-- ---- ways

-- no way leads to a leaf that no table has
mutual
  no_way : (leaf : LeafId) (t : TableTree) → Each (λ l. Apart l leaf) (leaves t) → way_to leaf t ≡ None
  no_way leaf (LeafTable node own) apart = let other : (own.number == leaf.number) ≡ false = grind (arith, nat_tests, apart.0) in rw other refl
  no_way leaf (LevelTable node level bounds kids) apart = no_way_to_one leaf kids apart

  no_way_to_one : (leaf : LeafId) (kids : Trees) → Each (λ l. Apart l leaf) (all_leaves kids) → way_to_one leaf kids ≡ None
  no_way_to_one leaf End apart = refl
  no_way_to_one leaf (More k ks) apart =
      let parts = each_parts (λ l. Apart l leaf) (leaves k) (all_leaves ks) apart in
      ap (λ w. first_way (root k) w (way_to_one leaf ks)) (no_way leaf k parts.0) ∙ no_way_to_one leaf ks parts.1

-- the leaf of a row is one of the tree
mutual
  in_tree : (row : List Value) (t : TableTree) (leaf : LeafId) → routed row t ≡ Ok leaf → In leaf (leaves t)
  in_tree row (LeafTable node own) leaf is = inl (cc)
  in_tree row (LevelTable node level bounds kids) leaf is = in_kids row node.table (child_of level bounds row) kids leaf is

  in_kids : (row : List Value) (table : TableNo) (at : Option ℕ) (kids : Trees) (leaf : LeafId) → routed_in row table at kids ≡ Ok leaf → In leaf (all_leaves kids)
  in_kids row table None kids leaf is = absurd (cc)
  in_kids row table (Some i) End leaf is = absurd (cc)
  in_kids row table (Some zero) (More k ks) leaf is = in_left (leaves k) (all_leaves ks) leaf (in_tree row k leaf is)
  in_kids row table (Some (suc i)) (More k ks) leaf is = in_right (leaves k) (all_leaves ks) leaf (in_kids row table (Some i) ks leaf is)

mutual
  leads : (row : List Value) (t : TableTree) (leaf : LeafId) → Distinct (leaves t) → routed row t ≡ Ok leaf → way_to leaf t ≡ Some (way_below row t)
  leads row (LeafTable node own) leaf distinct is =
      let same : own ≡ leaf = cc in
      let number : own.number ≡ leaf.number = ap (λ (l : LeafId). l.number) same in
      let test : (own.number == leaf.number) ≡ true = grind (arith, nat_tests, number) in
      rw test refl
  leads row (LevelTable node level bounds kids) leaf distinct is = leads_among row node.table (child_of level bounds row) kids leaf distinct is

  leads_among : (row : List Value) (table : TableNo) (at : Option ℕ) (kids : Trees) (leaf : LeafId) → Distinct (all_leaves kids) → routed_in row table at kids ≡ Ok leaf → way_to_one leaf kids ≡ Some (way_among row at kids)
  leads_among row table None kids leaf distinct is = absurd (cc)
  leads_among row table (Some i) End leaf distinct is = absurd (cc)
  leads_among row table (Some zero) (More k ks) leaf distinct is =
      ap (λ w. first_way (root k) w (way_to_one leaf ks)) (leads row k leaf (left_distinct (leaves k) (all_leaves ks) distinct) is)
  leads_among row table (Some (suc i)) (More k ks) leaf distinct is =
      let none = no_way leaf k (apart_left (leaves k) (all_leaves ks) leaf distinct (in_kids row table (Some i) ks leaf is)) in
      ap (λ w. first_way (root k) w (way_to_one leaf ks)) none ∙ leads_among row table (Some i) ks leaf (right_distinct (leaves k) (all_leaves ks) distinct) is

pub ways_lead : WaysLeadToLeaves
ways_lead row t leaf apart is = leads row t leaf (distinct_of (leaves t) apart) is
