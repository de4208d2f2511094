-- A table is what its partitions are, one after the other.
use Rattle.std.proofs.Common.{◌≡◌, ℕ, zero, suc, ◌+◌, ◌<◌, arith, Bool, true, false, List, [], ◌∷◌, ◌++◌, map, length, refl, sym, ap, subst, ◌∙◌, append-nil}
use Rattle.std.specs.Prelude.{max, ◌==◌, slice_index_or}
use Rattle.std.specs.List.{All, Contains, flat_map}
use Rattle.std.proofs.lemmas.Bool.Decides.{nat_tests}
use Rattle.std.proofs.lemmas.List.Elements.{All-append, All-cons, All-head, All-nil, All-tail, Contains-append_left, Contains-append_right}
use Rattle.pg_values.specs.declared.value.Value.{Value}
use Rattle.pg_values.specs.declared.ids.LeafId.{LeafId}
use Rattle.bound_forms.specs.declared.partition_bound.Bound.{Bound}
use Rattle.bound_forms.specs.Accepts.{accepts_among}
use Rattle.bound_forms.specs.Levels.{IsOfLevel}
use Rattle.row_router.specs.Trees.{TableTree, LeafTable, LevelTable, Trees, End, More, count, key_of, leaves, all_leaves}
use Rattle.soundness.proofs.Listed.{none_in}
use Rattle.cond_logic.specs.Tables.{Leaf}
use Rattle.plan_tree.specs.Kept.{named_leaves, all_named_leaves, no_keys}
use Rattle.plan_tree.specs.Laws.{Rows, LieRight, AllLieRight}
use Rattle.plan_tree.specs.Parts.{all_emptied, one_of, in_partition, numbers_from, partitions, parts_of}
use Rattle.plan_tree.specs.Prunable.{CanPrune, AllCanPrune}

-- ---- what is emptied has nothing

none_named : (ks : Trees) → all_named_leaves (all_emptied ks) ≡ []
none_named End = refl
none_named (More k ks) = none_named ks

none_listed : (ks : Trees) → all_leaves (all_emptied ks) ≡ []
none_listed End = refl
none_listed (More k ks) = none_listed ks

emptied_counted : (ks : Trees) → count (all_emptied ks) ≡ count ks
emptied_counted End = refl
emptied_counted (More k ks) = ap (λ n. n + 1) (emptied_counted ks)

-- no partition is gone
pub one_counted : (n : ℕ) (ks : Trees) → count (one_of n ks) ≡ count ks
one_counted n End = refl
one_counted zero (More k ks) = ap (λ n. n + 1) (emptied_counted ks)
one_counted (suc n) (More k ks) = ap (λ n. n + 1) (one_counted n ks)

pub parts_same : (n : ℕ) (tree : TableTree) → parts_of (in_partition n tree) ≡ parts_of tree
parts_same n (LeafTable node leaf) = refl
parts_same n (LevelTable node level bounds kids) = ap (λ m. max 1 m) (one_counted n kids)

-- as many partitions have the same numbers
pub numbers_same : (n : ℕ) (ks js : Trees) → count ks ≡ count js → numbers_from n ks ≡ numbers_from n js
numbers_same n End End h = refl
numbers_same n End (More j js) h = absurd (omega (arith, h))
numbers_same n (More k ks) End h = absurd (omega (arith, h))
numbers_same n (More k ks) (More j js) h = ap (λ l. n ∷ l) (numbers_same (suc n) ks js (omega (arith, h)))

-- ---- the leaves

flat_mapped : {X Y Z : Type 0} (f : X → Y) (g : Y → List Z) (xs : List X) → flat_map g (map f xs) ≡ flat_map (λ x. g (f x)) xs
flat_mapped f g [] = refl
flat_mapped f g (x ∷ xs) = ap (λ l. g (f x) ++ l) (flat_mapped f g xs)

-- the numbers of the later ones
pub numbers_later : (n : ℕ) (ks : Trees) → numbers_from (suc n) ks ≡ map suc (numbers_from n ks)
numbers_later n End = refl
numbers_later n (More k ks) = ap (λ l. suc n ∷ l) (numbers_later (suc n) ks)

pub each_named : (ks : Trees) → flat_map (λ n. all_named_leaves (one_of n ks)) (numbers_from 0 ks) ≡ all_named_leaves ks
each_named End = refl
each_named (More k ks) =
    let first : named_leaves k ++ all_named_leaves (all_emptied ks) ≡ named_leaves k = ap (λ l. named_leaves k ++ l) (none_named ks) ∙ append-nil (named_leaves k) in
    let later : flat_map (λ n. all_named_leaves (one_of n (More k ks))) (numbers_from 1 ks) ≡ all_named_leaves ks =
    ap (flat_map (λ n. all_named_leaves (one_of n (More k ks)))) (numbers_later 0 ks)
    ∙ flat_mapped suc (λ n. all_named_leaves (one_of n (More k ks))) (numbers_from 0 ks)
    ∙ each_named ks in
    rw (first, later) refl

-- the leaves of a partitioned table are those of its partitions in order
pub partitions_named : (tree : TableTree) → (0 < length (partitions tree)) → flat_map (λ n. named_leaves (in_partition n tree)) (partitions tree) ≡ named_leaves tree
partitions_named (LeafTable node leaf) some = absurd (omega (arith, some))
partitions_named (LevelTable node level bounds kids) some = each_named kids

-- ---- what holds of the tree holds of it with one partition

all_prune : (ks : Trees) → AllCanPrune (all_emptied ks)
all_prune End = tt
all_prune (More k ks) = ((refl, omega arith, All-nil (IsOfLevel no_keys), tt), all_prune ks)

one_prunes : (n : ℕ) (ks : Trees) → AllCanPrune ks → AllCanPrune (one_of n ks)
one_prunes n End can = tt
one_prunes zero (More k ks) can = (can.0, all_prune ks)
one_prunes (suc n) (More k ks) can = ((all_prune (More k End)).0, one_prunes n ks can.1)

pub partition_prunes : (n : ℕ) (tree : TableTree) → CanPrune tree → CanPrune (in_partition n tree)
partition_prunes n (LeafTable node leaf) can = tt
partition_prunes n (LevelTable node level bounds kids) can = (can.0 ∙ sym (one_counted n kids), can.1, can.2, one_prunes n kids can.3)

-- its leaves are some of the tree's
module _ (P : LeafId → Type 0) where
  none_within : (ks : Trees) → All P (all_leaves (all_emptied ks))
  none_within ks = subst (All P) (sym (none_listed ks)) (All-nil P)

  one_within : (n : ℕ) (ks : Trees) → All P (all_leaves ks) → All P (all_leaves (one_of n ks))
  one_within n End all = All-nil P
  one_within zero (More k ks) all = All-append P (leaves k) (all_leaves (all_emptied ks)) (front (leaves k) (all_leaves ks) all) (none_within ks)
    where
      front : (xs ys : List LeafId) → All P (xs ++ ys) → All P xs
      front [] ys h = All-nil P
      front (x ∷ xs) ys h = All-cons P x xs (All-head P x (xs ++ ys) h) (front xs ys (All-tail P x (xs ++ ys) h))
  one_within (suc n) (More k ks) all = one_within n ks (back (leaves k) (all_leaves ks) all)
    where
      back : (xs ys : List LeafId) → All P (xs ++ ys) → All P ys
      back [] ys h = h
      back (x ∷ xs) ys h = back xs ys (All-tail P x (xs ++ ys) h)

  pub partition_within : (n : ℕ) (tree : TableTree) → All P (leaves tree) → All P (leaves (in_partition n tree))
  partition_within n (LeafTable node leaf) all = all
  partition_within n (LevelTable node level bounds kids) all = one_within n kids all

module _ (rows : Rows) where
  all_lie : (test : List Value → Bound → Bool) (bs : List Bound) (ks : Trees) → AllLieRight rows test bs (all_emptied ks)
  all_lie test bs End = tt
  all_lie test [] (More k ks) = tt
  all_lie test (b ∷ bs) (More k ks) = (λ leaf at. absurd (none_in leaf at), tt, all_lie test bs ks)

  one_lies : (test : List Value → Bound → Bool) (n : ℕ) (bs : List Bound) (ks : Trees) → AllLieRight rows test bs ks → AllLieRight rows test bs (one_of n ks)
  one_lies test n bs End lie = tt
  one_lies test zero [] (More k ks) lie = tt
  one_lies test (suc n) [] (More k ks) lie = tt
  one_lies test zero (b ∷ bs) (More k ks) lie = (lie.0, lie.1, all_lie test bs ks)
  one_lies test (suc n) (b ∷ bs) (More k ks) lie = ((all_lie test (b ∷ bs) (More k End)).0, tt, one_lies test n bs ks lie.2)

  pub partition_lies : (n : ℕ) (tree : TableTree) → LieRight rows tree → LieRight rows (in_partition n tree)
  partition_lies n (LeafTable node leaf) lie = tt
  partition_lies n (LevelTable node level bounds kids) lie = one_lies (λ row. accepts_among bounds (key_of level row)) n bounds kids lie

-- ---- the rows of a partition

abbrev pub Each : {X : Type 0} → (X → Type 0) → List X → Type 0
Each P [] = Unit {0}
Each P (x ∷ xs) = P x × Each P xs

each_append : {X : Type 0} (P : X → Type 0) (xs ys : List X) → Each P xs → Each P ys → Each P (xs ++ ys)
each_append P [] ys a b = b
each_append P (x ∷ xs) ys a b = (a.0, each_append P xs ys a.1 b)

module _ (P : LeafId → Type 0) where
  abbrev Named : List Leaf → Type 0
  Named ls = Each (λ l. P l.id) ls

  mutual
    -- what holds of the leaves holds of them by their names
    each_leaf : (tree : TableTree) → ((leaf : LeafId) → Contains (leaves tree) leaf → P leaf) → Named (named_leaves tree)
    each_leaf (LeafTable node leaf) h = (h leaf (0, omega arith, refl), tt)
    each_leaf (LevelTable node level bounds kids) h = each_kid kids h

    each_kid : (kids : Trees) → ((leaf : LeafId) → Contains (all_leaves kids) leaf → P leaf) → Named (all_named_leaves kids)
    each_kid End h = tt
    each_kid (More k ks) h =
        each_append (λ (l : Leaf). P l.id) (named_leaves k) (all_named_leaves ks)
        (each_leaf k (λ leaf at. h leaf (Contains-append_left (leaves k) (all_leaves ks) leaf at)))
        (each_kid ks (λ leaf at. h leaf (Contains-append_right (leaves k) (all_leaves ks) leaf at)))

module _ (rows : Rows) (test : List Value → Bound → Bool) (d : Bound) where
  -- each row of the leaves of a partition is accepted by its bound
  abbrev Accepted : ℕ → List Bound → List Leaf → Type 0
  Accepted n bs ls = Each (λ l. All (λ row. test row (slice_index_or bs n d) ≡ true) (rows l.id.number)) ls

  pub lie_at : (n : ℕ) (bs : List Bound) (ks : Trees) → length bs ≡ count ks → AllLieRight rows test bs ks → Accepted n bs (all_named_leaves (one_of n ks))
  lie_at n bs End many lie = tt
  lie_at n [] (More k ks) many lie = absurd (omega (arith, many))
  lie_at zero (b ∷ bs) (More k ks) many lie =
      each_append (λ (l : Leaf). All (λ row. test row b ≡ true) (rows l.id.number)) (named_leaves k) (all_named_leaves (all_emptied ks))
      (each_leaf (λ leaf. All (λ row. test row b ≡ true) (rows leaf.number)) k lie.0) (subst (Accepted zero (b ∷ bs)) (sym (none_named ks)) tt)
  lie_at (suc n) (b ∷ bs) (More k ks) many lie = lie_at n bs ks (omega (arith, many)) lie.2

-- ---- numbers of partitions

-- where none of the partitions gives anything nothing is given
none_gives : {X : Type 0} (f : ℕ → List X) (ks : Trees) → ((b : ℕ) → b < count ks → f b ≡ []) → flat_map f (numbers_from 0 ks) ≡ []
none_gives f End none = refl
none_gives f (More k ks) none =
    let first : f 0 ≡ [] = none 0 (omega arith) in
    let later : flat_map f (numbers_from 1 ks) ≡ [] =
    ap (flat_map f) (numbers_later 0 ks) ∙ flat_mapped suc f (numbers_from 0 ks) ∙ none_gives (λ b. f (suc b)) ks (λ b lt. none (suc b) (omega (arith, lt))) in
    rw (first, later) refl

-- and where one alone does, that is given
pub one_gives : {X : Type 0} (f : ℕ → List X) (ks : Trees) (a : ℕ) → a < count ks → ((b : ℕ) → b < count ks → (a == b) ≡ false → f b ≡ []) → flat_map f (numbers_from 0 ks) ≡ f a
one_gives f End a lt none = absurd (omega (arith, lt))
one_gives f (More k ks) zero lt none =
    let later : flat_map f (numbers_from 1 ks) ≡ [] =
    ap (flat_map f) (numbers_later 0 ks) ∙ flat_mapped suc f (numbers_from 0 ks) ∙ none_gives (λ b. f (suc b)) ks (λ b below. none (suc b) (omega (arith, below)) (grind (arith, nat_tests))) in
    ap (λ l. f 0 ++ l) later ∙ append-nil (f 0)
one_gives f (More k ks) (suc a) lt none =
    let first : f 0 ≡ [] = none 0 (omega arith) (grind (arith, nat_tests)) in
    let later : flat_map f (numbers_from 1 ks) ≡ f (suc a) =
    ap (flat_map f) (numbers_later 0 ks) ∙ flat_mapped suc f (numbers_from 0 ks)
    ∙ one_gives (λ b. f (suc b)) ks a (omega (arith, lt)) (λ b below apart. none (suc b) (omega (arith, below)) (grind (arith, nat_tests, apart))) in
    rw (first) later

-- each number of a list of them is one of a partition
pub numbers_below : (n : ℕ) (ks : Trees) → All (λ b. b < n + count ks) (numbers_from n ks)
numbers_below n End = All-nil (λ b. b < n + 0)
numbers_below n (More k ks) =
    All-cons (λ b. b < n + (count ks + 1)) n (numbers_from (suc n) ks) (omega arith) (All-map-of (numbers_below (suc n) ks))
  where
    All-map-of : All (λ b. b < suc n + count ks) (numbers_from (suc n) ks) → All (λ b. b < n + (count ks + 1)) (numbers_from (suc n) ks)
    All-map-of all k d lt = let small = all k d lt in omega (arith, small)
