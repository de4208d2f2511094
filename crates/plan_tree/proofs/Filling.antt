-- What a loop over the children of a level puts behind a list that has room for it.
use Rattle.std.proofs.Common.{◌≡◌, ℕ, zero, suc, ◌+◌, ◌-◌, ◌<◌, ◌≤◌, arith, inl, inr, Bool, true, false, if◌then◌else◌, List, [], ◌∷◌, ◌++◌, length, drop, get_or, refl, sym, ap, subst, ◌∙◌, append-nil}
use Rattle.std.specs.List.{slice_index_or}
use Rattle.std.proofs.lemmas.Bool.{cases_lt}
use Rattle.std.proofs.lemmas.List.{length-append}
use Rattle.std.proofs.Math.ListN.{drop_of_length-le}
use Rattle.bound_forms.specs.declared.level.Level.{Level}
use Rattle.bound_forms.specs.declared.partition_bound.Bound.{Bound}
use Rattle.bound_forms.specs.declared.partition_bound.Bound.TheVariants.{Default}
use Rattle.row_router.specs.declared.tree.Tree.{Tree}
use Rattle.row_router.specs.declared.tree.TreeList.{TreeList}
use Rattle.row_router.specs.declared.tree.Shape.{Level as ShapeLevel}
use Rattle.row_router.specs.Seen.{seen, items_of}
use Rattle.row_router.proofs.Seen.{seen_level}
use Rattle.row_router.specs.Trees.{TableTree, LevelTable, count}
use Rattle.cond_logic.specs.Tables.{Leaf}
use Rattle.prune_steps.specs.Bits.{bit, NoneIn, FirstFrom}
use Rattle.plan_tree.specs.Kept.{Keeps, AreKept, kept_leaves, leaves_below, leaves_among}
use Rattle.plan_tree.specs.Parts.{in_partition}
use Rattle.plan_tree.specs.Prunable.{CanPrune, AllCanPrune}
use Rattle.plan_tree.proofs.OnePart.{part_leaves}
use Rattle.plan_tree.proofs.Pushing.{kids, count_kids, leaves_step, leaves_kept, leaves_out, child_can, rest_can, bounds_of, test_of, child_there}

-- before a child: what stands in the list, with that of the children from this one on, is all; and there is as much room as there was
pub record Listing (keeps : Keeps) (tree : TableTree) (items : List Tree) (set : List ℕ) (k : ℕ) (now old : List Leaf) (room_now room : ℕ) : Type 0 where
  pub leaves : now ++ leaves_among keeps (test_of keeps tree) (drop k (bounds_of tree)) (kids (drop k items)) ≡ old ++ leaves_below keeps tree
  pub can : AllCanPrune (kids (drop k items))
  pub few : length (bounds_of tree) ≤ 1024
  pub paired : length (bounds_of tree) ≡ length items
  pub kept : AreKept set (test_of keeps tree) (bounds_of tree)
  pub fits : length old + length (leaves_below keeps tree) ≤ room
  pub grows : room ≤ room_now

pub begins : (keeps : Keeps) (t : Tree) (level : Level) (bounds : List Bound) (children : TreeList) (set : List ℕ) (leaves : List Leaf) (room : ℕ) → t.shape ≡ ShapeLevel level bounds children
    → CanPrune (seen t) → AreKept set (keeps level bounds) bounds → length leaves + length (leaves_below keeps (seen t)) ≤ room → Listing keeps (seen t) (items_of children) set 0 leaves leaves room room
begins keeps t level bounds children set leaves room is can agree fit =
    let s = seen_level t level bounds children is in
    let whole : CanPrune (LevelTable t.node level bounds (kids (items_of children))) = subst CanPrune s can in
    let count_is = count_kids (items_of children) in
    let pairs : length bounds ≡ count (kids (items_of children)) = whole.0 in
    subst (λ x. Listing keeps x (items_of children) set 0 leaves leaves room room) (sym s) (record {
      leaves = refl;
      can = whole.3;
      few = whole.1;
      paired = pairs ∙ count_is;
      kept = agree;
      fits = subst (λ x. length leaves + length (leaves_below keeps x) ≤ room) s fit;
      grows = omega arith;
    })

module _ (keeps : Keeps) (tree : TableTree) (items : List Tree) (set : List ℕ) (old : List Leaf) (room : ℕ) where
  module _ (k : ℕ) (child : Tree) (now : List Leaf) (room_now : ℕ) (lt : k < length items) (is : child ≡ get_or items k child) (going : Listing keeps tree items set k now old room_now room) where
    in_bounds : k < length (bounds_of tree)
    in_bounds = let same = going.paired in omega (arith, same, lt)

    goes_on : (next : List Leaf) (room_next : ℕ) → bit set k ≡ true → next ≡ now ++ leaves_below keeps (seen child) → room_now ≤ room_next → Listing keeps tree items set (k + 1) next old room_next room
    goes_on next room_next in_it more no_less = record {
      leaves = leaves_kept keeps (test_of keeps tree) (bounds_of tree) items k child in_bounds lt is now next (old ++ leaves_below keeps tree) (sym (going.kept k in_bounds) ∙ in_it) more going.leaves;
      can = rest_can keeps (test_of keeps tree) (bounds_of tree) items k child in_bounds lt is going.can;
      few = going.few;
      paired = going.paired;
      kept = going.kept;
      fits = going.fits;
      grows = let before = going.grows in omega (arith, before, no_less);
    }

    passes_over : bit set k ≡ false → Listing keeps tree items set (k + 1) now old room_now room
    passes_over out = record {
      leaves = leaves_out keeps (test_of keeps tree) (bounds_of tree) items k child in_bounds lt is now (old ++ leaves_below keeps tree) (sym (going.kept k in_bounds) ∙ out) going.leaves;
      can = rest_can keeps (test_of keeps tree) (bounds_of tree) items k child in_bounds lt is going.can;
      few = going.few;
      paired = going.paired;
      kept = going.kept;
      fits = going.fits;
      grows = going.grows;
    }

    child_prunes : CanPrune (seen child)
    child_prunes = child_can keeps (test_of keeps tree) (bounds_of tree) items k child in_bounds lt is going.can

    -- the list has room for the leaves of a child that is kept
    child_fits : bit set k ≡ true → length now + length (leaves_below keeps (seen child)) ≤ room_now
    child_fits in_it =
        let yes : test_of keeps tree (slice_index_or (bounds_of tree) k Default) ≡ true = sym (going.kept k in_bounds) ∙ in_it in
        let own = leaves_below keeps (seen child) in
        let rest = leaves_among keeps (test_of keeps tree) (drop (k + 1) (bounds_of tree)) (kids (drop (k + 1) items)) in
        let step : leaves_among keeps (test_of keeps tree) (drop k (bounds_of tree)) (kids (drop k items)) ≡ own ++ rest =
        leaves_step keeps (test_of keeps tree) (bounds_of tree) items k child in_bounds lt is ∙ ap (λ (b : Bool). (if b then own else []) ++ rest) yes in
        let all : now ++ (own ++ rest) ≡ old ++ leaves_below keeps tree = ap (λ l. now ++ l) (sym step) ∙ going.leaves in
        let n = length-append now (own ++ rest) in
        let m = length-append own rest in
        let o = length-append old (leaves_below keeps tree) in
        let same = ap (length {A = Leaf}) all in
        let fit = going.fits in
        let no_less = going.grows in
        omega (arith, n, m, o, same, fit, no_less)

  -- behind the last child
  ends : (k : ℕ) (now : List Leaf) (room_now : ℕ) → length items ≤ k → Listing keeps tree items set k now old room_now room → now ≡ old ++ leaves_below keeps tree
  ends k now room_now past going =
      let none : drop k items ≡ [] = drop_of_length-le items past in
      sym (append-nil now) ∙ subst (λ xs. now ++ leaves_among keeps (test_of keeps tree) (drop k (bounds_of tree)) (kids xs) ≡ old ++ leaves_below keeps tree) none going.leaves

  module _ (now : List Leaf) (room_now : ℕ) where
    -- children of which none is kept are passed over
    passes_all : (n from : ℕ) → from + n ≤ length items → NoneIn set from (from + n) → Listing keeps tree items set from now old room_now room → Listing keeps tree items set (from + n) now old room_now room
    passes_all zero from le none going = subst (λ k. Listing keeps tree items set k now old room_now room) (omega arith) going
    passes_all (suc n) from le none going =
        let lt : from < length items = omega (arith, le) in
        let child = child_there items from lt in
        let next = passes_over from child.0 now room_now lt child.1 going (none from (omega arith) (omega arith)) in
        subst (λ k. Listing keeps tree items set k now old room_now room) (omega arith)
        (passes_all n (from + 1) (omega (arith, le)) (λ k low high. none k (omega (arith, low)) (omega (arith, high))) next)

    module _ (from : ℕ) (going : Listing keeps tree items set from now old room_now room) where
      passes_to : (k : ℕ) → from ≤ k → k ≤ length items → NoneIn set from k → Listing keeps tree items set k now old room_now room
      passes_to k low high none =
          let same : from + (k - from) ≡ k = omega (arith, low) in
          subst (λ j. Listing keeps tree items set j now old room_now room) same
          (passes_all (k - from) from (omega (arith, low, high)) (λ j le lt. none j le (omega (arith, low, lt))) going)

      -- the next that is kept
      module _ (k : ℕ) (child : Tree) (first : FirstFrom set from k) (lt : k < length items) (is : child ≡ get_or items k child) where
        there : Listing keeps tree items set k now old room_now room
        there = passes_to k first.behind (omega (arith, lt)) first.none_before

        pub next_prunes : CanPrune (seen child)
        next_prunes = child_prunes k child now room_now lt is there

        pub next_fits : length now + length (leaves_below keeps (seen child)) ≤ room_now
        next_fits = child_fits k child now room_now lt is there first.in_set

        pub next_listed : (next : List Leaf) (room_next : ℕ) → next ≡ now ++ leaves_below keeps (seen child) → room_now ≤ room_next → Listing keeps tree items set (k + 1) next old room_next room
        next_listed next room_next more no_less = goes_on k child now room_now lt is there next room_next first.in_set more no_less

      -- none is kept up to a number behind the last
      pub none_behind : (to : ℕ) → length items ≤ to → NoneIn set from to → now ≡ old ++ leaves_below keeps tree
      none_behind to past none =
          elim (cases_lt from (length items)) [
            | inl low ↦
                ends (length items) now room_now (omega arith)
                (passes_to (length items) (omega (arith, low)) (omega arith) (λ k le lt. none k le (omega (arith, past, lt))))
            | inr high ↦ ends from now room_now high going
          ]

      pub none_more : NoneIn set from 1024 → now ≡ old ++ leaves_below keeps tree
      none_more none = let few = going.few in let same = going.paired in none_behind 1024 (omega (arith, few, same)) none

-- ---- a partition

module _ (t : Tree) (level : Level) (bounds : List Bound) (children : TreeList) (is : t.shape ≡ ShapeLevel level bounds children) (n : ℕ) (keeps : Keeps) where
  -- of one that is kept
  pub part_kept : (child : Tree) → length bounds ≡ length (items_of children) → n < length (items_of children) → child ≡ get_or (items_of children) n child → keeps level bounds (slice_index_or bounds n Default) ≡ true
      → kept_leaves keeps (in_partition n (seen t)) ≡ leaves_below keeps (seen child)
  part_kept child same lt at kept = part_leaves t level bounds children is n keeps child true same lt at kept

  pub part_left_out : length bounds ≡ length (items_of children) → n < length (items_of children) → keeps level bounds (slice_index_or bounds n Default) ≡ false → kept_leaves keeps (in_partition n (seen t)) ≡ []
  part_left_out same lt kept = let child = child_there (items_of children) n lt in part_leaves t level bounds children is n keeps child.0 false same lt child.1 kept
