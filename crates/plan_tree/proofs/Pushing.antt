-- What a loop over the children of a level puts behind its lists.
use Rattle.std.proofs.Common.{◌≡◌, ℕ, zero, suc, ◌+◌, ◌-◌, ◌<◌, ◌≤◌, arith, inl, inr, Bool, true, false, if◌then◌else◌, List, [], ◌∷◌, ◌++◌, length, map, drop, get_or, refl, sym, ap, subst, ◌∙◌, append_assoc, append-nil}
use Rattle.std.specs.List.{All, slice_index_or}
use Rattle.std.proofs.lemmas.Bool.{cases_lt}
use Rattle.std.proofs.lemmas.List.{drop_more, length-append}
use Rattle.std.proofs.Math.ListN.{drop_of_length-le}
use Rattle.pg_values.specs.declared.ids.TableNo.{TableNo}
use Rattle.bound_forms.specs.declared.level.Level.{Level}
use Rattle.bound_forms.specs.Levels.{IsOfLevel}
use Rattle.bound_forms.specs.declared.partition_bound.Bound.{Bound}
use Rattle.bound_forms.specs.declared.partition_bound.Bound.TheVariants.{Default}
use Rattle.row_router.specs.declared.tree.Tree.{Tree}
use Rattle.row_router.specs.declared.tree.TreeList.{TreeList}
use Rattle.row_router.specs.declared.tree.Shape.{Level as ShapeLevel}
use Rattle.row_router.specs.Seen.{seen, items_of}
use Rattle.row_router.proofs.Seen.{seen_level}
use Rattle.row_router.specs.Trees.{TableTree, LeafTable, LevelTable, Trees, trees_of, count, height, heights}
use Rattle.cond_logic.specs.Tables.{Leaf}
use Rattle.prune_steps.specs.Bits.{bit, NoneIn, FirstFrom}
use Rattle.plan_tree.specs.Kept.{Keeps, AreKept, led, leaves_below, leaves_among, kept_tables, tables_among, node_of}
use Rattle.plan_tree.specs.Prunable.{CanPrune, AllCanPrune}

abbrev pub kids : List Tree → Trees
kids items = trees_of (map seen items)

pub count_kids : (items : List Tree) → count (kids items) ≡ length items
count_kids [] = refl
count_kids (x ∷ xs) = let rest = count_kids xs in omega (arith, rest)

-- what is left begins with the child
left_bounds : (bounds : List Bound) (k : ℕ) → k < length bounds → drop k bounds ≡ slice_index_or bounds k Default ∷ drop (k + 1) bounds
left_bounds bounds k lt = drop_more bounds k Default lt

pub left_items : (items : List Tree) (k : ℕ) (child : Tree) → k < length items → child ≡ get_or items k child → drop k items ≡ child ∷ drop (k + 1) items
left_items items k child lt is = drop_more items k child lt ∙ ap (λ x. x ∷ drop (k + 1) items) (sym is)

module _ (keeps : Keeps) (test : Bound → Bool) (bounds : List Bound) (items : List Tree) (k : ℕ) (child : Tree) (in_bounds : k < length bounds) (in_items : k < length items) (is : child ≡ get_or items k child) where
  pub leaves_step : leaves_among keeps test (drop k bounds) (kids (drop k items)) ≡ (if test (slice_index_or bounds k Default) then leaves_below keeps (seen child) else []) ++ leaves_among keeps test (drop (k + 1) bounds) (kids (drop (k + 1) items))
  leaves_step = ap (λ bs. leaves_among keeps test bs (kids (drop k items))) (left_bounds bounds k in_bounds) ∙ ap (λ xs. leaves_among keeps test (slice_index_or bounds k Default ∷ drop (k + 1) bounds) (kids xs)) (left_items items k child in_items is)

  tables_step : tables_among keeps test (drop k bounds) (kids (drop k items))
      ≡ (if test (slice_index_or bounds k Default) then led (leaves_below keeps (seen child)) (node_of (seen child)).table (kept_tables keeps (seen child)) else []) ++ tables_among keeps test (drop (k + 1) bounds) (kids (drop (k + 1) items))
  tables_step = ap (λ bs. tables_among keeps test bs (kids (drop k items))) (left_bounds bounds k in_bounds) ∙ ap (λ xs. tables_among keeps test (slice_index_or bounds k Default ∷ drop (k + 1) bounds) (kids xs)) (left_items items k child in_items is)

  -- the child is kept, and its own come behind
  pub leaves_kept : (before now whole : List Leaf) → test (slice_index_or bounds k Default) ≡ true → now ≡ before ++ leaves_below keeps (seen child) → before ++ leaves_among keeps test (drop k bounds) (kids (drop k items)) ≡ whole
      → now ++ leaves_among keeps test (drop (k + 1) bounds) (kids (drop (k + 1) items)) ≡ whole
  leaves_kept before now whole in_it more told =
      let rest = leaves_among keeps test (drop (k + 1) bounds) (kids (drop (k + 1) items)) in
      ap (λ l. l ++ rest) more ∙ append_assoc before (leaves_below keeps (seen child)) rest
      ∙ ap (λ b. before ++ ((if b then leaves_below keeps (seen child) else []) ++ rest)) (sym in_it) ∙ ap (λ l. before ++ l) (sym leaves_step) ∙ told

  pub tables_kept : (before now whole : List TableNo) → test (slice_index_or bounds k Default) ≡ true → now ≡ before ++ led (leaves_below keeps (seen child)) (node_of (seen child)).table (kept_tables keeps (seen child))
      → before ++ tables_among keeps test (drop k bounds) (kids (drop k items)) ≡ whole → now ++ tables_among keeps test (drop (k + 1) bounds) (kids (drop (k + 1) items)) ≡ whole
  tables_kept before now whole in_it more told =
      let own = led (leaves_below keeps (seen child)) (node_of (seen child)).table (kept_tables keeps (seen child)) in
      let rest = tables_among keeps test (drop (k + 1) bounds) (kids (drop (k + 1) items)) in
      ap (λ l. l ++ rest) more ∙ append_assoc before own rest ∙ ap (λ b. before ++ ((if b then own else []) ++ rest)) (sym in_it) ∙ ap (λ l. before ++ l) (sym tables_step) ∙ told

  -- it is not kept
  pub leaves_out : (now whole : List Leaf) → test (slice_index_or bounds k Default) ≡ false → now ++ leaves_among keeps test (drop k bounds) (kids (drop k items)) ≡ whole
      → now ++ leaves_among keeps test (drop (k + 1) bounds) (kids (drop (k + 1) items)) ≡ whole
  leaves_out now whole out told =
      let rest = leaves_among keeps test (drop (k + 1) bounds) (kids (drop (k + 1) items)) in
      ap (λ b. now ++ ((if b then leaves_below keeps (seen child) else []) ++ rest)) (sym out) ∙ ap (λ l. now ++ l) (sym leaves_step) ∙ told

  pub tables_out : (now whole : List TableNo) → test (slice_index_or bounds k Default) ≡ false → now ++ tables_among keeps test (drop k bounds) (kids (drop k items)) ≡ whole
      → now ++ tables_among keeps test (drop (k + 1) bounds) (kids (drop (k + 1) items)) ≡ whole
  tables_out now whole out told =
      let own = led (leaves_below keeps (seen child)) (node_of (seen child)).table (kept_tables keeps (seen child)) in
      let rest = tables_among keeps test (drop (k + 1) bounds) (kids (drop (k + 1) items)) in
      ap (λ b. now ++ ((if b then own else []) ++ rest)) (sym out) ∙ ap (λ l. now ++ l) (sym tables_step) ∙ told

  pub child_can : AllCanPrune (kids (drop k items)) → CanPrune (seen child)
  child_can all = (subst (λ xs. AllCanPrune (kids xs)) (left_items items k child in_items is) all).0

  pub rest_can : AllCanPrune (kids (drop k items)) → AllCanPrune (kids (drop (k + 1) items))
  rest_can all = (subst (λ xs. AllCanPrune (kids xs)) (left_items items k child in_items is) all).1

child_low : (items : List Tree) (k : ℕ) (child : Tree) → k < length items → child ≡ get_or items k child → height (seen child) ≤ heights (kids items)
child_low [] k child lt is = absurd (omega arith)
child_low (x ∷ items) zero child lt is = let w = ap (λ (y : Tree). height (seen y)) is in omega (arith, w)
child_low (x ∷ items) (suc k) child lt is = let w = child_low items k child (omega arith) is in omega (arith, w)

-- the tree of a child is lower
pub child_lower : (t : Tree) (level : Level) (bounds : List Bound) (children : TreeList) (k : ℕ) (child : Tree) → t.shape ≡ ShapeLevel level bounds children → k < length (items_of children) → child ≡ get_or (items_of children) k child → height (seen child) < height (seen t)
child_lower t level bounds children k child is lt at =
    let low = child_low (items_of children) k child lt at in
    rw (seen_level t level bounds children is) (omega (arith, low))

-- ---- a level

abbrev pub bounds_of : TableTree → List Bound
bounds_of (LeafTable node leaf) = []
bounds_of (LevelTable node level bounds kids) = bounds

abbrev pub test_of : Keeps → TableTree → Bound → Bool
test_of keeps (LeafTable node leaf) = λ b. false
test_of keeps (LevelTable node level bounds kids) = keeps level bounds

-- before a child: what stands in the lists, with that of the children from this one on, is all
pub record Going (keeps : Keeps) (tree : TableTree) (items : List Tree) (set : List ℕ) (k : ℕ) (now_tables old_tables : List TableNo) (now_leaves old_leaves : List Leaf) : Type 0 where
  pub tables : now_tables ++ tables_among keeps (test_of keeps tree) (drop k (bounds_of tree)) (kids (drop k items)) ≡ old_tables ++ kept_tables keeps tree
  pub leaves : now_leaves ++ leaves_among keeps (test_of keeps tree) (drop k (bounds_of tree)) (kids (drop k items)) ≡ old_leaves ++ leaves_below keeps tree
  pub can : AllCanPrune (kids (drop k items))
  pub few : length (bounds_of tree) ≤ 1024
  pub paired : length (bounds_of tree) ≡ length items
  pub kept : AreKept set (test_of keeps tree) (bounds_of tree)

pub begins : (keeps : Keeps) (t : Tree) (level : Level) (bounds : List Bound) (children : TreeList) (kept : List ℕ) (tables : List TableNo) (leaves : List Leaf) → t.shape ≡ ShapeLevel level bounds children
    → CanPrune (seen t) → AreKept kept (keeps level bounds) bounds → Going keeps (seen t) (items_of children) kept 0 tables tables leaves leaves
begins keeps t level bounds children kept tables leaves is can agree =
    let s = seen_level t level bounds children is in
    let whole : CanPrune (LevelTable t.node level bounds (kids (items_of children))) = subst CanPrune s can in
    let count_is = count_kids (items_of children) in
    let pairs : length bounds ≡ count (kids (items_of children)) = whole.0 in
    subst (λ x. Going keeps x (items_of children) kept 0 tables tables leaves leaves) (sym s) (record {
      tables = refl;
      leaves = refl;
      can = whole.3;
      few = whole.1;
      paired = pairs ∙ count_is;
      kept = agree;
    })

-- the level can be asked
pub can_ask : (t : Tree) (level : Level) (bounds : List Bound) (children : TreeList) → t.shape ≡ ShapeLevel level bounds children → CanPrune (seen t) → (length bounds ≤ 1024) × All (IsOfLevel level) bounds
can_ask t level bounds children is can =
    let whole : CanPrune (LevelTable t.node level bounds (kids (items_of children))) = subst CanPrune (seen_level t level bounds children is) can in
    (whole.1, whole.2)

module _ (keeps : Keeps) (tree : TableTree) (items : List Tree) (kept : List ℕ) (k : ℕ) (child : Tree) (tables tables_before : List TableNo) (leaves leaves_before : List Leaf) (lt : k < length items) (is : child ≡ get_or items k child) (going : Going keeps tree items kept k tables tables_before leaves leaves_before) where
  in_bounds : k < length (bounds_of tree)
  in_bounds = let same = going.paired in omega (arith, same, lt)

  goes_on : (now_tables : List TableNo) (now_leaves : List Leaf) → bit kept k ≡ true → now_tables ≡ tables ++ led (leaves_below keeps (seen child)) (node_of (seen child)).table (kept_tables keeps (seen child)) → now_leaves ≡ leaves ++ leaves_below keeps (seen child)
      → Going keeps tree items kept (k + 1) now_tables tables_before now_leaves leaves_before
  goes_on now_tables now_leaves in_it more more_leaves =
      let yes = sym (going.kept k in_bounds) ∙ in_it in
      record {
        tables = tables_kept keeps (test_of keeps tree) (bounds_of tree) items k child in_bounds lt is tables now_tables (tables_before ++ kept_tables keeps tree) yes more going.tables;
        leaves = leaves_kept keeps (test_of keeps tree) (bounds_of tree) items k child in_bounds lt is leaves now_leaves (leaves_before ++ leaves_below keeps tree) yes more_leaves going.leaves;
        can = rest_can keeps (test_of keeps tree) (bounds_of tree) items k child in_bounds lt is going.can;
        few = going.few;
        paired = going.paired;
        kept = going.kept;
      }

  passes_over : bit kept k ≡ false → Going keeps tree items kept (k + 1) tables tables_before leaves leaves_before
  passes_over out =
      let no = sym (going.kept k in_bounds) ∙ out in
      record {
        tables = tables_out keeps (test_of keeps tree) (bounds_of tree) items k child in_bounds lt is tables (tables_before ++ kept_tables keeps tree) no going.tables;
        leaves = leaves_out keeps (test_of keeps tree) (bounds_of tree) items k child in_bounds lt is leaves (leaves_before ++ leaves_below keeps tree) no going.leaves;
        can = rest_can keeps (test_of keeps tree) (bounds_of tree) items k child in_bounds lt is going.can;
        few = going.few;
        paired = going.paired;
        kept = going.kept;
      }

  child_prunes : CanPrune (seen child)
  child_prunes = child_can keeps (test_of keeps tree) (bounds_of tree) items k child in_bounds lt is going.can

pub child_there : (items : List Tree) (k : ℕ) → k < length items → (child : Tree) × (child ≡ get_or items k child)
child_there [] k lt = absurd (omega (arith, lt))
child_there (x ∷ items) zero lt = (x, refl)
child_there (x ∷ items) (suc k) lt = let rest = child_there items k (omega (arith, lt)) in (rest.0, rest.1)

-- behind the last child
ends : (keeps : Keeps) (tree : TableTree) (items : List Tree) (kept : List ℕ) (k : ℕ) (tables tables_before : List TableNo) (leaves leaves_before : List Leaf) → length items ≤ k → Going keeps tree items kept k tables tables_before leaves leaves_before
    → (tables ≡ tables_before ++ kept_tables keeps tree) × (leaves ≡ leaves_before ++ leaves_below keeps tree)
ends keeps tree items kept k tables tables_before leaves leaves_before past going =
    let none : drop k items ≡ [] = drop_of_length-le items past in
    let t = subst (λ xs. tables ++ tables_among keeps (test_of keeps tree) (drop k (bounds_of tree)) (kids xs) ≡ tables_before ++ kept_tables keeps tree) none going.tables in
    let l = subst (λ xs. leaves ++ leaves_among keeps (test_of keeps tree) (drop k (bounds_of tree)) (kids xs) ≡ leaves_before ++ leaves_below keeps tree) none going.leaves in
    (sym (append-nil tables) ∙ t, sym (append-nil leaves) ∙ l)

module _ (keeps : Keeps) (tree : TableTree) (items : List Tree) (kept : List ℕ) (tables tables_before : List TableNo) (leaves leaves_before : List Leaf) where
  -- children of which none is kept are passed over
  passes_all : (n from : ℕ) → from + n ≤ length items → NoneIn kept from (from + n) → Going keeps tree items kept from tables tables_before leaves leaves_before → Going keeps tree items kept (from + n) tables tables_before leaves leaves_before
  passes_all zero from le none going = subst (λ k. Going keeps tree items kept k tables tables_before leaves leaves_before) (omega arith) going
  passes_all (suc n) from le none going =
      let lt : from < length items = omega (arith, le) in
      let child = child_there items from lt in
      let next = passes_over keeps tree items kept from child.0 tables tables_before leaves leaves_before lt child.1 going (none from (omega arith) (omega arith)) in
      subst (λ k. Going keeps tree items kept k tables tables_before leaves leaves_before) (omega arith)
      (passes_all n (from + 1) (omega (arith, le)) (λ k low high. none k (omega (arith, low)) (omega (arith, high))) next)

  module _ (from : ℕ) (going : Going keeps tree items kept from tables tables_before leaves leaves_before) where
    passes_to : (k : ℕ) → from ≤ k → k ≤ length items → NoneIn kept from k → Going keeps tree items kept k tables tables_before leaves leaves_before
    passes_to k low high none =
        let same : from + (k - from) ≡ k = omega (arith, low) in
        subst (λ j. Going keeps tree items kept j tables tables_before leaves leaves_before) same
        (passes_all (k - from) from (omega (arith, low, high)) (λ j le lt. none j le (omega (arith, low, lt))) going)

    -- the next that is kept
    module _ (k : ℕ) (child : Tree) (first : FirstFrom kept from k) (lt : k < length items) (is : child ≡ get_or items k child) where
      there : Going keeps tree items kept k tables tables_before leaves leaves_before
      there = passes_to k first.behind (omega (arith, lt)) first.none_before

      pub next_prunes : CanPrune (seen child)
      next_prunes = child_prunes keeps tree items kept k child tables tables_before leaves leaves_before lt is there

      pub next_pushed : (now_tables : List TableNo) (now_leaves : List Leaf) → now_tables ≡ tables ++ led (leaves_below keeps (seen child)) (node_of (seen child)).table (kept_tables keeps (seen child)) → now_leaves ≡ leaves ++ leaves_below keeps (seen child)
          → Going keeps tree items kept (k + 1) now_tables tables_before now_leaves leaves_before
      next_pushed now_tables now_leaves more more_leaves = goes_on keeps tree items kept k child tables tables_before leaves leaves_before lt is there now_tables now_leaves first.in_set more more_leaves

    -- none is kept up to a number behind the last
    pub none_behind : (to : ℕ) → length items ≤ to → NoneIn kept from to → (tables ≡ tables_before ++ kept_tables keeps tree) × (leaves ≡ leaves_before ++ leaves_below keeps tree)
    none_behind to past none =
        elim (cases_lt from (length items)) [
          | inl low ↦
              ends keeps tree items kept (length items) tables tables_before leaves leaves_before (omega arith)
              (passes_to (length items) (omega (arith, low)) (omega arith) (λ k le lt. none k le (omega (arith, past, lt))))
          | inr high ↦ ends keeps tree items kept from tables tables_before leaves leaves_before high going
        ]

    pub none_more : NoneIn kept from 1024 → (tables ≡ tables_before ++ kept_tables keeps tree) × (leaves ≡ leaves_before ++ leaves_below keeps tree)
    none_more none = let few = going.few in let same = going.paired in none_behind 1024 (omega (arith, few, same)) none

-- ---- a table that is kept

-- where its leaves made the list no longer, there are none
pub none_added : (before now own : List Leaf) → now ≡ before ++ own → length now ≡ length before → own ≡ []
none_added before now [] is same = refl
none_added before now (x ∷ xs) is same = absurd (let n = length-append before (x ∷ xs) in let m = ap (length {A = Leaf}) is in omega (arith, n, m, same))

pub led_none : (own : List Leaf) (table : TableNo) (tables : List TableNo) → own ≡ [] → led own table tables ≡ []
led_none own table tables none = ap (λ xs. led xs table tables) none

pub led_some : (before now own : List Leaf) (table : TableNo) (tables : List TableNo) → now ≡ before ++ own → (length now ≡ length before → ⊥) → led own table tables ≡ table ∷ tables
led_some before now [] table tables is more = absurd (more (ap (length {A = Leaf}) (is ∙ append-nil before)))
led_some before now (x ∷ xs) table tables is more = refl

pub led_behind : (before now own : List Leaf) (old pushed new : List TableNo) (table : TableNo) (tables : List TableNo) → (length now ≡ length before → ⊥) → now ≡ before ++ own → pushed ≡ old ++ table ∷ [] → new ≡ pushed ++ tables → new ≡ old ++ led own table tables
led_behind before now own old pushed new table tables more is pushes adds =
    adds ∙ ap (λ l. l ++ tables) pushes ∙ append_assoc old (table ∷ []) tables ∙ ap (λ l. old ++ l) (sym (led_some before now own table tables is more))
