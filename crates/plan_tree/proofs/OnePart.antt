-- What is kept of one partition of a table alone.
use Rattle.std.proofs.Common.{◌≡◌, ℕ, zero, suc, ◌+◌, ◌<◌, ◌≤◌, arith, Bool, true, false, if◌then◌else◌, List, [], ◌∷◌, ◌++◌, length, map, drop, get_or, refl, sym, ap, ap₂, subst, ◌∙◌, append_assoc, append-nil}
use Rattle.std.specs.Prelude.{Option, Some, None, max}
use Rattle.std.specs.List.{All, slice_index_or}
use Rattle.std.proofs.lemmas.List.{map-append}
use Rattle.std.proofs.Math.ListN.{drop_of_length-le}
use Rattle.pg_values.specs.declared.ids.LeafId.{LeafId}
use Rattle.pg_values.specs.declared.ids.TableNo.{TableNo}
use Rattle.bound_forms.specs.declared.level.Level.{Level}
use Rattle.bound_forms.specs.Levels.{IsOfLevel}
use Rattle.bound_forms.specs.declared.partition_bound.Bound.{Bound}
use Rattle.bound_forms.specs.declared.partition_bound.Bound.TheVariants.{Default}
use Rattle.row_router.specs.declared.tree.Tree.{Tree}
use Rattle.row_router.specs.declared.tree.TreeList.{TreeList}
use Rattle.row_router.specs.declared.tree.Shape.{Leaf as ShapeLeaf, Level as ShapeLevel}
use Rattle.row_router.specs.Seen.{seen, items_of}
use Rattle.row_router.proofs.Seen.{seen_leaf, seen_level}
use Rattle.row_router.specs.Trees.{TableTree, LeafTable, LevelTable, Trees, End, More, count}
use Rattle.cond_logic.specs.Tables.{Leaf}
use Rattle.prune_steps.specs.Bits.{bit}
use Rattle.plan_tree.specs.Kept.{Keeps, AreKept, led, leaves_below, leaves_among, kept_leaves, kept_tables, tables_among, node_of}
use Rattle.plan_tree.specs.Parts.{emptied, all_emptied, one_of, in_part, in_partition, numbers_from, partitions, parts_of}
use Rattle.plan_tree.specs.Prunable.{CanPrune, AllCanPrune}
use Rattle.plan_tree.specs.declared.pruning.KeptParts.{KeptParts}
use Rattle.plan_tree.proofs.Partitions.{one_counted, parts_same}
use Rattle.plan_tree.proofs.Pushing.{kids, count_kids, left_items}

-- ---- a partition among others that are emptied

no_leaves : (keeps : Keeps) (test : Bound → Bool) (bs : List Bound) (ks : Trees) → leaves_among keeps test bs (all_emptied ks) ≡ []
no_leaves keeps test bs End = refl
no_leaves keeps test [] (More k ks) = refl
no_leaves keeps test (b ∷ bs) (More k ks) = by (test b) (no_leaves keeps test bs ks)
  where
    by : (t : Bool) → leaves_among keeps test bs (all_emptied ks) ≡ [] → (if t then leaves_below keeps (emptied k) else []) ++ leaves_among keeps test bs (all_emptied ks) ≡ []
    by true none = none
    by false none = none

no_tables : (keeps : Keeps) (test : Bound → Bool) (bs : List Bound) (ks : Trees) → tables_among keeps test bs (all_emptied ks) ≡ []
no_tables keeps test bs End = refl
no_tables keeps test [] (More k ks) = refl
no_tables keeps test (b ∷ bs) (More k ks) = by (test b) (no_tables keeps test bs ks)
  where
    by : (t : Bool) → tables_among keeps test bs (all_emptied ks) ≡ [] → (if t then led (leaves_below keeps (emptied k)) (node_of (emptied k)).table (kept_tables keeps (emptied k)) else []) ++ tables_among keeps test bs (all_emptied ks) ≡ []
    by true none = none
    by false none = none

module _ (keeps : Keeps) (test : Bound → Bool) where
  abbrev own_leaves : Bound → Tree → List Leaf
  own_leaves b child = if test b then leaves_below keeps (seen child) else []

  abbrev own_tables : Bound → Tree → List TableNo
  own_tables b child = if test b then led (leaves_below keeps (seen child)) (node_of (seen child)).table (kept_tables keeps (seen child)) else []

  one_leaves : (n : ℕ) (bs : List Bound) (items : List Tree) (child : Tree) → length bs ≡ length items → n < length items → child ≡ get_or items n child
      → leaves_among keeps test bs (one_of n (kids items)) ≡ own_leaves (slice_index_or bs n Default) child
  one_leaves n bs [] child same lt at = absurd (omega (arith, lt))
  one_leaves n [] (x ∷ items) child same lt at = absurd (omega (arith, same))
  one_leaves zero (b ∷ bs) (x ∷ items) child same lt at = ap₂ (λ l r. l ++ r) (ap (own_leaves b) (sym at)) (no_leaves keeps test bs (kids items)) ∙ append-nil (own_leaves b child)
  one_leaves (suc n) (b ∷ bs) (x ∷ items) child same lt at = by (test b) (one_leaves n bs items child (omega (arith, same)) (omega (arith, lt)) at)
    where
      later : List Leaf
      later = leaves_among keeps test bs (one_of n (kids items))

      by : (t : Bool) → later ≡ own_leaves (slice_index_or bs n Default) child → (if t then leaves_below keeps (emptied (seen x)) else []) ++ later ≡ own_leaves (slice_index_or bs n Default) child
      by true is = is
      by false is = is

  one_tables : (n : ℕ) (bs : List Bound) (items : List Tree) (child : Tree) → length bs ≡ length items → n < length items → child ≡ get_or items n child
      → tables_among keeps test bs (one_of n (kids items)) ≡ own_tables (slice_index_or bs n Default) child
  one_tables n bs [] child same lt at = absurd (omega (arith, lt))
  one_tables n [] (x ∷ items) child same lt at = absurd (omega (arith, same))
  one_tables zero (b ∷ bs) (x ∷ items) child same lt at = ap₂ (λ l r. l ++ r) (ap (own_tables b) (sym at)) (no_tables keeps test bs (kids items)) ∙ append-nil (own_tables b child)
  one_tables (suc n) (b ∷ bs) (x ∷ items) child same lt at = by (test b) (one_tables n bs items child (omega (arith, same)) (omega (arith, lt)) at)
    where
      later : List TableNo
      later = tables_among keeps test bs (one_of n (kids items))

      by : (t : Bool) → later ≡ own_tables (slice_index_or bs n Default) child
          → (if t then led (leaves_below keeps (emptied (seen x))) (node_of (emptied (seen x))).table (kept_tables keeps (emptied (seen x))) else []) ++ later ≡ own_tables (slice_index_or bs n Default) child
      by true is = is
      by false is = is

-- past the last all are emptied
past_emptied : (n : ℕ) (ks : Trees) → count ks ≤ n → one_of n ks ≡ all_emptied ks
past_emptied n End le = refl
past_emptied zero (More k ks) le = absurd (omega (arith, le))
past_emptied (suc n) (More k ks) le = ap (More (emptied k)) (past_emptied n ks (omega (arith, le)))

-- ---- the partition of a tree

-- a table that is a leaf stands as it is
pub part_of_leaf : (t : Tree) (leaf : LeafId) (n : ℕ) → t.shape ≡ ShapeLeaf leaf → seen t ≡ in_partition n (seen t)
part_of_leaf t leaf n is = let s = seen_leaf t leaf is in s ∙ ap (in_partition n) (sym s)

pub leaf_prunes : (t : Tree) (leaf : LeafId) → t.shape ≡ ShapeLeaf leaf → CanPrune (seen t)
leaf_prunes t leaf is = subst CanPrune (sym (seen_leaf t leaf is)) tt

module _ (t : Tree) (level : Level) (bounds : List Bound) (children : TreeList) (is : t.shape ≡ ShapeLevel level bounds children) (n : ℕ) where
  abbrev whole : TableTree
  whole = LevelTable t.node level bounds (kids (items_of children))

  of_level : in_partition n (seen t) ≡ LevelTable t.node level bounds (one_of n (kids (items_of children)))
  of_level = ap (in_partition n) (seen_level t level bounds children is)

  -- what the level is asked
  pub part_can_ask : CanPrune (in_partition n (seen t)) → (length bounds ≤ 1024) × All (IsOfLevel level) bounds × (length bounds ≡ length (items_of children))
  part_can_ask can =
      let there : CanPrune (LevelTable t.node level bounds (one_of n (kids (items_of children)))) = subst CanPrune of_level can in
      (there.1, there.2, there.0 ∙ one_counted n (kids (items_of children)) ∙ count_kids (items_of children))

  one_can : (m : ℕ) (items : List Tree) (child : Tree) → m < length items → child ≡ get_or items m child → AllCanPrune (one_of m (kids items)) → CanPrune (seen child)
  one_can m [] child lt at can = absurd (omega (arith, lt))
  one_can zero (x ∷ items) child lt at can = subst (λ (y : Tree). CanPrune (seen y)) (sym at) can.0
  one_can (suc m) (x ∷ items) child lt at can = one_can m items child (omega (arith, lt)) at can.1

  pub part_child_prunes : (child : Tree) → n < length (items_of children) → child ≡ get_or (items_of children) n child → CanPrune (in_partition n (seen t)) → CanPrune (seen child)
  part_child_prunes child lt at can =
      let there : CanPrune (LevelTable t.node level bounds (one_of n (kids (items_of children)))) = subst CanPrune of_level can in
      one_can n (items_of children) child lt at there.3

  module _ (keeps : Keeps) where
    -- the partition is there: it is kept, or it is not
    pub part_leaves : (child : Tree) (b : Bool) → length bounds ≡ length (items_of children) → n < length (items_of children) → child ≡ get_or (items_of children) n child → keeps level bounds (slice_index_or bounds n Default) ≡ b
        → kept_leaves keeps (in_partition n (seen t)) ≡ (if b then leaves_below keeps (seen child) else [])
    part_leaves child b same lt at kept =
        ap (kept_leaves keeps) of_level ∙ one_leaves keeps (keeps level bounds) n bounds (items_of children) child same lt at
        ∙ ap (λ (y : Bool). if y then leaves_below keeps (seen child) else []) kept

    pub part_tables : (child : Tree) (b : Bool) → length bounds ≡ length (items_of children) → n < length (items_of children) → child ≡ get_or (items_of children) n child → keeps level bounds (slice_index_or bounds n Default) ≡ b
        → kept_tables keeps (in_partition n (seen t)) ≡ (if b then led (leaves_below keeps (seen child)) (node_of (seen child)).table (kept_tables keeps (seen child)) else [])
    part_tables child b same lt at kept =
        ap (kept_tables keeps) of_level ∙ one_tables keeps (keeps level bounds) n bounds (items_of children) child same lt at
        ∙ ap (λ (y : Bool). if y then led (leaves_below keeps (seen child)) (node_of (seen child)).table (kept_tables keeps (seen child)) else []) kept

    -- there is none of that number
    pub no_part_leaves : length (items_of children) ≤ n → kept_leaves keeps (in_partition n (seen t)) ≡ []
    no_part_leaves past =
        let n_kids = count_kids (items_of children) in
        ap (kept_leaves keeps) of_level ∙ ap (leaves_among keeps (keeps level bounds) bounds) (past_emptied n (kids (items_of children)) (omega (arith, n_kids, past)))
        ∙ no_leaves keeps (keeps level bounds) bounds (kids (items_of children))

    pub no_part_tables : length (items_of children) ≤ n → kept_tables keeps (in_partition n (seen t)) ≡ []
    no_part_tables past =
        let n_kids = count_kids (items_of children) in
        ap (kept_tables keeps) of_level ∙ ap (tables_among keeps (keeps level bounds) bounds) (past_emptied n (kids (items_of children)) (omega (arith, n_kids, past)))
        ∙ no_tables keeps (keeps level bounds) bounds (kids (items_of children))

-- ---- partition by partition

abbrev pub level_test : Keeps → TableTree → Bound → Bool
level_test keeps (LeafTable node leaf) = λ b. false
level_test keeps (LevelTable node level bounds kids) = keeps level bounds

abbrev pub leaves_in : KeptParts → List Leaf
leaves_in k = k.leaves

abbrev pub tables_in : KeptParts → List TableNo
tables_in k = k.tables

abbrev pub leaves_at : Keeps → TableTree → ℕ → List Leaf
leaves_at keeps tree n = kept_leaves keeps (in_partition n tree)

abbrev pub tables_at : Keeps → TableTree → ℕ → List TableNo
tables_at keeps tree n = kept_tables keeps (in_partition n tree)

-- before a child: what is kept of those so far, and of those that are left
pub record Parting (keeps : Keeps) (t : Tree) (level : Level) (bounds : List Bound) (items : List Tree) (set : List ℕ) (k : ℕ) (parts : List KeptParts) : Type 0 where
  pub leaves : map leaves_in parts ++ map (leaves_at keeps (seen t)) (numbers_from k (kids (drop k items))) ≡ map (leaves_at keeps (seen t)) (partitions (seen t))
  pub tables : map tables_in parts ++ map (tables_at keeps (seen t)) (numbers_from k (kids (drop k items))) ≡ map (tables_at keeps (seen t)) (partitions (seen t))
  pub can : AllCanPrune (kids (drop k items))
  pub few : length bounds ≤ 1024
  pub same : length bounds ≡ length items
  pub kept : AreKept set (keeps level bounds) bounds

module _ (keeps : Keeps) (t : Tree) (level : Level) (bounds : List Bound) (children : TreeList) (items : List Tree) (set : List ℕ) (is : t.shape ≡ ShapeLevel level bounds children) (are : items ≡ items_of children) where
  pub parting_begins : CanPrune (seen t) → AreKept set (keeps level bounds) bounds → Parting keeps t level bounds items set 0 []
  parting_begins can agree =
      let s = seen_level t level bounds children is in
      let there : CanPrune (LevelTable t.node level bounds (kids (items_of children))) = subst CanPrune s can in
      let numbers : partitions (seen t) ≡ numbers_from 0 (kids items) = ap partitions s ∙ ap (λ xs. numbers_from 0 (kids xs)) (sym are) in
      record {
        leaves = ap (map (leaves_at keeps (seen t))) (sym numbers);
        tables = ap (map (tables_at keeps (seen t))) (sym numbers);
        can = subst (λ xs. AllCanPrune (kids xs)) (sym are) there.3;
        few = there.1;
        same = there.0 ∙ count_kids (items_of children) ∙ ap (length {A = Tree}) (sym are);
        kept = agree;
      }

  module _ (k : ℕ) (child : Tree) (parts : List KeptParts) (lt : k < length items) (at : child ≡ get_or items k child) (g : Parting keeps t level bounds items set k parts) where
    pub parting_below : k < 1024
    parting_below = let few = g.few in let same = g.same in omega (arith, few, same, lt)

    pub parting_prunes : CanPrune (seen child)
    parting_prunes = (subst (λ xs. AllCanPrune (kids xs)) (left_items items k child lt at) g.can).0

    numbers_step : numbers_from k (kids (drop k items)) ≡ k ∷ numbers_from (suc k) (kids (drop (suc k) items))
    numbers_step = ap (λ xs. numbers_from k (kids xs)) (left_items items k child lt at) ∙ ap (λ n. k ∷ numbers_from (suc k) (kids (drop n items))) next
      where
        next : k + 1 ≡ suc k
        next = omega arith

    in_items : k < length (items_of children)
    in_items = let n = ap (length {A = Tree}) are in omega (arith, n, lt)

    at_item : child ≡ get_or (items_of children) k child
    at_item = at ∙ ap (λ xs. get_or xs k child) are

    same_items : length bounds ≡ length (items_of children)
    same_items = g.same ∙ ap (length {A = Tree}) are

    -- one part more
    pub parting_step : (b : Bool) (made : KeptParts) (now : List KeptParts) → bit set k ≡ b
        → made.leaves ≡ (if b then leaves_below keeps (seen child) else [])
        → made.tables ≡ (if b then led (leaves_below keeps (seen child)) (node_of (seen child)).table (kept_tables keeps (seen child)) else [])
        → now ≡ parts ++ made ∷ [] → Parting keeps t level bounds items set (k + 1) now
    parting_step b made now told ls ts put =
        let below : k < length bounds = let same = g.same in omega (arith, same, lt) in
        let kept : keeps level bounds (slice_index_or bounds k Default) ≡ b = sym (g.kept k below) ∙ told in
        let next : suc k ≡ k + 1 = omega arith in
        record {
          leaves = step leaves_in (leaves_at keeps (seen t)) (ls ∙ sym (part_leaves t level bounds children is k keeps child b same_items in_items at_item kept)) g.leaves;
          tables = step tables_in (tables_at keeps (seen t)) (ts ∙ sym (part_tables t level bounds children is k keeps child b same_items in_items at_item kept)) g.tables;
          can = (subst (λ xs. AllCanPrune (kids xs)) (left_items items k child lt at) g.can).1;
          few = g.few;
          same = g.same;
          kept = g.kept;
        }
      where
        step : {X : Type 0} (f : KeptParts → X) (h : ℕ → X) → f made ≡ h k → map f parts ++ map h (numbers_from k (kids (drop k items))) ≡ map h (partitions (seen t))
            → map f now ++ map h (numbers_from (k + 1) (kids (drop (k + 1) items))) ≡ map h (partitions (seen t))
        step f h same before =
            let more : suc k ≡ k + 1 = omega arith in
            let rest = map h (numbers_from (k + 1) (kids (drop (k + 1) items))) in
            ap (λ l. map f l ++ rest) put ∙ ap (λ l. l ++ rest) (map-append f parts (made ∷ [])) ∙ append_assoc (map f parts) (f made ∷ []) rest
            ∙ ap (λ x. map f parts ++ (x ∷ rest)) same
            ∙ ap (λ n. map f parts ++ (h k ∷ map h (numbers_from n (kids (drop n items))))) (sym more)
            ∙ ap (λ ns. map f parts ++ map h ns) (sym numbers_step) ∙ before

  pub parting_ends : (k : ℕ) (parts : List KeptParts) → length items ≤ k → Parting keeps t level bounds items set k parts
      → (map tables_in parts ≡ map (tables_at keeps (seen t)) (partitions (seen t))) × (map leaves_in parts ≡ map (leaves_at keeps (seen t)) (partitions (seen t)))
  parting_ends k parts past g =
      let none : drop k items ≡ [] = drop_of_length-le items past in
      let l = subst (λ xs. map leaves_in parts ++ map (leaves_at keeps (seen t)) (numbers_from k (kids xs)) ≡ map (leaves_at keeps (seen t)) (partitions (seen t))) none g.leaves in
      let s = subst (λ xs. map tables_in parts ++ map (tables_at keeps (seen t)) (numbers_from k (kids xs)) ≡ map (tables_at keeps (seen t)) (partitions (seen t))) none g.tables in
      (sym (append-nil (map tables_in parts)) ∙ s, sym (append-nil (map leaves_in parts)) ∙ l)

-- the same of whatever level the tree stands for
pub record PartingOf (keeps : Keeps) (t : Tree) (items : List Tree) (set : List ℕ) (k : ℕ) (parts : List KeptParts) : Type 0 where
  pub level : Level
  pub bounds : List Bound
  pub children : TreeList
  pub shape : t.shape ≡ ShapeLevel level bounds children
  pub are : items ≡ items_of children
  pub going : Parting keeps t level bounds items set k parts

module _ (keeps : Keeps) (t : Tree) (items : List Tree) (set : List ℕ) (k : ℕ) (parts : List KeptParts) (g : PartingOf keeps t items set k parts) where
  pub part_below : (child : Tree) → k < length items → child ≡ get_or items k child → k < 1024
  part_below child lt at = parting_below keeps t g.level g.bounds g.children items set g.shape g.are k child parts lt at g.going

  pub part_prunes : (child : Tree) → k < length items → child ≡ get_or items k child → CanPrune (seen child)
  part_prunes child lt at = parting_prunes keeps t g.level g.bounds g.children items set g.shape g.are k child parts lt at g.going

  pub part_made : (child : Tree) → k < length items → child ≡ get_or items k child → (b : Bool) (made : KeptParts) (now : List KeptParts) → b ≡ bit set k
      → made.leaves ≡ (if b then leaves_below keeps (seen child) else [])
      → made.tables ≡ (if b then led (leaves_below keeps (seen child)) (node_of (seen child)).table (kept_tables keeps (seen child)) else [])
      → now ≡ parts ++ made ∷ [] → PartingOf keeps t items set (k + 1) now
  part_made child lt at b made now told ls ts put = record {
    level = g.level;
    bounds = g.bounds;
    children = g.children;
    shape = g.shape;
    are = g.are;
    going = parting_step keeps t g.level g.bounds g.children items set g.shape g.are k child parts lt at g.going b made now (sym told) ls ts put;
  }

  pub parts_made : length items ≤ k → (map tables_in parts ≡ map (tables_at keeps (seen t)) (partitions (seen t))) × (map leaves_in parts ≡ map (leaves_at keeps (seen t)) (partitions (seen t)))
  parts_made past = parting_ends keeps t g.level g.bounds g.children items set g.shape g.are k parts past g.going

-- a table that is a leaf has no partition
pub no_partitions : {X : Type 0} (t : Tree) (leaf : LeafId) (h : ℕ → X) → t.shape ≡ ShapeLeaf leaf → [] ≡ map h (partitions (seen t))
no_partitions t leaf h is = ap (λ (u : TableTree). map h (partitions u)) (sym (seen_leaf t leaf is))

-- ---- how many parts there may be

pub parts_counted : (part : Option ℕ) (t : Tree) (level : Level) (bounds : List Bound) (children : TreeList) (n m : ℕ) → t.shape ≡ ShapeLevel level bounds children → n ≡ length (items_of children) → m ≡ max n 1 → m ≡ parts_of (in_part part (seen t))
parts_counted part t level bounds children n m is long most = by part
  where
    whole : m ≡ parts_of (seen t)
    whole =
        let counted = count_kids (items_of children) in
        let parts : parts_of (seen t) ≡ max 1 (count (kids (items_of children))) = ap parts_of (seen_level t level bounds children is) in
        omega (arith, most, long, counted, parts)

    by : (p : Option ℕ) → m ≡ parts_of (in_part p (seen t))
    by None = whole
    by (Some k) = whole ∙ sym (parts_same k (seen t))
