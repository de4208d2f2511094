-- The leaves of a tree that a condition keeps, and the tables that lead to them (5.11.4 Partition Pruning).
use Rattle.std.specs.Prelude.{◌≡◌, ◌<◌, ℕ, Bool, true, false, ◌&&◌, if◌then◌else◌, List, [], ◌∷◌, ◌++◌, length}
use Rattle.std.specs.List.{list_all, slice_index_or}
use Rattle.pg_values.specs.declared.ids.LeafId.{LeafId}
use Rattle.pg_values.specs.declared.ids.TableNo.{TableNo}
use Rattle.bound_forms.specs.declared.level.KeyColumn.{KeyColumn}
use Rattle.bound_forms.specs.declared.level.Level.{Level}
use Rattle.pg_values.specs.declared.strategy.Strategy.TheVariants.{Range as ByRange, List as ByList}
use Rattle.bound_forms.specs.declared.partition_bound.Bound.{Bound}
use Rattle.bound_forms.specs.declared.partition_bound.Bound.TheVariants.{Default}
use Rattle.row_router.specs.declared.node.Node.{Node}
use Rattle.row_router.specs.Trees.{TableTree, LeafTable, LevelTable, Trees, End, More}
use Rattle.cond_logic.specs.Tables.{Leaf}
use Rattle.cond_logic.specs.Trees.{CondTree}
use Rattle.prune_steps.specs.Atoms.{asked}
use Rattle.prune_steps.specs.Bits.{AreBits, bit}
use Rattle.prune_steps.specs.Kept.{kept}

-- whether a level with these bounds keeps the child under one of them
abbrev pub Keeps : Type 0
Keeps = Level → List Bound → Bound → Bool

-- what each of these conditions keeps, where the columns of the FROM item of that number are the level's; all, where nothing
-- is pruned
abbrev pub keeps_for : (prunes : Bool) → (item : ℕ) → List CondTree → Keeps
keeps_for true item ts level bounds b = list_all (λ t. kept (asked item level) bounds [] t b) ts
keeps_for false item ts level bounds b = true

-- by one condition, over the columns of the only FROM item
abbrev pub keeps_by : (prunes : Bool) → CondTree → Keeps
keeps_by prunes t = keeps_for prunes 0 (t ∷ [])

-- ---- leaves

abbrev pub id_of : Leaf → LeafId
id_of leaf = leaf.id

abbrev pub leaf_of : Node → LeafId → Leaf
leaf_of node leaf = record { id = leaf; name = node.name }

-- the leaves of a tree in plain order
abbrev mutual
  pub named_leaves : TableTree → List Leaf
  named_leaves (LeafTable node leaf) = leaf_of node leaf ∷ []
  named_leaves (LevelTable node level bounds kids) = all_named_leaves kids

  pub all_named_leaves : Trees → List Leaf
  all_named_leaves End = []
  all_named_leaves (More k ks) = named_leaves k ++ all_named_leaves ks

-- those to which each level on the way keeps the child
abbrev mutual
  pub leaves_below : Keeps → TableTree → List Leaf
  leaves_below keeps (LeafTable node leaf) = leaf_of node leaf ∷ []
  leaves_below keeps (LevelTable node level bounds kids) = leaves_among keeps (keeps level bounds) bounds kids

  pub leaves_among : Keeps → (Bound → Bool) → List Bound → Trees → List Leaf
  leaves_among keeps test bs End = []
  leaves_among keeps test [] (More k ks) = []
  leaves_among keeps test (b ∷ bs) (More k ks) = (if test b then leaves_below keeps k else []) ++ leaves_among keeps test bs ks

pub not_by_list : ByRange ≡ ByList → length {A = KeyColumn} [] ≡ 1
not_by_list is = absurd (cc)

-- a plain table is kept as the one child of a level without key columns would be
abbrev pub no_keys : Level
no_keys = record { strategy = ByRange; columns = []; one_if_list = not_by_list }

abbrev pub keeps_plain : Keeps → Bool
keeps_plain keeps = keeps no_keys (Default ∷ []) Default

abbrev pub is_plain : TableTree → Bool
is_plain (LeafTable node leaf) = true
is_plain (LevelTable node level bounds kids) = false

-- Kept: of a tree, and of a plain table
abbrev pub kept_leaves : Keeps → TableTree → List Leaf
kept_leaves keeps (LeafTable node leaf) = if keeps_plain keeps then leaf_of node leaf ∷ [] else []
kept_leaves keeps (LevelTable node level bounds kids) = leaves_below keeps (LevelTable node level bounds kids)

-- ---- tables

abbrev pub node_of : TableTree → Node
node_of (LeafTable node leaf) = node
node_of (LevelTable node level bounds kids) = node

-- where there are leaves, the table that leads to them, and those below it
abbrev pub led : {X : Type 0} → List X → TableNo → List TableNo → List TableNo
led [] table tables = []
led (x ∷ xs) table tables = table ∷ tables

-- the tables under that of the tree that lead to a kept leaf, and those of kept leaves, in plain order, each before those
-- below it
abbrev mutual
  pub kept_tables : Keeps → TableTree → List TableNo
  kept_tables keeps (LeafTable node leaf) = []
  kept_tables keeps (LevelTable node level bounds kids) = tables_among keeps (keeps level bounds) bounds kids

  pub tables_among : Keeps → (Bound → Bool) → List Bound → Trees → List TableNo
  tables_among keeps test bs End = []
  tables_among keeps test [] (More k ks) = []
  tables_among keeps test (b ∷ bs) (More k ks) = (if test b then led (leaves_below keeps k) (node_of k).table (kept_tables keeps k) else []) ++ tables_among keeps test bs ks

-- ---- a set of children

-- the set has the children that the test takes, by their numbers
abbrev pub AreKept : List ℕ → (Bound → Bool) → List Bound → Type 0
AreKept kept test bounds = AreBits (length bounds) kept (λ k. test (slice_index_or bounds k Default))

-- of the first set those that the test takes too
abbrev pub AreMet : (new old : List ℕ) → (Bound → Bool) → List Bound → Type 0
AreMet new old test bounds = (k : ℕ) → k < length bounds → bit new k ≡ (bit old k && test (slice_index_or bounds k Default))
