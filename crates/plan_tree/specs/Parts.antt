-- A partitioned table with what stands below one of its partitions alone (5.11.2 Declarative Partitioning).
use Rattle.std.specs.Prelude.{ℕ, zero, suc, max, List, [], ◌∷◌, Option, Some, None}
use Rattle.row_router.specs.Trees.{TableTree, LeafTable, LevelTable, Trees, End, More, count}
use Rattle.plan_tree.specs.Kept.{no_keys, node_of}

-- a table without partitions
abbrev pub emptied : TableTree → TableTree
emptied tree = LevelTable (node_of tree) no_keys [] End

abbrev pub all_emptied : Trees → Trees
all_emptied End = End
all_emptied (More k ks) = More (emptied k) (all_emptied ks)

-- the one of that number stands as it is
abbrev pub one_of : ℕ → Trees → Trees
one_of n End = End
one_of zero (More k ks) = More k (all_emptied ks)
one_of (suc n) (More k ks) = More (emptied k) (one_of n ks)

abbrev pub in_partition : ℕ → TableTree → TableTree
in_partition n (LeafTable node leaf) = LeafTable node leaf
in_partition n (LevelTable node level bounds kids) = LevelTable node level bounds (one_of n kids)

-- the whole table, or one of its partitions
abbrev pub in_part : Option ℕ → TableTree → TableTree
in_part None tree = tree
in_part (Some n) tree = in_partition n tree

-- the numbers of the partitions in plain order
abbrev pub numbers_from : ℕ → Trees → List ℕ
numbers_from n End = []
numbers_from n (More k ks) = n ∷ numbers_from (suc n) ks

abbrev pub partitions : TableTree → List ℕ
partitions (LeafTable node leaf) = []
partitions (LevelTable node level bounds kids) = numbers_from 0 kids

-- how many parts there may be
abbrev pub parts_of : TableTree → ℕ
parts_of (LeafTable node leaf) = 1
parts_of (LevelTable node level bounds kids) = max 1 (count kids)
