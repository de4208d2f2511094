-- Where ORDER BY goes by the bounds of a table's partitions (7.5 Sorting Rows; 5.11.2 Declarative Partitioning): then the rows of each
-- partition are sorted by themselves, and stand one partition after the other.
use Rattle.std.specs.Prelude.{ℕ, ◌==◌, nat_le, Bool, true, false, not, ◌&&◌, if◌then◌else◌, List, [], ◌∷◌, Option, Some, None, take, drop, length, slice_get}
use Rattle.std.specs.List.{flat_map, list_any, prefix_len}
use Rattle.pg_values.specs.declared.ids.LeafId.{LeafId}
use Rattle.pg_values.specs.declared.strategy.Strategy.{Strategy}
use Rattle.pg_values.specs.declared.strategy.Strategy.TheVariants.{Range as ByRange}
use Rattle.bound_forms.specs.declared.level.KeyColumn.{KeyColumn}
use Rattle.bound_forms.specs.declared.level.Level.{Level}
use Rattle.bound_forms.specs.declared.partition_bound.Bound.{Bound}
use Rattle.bound_forms.specs.Accepts.{is_default}
use Rattle.row_router.specs.Trees.{TableTree, LeafTable, LevelTable, Trees, End, More, leaves}
use Rattle.cond_logic.specs.declared.cond.ColumnId.{ColumnId}
use Rattle.cond_logic.specs.declared.select.SortBy.{SortBy}
use Rattle.cond_logic.specs.declared.select.SortBy.TheVariants as by
use Rattle.cond_logic.specs.declared.select.SortKey.{SortKey}
use Rattle.cond_logic.specs.Asked.{OutputTree, SelectMeant}
use Rattle.cond_logic.specs.Scalars.{ScalarTree, column, literal, table_name, computes, cancels}
use Rattle.cond_logic.specs.Tables.{Leaf}
use Rattle.plan_tree.specs.Parameters.{has_parameter}
use Rattle.plan_tree.specs.declared.join_kind.JoinKind.{JoinKind}
use Rattle.plan_tree.specs.declared.join_kind.JoinKind.TheVariants.{NestedLoop, HashJoin}
use Rattle.plan_tree.specs.Plans.{PlannedItem, Planned, unless_paired}

-- ---- the keys of ORDER BY

-- the column that a key stands for, by whatever name
abbrev pub column_in : ScalarTree → Option ColumnId
column_in (column c) = Some c
column_in (literal v) = None
column_in (table_name item) = None
column_in (computes op x y) = None
column_in (cancels x) = None

abbrev pub column_of : Option OutputTree → Option ColumnId
column_of None = None
column_of (Some o) = column_in o.value

abbrev pub sort_column : List OutputTree → SortBy → Option ColumnId
sort_column os (by.Output place) = column_of (slice_get os place)
sort_column os (by.Column c) = Some c
sort_column os (by.TableName item) = None

abbrev pub is_at : (position : ℕ) → Option ColumnId → Bool
is_at n None = false
is_at n (Some c) = c.position == n

-- ascending and nulls last, as partitions stand
abbrev pub goes_by : List OutputTree → SortKey → KeyColumn → Bool
goes_by os k c = not k.descending && not k.nulls_first && is_at c.position (sort_column os k.by)

-- the first keys are the columns of the partition key, in order
abbrev pub begins_with : List OutputTree → List SortKey → List KeyColumn → Bool
begins_with os ks [] = true
begins_with os [] (c ∷ cs) = false
begins_with os (k ∷ ks) (c ∷ cs) = goes_by os k c && begins_with os ks cs

-- ---- the partitions

abbrev pub is_leaf : LeafId → LeafId → Bool
is_leaf id own = own.number == id.number

abbrev pub lies_under : TableTree → Leaf → Bool
lies_under tree leaf = list_any (is_leaf leaf.id) (leaves tree)

-- how many of the first leaves lie under it
abbrev pub first_under : TableTree → List Leaf → ℕ
first_under tree ls = prefix_len (lies_under tree) ls

-- a partition without a leaf is no part
abbrev pub put_part : List Leaf → List (List Leaf) → List (List Leaf)
put_part [] parts = parts
put_part (l ∷ ls) parts = (l ∷ ls) ∷ parts

-- the leaves under each partition but the default, which stands last
abbrev pub parts_under : List Leaf → List Bound → Trees → List (List Leaf)
parts_under ls bs End = []
parts_under ls [] (More k ks) = []
parts_under ls (b ∷ bs) (More k ks) =
    if is_default b then [] else put_part (take (first_under k ls) ls) (parts_under (drop (first_under k ls) ls) bs ks)

-- what lies in them
abbrev pub parts_joined : List (List Leaf) → List Leaf
parts_joined parts = flat_map (λ p. p) parts

-- two or more, and no leaf in another place
abbrev pub if_whole : List Leaf → List (List Leaf) → List (List Leaf)
if_whole ls parts = if nat_le 2 (length parts) && (length (parts_joined parts) == length ls) then parts else []

-- ---- a plan

abbrev pub is_range : Strategy → Bool
is_range ByRange = true
is_range _ = false

abbrev pub is_nested : JoinKind → Bool
is_nested NestedLoop = true
is_nested HashJoin = false

-- its leaves are read one after the other, and neither a tuple nor a parameter that is not known yet may take some away
abbrev pub is_settled : PlannedItem → Bool
is_settled i = is_nested i.join && (not i.is_asked_again && not (list_any has_parameter i.conjuncts))

abbrev pub follows : SelectMeant → PlannedItem → Level → Bool
follows m i level = is_range level.strategy && (begins_with m.outputs m.order level.columns && is_settled i)

abbrev pub parts_in : SelectMeant → PlannedItem → TableTree → List (List Leaf)
parts_in m i (LeafTable node leaf) = []
parts_in m i (LevelTable node level bounds kids) = if follows m i level then if_whole i.leaves (parts_under i.leaves bounds kids) else []

abbrev pub only_parts : SelectMeant → List PlannedItem → List (List Leaf)
only_parts m [] = []
only_parts m (i ∷ []) = parts_in m i i.tree
only_parts m (i ∷ j ∷ js) = []

-- the leaves of each part of an Ordered Append, which stands over one item; none where there is no such
abbrev pub sorted_parts : SelectMeant → Planned → List (List Leaf)
sorted_parts m p = only_parts m (unless_paired p.pairs p.items)
