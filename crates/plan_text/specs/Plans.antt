-- The text of a plan (14.1.1 EXPLAIN Basics; 14.1.2 EXPLAIN ANALYZE; 5.11.4 Partition Pruning; EXPLAIN).
use Rattle.std.specs.Prelude.{ℕ, ◌==◌, Bool, true, false, not, ◌&&◌, ◌||◌, if◌then◌else◌, List, [], ◌∷◌, ◌++◌, Option, Some, None, option_map, map, filter, length, codes, decimal}
use Rattle.std.specs.List.{flat_map}
use Rattle.pg_values.specs.declared.answer.Answer.{Answer}
use Rattle.pg_values.specs.declared.value.Kind.TheVariants.{Text as KText}
use Rattle.pg_values.specs.declared.value.Value.{Value}
use Rattle.pg_values.specs.declared.value.Value.TheVariants.{Text}
use Rattle.cond_logic.specs.declared.select.SortKey.{SortKey}
use Rattle.cond_logic.specs.Asked.{OutputTree, SelectMeant}
use Rattle.cond_logic.specs.Tables.{Leaf}
use Rattle.cond_logic.specs.Trees.{CondTree}
use Rattle.plan_tree.specs.Conjuncts.{lies_within}
use Rattle.plan_tree.specs.Counts.{PlanCount, scan_count, append_count, join_count, pairs_count, part_count, given_count, answer_count}
use Rattle.plan_tree.specs.JoinKinds.{is_hash_cond, is_join_filter}
use Rattle.plan_tree.specs.OrderedAppends.{sorted_parts}
use Rattle.plan_tree.specs.Plans.{PlannedItem, Planned, Pair, both as items_of, unpaired, scanned_items, is_empty, scan_conjuncts, hash_conds, join_filter}
use Rattle.plan_tree.specs.declared.join_kind.JoinKind.{JoinKind}
use Rattle.plan_tree.specs.declared.join_kind.JoinKind.TheVariants.{NestedLoop, HashJoin}
use Rattle.plan_tree.specs.declared.count.Count.{Count}
use Rattle.plan_text.specs.declared.named_item.NamedItem.{NamedItem}
use Rattle.plan_text.specs.declared.scans.Detail.{Detail}
use Rattle.plan_text.specs.declared.scans.Detail.TheVariants.{Filter, HashCond, JoinFilter}
use Rattle.plan_text.specs.Conditions.{all_text, several}
use Rattle.plan_text.specs.Keys.{keys}
use Rattle.plan_text.specs.Names.{alias_behind}
use Rattle.plan_text.specs.Nodes.{Node, counted, alone, over, each, both}

-- ---- counts

-- of a plan that was run
abbrev pub Counts : Type 0
Counts = Option PlanCount

abbrev pub told : (PlanCount → Count) → Counts → (text : List ℕ) → List ℕ
told count c text = counted text (option_map count c)

-- ---- conditions

-- what a node tells of an item: what its scans ask, by what a Hash Join finds rows, and what a join asks of these
abbrev pub tells : PlannedItem → Detail → CondTree → Bool
tells i Filter = lies_within i.number i.number
tells i HashCond = is_hash_cond i.join i.number
tells i JoinFilter = is_join_filter i.join i.number

abbrev pub conjuncts_told : PlannedItem → Detail → List CondTree
conjuncts_told i d = filter (tells i d) i.conjuncts

-- a detail, where there is something to ask
abbrev pub detail : (word : List ℕ) → (texts : List (List ℕ)) → List (List ℕ)
detail word [] = []
detail word (t ∷ ts) = (word ++ all_text (t ∷ ts)) ∷ []

abbrev pub filters : List NamedItem → PlannedItem → List (List ℕ)
filters ns i = detail (codes "Filter: ") (several ns (scan_conjuncts i))

abbrev pub join_details : List NamedItem → PlannedItem → List (List ℕ)
join_details ns i = detail (codes "Hash Cond: ") (several ns (hash_conds i)) ++ detail (codes "Join Filter: ") (several ns (join_filter i))

-- ---- items

abbrev pub scan_text : List NamedItem → (item : ℕ) → Leaf → List ℕ
scan_text ns n leaf = codes "Seq Scan on " ++ leaf.name ++ alias_behind ns n

abbrev pub scan : List NamedItem → Counts → (item : ℕ) → (filters : List (List ℕ)) → Leaf → Node
scan ns c n details leaf = alone (told (scan_count n leaf.id) c (scan_text ns n leaf)) details

-- one for each kept leaf
abbrev pub scans : List NamedItem → Counts → (item : ℕ) → (filters : List (List ℕ)) → List Leaf → Node
scans ns c n details = each (scan ns c n details)

-- one that is not pruned again, when the plan starts or beside a tuple, stands by itself
abbrev pub is_one_scan : PlannedItem → Bool
is_one_scan i = length i.leaves == 1 && not (i.is_asked_at_start || i.is_asked_again)

-- how many leaves the start of the plan removed
abbrev pub removed_detail : (removed : ℕ) → List (List ℕ)
removed_detail removed = if removed == 0 then [] else (codes "Subplans Removed: " ++ decimal removed) ∷ []

abbrev pub item_scans : List NamedItem → Counts → PlannedItem → Node
item_scans ns c i = scans ns c i.number (filters ns i) i.leaves

abbrev pub append : List NamedItem → Counts → PlannedItem → Node
append ns c i = over (told (append_count i.number i.part) c (codes "Append")) (removed_detail i.removed) (item_scans ns c i)

abbrev pub item : List NamedItem → Counts → PlannedItem → Node
item ns c i = if is_one_scan i then item_scans ns c i else append ns c i

-- ---- joins

abbrev pub join_text : JoinKind → List ℕ
join_text NestedLoop = codes "Nested Loop"
join_text HashJoin = codes "Hash Join"

abbrev pub join : List NamedItem → Counts → (left : Node) → PlannedItem → Node
join ns c left i = over (told (join_count i.number i.part) c (join_text i.join)) (join_details ns i) (both left (item ns c i))

-- items are joined from the left
abbrev pub joined : List NamedItem → Counts → (left : Node) → List PlannedItem → Node
joined ns c left [] = left
joined ns c left (i ∷ is) = joined ns c (join ns c left i) is

abbrev pub joins : List NamedItem → Counts → List PlannedItem → Node
joins ns c [] d = []
joins ns c (i ∷ is) d = joined ns c (item ns c i) is d

abbrev pub result : (count : PlanCount → Count) → Counts → (details : List (List ℕ)) → Node
result count c = alone (told count c (codes "Result"))

-- where no leaf is kept
abbrev pub never : (count : PlanCount → Count) → Counts → Node
never count c = result count c (codes "One-Time Filter: false" ∷ [])

-- without FROM there is a result alone
abbrev pub items : List NamedItem → Counts → List PlannedItem → Node
items ns c [] = result given_count c []
items ns c (i ∷ is) = joins ns c (i ∷ is)

-- a partitionwise join is an Append of the joins of its pairs; one stands by itself, and for none a result
abbrev pub pair_joins : List NamedItem → Counts → List Pair → Node
pair_joins ns c [] = never (pairs_count []) c
pair_joins ns c (p ∷ []) = joins ns c (items_of p)
pair_joins ns c (p ∷ q ∷ ps) = over (told (pairs_count (p ∷ q ∷ ps)) c (codes "Append")) [] (each (λ r. joins ns c (items_of r)) (p ∷ q ∷ ps))

abbrev pub all_joins : List NamedItem → Counts → Option (List Pair) → List PlannedItem → Node
all_joins ns c None is = items ns c is
all_joins ns c (Some pairs) is = joined ns c (pair_joins ns c pairs) is

-- where an item keeps no leaf nothing is read
abbrev pub rows : List NamedItem → Counts → Planned → Node
rows ns c p = if is_empty p then never given_count c else all_joins ns c p.pairs (unpaired p)

-- ---- ORDER BY, LIMIT and OFFSET

abbrev pub sort_detail : List NamedItem → List OutputTree → List SortKey → List (List ℕ)
sort_detail ns os ks = (codes "Sort Key: " ++ keys ns os ks) ∷ []

abbrev pub sorted : List NamedItem → Counts → List OutputTree → List SortKey → Node → Node
sorted ns c os [] n = n
sorted ns c os (k ∷ ks) n = over (told given_count c (codes "Sort")) (sort_detail ns os (k ∷ ks)) n

-- the scans of a part of an item, alone or under an Append
abbrev pub part_scans : List NamedItem → Counts → PlannedItem → List Leaf → Node
part_scans ns c i part =
    if length part == 1 then scans ns c i.number (filters ns i) part
    else over (told (part_count i.number part) c (codes "Append")) [] (scans ns c i.number (filters ns i) part)

abbrev pub sorted_part : List NamedItem → Counts → (keys : List (List ℕ)) → PlannedItem → List Leaf → Node
sorted_part ns c keys i part = over (told (part_count i.number part) c (codes "Sort")) keys (part_scans ns c i part)

abbrev pub ordered_append : List NamedItem → Counts → (keys : List (List ℕ)) → List PlannedItem → (parts : List (List Leaf)) → Node
ordered_append ns c keys [] parts d = []
ordered_append ns c keys (i ∷ is) parts d = over (told given_count c (codes "Ordered Append")) [] (each (sorted_part ns c keys i) parts) d

-- where ORDER BY goes by the bounds of partitions each is sorted by itself, else all rows are
abbrev pub in_order : List NamedItem → Counts → SelectMeant → Planned → (parts : List (List Leaf)) → Node
in_order ns c m p [] = sorted ns c m.outputs m.order (rows ns c p)
in_order ns c m p (part ∷ parts) = ordered_append ns c (sort_detail ns m.outputs m.order) p.items (part ∷ parts)

abbrev pub limited : Counts → Bool → Node → Node
limited c false n = n
limited c true n = over (told answer_count c (codes "Limit")) [] n

-- the plan of a SELECT over items of these names, with what was counted if it was run; its rows are cut, or not
abbrev pub plan : List NamedItem → Counts → (is_cut : Bool) → SelectMeant → Planned → Node
plan ns c is_cut m p = limited c is_cut (in_order ns c m p (sorted_parts m p))

abbrev pub plan_lines : List NamedItem → Counts → (is_cut : Bool) → SelectMeant → Planned → List (List ℕ)
plan_lines ns c is_cut m p = plan ns c is_cut m p 0

-- a row for each line
abbrev pub text_row : List ℕ → List Value
text_row line = Text line ∷ []

abbrev pub plan_table : List (List ℕ) → Answer
plan_table lines = record { names = codes "QUERY PLAN" ∷ []; kinds = KText ∷ []; rows = map text_row lines }

-- ---- what is read

-- the leaves under the scans of a plan, in order
abbrev pub scanned : Planned → List Leaf
scanned p = if is_empty p then [] else flat_map (λ i. i.leaves) (scanned_items p)
