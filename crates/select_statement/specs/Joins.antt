-- What the scans of a plan read (the manual, 14.1 Using EXPLAIN): a Nested Loop runs those of its right item beside each tuple
-- of its left side, a Hash Join once, and a partitionwise join those of its pairs by themselves.
use Rattle.std.specs.Prelude.{◌≡◌, ◌<◌, false, All, if◌then◌else◌, List, [], ◌∷◌, ◌++◌, Option, Some, None, length, map, filter}
use Rattle.std.specs.List.{Contains, flat_map}
use Rattle.std.specs.List.Sorted.{IsPermutation}
use Rattle.pg_values.specs.declared.ids.LeafId.{LeafId}
use Rattle.pg_values.specs.declared.value.Value.{Value}
use Rattle.row_router.specs.Trees.{TableTree}
use Rattle.cond_logic.specs.Asked.{SelectMeant}
use Rattle.plan_tree.specs.Kept.{id_of}
use Rattle.plan_tree.specs.Laws.{Rows}
use Rattle.plan_tree.specs.Plans.{PlannedItem, Planned, Pair, both, unpaired, is_empty, leaves_for, plan_by}
use Rattle.plan_tree.specs.declared.join_kind.JoinKind.{JoinKind}
use Rattle.plan_tree.specs.declared.join_kind.JoinKind.TheVariants.{NestedLoop, HashJoin}
use Rattle.plan_tree.specs.declared.planning.Planning.{Planning}
use Rattle.select_answer.specs.Laws.{plan_reads}
use Rattle.select_answer.specs.Tuples.{Tuple, no_tuple, passes, tuples_in}
use Rattle.plan_text.specs.Plans.{scanned}

-- ---- item by item

-- an item's scans beside each of these tuples: those of the leaves that are kept there
abbrev pub read_beside : PlannedItem → List Tuple → List LeafId
read_beside i left = flat_map (λ t. map id_of (leaves_for i t.rows)) left

abbrev pub item_reads : JoinKind → PlannedItem → List Tuple → List LeafId
item_reads NestedLoop i left = read_beside i left
item_reads HashJoin i left = map id_of i.leaves

-- the tuples with the rows that come of these scans and pass
abbrev pub joined_with : (args : List Value) → Rows → PlannedItem → List Tuple → List Tuple
joined_with args rows i left = flat_map (λ t. filter (passes args i.conjuncts) (flat_map (tuples_in rows i.number t) (leaves_for i t.rows))) left

-- items from the left, where these tuples came of those before
abbrev pub items_read : (args : List Value) → Rows → List PlannedItem → (left : List Tuple) → List LeafId
items_read args rows [] left = []
items_read args rows (i ∷ is) left = item_reads i.join i left ++ items_read args rows is (joined_with args rows i left)

abbrev pub all_joined_with : (args : List Value) → Rows → List PlannedItem → List Tuple → List Tuple
all_joined_with args rows [] left = left
all_joined_with args rows (i ∷ is) left = all_joined_with args rows is (joined_with args rows i left)

-- ---- pair by pair

abbrev pub pairs_read : (args : List Value) → Rows → Option (List Pair) → List LeafId
pairs_read args rows None = []
pairs_read args rows (Some pairs) = flat_map (λ p. items_read args rows (both p) (no_tuple ∷ [])) pairs

-- the tuples with which the other items are joined
abbrev pub pairs_give : (args : List Value) → Rows → Option (List Pair) → List Tuple
pairs_give args rows None = no_tuple ∷ []
pairs_give args rows (Some pairs) = flat_map (λ p. all_joined_with args rows (both p) (no_tuple ∷ [])) pairs

abbrev pub scans_read : (args : List Value) → Rows → Planned → List LeafId
scans_read args rows p = if is_empty p then [] else pairs_read args rows p.pairs ++ items_read args rows (unpaired p) (pairs_give args rows p.pairs)

-- ---- the plan that is printed is the one that runs

-- but for their order the reads are those of the scans: of a Nested Loop each as often as there are tuples to its left beside
-- which its leaf is kept, of a Hash Join each once
abbrev pub JoinsReadTheirScans : Type 0
JoinsReadTheirScans = (how : Planning) (args : List Value) (m : SelectMeant) (rows : Rows) (trees : List TableTree) → IsPermutation (scans_read args rows (plan_by how args m.conditions trees)) (plan_reads how args m rows trees)

-- each leaf that is read stands under a scan that is printed
abbrev pub ReadsAreScanned : Type 0
ReadsAreScanned = (how : Planning) (args : List Value) (m : SelectMeant) (rows : Rows) (trees : List TableTree) → All (Contains (map id_of (scanned (plan_by how args m.conditions trees)))) (plan_reads how args m rows trees)

-- in a Nested Loop no left side comes out empty, and beside none leaves are pruned again
abbrev pub IsReached : JoinKind → PlannedItem → (left : List Tuple) → Type 0
IsReached NestedLoop i left = (0 < length left) × (i.is_asked_again ≡ false)
IsReached HashJoin i left = Unit {0}

abbrev pub AreReached : (args : List Value) → Rows → List PlannedItem → (left : List Tuple) → Type 0
AreReached args rows [] left = Unit {0}
AreReached args rows (i ∷ is) left = IsReached i.join i left × AreReached args rows is (joined_with args rows i left)

abbrev pub PairsAreReached : (args : List Value) → Rows → Option (List Pair) → Type 0
PairsAreReached args rows None = Unit {0}
PairsAreReached args rows (Some pairs) = All (λ p. AreReached args rows (both p) (no_tuple ∷ [])) pairs

abbrev pub IsPlanReached : (args : List Value) → Rows → Planned → Type 0
IsPlanReached args rows p = PairsAreReached args rows p.pairs × AreReached args rows (unpaired p) (pairs_give args rows p.pairs)

-- then each leaf under a scan that is printed is read
abbrev pub ReachedScansAreRead : Type 0
ReachedScansAreRead = (how : Planning) (args : List Value) (m : SelectMeant) (rows : Rows) (trees : List TableTree) → IsPlanReached args rows (plan_by how args m.conditions trees)
    → All (Contains (plan_reads how args m rows trees)) (map id_of (scanned (plan_by how args m.conditions trees)))
