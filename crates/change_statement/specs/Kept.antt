-- What an UPDATE or a DELETE reads and locks of the tables under the one that it names (the manual, 5.11.4 Partition
-- Pruning; 13.3.1 Table-Level Locks).
use Rattle.std.specs.Prelude.{Bool, false, if◌then◌else◌, List, [], ◌∷◌, map, Option, Some, None}
use Rattle.pg_values.specs.declared.ids.LeafId.{LeafId}
use Rattle.pg_values.specs.declared.ids.TableNo.{TableNo}
use Rattle.pg_values.specs.declared.value.Value.{Value}
use Rattle.row_router.specs.Trees.{TableTree}
use Rattle.cond_logic.specs.Rewriting.{with_args}
use Rattle.cond_logic.specs.Trees.{CondTree}
use Rattle.plan_tree.specs.Conditions.{all_hold}
use Rattle.plan_tree.specs.Kept.{Keeps, keeps_by, keeps_for as keeps_for_all, id_of, kept_leaves, kept_tables}
use Rattle.plan_tree.specs.declared.planning.Planning.{Planning}
use Rattle.cond_logic.specs.Asked.{SettingMeant}
use Rattle.statement_steps.specs.Below.{below}
use Rattle.statement_steps.specs.Gathered.{sets_key}

-- ---- what the condition keeps

-- without a condition all rows are taken
abbrev pub condition_or_all : Option CondTree → CondTree
condition_or_all None = all_hold []
condition_or_all (Some c) = c

-- which children are kept; all where the session prunes nothing
abbrev pub keeps_for : (prunes : Bool) → Option CondTree → Keeps
keeps_for prunes condition = keeps_by prunes (condition_or_all condition)

-- and by this condition with values in the places of its parameters too
abbrev pub keeps_with : (prunes : Bool) → (args : List Value) → CondTree → Keeps
keeps_with prunes args c = keeps_for_all prunes 0 (c ∷ with_args args c ∷ [])

-- a generic plan reads, of the leaves that it keeps, those that the values of parameters keep too
abbrev pub keeps_started : Planning → (args : List Value) → Option CondTree → Keeps
keeps_started how args condition = if how.is_generic then keeps_with how.prunes args (condition_or_all condition) else keeps_for how.prunes condition

-- the leaves that are read
abbrev pub leaves_read : Keeps → TableTree → List LeafId
leaves_read keeps tree = map id_of (kept_leaves keeps tree)

-- ---- rows that may move

-- where no leaf is kept nothing moves
abbrev pub if_some : {X : Type 0} → List X → Bool → Bool
if_some [] b = false
if_some (x ∷ xs) b = b

-- rows of the kept leaves may get to any other
abbrev pub moves : Keeps → List SettingMeant → TableTree → Bool
moves keeps settings tree = if_some (kept_leaves keeps tree) (sets_key settings tree)

-- ---- what is locked

-- the tables under the named one that lead to a kept leaf, and those of kept leaves; or all of them
abbrev pub tables_locked : Keeps → List SettingMeant → TableTree → List TableNo
tables_locked keeps settings tree = if moves keeps settings tree then below tree else kept_tables keeps tree
