-- What holds of every UPDATE and DELETE.
use Rattle.std.specs.Prelude.{◌≡◌, ℕ, if◌then◌else◌, List, Option}
use Rattle.pg_values.specs.declared.value.Value.{Value}
use Rattle.history.specs.Snapshots.{TakenSnapshot}
use Rattle.history.specs.History.{History, catalogue_events}
use Rattle.history.specs.Legal.{IsLegal}
use Rattle.row_router.specs.Histories.{path_of, table_of, tree_of}
use Rattle.row_router.specs.Trees.{leaves}
use Rattle.cond_logic.specs.Trees.{CondTree}
use Rattle.plan_tree.specs.declared.planning.Planning.{Planning}
use Rattle.sql_binder.specs.Values.{condition_with}
use Rattle.soundness.specs.Worlds.{IsMade}
use Rattle.soundness.specs.Legal.{ArePermitted}
use Rattle.soundness.specs.Laws.{IsLooking}
use Rattle.change_statement.specs.Targets.{targets}
use Rattle.cond_logic.specs.Asked.{ChangeMeant}
use Rattle.stores.specs.Events.{look_of}
use Rattle.statement_steps.specs.Made.{Made}
use Rattle.statement_steps.specs.declared.caller.Caller.{Caller}
use Rattle.change_statement.specs.Changed.{Changing, changed_from, changed_in}
use Rattle.statement_steps.specs.Gathered.{Found}
use Rattle.change_statement.specs.Gathered.{found_by}
use Rattle.change_statement.specs.Kept.{keeps_started, leaves_read}

-- a generic plan is run with the values of parameters in their places
abbrev pub condition_by : Planning → (args : List Value) → Option CondTree → Option CondTree
condition_by how args condition = if how.is_generic then condition_with args condition else condition

-- in each history of the stores the targets that are found in the kept leaves are those of all leaves of the tree, as lists
abbrev pub KeptHaveAllTargets : Type 0
KeptHaveAllTargets = (how : Planning) (args : List Value) (condition : Option CondTree) (h : History) (session table : ℕ) (s : TakenSnapshot) → IsLegal h → ArePermitted h → IsLooking h session s → IsMade (catalogue_events h) table
    → targets h s (condition_by how args condition) (leaves_read (keeps_started how args condition) (tree_of h session table s)) ≡ targets h s (condition_by how args condition) (leaves (tree_of h session table s))

-- so what the statement makes of the history, its events and how many rows it changes, is what it would make of it over all leaves
abbrev pub plainly_changed : Changing → List (List ℕ) → Caller → Found → History → Made ℕ
plainly_changed change names c g h = changed_in (leaves g.tree) change names c g h

-- what is gathered of a table: its tree is that of the command's snapshot
abbrev pub gathered_of : Planning → Caller → (args : List Value) → (table : ℕ) → ChangeMeant → History → Found
gathered_of how c args table m h =
    found_by how args (table_of table) (tree_of h c.session table (look_of h c.session c.cmd)) (path_of h c.session table) m

abbrev pub PrunedChangesArePlain : Type 0
PrunedChangesArePlain = (how : Planning) (args : List Value) (change : Changing) (names : List (List ℕ)) (c : Caller) (table : ℕ) (m : ChangeMeant) (h : History)
    → IsLegal h → ArePermitted h → IsLooking h c.session (look_of h c.session c.cmd) → IsMade (catalogue_events h) table
    → changed_from change names c (gathered_of how c args table m h) h ≡ plainly_changed change names c (gathered_of how c args table m h) h
