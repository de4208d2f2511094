-- Which partitions a plan scans, beside what is detached meanwhile (the manual, ALTER TABLE, DETACH PARTITION; EXPLAIN).
use Rattle.std.specs.Prelude.{ℕ, All, List}
use Rattle.std.specs.List.{Contains}
use Rattle.pg_values.specs.declared.ids.LeafId.{LeafId}
use Rattle.pg_values.specs.declared.value.Value.{Value}
use Rattle.history.specs.History.{History, catalogue_events}
use Rattle.history.specs.Snapshots.{TakenSnapshot}
use Rattle.soundness.specs.Worlds.{IsMade}
use Rattle.legal_statements.specs.ShownPartitions.{IsShownBelow}
use Rattle.cond_logic.specs.Asked.{SelectMeant}
use Rattle.plan_tree.specs.Plans.{plan_by}
use Rattle.plan_tree.specs.declared.planning.Planning.{Planning}
use Rattle.plan_text.specs.Plans.{scanned}
use Rattle.stores.specs.Events.{look_of}
use Rattle.stores.specs.Good.{IsGood}
use Rattle.statement_steps.specs.declared.caller.Caller.{Caller}
use Rattle.select_statement.specs.Selected.{trees_for}

-- the leaf is shown below one of these tables, by entries alone whose births count and no ends, and of which the snapshot sees
-- no mark
abbrev pub IsShownBelowOne : (h : History) → (session : ℕ) → TakenSnapshot → (tables : List ℕ) → LeafId → Type 0
IsShownBelowOne h session s tables leaf = (top : ℕ) × Contains tables top × IsShownBelow h session s top leaf

-- so is each leaf under a scan of a plan that is made there, and started with whatever values of parameters, whether it is run or
-- printed
abbrev pub ScansAreFresh : History → Type 0
ScansAreFresh h = (how : Planning) (c : Caller) (args : List Value) (m : SelectMeant) (ns : List ℕ) → All (IsMade (catalogue_events h)) ns
    → All (λ l. IsShownBelowOne h c.session (look_of h c.session c.cmd) ns l.id) (scanned (plan_by how args m.conditions (trees_for c ns h)))

abbrev pub EachScanIsFresh : Type 0
EachScanIsFresh = (h : History) → IsGood h → ScansAreFresh h
