-- The rows that an UPDATE or a DELETE finds (the manual, 13.2.1 Read Committed Isolation Level; 6.2 Updating Data): those
-- that its snapshot sees and that its condition takes, in plain order.
use Rattle.std.specs.Prelude.{◌<◌, Bool, true, false, List, [], Option, Some, None, map, filter, length}
use Rattle.std.specs.List.{flat_map}
use Rattle.pg_values.specs.declared.value.Value.{Value}
use Rattle.pg_values.specs.declared.ids.LeafId.{LeafId}
use Rattle.pg_values.specs.declared.ids.RowId.{RowId}
use Rattle.history.specs.declared.version.Version.{Version}
use Rattle.history.specs.Snapshots.{TakenSnapshot}
use Rattle.history.specs.History.{History, seen}
use Rattle.row_store.specs.Kept.{KeptRows}
use Rattle.cond_logic.specs.declared.truth.Truth3.{Truth3}
use Rattle.cond_logic.specs.declared.truth.Truth3.TheVariants.{Yes, No, Unknown}
use Rattle.cond_logic.specs.Trees.{CondTree}
use Rattle.cond_logic.specs.Truths.{truth}
use Rattle.cond_logic.specs.Tuples.{no_rows, put}
use Rattle.statement_steps.specs.declared.rest.TargetRow.{TargetRow}

abbrev pub is_yes : Truth3 → Bool
is_yes Yes = true
is_yes No = false
is_yes Unknown = false

-- a condition takes the rows for which it is true; without one all rows are taken
abbrev pub takes : Option CondTree → List Value → Bool
takes None row = true
takes (Some c) row = is_yes (truth (put no_rows 0 row) [] c)

abbrev pub target_of : Version → TargetRow
target_of v = record { leaf = v.leaf; id = v.id }

-- of a leaf, in order of birth
abbrev pub targets_in : History → TakenSnapshot → Option CondTree → LeafId → List TargetRow
targets_in h s condition leaf = map target_of (filter (λ v. takes condition v.row) (seen h leaf.number s))

-- of the numbers and values that a scan of a leaf shows
abbrev pub taken : Option CondTree → LeafId → List (RowId × List Value) → List TargetRow
taken condition leaf rows = map (λ r. record { leaf = leaf; id = r.0 }) (filter (λ r. takes condition r.1) rows)

-- of leaves, one leaf after the other
abbrev pub targets : History → TakenSnapshot → Option CondTree → List LeafId → List TargetRow
targets h s condition leaves = flat_map (targets_in h s condition) leaves

-- the version and the leaf are there
abbrev pub IsTargetThere : KeptRows → TargetRow → Type 0
IsTargetThere kept target = (target.id.number < length kept.stored) × (target.leaf.number < kept.leaves)
