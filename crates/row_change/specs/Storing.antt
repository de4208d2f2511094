-- What storing rows makes of a history, and why a row is not stored (the manual, INSERT; CREATE TABLE, NOT NULL; ALTER
-- TABLE, DETACH PARTITION).
use Rattle.std.specs.Prelude.{◌≡◌, ℕ, ◌+◌, ◌<◌, ◌==◌, ◌&&◌, Bool, nat_le, not, if◌then◌else◌, List, [], ◌∷◌, ◌++◌, Option, Some, None, Result, Ok, Err, All, find, length}
use Rattle.pg_values.specs.declared.value.Value.{Value}
use Rattle.pg_values.specs.declared.fault.Fault.{Fault}
use Rattle.pg_values.specs.declared.fault.Refusal.{Refusal}
use Rattle.pg_values.specs.declared.fault.Refusal.TheVariants.{Sql, NoMemory}
use Rattle.pg_values.specs.declared.ids.LeafId.{LeafId}
use Rattle.pg_values.specs.declared.ids.TableNo.{TableNo}
use Rattle.pg_values.specs.declared.which.Which.TheVariants.{Versions, BytesOfRows}
use Rattle.bound_forms.specs.Points.{is_null}
use Rattle.pg_values.specs.Refusals.{unless}
use Rattle.refusals.specs.Refusals.{null_column, kept_check, too_many}
use Rattle.history.specs.declared.transaction.TxId.{TxId}
use Rattle.history.specs.declared.catalogue.Column.{Column}
use Rattle.history.specs.declared.catalogue.Table.{Table}
use Rattle.history.specs.Rows.{RowBorn}
use Rattle.history.specs.Catalogue.{tables_made}
use Rattle.history.specs.History.{History, RowChange, versions, catalogue_events}
use Rattle.history.specs.Places.{table_at}
use Rattle.row_router.specs.declared.path_part.PathPart.{PathPart}
use Rattle.row_router.specs.declared.path.PathTest.TheVariants.{Checks}
use Rattle.row_router.specs.Paths.{refused, PartFits}
use Rattle.row_store.specs.declared.refused.PutCause.{PutCause}
use Rattle.row_store.specs.declared.refused.PutCause.TheVariants.{Full, NoMemory as NoRoom}
use Rattle.row_store.specs.declared.TheConstants.{VERSION_LIMIT, BYTES_LIMIT}
use Rattle.row_store.specs.Kept.{KeptRows}
use Rattle.row_store.specs.Limits.{row_bytes, versions_bytes}
use Rattle.row_store.specs.Stands.{StoreStands, newborn}
use Rattle.row_change.specs.declared.target.Target.{Target}
use Rattle.row_change.specs.Placing.{name_at, bounds_faults, IsPartNumbered}

-- ---- the tests of a row

-- a value is null where its column is NOT NULL
abbrev pub null_faults : (leaf : List ℕ) → List Column → List Value → List Fault
null_faults leaf [] vs = []
null_faults leaf (c ∷ cs) [] = []
null_faults leaf (c ∷ cs) (v ∷ vs) = unless (not (c.not_null && is_null v)) (null_column c.name leaf) ++ null_faults leaf cs vs

-- in a table by its own columns
abbrev pub own_null_faults : List Table → TableNo → List Value → List Fault
own_null_faults tables t row = null_faults (name_at tables t) (table_at tables t.number).columns row

abbrev pub check_told : List Table → List Value → Option TableNo → List Fault
check_told tables row None = []
check_told tables row (Some t) = kept_check (name_at tables t) row ∷ []

-- the nearest table of a path that has a kept CHECK which refuses the row
abbrev pub check_faults : List Table → List PathPart → List Value → List Fault
check_faults tables path row = check_told tables row (refused Checks row path)

-- of a leaf that is named itself the bounds are asked too
abbrev pub named_faults : List Table → Target → List Value → List Fault
named_faults tables target row = if target.is_named then bounds_faults tables target.path row else []

-- NOT NULL of the leaf's own table, then the kept CHECKs along its path, then the bounds
abbrev pub target_faults : List Table → Target → List Value → List Fault
target_faults tables target row = own_null_faults tables target.table row ++ (check_faults tables target.path row ++ named_faults tables target row)

-- what is known of a leaf
abbrev pub is_into : LeafId → Target → Bool
is_into leaf target = target.leaf.number == leaf.number

abbrev pub leaf_faults : List Table → Option Target → List Value → List Fault
leaf_faults tables None row = []
leaf_faults tables (Some target) row = target_faults tables target row

-- one more version would be too many, or its values
abbrev pub full_faults : History → List Value → List Fault
full_faults h row = if nat_le VERSION_LIMIT (length (versions h)) then too_many Versions ∷ [] else unless (nat_le (versions_bytes (versions h) + row_bytes row) BYTES_LIMIT) (too_many BytesOfRows)

-- ---- what is made of the history

-- the events, the newest first, and the refusal, if there is one
pub record Made : Type 0 where
  pub events : History
  pub told : Result (Unit {0}) Fault

abbrev pub made_by : List Fault → History → Made
made_by [] events = record { events = events; told = Ok tt }
made_by (f ∷ fs) events = record { events = []; told = Err f }

-- a row that passes is born in the leaf
abbrev pub stored : History → List Fault → LeafId → List Value → TxId → ℕ → Made
stored h faults leaf row by cmd = made_by (faults ++ full_faults h row) (RowChange (RowBorn (newborn h leaf row by cmd)) ∷ [])

-- behind what is made already
abbrev pub behind : History → Made → Made
behind events made = record { events = made.events ++ events; told = made.told }

-- the first refusal ends it
abbrev pub made_after : Result (Unit {0}) Fault → History → Made → Made
made_after (Ok u) events next = behind events next
made_after (Err f) events next = record { events = events; told = Err f }

-- row after row, each after those before it
abbrev pub all_stored : List Target → TxId → ℕ → History → List LeafId → List (List Value) → Made
all_stored targets by cmd h [] rows = record { events = []; told = Ok tt }
all_stored targets by cmd h (l ∷ ls) [] = record { events = []; told = Ok tt }
all_stored targets by cmd h (l ∷ ls) (r ∷ rs) =
    let first = stored h (leaf_faults (tables_made (catalogue_events h)) (find (is_into l) targets) r) l r by cmd in
    made_after first.told first.events (all_stored targets by cmd (first.events ++ h) ls rs)

-- want of memory apart, this is what the answer tells, and the store stands for the history with the events
abbrev pub IsMade : Result (Unit {0}) Refusal → KeptRows → History → Made → Type 0
IsMade (Ok u) kept h made = (made.told ≡ Ok tt) × StoreStands kept (made.events ++ h)
IsMade (Err (Sql f)) kept h made = (made.told ≡ Err f) × StoreStands kept (made.events ++ h)
IsMade (Err NoMemory) kept h made = Unit {0}

-- ---- what may be asked

-- the tables of a target are among the first n
abbrev pub IsTargetNumbered : ℕ → Target → Type 0
IsTargetNumbered n target = (target.table.number < n) × All (IsPartNumbered n) target.path

abbrev pub FitsTargets : List Target → List Value → Type 0
FitsTargets targets row = All (λ t. All (PartFits row) t.path) targets

abbrev pub IsLeafKnown : ℕ → LeafId → Type 0
IsLeafKnown n leaf = leaf.number < n

-- ---- what the store refuses

abbrev pub IsRefusal : Refusal → PutCause → Type 0
IsRefusal NoMemory cause = Unit {0}
IsRefusal (Sql f) (Full which) = f ≡ too_many which
IsRefusal (Sql f) NoRoom = ⊥

-- why a table does not take a row: NOT NULL of its columns, then the CHECKs kept along its path, then the bounds there where
-- the statement names the table itself
abbrev pub table_faults : List Table → TableNo → List PathPart → (is_named : Bool) → List Value → List Fault
table_faults tables t path is_named row = own_null_faults tables t row ++ (check_faults tables path row ++ (if is_named then bounds_faults tables path row else []))
