-- A version that is followed by another one: what is made of the history (the manual, UPDATE).
use Rattle.std.specs.Prelude.{◌≡◌, ℕ, ◌<◌, ◌≤◌, ◌==◌, true, if◌then◌else◌, List, [], ◌∷◌, length}
use Rattle.pg_values.specs.declared.value.Value.{Value}
use Rattle.pg_values.specs.declared.ids.LeafId.{LeafId}
use Rattle.pg_values.specs.declared.ids.RowId.{RowId}
use Rattle.history.specs.declared.transaction.TxId.{TxId}
use Rattle.history.specs.declared.version.Ending.{Ending}
use Rattle.history.specs.declared.version.Ending.TheVariants.{MovedTo, ReplacedBy}
use Rattle.history.specs.declared.version.Version.{Version}
use Rattle.history.specs.Rows.{RowBorn, RowEnded}
use Rattle.history.specs.History.{History, RowChange}
use Rattle.row_store.specs.Kept.{KeptRows, stored_at}
use Rattle.row_store.specs.Stands.{newborn}
use Rattle.row_change.specs.Storing.{Made, full_faults, made_by}

-- it is replaced in its leaf, or its row is moved to another one
abbrev pub ending_to : (old new : LeafId) → RowId → Ending
ending_to old new id = if old.number == new.number then ReplacedBy id else MovedTo new

-- the version is born, and the other one ends
abbrev pub follows : (old : LeafId) → RowId → Version → History
follows old id v = RowChange (RowEnded id.number (record { by = v.by; cmd = v.cmd; how = ending_to old v.leaf v.id })) ∷ RowChange (RowBorn v) ∷ []

-- where there is room
abbrev pub succeeded : History → (old : LeafId) → RowId → (new : LeafId) → List Value → TxId → (cmd : ℕ) → Made
succeeded h old id new row by cmd = made_by (full_faults h row) (follows old id (newborn h new row by cmd))

-- the versions that were there are as they were born
pub record KeepsVersions (old new : KeptRows) : Type 0 where
  pub more : length old.stored ≤ length new.stored
  pub leaves : new.leaves ≡ old.leaves
  pub same : (id : RowId) → id.number < length old.stored → (stored_at new.stored id).version ≡ (stored_at old.stored id).version
