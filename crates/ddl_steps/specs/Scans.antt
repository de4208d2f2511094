-- Scans of tables, for rows that may not be there (the manual, ALTER TABLE, ATTACH PARTITION; 13.2).
use Rattle.std.specs.Prelude.{◌≡◌, ◌≤◌, ℕ, Bool, false, ◌||◌, List, [], ◌∷◌, ◌++◌, Option, Some, None, Result}
use Rattle.pg_values.specs.declared.fault.Fault.{Fault}
use Rattle.pg_values.specs.declared.value.Value.{Value}
use Rattle.pg_values.specs.Sets.{has}
use Rattle.pg_values.specs.declared.ids.LeafId.{LeafId}
use Rattle.pg_values.specs.declared.session_set.SessionSet.{SessionSet}
use Rattle.pg_values.specs.Refusals.{or_first}
use Rattle.history.specs.declared.version.Version.{Version}
use Rattle.history.specs.History.{History}
use Rattle.row_store.specs.Judged.{refusing, seeing}
use Rattle.stores.specs.Events.{tx_in}
use Rattle.ddl_steps.specs.Sessions.{those}

-- the leaves whose rows are judged, which rows may not be there, and what is told of one
pub record Scan : Type 0 where
  pub leaves : List LeafId
  pub breaks : List Value → Bool
  pub fault : List Value → Fault

abbrev pub fault_told : (List Value → Fault) → Option Version → List Fault
fault_told fault None = []
fault_told fault (Some v) = fault v.row ∷ []

-- what the session is refused with: of each scan the first such row that is live, or that its own open snapshot sees
abbrev pub refusals : History → (session : ℕ) → List Scan → List Fault
refusals h s [] = []
refusals h s (x ∷ xs) = fault_told x.fault (refusing h s (tx_in h s) x.leaves x.breaks) ++ refusals h s xs

-- the open snapshot of another session sees such a row of one of the scans
abbrev pub watches : History → (session : ℕ) → List Scan → (other : ℕ) → Bool
watches h s [] r = false
watches h s (x ∷ xs) r = seeing h s x.leaves x.breaks r || watches h s xs r

-- the first refusal, or else whose snapshots have to go
abbrev pub judged : History → (session : ℕ) → List Scan → Result SessionSet Fault
judged h s scans = or_first (refusals h s scans) (those (watches h s scans))

-- nobody is refused, and no other session's snapshot has to go
abbrev pub IsClean : History → (session : ℕ) → List Scan → Type 0
IsClean h s scans = (refusals h s scans ≡ []) × ((r : ℕ) → watches h s scans r ≡ false)

-- of one list of leaves: no row refuses that breaks the test, and these are the sessions that see one
pub record IsPassed (h : History) (session : ℕ) (leaves : List LeafId) (breaks : List Value → Bool) (others : SessionSet) : Type 0 where
  pub none : refusing h session (tx_in h session) leaves breaks ≡ None
  pub all : (r : ℕ) → has others r ≡ seeing h session leaves breaks r
  pub low : (r : ℕ) → 128 ≤ r → has others r ≡ false

-- or this is the first that does
pub record IsRefused (h : History) (session : ℕ) (leaves : List LeafId) (breaks : List Value → Bool) (row : List Value) : Type 0 where
  pub first : Version
  pub refuses : refusing h session (tx_in h session) leaves breaks ≡ Some first
  pub is_row : row ≡ first.row
