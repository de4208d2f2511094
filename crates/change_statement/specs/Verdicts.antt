-- What an UPDATE or a DELETE does with a row that it has found, when others may have changed it since (the manual, 13.2.1
-- Read Committed Isolation Level, 13.2.2 Repeatable Read Isolation Level).
use Rattle.std.specs.Prelude.{◌≡◌, ◌≢◌, ℕ, ◌<◌, ◌==◌, ◌||◌, not, zero, suc, Bool, true, false, if◌then◌else◌, List, [], Option, Some, None, IsSome, length, slice_get, slice_index_or}
use Rattle.pg_values.specs.declared.value.Value.{Value}
use Rattle.pg_values.specs.declared.ids.RowId.{RowId}
use Rattle.history.specs.declared.version.Version.{Version}
use Rattle.history.specs.declared.version.Ending.TheVariants.{Deleted, MovedTo, ReplacedBy}
use Rattle.history.specs.Transactions.{session_of, sees_now}
use Rattle.history.specs.History.{History, tx_events, versions, next_version, stands, Outcome, Standing, EndedByRunning, EndedFor, outcome}
use Rattle.tx_table.specs.Kept.{KeptTable}
use Rattle.tx_table.specs.Stands.{TableStands, sees_now_by}
use Rattle.row_store.specs.declared.scan.SeenRow.{SeenRow}
use Rattle.row_store.specs.Kept.{KeptRows, stored_at}
use Rattle.row_store.specs.Stands.{StoreStands}
use Rattle.cond_logic.specs.Trees.{CondTree}
use Rattle.cond_logic.specs.Asked.{maybe_cond}
use Rattle.change_statement.specs.declared.updater.Updater.{Updater}
use Rattle.change_statement.specs.declared.verdicts.Conflict.{Conflict}
use Rattle.change_statement.specs.declared.verdicts.Conflict.TheVariants.{Changed, Moved}
use Rattle.change_statement.specs.declared.verdicts.Verdict.{Verdict}
use Rattle.change_statement.specs.declared.verdicts.Verdict.TheVariants.{Change, Pass, Wait, Refuse}
use Rattle.change_statement.specs.Targets.{takes}

-- who changes rows: a session by its transaction; whether the transaction is REPEATABLE READ; the condition of the
-- statement
pub record UpdaterMeant : Type 0 where
  pub session : ℕ
  pub tx : ℕ
  pub repeats : Bool
  pub condition : Option CondTree

abbrev pub updater_meant : Updater → UpdaterMeant
updater_meant u = record { session = u.session; tx = u.tx.number; repeats = u.repeats; condition = maybe_cond u.condition.now }

-- the version is changed; the row is passed over; the session's transaction has to end first; the statement is refused
pub data Decision : Type 0 where
  Changes : RowId → (row : List Value) → Decision
  PassesBy : Decision
  WaitsFor : (session : ℕ) → Decision
  Refuses : Conflict → Decision

-- ---- versions

abbrev pub row_in : Option Version → List Value
row_in None = []
row_in (Some v) = v.row

-- the row of a version
abbrev pub row_at : History → ℕ → List Value
row_at h k = row_in (slice_get (versions h) k)

-- there is such a version, and the transaction sees its birth now
abbrev pub is_born : History → ℕ → Option Version → Bool
is_born h tx None = false
is_born h tx (Some v) = sees_now (tx_events h) tx v.by.number

-- ---- the table

-- the row was found by its condition; a later version is tested again
abbrev pub if_taken : UpdaterMeant → (again : Bool) → RowId → List Value → Decision
if_taken u again id row = if not again || takes u.condition row then Changes id row else PassesBy

-- a row that the statement has changed itself is done
abbrev pub if_another : (own session : ℕ) → Decision
if_another own session = if session == own then PassesBy else WaitsFor session

-- REPEATABLE READ changes nothing that was changed after its snapshot
abbrev pub unless_repeats : (repeats : Bool) → (session : ℕ) → Decision → Decision
unless_repeats true session other = Refuses (Changed session)
unless_repeats false session other = other

-- by what became of the version: it stands; a transaction that still runs has ended it; a committed one has deleted it,
-- moved its row to another leaf, or replaced it by a version, which `next` decides
abbrev pub by_outcome : (next : RowId → Decision) → History → UpdaterMeant → (again : Bool) → RowId → Outcome → Decision
by_outcome next h u again id Standing = if_taken u again id (row_at h id.number)
by_outcome next h u again id (EndedByRunning tx) = if_another u.session (session_of (tx_events h) tx)
by_outcome next h u again id (EndedFor tx Deleted) = unless_repeats u.repeats (session_of (tx_events h) tx) PassesBy
by_outcome next h u again id (EndedFor tx (MovedTo leaf)) = Refuses (Moved (session_of (tx_events h) tx))
by_outcome next h u again id (EndedFor tx (ReplacedBy new)) = unless_repeats u.repeats (session_of (tx_events h) tx) (next new)

-- a version that replaces another one is decided by the same table; n versions are looked at, at most
abbrev pub decided_within : (n : ℕ) → History → UpdaterMeant → (again : Bool) → RowId → Decision
decided_within zero h u again id = PassesBy
decided_within (suc n) h u again id = by_outcome (decided_within n h u true) h u again id (outcome h id.number)

-- of a target; no version is replaced by an earlier one, so as many are looked at as there are
abbrev pub decided : History → UpdaterMeant → RowId → Decision
decided h u id = if is_born h u.tx (slice_get (versions h) id.number) then decided_within (next_version h) h u false id else PassesBy

-- ---- what a verdict tells

abbrev pub verdict_told : Verdict → Decision
verdict_told (Change seen) = Changes seen.id seen.row.now
verdict_told Pass = PassesBy
verdict_told (Wait session) = WaitsFor session
verdict_told (Refuse conflict) = Refuses conflict

-- the version may be ended: it is there, stands, and the transaction sees its birth; its leaf is that of the target
pub record MayEnd (txs : KeptTable) (kept : KeptRows) (tx : ℕ) (target : RowId) (seen : SeenRow) : Type 0 where
  pub known : seen.id.number < length kept.stored
  pub standing : (h : History) → TableStands txs h → StoreStands kept h → stands h seen.id.number ≡ true
  pub born : sees_now_by txs tx (stored_at kept.stored seen.id).version.by.number ≡ true
  pub leaf : (stored_at kept.stored seen.id).version.leaf ≡ (stored_at kept.stored target).version.leaf
  pub row : seen.row.now ≡ (stored_at kept.stored seen.id).version.row

-- the session is another one, and has a transaction that is open
pub record MayWaitFor (txs : KeptTable) (own session : ℕ) : Type 0 where
  pub another : session ≢ own
  pub known : session < length txs.current
  pub runs : IsSome (slice_index_or txs.current session None)

abbrev pub IfChange : Verdict → (SeenRow → Type 0) → Type 0
IfChange (Change seen) P = P seen
IfChange Pass P = Unit {0}
IfChange (Wait session) P = Unit {0}
IfChange (Refuse conflict) P = Unit {0}

abbrev pub IfWait : Verdict → (ℕ → Type 0) → Type 0
IfWait (Change seen) P = Unit {0}
IfWait Pass P = Unit {0}
IfWait (Wait session) P = P session
IfWait (Refuse conflict) P = Unit {0}
