-- What becomes of the first of the rows that are left.
use Rattle.std.specs.Prelude.{◌≡◌, ◌≢◌, ◌<◌, ◌≤◌, ◌+◌, ℕ, List, Result, Ok, Err}
use Rattle.history.specs.History.{History}
use Rattle.row_change.specs.Succession.{KeepsVersions}
use Rattle.stores.specs.Stand.{Stands}
use Rattle.stores.specs.declared.stores.Stores.{Stores}
use Rattle.statement_steps.specs.Gathered.{Found}
use Rattle.statement_steps.specs.declared.caller.Caller.{Caller}
use Rattle.statement_steps.specs.declared.rest.TargetRow.{TargetRow}
use Rattle.statement_steps.specs.declared.stop.Stop.{Stop}
use Rattle.change_statement.specs.Changed.{Changing, one_changed, updater}
use Rattle.change_statement.specs.Running.{IsRun}
use Rattle.change_statement.specs.Verdicts.{Decision, WaitsFor, decided}
use Rattle.change_statement.specs.declared.turn.Turn.{Turn}
use Rattle.change_statement.specs.declared.turn.Turn.TheVariants.{Counted, Waits}

-- the same is decided at each history that the stores stand for
abbrev pub IsDecided : Stores → Caller → Found → TargetRow → Decision → Type 0
IsDecided stores caller g t d = (h : History) → Stands stores h → decided h (updater caller g h) t.id ≡ d

-- the row is changed or passed over, so many being changed then; or it is waited for, by the number of a session, and nothing has happened yet; or the
-- statement stops
abbrev pub IsTurn : Changing → List (List ℕ) → Result Turn Stop → (old new : Stores) → Caller → Found → TargetRow → (changed : ℕ) → Type 0
IsTurn change names (Ok (Counted n)) old new c g t k =
    ((ts : List TargetRow) → IsRun g (λ (m : ℕ). m) (Ok n) old new c (one_changed change names c g ts t k)) × (new ≡ record old { rows = new.rows }) × KeepsVersions old.rows new.rows × (n ≤ k + 1)
IsTurn change names (Ok (Waits other)) old new c g t k = (new ≡ old) × IsDecided old c g t (WaitsFor other) × (other ≢ c.session) × (other < 128)
IsTurn change names (Err e) old new c g t k = (ts : List TargetRow) → IsRun g (λ (m : ℕ). m) (Err e) old new c (one_changed change names c g ts t k)
