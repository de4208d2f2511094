-- A statement that has run, with what it has printed.
use Rattle.std.specs.Prelude.{◌≡◌, ℕ, List, Option, Result, Ok, Err}
use Rattle.history.specs.History.{History}
use Rattle.stores.specs.Stand.{Stands}
use Rattle.stores.specs.Numbers.{IsAt}
use Rattle.stores.specs.declared.stores.Stores.{Stores}
use Rattle.schedule.specs.declared.tally.Tally.{Tally}
use Rattle.statement_steps.specs.Ended.{Ended}
use Rattle.statement_steps.specs.Made.{Made}
use Rattle.statement_steps.specs.Attempts.{CanGoOn, IsAttempt, IsHalt, GoesOn}
use Rattle.statement_steps.specs.declared.caller.Caller.{Caller}
use Rattle.statement_steps.specs.declared.ending.Ending.{Ending}
use Rattle.statement_steps.specs.declared.ending.Ending.TheVariants as endings
use Rattle.statement_steps.specs.declared.rest.Rest.{Rest}
use Rattle.statement_steps.specs.declared.stop.Stop.{Stop}
use Rattle.prepared_statements.specs.Prepared.{Prepared}
use Rattle.statement_runs.specs.Tallies.{Grows}

-- from its beginning, or from where it stood, if that is told
pub record IsStatement (rest : Option Rest) (result : Result Ending Stop) (old new : Stores) (before after : List ℕ) (caller : Caller) (f : History → Made Ended) : Type 0 where
  pub is : (h : History) → Stands old h → IsAt h caller.session caller.cmd → CanGoOn h caller.session rest → IsAttempt result new before after caller h (f h)
  pub keeps : GoesOn old new caller.session
  pub waits : IsHalt result new caller.session

-- it has given and read so much
abbrev pub IsTallied : {X : Type 0} → Option Rest → Result X Stop → (old : Stores) → (before after : Tally) → Caller → (History → Tally) → Type 0
IsTallied rest result old before after caller f = (h : History) → Stands old h → IsAt h caller.session caller.cmd → CanGoOn h caller.session rest → Grows result before after (f h)

-- what the session has prepared after it
abbrev pub IsKept : Result Ending Stop → (old new after : List Prepared) → Type 0
IsKept (Ok endings.Done) old new after = new ≡ after
IsKept (Ok (endings.Commits d)) old new after = new ≡ old
IsKept (Err stop) old new after = new ≡ old
