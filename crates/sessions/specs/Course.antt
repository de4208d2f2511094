-- Who runs statements, as a pure machine: its states, and what each call makes of them.
use Rattle.std.specs.Prelude.{ℕ, Bool, List, Option, Result}
use Rattle.pg_values.specs.declared.fault.Fault.{Fault}
use Rattle.schedule.specs.declared.tally.Tally.{Tally}
use Rattle.sessions.specs.declared.asker.Asker.{Asker}
use Rattle.sessions.specs.declared.asker.Place.{Place}
use Rattle.sessions.specs.declared.outcome.Outcome.{Outcome}
use Rattle.sessions.specs.declared.role.Role.{Role}
use Rattle.sessions.specs.declared.settings.Settings.{Settings}

-- S are its states, T statements
pub record Course (S T : Type 0) : Type 0 where
  pub fresh : S → S  -- the same options and tally, and nothing has happened
  pub parsed : List ℕ → Result (List T) Fault  -- the statements of a block
  pub role : T → Role
  pub looks : T → Bool  -- it takes a snapshot
  pub misplaced : Place → T → Option Fault  -- why it may not stand there
  pub set : Settings → T → Result Settings Fault  -- the settings after a SET or RESET
  pub began : S → ℕ → S  -- the session's transaction begins, is committed, is aborted
  pub committed : S → ℕ → S
  pub aborted : S → ℕ → S
  pub ran : S → Asker → Settings → T → S  -- the statement goes on by one small event
  pub outcome : S → Asker → Settings → T → Outcome  -- what that comes to
  pub text : S → Asker → Settings → T → List ℕ  -- and prints
  pub interrupted : S → Option ℕ  -- the first whose wait was cancelled by another session's statement
  pub ready : S → Option ℕ  -- the oldest wait whose causes have gone
  pub resumed : S → ℕ → S
  pub waits : S → ℕ → Bool
  pub oldest : S → Option ℕ
  pub cancelled : S → ℕ → S  -- the wait ends, and the statement is refused as it goes on
  pub tally : S → Tally  -- what statements have given and read up to now
  pub fault_text : Fault → List ℕ
