-- A database as a pure machine: its states, and what each call makes of them.
use Rattle.std.specs.Prelude.{ℕ, Bool, List, Option}
use Rattle.pg_values.specs.declared.fault.Fault.{Fault}
use Rattle.schedule.specs.declared.block.BlockKind.{BlockKind}
use Rattle.schedule.specs.declared.database.Progress.{Progress}
use Rattle.schedule.specs.declared.tally.Tally.{Tally}

pub record Rules (S : Type 0) : Type 0 where
  pub fresh : S → S  -- the same sessions, options and tally, and nothing else: no tables, default settings
  pub begun : S → ℕ → BlockKind → List ℕ → S  -- the session begins a block of this kind and text
  pub stepped : S → ℕ → S  -- it goes on by one small event
  pub progress : S → ℕ → Progress  -- what that event comes to
  pub interrupted : S → Option ℕ  -- the first whose wait was cancelled by another session's statement
  pub ready : S → Option ℕ  -- the oldest wait whose causes have gone
  pub resumed : S → ℕ → S  -- one of these two goes on
  pub waits : S → ℕ → Bool
  pub oldest : S → Option ℕ  -- the oldest wait
  pub cancelled : S → ℕ → S  -- the session's wait ends, and its block is to end with a failure
  pub rolled_back : S → ℕ → S  -- its open transaction, if it has one
  pub report : S → ℕ → List ℕ  -- what the session's block has printed: tables and trail lines, in order
  pub fault : S → ℕ → Option Fault  -- why its block has failed
  pub tally : S → Tally  -- what its statements have given and read up to now
  pub fault_text : Fault → List ℕ  -- the code and the text

-- what stood for a state stands for the state after it
abbrev pub Carries : {D S : Type 0} → (D → S → Type 0) → (S → S) → D → D → Type 0
Carries {D} {S} stands f old new = (v : S) → stands old v → stands new (f v)
