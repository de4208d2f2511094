-- Statements that commit what they did first, and go on in another transaction (the manual, ALTER TABLE, DETACH PARTITION
-- CONCURRENTLY).
use Rattle.std.specs.Prelude.{◌≡◌, ◌≢◌, ℕ, Bool, true, false}
use Rattle.sessions.specs.declared.outcome.Outcome.{Outcome}
use Rattle.sessions.specs.declared.outcome.Outcome.TheVariants.{Goes, Waits, Commits, Done, Refused}

-- a statement commits in its middle once at most, and goes on from there up to its end
abbrev pub CommitsOnce : (before after : Bool) → Outcome → Type 0
CommitsOnce before after Goes = before ≡ true → after ≡ true
CommitsOnce before after Waits = before ≡ true → after ≡ true
CommitsOnce before after Commits = (before ≡ false) × (after ≡ true)
CommitsOnce before after Done = Unit {0}
CommitsOnce before after (Refused f) = Unit {0}

-- of each session and each statement, whether it has committed what it did first: as before
abbrev pub AreAsBefore : {T : Type 0} → (before after : ℕ → T → Bool) → Type 0
AreAsBefore {T} before after = (s : ℕ) (t : T) → after s t ≡ before s t

-- and of all sessions but that one
abbrev pub OthersAreAsBefore : {T : Type 0} → (session : ℕ) → (before after : ℕ → T → Bool) → Type 0
OthersAreAsBefore {T} session before after = (s : ℕ) (t : T) → s ≢ session → after s t ≡ before s t
