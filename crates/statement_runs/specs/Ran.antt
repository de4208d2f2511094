-- What running a statement of a session makes of what is kept.
use Rattle.std.specs.Prelude.{◌≡◌, ℕ, Bool, true, false, List, ◌++◌, Option, None, length, slice_index_or, slice_set}
use Rattle.pg_values.specs.declared.fault.Fault.{Fault}
use Rattle.history.specs.History.{History}
use Rattle.schedule.specs.declared.tally.Tally.{Tally}
use Rattle.sessions.specs.declared.asker.Asker.{Asker}
use Rattle.sessions.specs.declared.outcome.Outcome.{Outcome}
use Rattle.sessions.specs.declared.outcome.Outcome.TheVariants.{Goes, Waits, Commits, Done, Refused}
use Rattle.sessions.specs.declared.settings.Settings.{Settings}
use Rattle.sql_ast.specs.Statements.{StatementTree}
use Rattle.prepared_statements.specs.Prepared.{Prepared}
use Rattle.statement_steps.specs.Ended.{Ended}
use Rattle.statement_steps.specs.Made.{Made}
use Rattle.statement_runs.specs.Tallies.{unless_cut}
use Rattle.statement_runs.specs.Attempted.{attempted}
use Rattle.statement_runs.specs.Executions.{kept}
use Rattle.statement_runs.specs.Given.{statement_given}
use Rattle.statement_runs.specs.Database.{caller_of, refused_first, refused_or, number_then, rest_told, given_up, outcome_told, text_told}
use Rattle.statement_runs.specs.Kept.{KeptSeats, TellOf}
use Rattle.statement_runs.specs.declared.options.Options.{Options}

-- why a statement of the session is refused first
abbrev pub refusal_in : KeptSeats → ℕ → Option Fault
refusal_in kept s = refused_first (slice_index_or kept.cancelled s false) (slice_index_or kept.commands s 0)

-- what the statement means at that history
abbrev pub attempt_at : Options → KeptSeats → Asker → History → Settings → List Prepared → StatementTree → Made Ended
attempt_at o kept a h g ps t =
    refused_or (refusal_in kept a.session) (attempted o (caller_of (length kept.opened) (slice_index_or kept.commands a.session 0) a) (slice_index_or kept.rests a.session None) g ps t h)

-- and gives and reads there
abbrev pub given_at : Options → KeptSeats → Asker → History → Settings → List Prepared → StatementTree → Tally
given_at o kept a h g ps t =
    unless_cut (refusal_in kept a.session) (statement_given o (caller_of (length kept.opened) (slice_index_or kept.commands a.session 0) a) (slice_index_or kept.rests a.session None) g ps t h)

-- that has come of it: its events, what it comes to and prints, and whether it counts as a command
pub record HasRun (m : Made Ended) (a : Asker) (old new : KeptSeats) (before after : List ℕ) (o : Outcome) (h : History) : Type 0 where
  pub whole : new.whole ≡ true
  pub tells : TellOf new (given_up a.level a.session (slice_index_or old.rests a.session None) m.told ++ (m.events ++ h))
  pub outcome : o ≡ outcome_told m.told
  pub text : after ≡ before ++ text_told m.told
  pub commands : new.commands ≡ slice_set old.commands a.session (number_then (refusal_in old a.session) m.told (slice_index_or old.commands a.session 0))
  pub cancelled : new.cancelled ≡ slice_set old.cancelled a.session false
  pub rests : new.rests ≡ slice_set old.rests a.session (rest_told m.told)

-- what is prepared after it
abbrev pub prepared_by : Outcome → List Prepared → StatementTree → List Prepared
prepared_by Done ps t = kept ps t
prepared_by Goes ps t = ps
prepared_by Waits ps t = ps
prepared_by Commits ps t = ps
prepared_by (Refused f) ps t = ps

-- the session waits after it
abbrev pub waits_by : Outcome → Bool
waits_by Goes = false
waits_by Waits = true
waits_by Commits = false
waits_by Done = false
waits_by (Refused f) = false
