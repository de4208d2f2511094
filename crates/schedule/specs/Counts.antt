-- What is counted of a run (partscript's own).
use Rattle.std.specs.Prelude.{◌≡◌, ℕ, ◌+◌, min, Bool, true, false, if◌then◌else◌, List, [], ◌∷◌, is_some}
use Rattle.schedule.specs.Blocks.{is_step}
use Rattle.schedule.specs.Rules.{Rules}
use Rattle.schedule.specs.Run.{World, Reaches, Here, Next, Runs, Throughout, effect}
use Rattle.schedule.specs.Stands.{Stands}
use Rattle.schedule.specs.declared.counts.Counts.{Counts}
use Rattle.schedule.specs.declared.database.Database.{Ghosts}
use Rattle.schedule.specs.declared.engine.Engine.{Engine}
use Rattle.schedule.specs.declared.event.Event.{Event}
use Rattle.schedule.specs.declared.event.Event.TheVariants.{Launches}
use Rattle.schedule.specs.declared.event.Report.{Report}
use Rattle.schedule.specs.declared.event.Report.TheVariants.{Waiting, Ending, TornDown}
use Rattle.schedule.specs.declared.run_end.RunEnd.{RunEnd}
use Rattle.schedule.specs.declared.task.Task.{Task}
use Rattle.schedule.specs.declared.task.Task.TheVariants.{Launch, Settle, RollBack}

abbrev pub none : Counts
none = record { steps = 0; waits = 0; errors = 0 }

-- ---- an event

-- the next task is the launch of a step
abbrev pub is_step_next : List Task → Bool
is_step_next [] = false
is_step_next (Launch b ∷ ts) = is_step b.kind
is_step_next (Settle ∷ ts) = false
is_step_next (RollBack s ∷ ts) = false

abbrev pub is_launch : List Task → Event → Bool
is_launch tasks Launches = is_step_next tasks
is_launch tasks _ = false

-- a launched step is reported as waiting once at most
abbrev pub is_wait : Report → Bool
is_wait (Waiting s) = true
is_wait _ = false

-- the error line of a step, or of a session's teardown
abbrev pub is_error : {S : Type 0} → Rules S → S → Report → Bool
is_error R v (Ending s) = is_some (R.fault v s)
is_error R v (TornDown s) = is_some (R.fault v s)
is_error R v _ = false

-- with one more, where that is so: a count has 64 bits, and stays at the greatest where it would pass it
abbrev pub plus_if : ℕ → Bool → ℕ
plus_if n b = if b then min (n + 1) 18446744073709551615 else n

-- with what is reported of an event, where the world has these tasks before it, and that database behind it
abbrev pub with_report : {S : Type 0} → Rules S → Counts → List Task → Event → S → Report → Counts
with_report R n tasks e v report = record {
  steps = plus_if n.steps (is_launch tasks e);
  waits = plus_if n.waits (is_wait report);
  errors = plus_if n.errors (is_error R v report);
}

abbrev pub with_event : {S : Type 0} → Rules S → World S → Counts → Event → Counts
with_event R w n e = with_report R n w.tasks e (effect R w e).world.db (effect R w e).report

-- ---- a run

-- of the events on the way, behind those before
abbrev pub counts_of : {S : Type 0} {R : Rules S} {w : World S} {lines : List ℕ} {last : World S} → Counts → Reaches R w lines last → Counts
counts_of n (Here w lines last empty same) = n
counts_of {R = R} n (Next w lines last e rest comes front on) = counts_of (with_event R w n e) on

-- the whole run from a world, over good ones, ended so, in that world, and comes to these counts
pub record IsCounted {S : Type 0} (R : Rules S) (Good : S → Type 0) (w : World S) (end : RunEnd) (n : Counts) (last : World S) : Type 0 where
  pub lines : List ℕ
  pub runs : Runs R w lines last
  pub good : Throughout Good runs.reaches
  pub counts : n ≡ counts_of none runs.reaches
  pub ends : end ≡ last.end

-- where the engine has come to
pub record AreCounted {D : Type 0} (g : Ghosts D) (w : World g.State) (e : Engine D g) (before now : Counts) : Type 0 where
  pub last : World g.State
  pub lines : List ℕ
  pub stands : Stands g e last
  pub reaches : Reaches g.rules w lines last
  pub good : Throughout g.good reaches
  pub counts : now ≡ counts_of before reaches
