-- The run of a script over any database, by the rules of isolationtester: what happens next, what it makes of the world, and
-- what is printed. The steps are launched one after the other. A step runs until it has ended or waits. Whatever can go on
-- after a launch does, before the next one.
use Rattle.std.specs.Prelude.{◌≡◌, ℕ, ◌==◌, ◌&&◌, ◌||◌, not, Bool, true, false, if◌then◌else◌, List, [], ◌∷◌, ◌++◌, Option, Some, None, length, slice_set, replicate}
use Rattle.pg_values.specs.declared.fault.Fault.{Fault}
use Rattle.schedule.specs.Blocks.{BlockView, Seated, is_step, no_seat, seat_at, seat_of}
use Rattle.schedule.specs.Lines.{permutation_lines, waiting_line, end_lines, teardown_lines}
use Rattle.schedule.specs.Lists.{first, is_in, any_of, without}
use Rattle.schedule.specs.Rules.{Rules}
use Rattle.schedule.specs.declared.block.BlockKind.{BlockKind}
use Rattle.schedule.specs.declared.block.BlockKind.TheVariants.{Setup, Step, Teardown, ControlTeardown}
use Rattle.schedule.specs.declared.database.Progress.{Progress}
use Rattle.schedule.specs.declared.database.Progress.TheVariants.{Goes, Waits, Ended}
use Rattle.schedule.specs.declared.event.Event.{Event}
use Rattle.schedule.specs.declared.event.Event.TheVariants.{Acts, Tells, Resumes, Cancels, Launches, Settles, RollsBack, Opens}
use Rattle.schedule.specs.declared.event.Report.{Report}
use Rattle.schedule.specs.declared.event.Report.TheVariants.{Nothing, Opening, Waiting, Ending, Output, TornDown}
use Rattle.schedule.specs.declared.run_end.RunEnd.{RunEnd}
use Rattle.schedule.specs.declared.run_end.RunEnd.TheVariants.{All, SetupFailed, TeardownFailed}
use Rattle.schedule.specs.declared.task.Task.{Task}
use Rattle.schedule.specs.declared.task.Task.TheVariants.{Launch, Settle, RollBack}

pub record World (S : Type 0) : Type 0 where
  pub db : S
  pub permutations : List (List Task)  -- those to come
  pub tasks : List Task  -- those to come in this one
  pub seats : List Seated  -- by session
  pub held : List ℕ  -- whose report is held back, in the order of their ends
  pub last : ℕ  -- whose launch was the last
  pub turn : Option ℕ  -- who goes on
  pub end : RunEnd  -- All, as long as no failure has ended the run

-- the world after an event, and what is reported of it
pub record Effect (S : Type 0) : Type 0 where
  pub world : World S
  pub report : Report

-- Markers.

-- a use of the step was launched, and its end was not reported
abbrev pub is_open_at : List Seated → ℕ → Bool
is_open_at [] step = false
is_open_at (x ∷ xs) step = (x.is_open && (x.step == step)) || is_open_at xs step

-- `(*)` holds the end back until another launch has been reported, `(other)` as long as a use of that step is open
abbrev pub is_held_back : List Seated → ℕ → ℕ → Seated → Bool
is_held_back seats last s seat = (seat.starred && (last == s)) || any_of (is_open_at seats) seat.behind

-- markers hold up to the end of the steps
abbrev pub markers_hold : List Task → Bool
markers_hold [] = false
markers_hold (Launch b ∷ ts) = is_step b.kind
markers_hold (Settle ∷ ts) = true
markers_hold (RollBack s ∷ ts) = false

-- the first end that no marker holds back any more
abbrev pub tellable : List Task → List Seated → ℕ → List ℕ → Option ℕ
tellable tasks seats last held = first (λ s. not (markers_hold tasks && is_held_back seats last s (seat_at seats s))) held

-- What is printed of an event, in the world after it.

abbrev pub printed_in : {S : Type 0} → Rules S → World S → Report → List ℕ
printed_in R w Nothing = []
printed_in R w Opening = permutation_lines w.tasks
printed_in R w (Waiting s) = waiting_line (seat_at w.seats s)
printed_in R w (Ending s) = end_lines R w.db s (seat_at w.seats s)
printed_in R w (Output s) = R.report w.db s
printed_in R w (TornDown s) = teardown_lines R w.db s (seat_at w.seats s)

abbrev pub printed : {S : Type 0} → Rules S → Effect S → List ℕ
printed R x = printed_in R x.world x.report

-- Events.

abbrev pub silent : {S : Type 0} → World S → Effect S
silent w = record { world = w; report = Nothing }

-- a step is reported as waiting, unless it was before
abbrev pub wait_report : ℕ → Seated → Report
wait_report s seat = if seat.waited then Nothing else Waiting s

-- the step's end is reported
abbrev pub tells : {S : Type 0} → World S → ℕ → Seated → Effect S
tells w s seat = record {
  world = record w { held = without s w.held; seats = slice_set w.seats s (record seat { is_open = false }) };
  report = Ending s;
}

-- its end is held back: until then it counts as waiting
abbrev pub holds : {S : Type 0} → World S → ℕ → Seated → Effect S
holds w s seat = record {
  world = record w { held = w.held ++ s ∷ []; seats = slice_set w.seats s (record seat { waited = true }) };
  report = wait_report s seat;
}

-- it waits
abbrev pub waits : {S : Type 0} → World S → ℕ → Seated → Effect S
waits w s seat = record {
  world = record w { seats = slice_set w.seats s (record seat { waited = true }) };
  report = wait_report s seat;
}

abbrev pub cancels : {S : Type 0} → Rules S → World S → ℕ → Effect S
cancels R w s = silent (record w { db = R.cancelled w.db s; turn = Some s })

-- a statement would wait: in a setup or a teardown it is cancelled at once
abbrev pub pauses : {S : Type 0} → Rules S → World S → ℕ → Seated → BlockKind → Effect S
pauses R w s seat Setup = cancels R w s
pauses R w s seat Step = waits w s seat
pauses R w s seat Teardown = cancels R w s
pauses R w s seat ControlTeardown = cancels R w s

-- how a setup, or the control session's teardown, ends the run: a failure does
abbrev pub setup_end : ℕ → Option Fault → RunEnd
setup_end s None = All
setup_end s (Some fault) = SetupFailed s fault

abbrev pub teardown_end : Option Fault → RunEnd
teardown_end None = All
teardown_end (Some fault) = TeardownFailed fault

-- a block has ended: the failure of a session's teardown is printed, and the run goes on
abbrev pub ends : {S : Type 0} → Rules S → World S → ℕ → Seated → BlockKind → Effect S
ends R w s seat Setup = record { world = record w { end = setup_end s (R.fault w.db s) }; report = Output s }
ends R w s seat Step = if is_held_back w.seats w.last s seat then holds w s seat else tells w s seat
ends R w s seat Teardown = record { world = w; report = TornDown s }
ends R w s seat ControlTeardown = record { world = record w { end = teardown_end (R.fault w.db s) }; report = Output s }

abbrev pub proceeds : {S : Type 0} → Rules S → World S → ℕ → Seated → Progress → Effect S
proceeds R w s seat Goes = silent (record w { turn = Some s })
proceeds R w s seat Waits = pauses R w s seat seat.kind
proceeds R w s seat Ended = ends R w s seat seat.kind

-- who goes on gives up the turn, and gets it again unless it waits or its block has ended
abbrev pub stepped : {S : Type 0} → Rules S → World S → ℕ → World S
stepped R w s = record w { db = R.stepped w.db s; turn = None }

abbrev pub acts : {S : Type 0} → Rules S → World S → ℕ → Effect S
acts R w s = proceeds R (stepped R w s) s (seat_at w.seats s) (R.progress w.db s)

abbrev pub resumes : {S : Type 0} → Rules S → World S → ℕ → Effect S
resumes R w s = silent (record w { db = R.resumed w.db s; turn = Some s })

-- with `(*)` the step is reported as waiting as soon as it is launched
abbrev pub launches : {S : Type 0} → Rules S → World S → List Task → BlockView → Effect S
launches R w tasks b = record {
  world = record w { db = R.begun w.db b.session b.kind b.text; tasks = tasks; seats = slice_set w.seats b.session (seat_of b); last = b.session; turn = Some b.session };
  report = if b.starred then Waiting b.session else Nothing;
}

-- the next task is a launch
abbrev pub launches_next : {S : Type 0} → Rules S → World S → List Task → Effect S
launches_next R w [] = silent w
launches_next R w (Launch b ∷ ts) = launches R w ts b
launches_next R w (Settle ∷ ts) = silent w
launches_next R w (RollBack s ∷ ts) = silent w

abbrev pub others : List Task → List Task
others [] = []
others (t ∷ ts) = ts

-- the next permutation begins, with a fresh database
abbrev pub opens : {S : Type 0} → Rules S → World S → List (List Task) → Effect S
opens R w [] = silent w
opens R w (tasks ∷ permutations) = record {
  world = record {
    db = R.fresh w.db;
    permutations = permutations;
    tasks = tasks;
    seats = replicate (length w.seats) no_seat;
    held = [];
    last = 0;
    turn = None;
    end = All;
  };
  report = Opening;
}

-- what an event does
abbrev pub effect : {S : Type 0} → Rules S → World S → Event → Effect S
effect R w (Acts s) = acts R w s
effect R w (Tells s) = tells w s (seat_at w.seats s)
effect R w (Resumes s) = resumes R w s
effect R w (Cancels s) = cancels R w s
effect R w Launches = launches_next R w w.tasks
effect R w Settles = silent (record w { tasks = others w.tasks })
effect R w (RollsBack s) = silent (record w { db = R.rolled_back w.db s; tasks = others w.tasks })
effect R w Opens = opens R w w.permutations

-- What happens next.

abbrev pub next_permutation : List (List Task) → Option Event
next_permutation [] = None
next_permutation (p ∷ ps) = Some Opens

-- before a launch the session's statement is cancelled if it still waits, and its report is told if it is held back
abbrev pub next_launch : Bool → Bool → ℕ → Event
next_launch true h s = Cancels s
next_launch false true s = Tells s
next_launch false false s = Launches

-- at the end of the steps the oldest wait is cancelled, until none waits: then no marker holds any more
abbrev pub next_settle : Option ℕ → Event
next_settle (Some s) = Cancels s
next_settle None = Settles

abbrev pub next_task : {S : Type 0} → Rules S → World S → List Task → Option Event
next_task R w [] = next_permutation w.permutations
next_task R w (Launch b ∷ ts) = Some (next_launch (R.waits w.db b.session) (is_in b.session w.held) b.session)
next_task R w (Settle ∷ ts) = Some (next_settle (R.oldest w.db))
next_task R w (RollBack s ∷ ts) = Some (RollsBack s)

-- who has the turn goes on; then one whose wait a statement has cancelled; then a report that no marker holds; then the
-- oldest wait whose causes have gone; then what the script says
abbrev pub next_from : {S : Type 0} → Rules S → World S → Option ℕ → Option ℕ → Option ℕ → Option ℕ → Option Event
next_from R w (Some s) i t r = Some (Acts s)
next_from R w None (Some s) t r = Some (Resumes s)
next_from R w None None (Some s) r = Some (Tells s)
next_from R w None None None (Some s) = Some (Resumes s)
next_from R w None None None None = next_task R w w.tasks

-- a failed setup, or a failed teardown of the control session, ends the run
abbrev pub next_of : {S : Type 0} → Rules S → World S → RunEnd → Option Event
next_of R w All = next_from R w w.turn (R.interrupted w.db) (tellable w.tasks w.seats w.last w.held) (R.ready w.db)
next_of R w (SetupFailed s fault) = None
next_of R w (TeardownFailed fault) = None

-- the one next event, if there is one
abbrev pub next : {S : Type 0} → Rules S → World S → Option Event
next R w = next_of R w w.end

-- The run.

-- a world from which events with these lines lead to that world
pub data Reaches {S : Type 0} (R : Rules S) : World S → List ℕ → World S → Type 0 where
  Here : (w : World S) (lines : List ℕ) (last : World S) → lines ≡ [] → last ≡ w → Reaches R w lines last
  Next : (w : World S) (lines : List ℕ) (last : World S) (e : Event) (rest : List ℕ) → next R w ≡ Some e
      → lines ≡ printed R (effect R w e) ++ rest → Reaches R (effect R w e).world rest last → Reaches R w lines last

-- nothing is asked of a state
abbrev pub Anything : {S : Type 0} → S → Type 0
Anything v = Unit {0}

-- each world on the way has a database of which this holds: the first, the last and those between
abbrev pub Throughout : {S : Type 0} (Good : S → Type 0) {R : Rules S} {w : World S} {lines : List ℕ} {last : World S} → Reaches R w lines last → Type 0
Throughout Good (Here w lines last none same) = Good w.db
Throughout Good (Next w lines last e rest comes front on) = Good w.db × Throughout Good on

-- the whole run from a world: its lines, and the world in which nothing comes next
pub record Runs {S : Type 0} (R : Rules S) (w : World S) (lines : List ℕ) (last : World S) : Type 0 where
  pub reaches : Reaches R w lines last
  pub ends : next R last ≡ None

-- before the first permutation, with so many sessions, the control session among them
abbrev pub start : {S : Type 0} → Rules S → S → ℕ → List (List Task) → World S
start R v sessions permutations = record {
  db = v;
  permutations = permutations;
  tasks = [];
  seats = replicate sessions no_seat;
  held = [];
  last = 0;
  turn = None;
  end = All;
}
