-- The run of statements over a history: what each call of a session makes of it (the manual, 13.2 and 13.3).
use Rattle.std.specs.Prelude.{ℕ, ◌+◌, ◌==◌, Bool, true, false, if◌then◌else◌, List, [], ◌∷◌, ◌++◌, Option, Some, None, Result, Ok, Err, is_some, nat_lt, replicate, slice_index_or, slice_set}
use Rattle.pg_values.specs.declared.fault.Fault.{Fault}
use Rattle.pg_values.specs.declared.which.Which.TheVariants.{Commands}
use Rattle.refusals.specs.Refusals.{statement_cancelled, too_many}
use Rattle.history.specs.History.{History, lock_events}
use Rattle.history.specs.Locks.{wanted, queue}
use Rattle.history.specs.Waits.{ready}
use Rattle.schedule.specs.Lists.{first, head_of, without}
use Rattle.schedule.specs.declared.tally.Tally.{Tally}
use Rattle.sessions.specs.Course.{Course}
use Rattle.sessions.specs.declared.asker.Asker.{Asker}
use Rattle.sessions.specs.declared.outcome.Outcome.{Outcome}
use Rattle.sessions.specs.declared.outcome.Outcome.TheVariants as outcomes
use Rattle.pg_values.specs.declared.isolation.Isolation.{Isolation}
use Rattle.pg_values.specs.declared.isolation.Isolation.TheVariants.{ReadCommitted, ReadUncommitted, RepeatableRead}
use Rattle.sessions.specs.declared.settings.Settings.{Settings}
use Rattle.sql_ast.specs.Statements.{StatementTree}
use Rattle.prepared_statements.specs.Prepared.{Prepared}
use Rattle.out_text.specs.FaultText.{fault_text}
use Rattle.stores.specs.Events.{begun, committed, aborted, let_go, withdrawn, resumed}
use Rattle.statement_steps.specs.Ended.{Ended, Done, Commits}
use Rattle.statement_steps.specs.Made.{Made, Halt, Waits, Refused, number_after, halted}
use Rattle.statement_runs.specs.Tallies.{none, added, unless_cut}
use Rattle.statement_runs.specs.Attempted.{attempted}
use Rattle.statement_runs.specs.Executions.{kept}
use Rattle.statement_runs.specs.Given.{statement_given}
use Rattle.statement_runs.specs.Reading.{read_block}
use Rattle.statement_runs.specs.Roles.{role_of, looks, misplaced, changed, cancelled_by}
use Rattle.statement_runs.specs.declared.options.Options.{Options}
use Rattle.statement_steps.specs.declared.caller.Caller.{Caller}
use Rattle.statement_steps.specs.declared.rest.Rest.{Rest}
use Rattle.statement_steps.specs.declared.rest.Rest.TheVariants.{Detach}

-- all that has happened; of each session how many commands of its transaction have begun and ended, whether the
-- wait of its statement was cancelled, where a statement stands that waits in the middle of its run, and what is prepared; whose waits
-- statements of others have cancelled, in this order, as long as these have not gone on; and what completed statements
-- have given and read
pub record Database : Type 0 where
  pub options : Options
  pub sessions : ℕ
  pub history : History
  pub commands : List ℕ
  pub cancelled : List Bool
  pub rests : List (Option Rest)
  pub prepared : List (List Prepared)
  pub cut : List ℕ
  pub tally : Tally

abbrev pub empty : Options → ℕ → Database
empty o n = record { options = o; sessions = n; history = []; commands = replicate n 0; cancelled = replicate n false; rests = replicate n None; prepared = replicate n []; cut = []; tally = none }

-- nothing has happened again; what statements have given and read is kept
abbrev pub anew : Database → Database
anew v = record (empty v.options v.sessions) { tally = v.tally }

abbrev pub command_of : Database → ℕ → ℕ
command_of v s = slice_index_or v.commands s 0

abbrev pub is_cancelled : Database → ℕ → Bool
is_cancelled v s = slice_index_or v.cancelled s false

abbrev pub rest_of : Database → ℕ → Option Rest
rest_of v s = slice_index_or v.rests s None

abbrev pub prepared_of : Database → ℕ → List Prepared
prepared_of v s = slice_index_or v.prepared s []

-- ---- a statement

abbrev pub caller_of : (sessions cmd : ℕ) → Asker → Caller
caller_of n cmd a = record { session = a.session; sessions = n; level = a.level; cmd = cmd; kind = a.kind }

-- why a statement is refused first, and not attempted: its wait was cancelled; or its transaction has had as many commands
-- as there can be, 2^32 - 2
abbrev pub refused_first : Bool → (cmd : ℕ) → Option Fault
refused_first true n = Some statement_cancelled
refused_first false n = if nat_lt n 4294967294 then None else Some (too_many Commands)

abbrev pub refused_or : Option Fault → Made Ended → Made Ended
refused_or None m = m
refused_or (Some f) m = halted [] (Refused f)

abbrev pub refusal_of : Database → ℕ → Option Fault
refusal_of v s = refused_first (is_cancelled v s) (command_of v s)

abbrev pub attempt_of : Database → Asker → Settings → StatementTree → Made Ended
attempt_of v a g t = refused_or (refusal_of v a.session) (attempted v.options (caller_of v.sessions (command_of v a.session) a) (rest_of v a.session) g (prepared_of v a.session) t v.history)

abbrev pub given_by : Database → Asker → Settings → StatementTree → Tally
given_by v a g t = unless_cut (refusal_of v a.session) (statement_given v.options (caller_of v.sessions (command_of v a.session) a) (rest_of v a.session) g (prepared_of v a.session) t v.history)

-- a command that is to begin anew keeps its number
abbrev pub next_command : Result Ended Halt → ℕ → ℕ
next_command (Ok e) n = n + 1
next_command (Err (Waits rest)) n = number_after rest n
next_command (Err (Refused f)) n = n + 1

-- and one that is refused first is no command
abbrev pub number_then : Option Fault → Result Ended Halt → ℕ → ℕ
number_then None told n = next_command told n
number_then (Some f) told n = n

abbrev pub rest_told : Result Ended Halt → Option Rest
rest_told (Ok (Done text)) = None
rest_told (Ok (Commits d)) = Some (Detach d)
rest_told (Err (Waits rest)) = rest
rest_told (Err (Refused f)) = None

-- a transaction at REPEATABLE READ keeps its snapshot
abbrev pub let_go_at : Isolation → (session : ℕ) → History
let_go_at ReadCommitted s = let_go s
let_go_at ReadUncommitted s = let_go s
let_go_at RepeatableRead s = []

-- a statement that waited in the middle of its run has held its snapshot, and gives it up where it is done
abbrev pub given_up : Isolation → (session : ℕ) → Option Rest → Result Ended Halt → History
given_up level s (Some rest) (Ok (Done text)) = let_go_at level s
given_up level s rest told = []

-- PREPARE and DEALLOCATE change what is prepared where they are done, and no transaction gives it back
abbrev pub prepared_then : Result Ended Halt → List Prepared → StatementTree → List Prepared
prepared_then (Ok (Done text)) ps t = kept ps t
prepared_then (Ok (Commits d)) ps t = ps
prepared_then (Err halt) ps t = ps

abbrev pub goes_on : Database → Asker → StatementTree → Made Ended → Tally → Database
goes_on v a t m given = record v {
  history = given_up a.level a.session (rest_of v a.session) m.told ++ (m.events ++ v.history);
  commands = slice_set v.commands a.session (number_then (refusal_of v a.session) m.told (command_of v a.session));
  cancelled = slice_set v.cancelled a.session false;
  rests = slice_set v.rests a.session (rest_told m.told);
  prepared = slice_set v.prepared a.session (prepared_then m.told (prepared_of v a.session) t);
  tally = added v.tally given;
}

abbrev pub outcome_told : Result Ended Halt → Outcome
outcome_told (Ok (Done text)) = outcomes.Done
outcome_told (Ok (Commits d)) = outcomes.Commits
outcome_told (Err (Waits rest)) = outcomes.Waits
outcome_told (Err (Refused f)) = outcomes.Refused f

abbrev pub text_told : Result Ended Halt → List ℕ
text_told (Ok (Done text)) = text
text_told (Ok (Commits d)) = []
text_told (Err stop) = []

-- ---- what happens

abbrev pub happened : Database → History → Database
happened v events = record v { history = events ++ v.history }

abbrev pub waits : Database → ℕ → Bool
waits v s = is_some (wanted (lock_events v.history) s)

-- the session's wait ends, and its statement is to be refused
abbrev pub cancels : Database → ℕ → Database
cancels v s = record (happened v (withdrawn s)) { cancelled = slice_set v.cancelled s true }

-- ---- a statement cancels the waits of others: before it is attempted, these end at once, one after the other

abbrev pub cuts : Database → ℕ → Database
cuts v s = if waits v s then record (cancels v s) { cut = v.cut ++ s ∷ [] } else v

abbrev pub all_cut : Database → List ℕ → Database
all_cut v [] = v
all_cut v (s ∷ ss) = all_cut (cuts v s) ss

abbrev pub cut_by : Database → Asker → StatementTree → Database
cut_by v a t = all_cut v (cancelled_by a.session v.sessions (prepared_of v a.session) t)

-- the first of these whose statement is still to be refused
abbrev pub interrupted : Database → Option ℕ
interrupted v = first (is_cancelled v) v.cut

-- ---- a session goes on: the first of these, or one whose wait is over

abbrev pub is_ready : Option ℕ → ℕ → Bool
is_ready None s = false
is_ready (Some r) s = r == s

abbrev pub resumes : Database → ℕ → Database
resumes v s = if is_ready (interrupted v) s then record v { cut = without s v.cut } else happened v (resumed s)

-- ---- the calls

-- sessions over a history
abbrev pub course : Course Database StatementTree
course = record {
  fresh = anew;
  parsed = read_block;
  role = role_of;
  looks = looks;
  misplaced = misplaced;
  set = changed;
  began = λ v s. record (happened v (begun v.history s)) { commands = slice_set v.commands s 0 };
  committed = λ v s. happened v (committed v.history s);
  aborted = λ v s. happened v (aborted v.history s);
  ran = λ v a g t. goes_on (cut_by v a t) a t (attempt_of (cut_by v a t) a g t) (given_by (cut_by v a t) a g t);
  outcome = λ v a g t. outcome_told (attempt_of (cut_by v a t) a g t).told;
  text = λ v a g t. text_told (attempt_of (cut_by v a t) a g t).told;
  interrupted = interrupted;
  ready = λ v. ready (lock_events v.history);
  resumed = resumes;
  waits = waits;
  oldest = λ v. head_of (queue (lock_events v.history));
  cancelled = cancels;
  tally = λ v. v.tally;
  fault_text = fault_text;
}
