-- The course of a session: the statements of a block, one after the other, and its transactions (the manual, BEGIN, COMMIT,
-- ROLLBACK, SET; 55.2.2.1 Multiple Statements in a Simple Query).
use Rattle.std.specs.Prelude.{ℕ, ◌+◌, ◌==◌, ◌||◌, ◌&&◌, not, Bool, true, false, if◌then◌else◌, List, [], ◌∷◌, ◌++◌, Option, Some, None, Result, Ok, Err, length, slice_index_or, slice_set, map, unwrap_or}
use Rattle.pg_values.specs.declared.fault.Fault.{Fault}
use Rattle.refusals.specs.Refusals.{the_transaction_has_failed, isolation_level_after_a_snapshot}
use Rattle.schedule.specs.Rules.{Rules}
use Rattle.schedule.specs.declared.block.BlockKind.{BlockKind}
use Rattle.schedule.specs.declared.block.BlockKind.TheVariants.{Setup}
use Rattle.schedule.specs.declared.database.Progress.{Progress}
use Rattle.schedule.specs.declared.database.Progress.TheVariants as progress
use Rattle.sessions.specs.Course.{Course}
use Rattle.sessions.specs.declared.asker.Asker.{Asker}
use Rattle.sessions.specs.declared.asker.Place.{Place}
use Rattle.sessions.specs.declared.outcome.Outcome.{Outcome}
use Rattle.sessions.specs.declared.outcome.Outcome.TheVariants.{Goes, Waits, Commits, Done, Refused}
use Rattle.pg_values.specs.declared.isolation.Isolation.{Isolation}
use Rattle.pg_values.specs.declared.isolation.Isolation.TheVariants.{ReadCommitted, ReadUncommitted, RepeatableRead}
use Rattle.sessions.specs.declared.phase.Phase.{Phase}
use Rattle.sessions.specs.declared.phase.Phase.TheVariants.{Idle, Implicit, Explicit, Failed}
use Rattle.sessions.specs.declared.role.Role.{Role}
use Rattle.sessions.specs.declared.settings.PlanCacheMode.TheVariants.{Auto}
use Rattle.sessions.specs.declared.settings.Settings.{Settings}
use Rattle.sessions.specs.declared.role.Role.TheVariants.{Begin, Commit, Rollback, Set, Query}

pub record SessionView (T : Type 0) : Type 0 where
  pub phase : Phase
  pub level : Isolation  -- of its transaction
  pub looked : Bool  -- a statement of its transaction took a snapshot
  pub settings : Settings
  pub saved : Settings  -- the settings before its transaction
  pub kind : BlockKind  -- what its block is in the script
  pub alone : Bool  -- the block has one statement
  pub in_block : Bool
  pub rest : List T  -- what is left of the block
  pub broken : Option Fault  -- why the block is none of SQL
  pub told : List ℕ  -- what the block has printed
  pub fault : Option Fault  -- why it has failed

-- who runs statements, and the sessions by their numbers; 0 is the control session
pub record State (S T : Type 0) : Type 0 where
  pub executor : S
  pub sessions : List (SessionView T)

-- what a small event of a session comes to
pub record Turn (S T : Type 0) : Type 0 where
  pub executor : S
  pub session : SessionView T
  pub progress : Progress

abbrev pub turn : {S T : Type 0} → S → SessionView T → Progress → Turn S T
turn v x p = record { executor = v; session = x; progress = p }

abbrev pub head_of : {T : Type 0} → List T → Option T
head_of [] = None
head_of (t ∷ ts) = Some t

abbrev pub tail : {T : Type 0} → List T → List T
tail [] = []
tail (t ∷ ts) = ts

-- ---- phases

-- it has a transaction that has not failed
abbrev pub has_open : Phase → Bool
has_open Idle = false
has_open Implicit = true
has_open Explicit = true
has_open Failed = false

-- ---- faults of the session's state

abbrev pub is_level : Isolation → Isolation → Bool
is_level ReadCommitted ReadCommitted = true
is_level ReadUncommitted ReadUncommitted = true
is_level RepeatableRead RepeatableRead = true
is_level _ _ = false

-- in a transaction that has taken a snapshot BEGIN may name its level alone
abbrev pub level_fault : {T : Type 0} → SessionView T → Option Isolation → Option Fault
level_fault x None = None
level_fault x (Some l) = if (has_open x.phase && x.looked) && not (is_level l x.level) then Some isolation_level_after_a_snapshot else None

-- in a transaction that has failed nothing but its end may come
abbrev pub failed_fault : Role → Option Fault
failed_fault (Begin l) = Some the_transaction_has_failed
failed_fault Commit = None
failed_fault Rollback = None
failed_fault Set = Some the_transaction_has_failed
failed_fault Query = Some the_transaction_has_failed

abbrev pub is_explicit : Phase → Bool
is_explicit Explicit = true
is_explicit _ = false

abbrev pub place_of : {T : Type 0} → SessionView T → Place
place_of x = record { explicit = is_explicit x.phase; alone = x.alone }

abbrev pub role_fault : {S T : Type 0} → Course S T → SessionView T → T → Role → Option Fault
role_fault C x t (Begin l) = level_fault x l
role_fault C x t Commit = None
role_fault C x t Rollback = None
role_fault C x t Set = None
role_fault C x t Query = C.misplaced (place_of x) t

abbrev pub fault_in : {S T : Type 0} → Course S T → SessionView T → T → Phase → Option Fault
fault_in C x t Failed = failed_fault (C.role t)
fault_in C x t _ = role_fault C x t (C.role t)

abbrev pub state_fault : {S T : Type 0} → Course S T → SessionView T → T → Option Fault
state_fault C x t = fault_in C x t x.phase

-- ---- a statement fails

abbrev pub aborted_if : {S T : Type 0} → Course S T → ℕ → Bool → S → S
aborted_if C s true v = C.aborted v s
aborted_if C s false v = v

-- an explicit transaction that has failed goes on to its end, and then rolls back
abbrev pub failed_phase : Phase → Phase
failed_phase Idle = Idle
failed_phase Implicit = Idle
failed_phase Explicit = Failed
failed_phase Failed = Failed

-- the settings after a rollback: those from before the transaction
abbrev pub settings_back : Settings → Settings → Bool → Settings
settings_back now before true = before
settings_back now before false = now

abbrev pub failed : {T : Type 0} → SessionView T → Fault → SessionView T
failed x f = record x {
  phase = failed_phase x.phase;
  settings = settings_back x.settings x.saved (has_open x.phase);
  rest = [];
  in_block = false;
  fault = Some f;
}

-- what the transaction did goes back at once, its locks and its snapshot are given up, and the rest of the block is not run
abbrev pub fails : {S T : Type 0} → Course S T → ℕ → S → SessionView T → Fault → Turn S T
fails C s v x f = turn (aborted_if C s (has_open x.phase) v) (failed x f) progress.Ended

-- ---- transactions

-- a transaction begins
abbrev pub opened : {T : Type 0} → SessionView T → Phase → Isolation → SessionView T
opened x p l = record x { phase = p; level = l; looked = false; saved = x.settings }

-- BEGIN: it begins a transaction, or makes the one of the block explicit, or names the level of an explicit one
abbrev pub begins : {S T : Type 0} → Course S T → ℕ → S → SessionView T → Option Isolation → Phase → Turn S T
begins C s v x l Idle = turn (C.began v s) (opened x Explicit (unwrap_or l ReadCommitted)) progress.Goes
begins C s v x l Implicit = turn v (record x { phase = Explicit; level = unwrap_or l x.level }) progress.Goes
begins C s v x l Explicit = turn v (record x { level = unwrap_or l x.level }) progress.Goes
begins C s v x l Failed = turn v x progress.Goes

-- COMMIT: of a failed transaction it is a rollback, which has come already
abbrev pub commits : {S T : Type 0} → Course S T → ℕ → S → SessionView T → Phase → Turn S T
commits C s v x Idle = turn v x progress.Goes
commits C s v x Implicit = turn (C.committed v s) (record x { phase = Idle }) progress.Goes
commits C s v x Explicit = turn (C.committed v s) (record x { phase = Idle }) progress.Goes
commits C s v x Failed = turn v (record x { phase = Idle }) progress.Goes

-- what is open is rolled back
abbrev pub back : {T : Type 0} → SessionView T → SessionView T
back x = record x { phase = Idle; settings = settings_back x.settings x.saved (has_open x.phase) }

abbrev pub rolls_back : {S T : Type 0} → Course S T → ℕ → S → SessionView T → Turn S T
rolls_back C s v x = turn (aborted_if C s (has_open x.phase) v) (back x) progress.Goes

-- ---- statements

abbrev pub asker_of : {T : Type 0} → ℕ → SessionView T → Asker
asker_of s x = record { session = s; level = x.level; kind = x.kind }

abbrev pub sets : {S T : Type 0} → Course S T → ℕ → S → SessionView T → Result Settings Fault → Turn S T
sets C s v x (Ok g) = turn v (record x { settings = g }) progress.Goes
sets C s v x (Err f) = fails C s v x f

-- the statement is still to be done
abbrev pub kept : {T : Type 0} → SessionView T → T → SessionView T
kept x t = record x { rest = t ∷ x.rest }

-- it is done
abbrev pub done : {T : Type 0} → SessionView T → Bool → SessionView T
done x looks = record x { looked = x.looked || looks }

-- what it did so far is committed, and it goes on in another transaction
abbrev pub goes_on_again : {S T : Type 0} → Course S T → ℕ → S → SessionView T → T → Turn S T
goes_on_again C s v x t = turn (C.began (C.committed v s) s) (kept (opened x Implicit ReadCommitted) t) progress.Goes

abbrev pub by_outcome : {S T : Type 0} → Course S T → ℕ → S → SessionView T → T → Outcome → Turn S T
by_outcome C s v x t Goes = turn v (kept x t) progress.Goes
by_outcome C s v x t Waits = turn v (kept x t) progress.Waits
by_outcome C s v x t Commits = goes_on_again C s v x t
by_outcome C s v x t Done = turn v (done x (C.looks t)) progress.Goes
by_outcome C s v x t (Refused f) = fails C s v x f

abbrev pub heard : {T : Type 0} → SessionView T → List ℕ → SessionView T
heard x text = record x { told = x.told ++ text }

abbrev pub runs : {S T : Type 0} → Course S T → ℕ → S → SessionView T → T → Turn S T
runs C s v x t =
    by_outcome C s (C.ran v (asker_of s x) x.settings t) (heard x (C.text v (asker_of s x) x.settings t)) t (C.outcome v (asker_of s x) x.settings t)

-- outside of a transaction a statement makes its block one
abbrev pub opens : {S T : Type 0} → Course S T → ℕ → S → SessionView T → T → Turn S T
opens C s v x t = turn (C.began v s) (kept (opened x Implicit ReadCommitted) t) progress.Goes

abbrev pub unless_idle : {S T : Type 0} → Course S T → ℕ → S → SessionView T → T → Turn S T → Phase → Turn S T
unless_idle C s v x t next Idle = opens C s v x t
unless_idle C s v x t next Implicit = next
unless_idle C s v x t next Explicit = next
unless_idle C s v x t next Failed = turn v x progress.Goes

-- a statement that was taken from the front of the block
abbrev pub by_role : {S T : Type 0} → Course S T → ℕ → S → SessionView T → T → Role → Turn S T
by_role C s v x t (Begin l) = begins C s v x l x.phase
by_role C s v x t Commit = commits C s v x x.phase
by_role C s v x t Rollback = rolls_back C s v x
by_role C s v x t Set = unless_idle C s v x t (sets C s v x (C.set x.settings t)) x.phase
by_role C s v x t Query = unless_idle C s v x t (runs C s v x t) x.phase

abbrev pub unless_fault : {S T : Type 0} → Course S T → ℕ → S → SessionView T → T → Option Fault → Turn S T
unless_fault C s v x t (Some f) = fails C s v x f
unless_fault C s v x t None = by_role C s v x t (C.role t)

abbrev pub meets : {S T : Type 0} → Course S T → ℕ → S → SessionView T → T → Turn S T
meets C s v x t = unless_fault C s v x t (state_fault C x t)

-- at the end of a block its implicit transaction is committed
abbrev pub closes : {S T : Type 0} → Course S T → ℕ → S → SessionView T → Phase → Turn S T
closes C s v x Implicit = turn (C.committed v s) (record x { phase = Idle; in_block = false }) progress.Ended
closes C s v x _ = turn v (record x { in_block = false }) progress.Ended

abbrev pub by_next : {S T : Type 0} → Course S T → ℕ → S → SessionView T → Option T → Turn S T
by_next C s v x None = closes C s v x x.phase
by_next C s v x (Some t) = meets C s v (record x { rest = tail x.rest }) t

-- a block that is none of SQL is one statement that fails
abbrev pub by_broken : {S T : Type 0} → Course S T → ℕ → S → SessionView T → Option Fault → Turn S T
by_broken C s v x (Some f) = fails C s v x f
by_broken C s v x None = by_next C s v x (head_of x.rest)

-- without a block there is nothing to do
abbrev pub in_its_block : {S T : Type 0} → Course S T → ℕ → S → SessionView T → Bool → Turn S T
in_its_block C s v x false = turn v x progress.Ended
in_its_block C s v x true = by_broken C s v (record x { broken = None }) x.broken

abbrev pub turns : {S T : Type 0} → Course S T → ℕ → S → SessionView T → Turn S T
turns C s v x = in_its_block C s v x x.in_block

-- ---- the sessions together

-- the settings of a session that has made none
abbrev pub default_settings : Settings
default_settings = record {
  enable_partition_pruning = true;
  enable_partitionwise_join = false;
  enable_partitionwise_aggregate = false;
  enable_hashjoin = true;
  plan_cache_mode = Auto;
}

abbrev pub new_session : {T : Type 0} → SessionView T
new_session = record {
  phase = Idle;
  level = ReadCommitted;
  looked = false;
  settings = default_settings;
  saved = default_settings;
  kind = Setup;
  alone = false;
  in_block = false;
  rest = [];
  broken = None;
  told = [];
  fault = None;
}

abbrev pub session_at : {T : Type 0} → List (SessionView T) → ℕ → SessionView T
session_at xs s = slice_index_or xs s new_session

-- a block begins
abbrev pub with_block : {T : Type 0} → SessionView T → BlockKind → Result (List T) Fault → SessionView T
with_block x k (Ok ts) = record x { kind = k; alone = length ts == 1; in_block = true; rest = ts; broken = None; told = []; fault = None }
with_block x k (Err f) = record x { kind = k; alone = false; in_block = true; rest = []; broken = Some f; told = []; fault = None }

abbrev pub with_session : {S T : Type 0} → State S T → ℕ → Turn S T → State S T
with_session v s x = record { executor = x.executor; sessions = slice_set v.sessions s x.session }

abbrev pub turn_at : {S T : Type 0} → Course S T → State S T → ℕ → Turn S T
turn_at C v s = turns C s v.executor (session_at v.sessions s)

-- sessions as a database, over which a script is run
abbrev pub rules_of : {S T : Type 0} → Course S T → Rules (State S T)
rules_of C = record {
  fresh = λ v. record { executor = C.fresh v.executor; sessions = map (λ x. new_session) v.sessions };
  begun = λ v s k text. record v { sessions = slice_set v.sessions s (with_block (session_at v.sessions s) k (C.parsed text)) };
  stepped = λ v s. with_session v s (turn_at C v s);
  progress = λ v s. (turn_at C v s).progress;
  interrupted = λ v. C.interrupted v.executor;
  ready = λ v. C.ready v.executor;
  resumed = λ v s. record v { executor = C.resumed v.executor s };
  waits = λ v s. C.waits v.executor s;
  oldest = λ v. C.oldest v.executor;
  cancelled = λ v s. record v { executor = C.cancelled v.executor s };
  rolled_back = λ v s. with_session v s (rolls_back C s v.executor (session_at v.sessions s));
  report = λ v s. (session_at v.sessions s).told;
  fault = λ v s. (session_at v.sessions s).fault;
  tally = λ v. C.tally v.executor;
  fault_text = C.fault_text;
}
