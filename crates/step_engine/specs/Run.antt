-- The run of a script over the stores: what its database is before anything has happened, and what happens in it.
use Rattle.std.specs.Prelude.{ℕ, ◌+◌, Bool, List, ◌∷◌, Option, Some, None, Result, Ok, Err, length, map, replicate, codes}
use Rattle.pg_values.specs.declared.fault.Fault.{Fault}
use Rattle.schedule.specs.Rules.{Rules}
use Rattle.spec_reader.specs.declared.spec.Spec.{Spec}
use Rattle.spec_reader.specs.declared.spec.SessionSpec.{SessionSpec}
use Rattle.sessions.specs.Sessions.{State, new_session, rules_of}
use Rattle.statement_runs.specs.Database.{Database, course, empty}
use Rattle.statement_runs.specs.Moments.{Always, AlwaysInOneLeaf}
use Rattle.sql_ast.specs.Statements.{StatementTree}
use Rattle.statement_runs.specs.ReadMoments.{StatementsAreSound}
use Rattle.statement_runs.specs.Reading.{read_block}
use Rattle.statement_runs.specs.declared.options.Options.{Options}

abbrev pub RunState : Type 0
RunState = State Database StatementTree

abbrev pub rules : Rules RunState
rules = rules_of course

-- at each moment up to now, each row that a tree shows to a session lies in the one leaf of the tree that accepts it
abbrev pub RowsInOneLeaf : RunState → Type 0
RowsInOneLeaf v = AlwaysInOneLeaf v.executor.history

-- and there SELECT, UPDATE and DELETE do over the leaves that they read what they would do over all leaves of the tree of
-- their snapshot; that tree shows no partition that was detached, or whose mark the snapshot sees, and an entry that ATTACH
-- adds is another than all before; and each row that is shown passes the CHECKs along its table's path
abbrev pub StatementsAreSoundThen : RunState → Type 0
StatementsAreSoundThen v = Always StatementsAreSound v.executor.history

-- what holds in each world of the run
abbrev pub HoldsThroughout : RunState → Type 0
HoldsThroughout v = RowsInOneLeaf v × StatementsAreSoundThen v

-- a script's sessions by their numbers, the control session first
abbrev pub name_of : SessionSpec → List ℕ
name_of session = session.name

abbrev pub session_names : Spec → List (List ℕ)
session_names script = codes "control" ∷ map name_of script.sessions

-- what a run is told beside its script
abbrev pub options : (trail : Bool) → Spec → Options
options trail script = record { names = session_names script; trail = trail }

-- sessions that have done nothing, over stores in which nothing has happened; trails are printed, or are not
abbrev pub opened : (trail : Bool) → Spec → RunState
opened trail script = record {
  executor = empty (options trail script) (length script.sessions + 1);
  sessions = replicate (length script.sessions + 1) new_session;
}

-- why a block is refused, if it is
abbrev pub fault_in : {T : Type 0} → Result T Fault → Option Fault
fault_in (Ok statements) = None
fault_in (Err fault) = Some fault

-- the grammar refuses a text that is no list of statements (VI. SQL Commands)
unfoldable pub refused : (text : List ℕ) → Option Fault
refused text = fault_in (read_block text)
