-- What comes of a text that was read whole: the run of the script that it is, or why it is none.
use Rattle.std.specs.Prelude.{◌≡◌, ◌≢◌, ℕ, Bool, ◌+◌, List, [], ◌++◌, length}
use Rattle.schedule.specs.Lines.{heading}
use Rattle.schedule.specs.Rules.{Rules}
use Rattle.schedule.specs.Run.{World, Reaches, Runs, Throughout, start}
use Rattle.schedule.specs.declared.run_end.RunEnd.{RunEnd}
use Rattle.schedule.specs.declared.run_end.RunEnd.TheVariants.{All, SetupFailed, TeardownFailed}
use Rattle.script_program.specs.Tasks.{permutations_of}
use Rattle.spec_reader.specs.Specs.{IsScript, IsRefused}
use Rattle.spec_reader.specs.declared.fault.SpecFault.{SpecFault}
use Rattle.spec_reader.specs.declared.fault.SpecFault.TheVariants as faults
use Rattle.spec_reader.specs.declared.spec.Spec.{Spec}
use Rattle.script_program.specs.declared.ended.Ended.TheVariants.{Done, ScriptRefused}
use Rattle.script_program.specs.Lines.{fault_line, setup_line, teardown_line}
use Rattle.script_program.specs.Outcomes.{Outcome, refusal}

-- ---- the run of a script, over fresh databases like v

-- before the first permutation
abbrev pub beginning : {S : Type 0} → Rules S → S → Spec → World S
beginning R v spec = start R v (length spec.sessions + 1) (permutations_of spec)

-- the first line, and these lines of the run
abbrev pub printed : Spec → List ℕ → List ℕ
printed spec lines = heading (length spec.sessions + 1) ++ lines

-- a failed setup, or a failed teardown of the control session, ends the run early
abbrev pub outcome_of : {S : Type 0} → Rules S → Spec → List ℕ → RunEnd → Outcome
outcome_of R spec out All = record { ended = Done; out = out; err = [] }
outcome_of R spec out (SetupFailed s fault) = record { ended = ScriptRefused; out = out; err = setup_line R spec.sessions s fault }
outcome_of R spec out (TeardownFailed fault) = record { ended = ScriptRefused; out = out; err = teardown_line R fault }

-- what the whole run comes to, over good worlds
pub record RunEnds {S : Type 0} (R : Rules S) (Good : S → Type 0) (v : S) (spec : Spec) (o : Outcome) : Type 0 where
  pub lines : List ℕ
  pub last : World S
  pub runs : Runs R (beginning R v spec) lines last
  pub good : Throughout Good runs.reaches
  pub is : o ≡ outcome_of R spec (printed spec lines) last.end

-- what the run has printed at some point, over good worlds up to there
pub record RunBegins {S : Type 0} (R : Rules S) (Good : S → Type 0) (v : S) (spec : Spec) (out : List ℕ) : Type 0 where
  pub lines : List ℕ
  pub last : World S
  pub reaches : Reaches R (beginning R v spec) lines last
  pub good : Throughout Good reaches
  pub is : out ≡ printed spec lines

-- ---- a text

-- a database that is opened for a script stands for this state
abbrev pub OpensAs : {D S : Type 0} → (Spec → D → Type 0) → (D → S → Type 0) → (Spec → S) → Type 0
OpensAs {D} {S} opens stands opened = (spec : Spec) (d : D) → opens spec d → stands d (opened spec)

-- with trails and without
abbrev pub OpensEachAs : {D S : Type 0} → (Bool → Spec → D → Type 0) → (D → S → Type 0) → (Bool → Spec → S) → Type 0
OpensEachAs {D} {S} opens stands opened = (trail : Bool) → OpensAs (opens trail) stands (opened trail)

-- it is no script, for this reason
pub record IsNoScript (text : List ℕ) (fault : SpecFault) : Type 0 where
  pub refused : IsRefused text fault
  pub known : fault ≢ faults.NoMemory

pub data TextEnds {S : Type 0} (R : Rules S) (Good : S → Type 0) (opened : Spec → S) (text : List ℕ) (o : Outcome) : Type 0 where
  Accepted : (spec : Spec) → IsScript text spec → RunEnds R Good (opened spec) spec o → TextEnds R Good opened text o
  Refused : (fault : SpecFault) → IsNoScript text fault → o ≡ refusal ScriptRefused (fault_line fault) → TextEnds R Good opened text o

-- what `out` has come to at some point: nothing yet, or some lines of the run
pub data TextBegins {S : Type 0} (R : Rules S) (Good : S → Type 0) (opened : Spec → S) (text out : List ℕ) : Type 0 where
  Nothing : out ≡ [] → TextBegins R Good opened text out
  Running : (spec : Spec) → IsScript text spec → RunBegins R Good (opened spec) spec out → TextBegins R Good opened text out
