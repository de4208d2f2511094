-- What comes of the script of a seed: it is run, and its run is counted and not printed (partscript's own).
use Rattle.std.specs.Prelude.{◌≡◌, ℕ, List, [], ◌++◌, codes, decimal}
use Rattle.script_program.specs.LoadScript.{load}
use Rattle.schedule.specs.Counts.{IsCounted}
use Rattle.schedule.specs.Rules.{Rules}
use Rattle.schedule.specs.Run.{World}
use Rattle.schedule.specs.declared.counts.Counts.{Counts}
use Rattle.schedule.specs.declared.run_end.RunEnd.{RunEnd}
use Rattle.schedule.specs.declared.run_end.RunEnd.TheVariants.{All, SetupFailed, TeardownFailed}
use Rattle.schedule.specs.declared.tally.Tally.{Tally}
use Rattle.spec_reader.specs.Specs.{IsScript}
use Rattle.spec_reader.specs.declared.fault.SpecFault.{SpecFault}
use Rattle.spec_reader.specs.declared.spec.Spec.{Spec}
use Rattle.script_program.specs.declared.ended.Ended.TheVariants.{Done, ScriptRefused}
use Rattle.script_program.specs.Lines.{fault_line, setup_line, teardown_line}
use Rattle.script_program.specs.Outcomes.{Outcome, refusal}
use Rattle.script_program.specs.Texts.{IsNoScript, beginning}

-- ---- the summary

abbrev pub count_line : (word : List ℕ) → ℕ → List ℕ
count_line word n = word ++ codes " " ++ decimal n ++ codes "\n"

abbrev pub summary : (seed : ℕ) → Counts → Tally → List ℕ
summary seed n t =
    count_line (codes "seed") seed ++ count_line (codes "steps") n.steps ++ count_line (codes "waits") n.waits
    ++ count_line (codes "errors") n.errors ++ count_line (codes "rows") t.rows ++ count_line (codes "reads") t.reads

-- a failed setup, or a failed teardown of the control session, ends the run early, and nothing is counted then
abbrev pub told_of : {S : Type 0} → Rules S → Spec → (seed : ℕ) → Counts → Tally → RunEnd → Outcome
told_of R spec seed n t All = record { ended = Done; out = summary seed n t; err = [] }
told_of R spec seed n t (SetupFailed s fault) = refusal ScriptRefused (setup_line R spec.sessions s fault)
told_of R spec seed n t (TeardownFailed fault) = refusal ScriptRefused (teardown_line R fault)

-- ---- a seed

-- what the whole run comes to, over good worlds
pub record RunCounts {S : Type 0} (R : Rules S) (Good : S → Type 0) (v : S) (spec : Spec) (seed : ℕ) (o : Outcome) : Type 0 where
  pub end : RunEnd
  pub counts : Counts
  pub last : World S
  pub counted : IsCounted R Good (beginning R v spec) end counts last
  pub is : o ≡ told_of R spec seed counts (R.tally last.db) end

pub data SeedEnds {S : Type 0} (R : Rules S) (Good : S → Type 0) (opened : Spec → S) (seed : ℕ) (o : Outcome) : Type 0 where
  Accepted : (spec : Spec) → IsScript (load seed) spec → RunCounts R Good (opened spec) spec seed o → SeedEnds R Good opened seed o
  Refused : (fault : SpecFault) → IsNoScript (load seed) fault → o ≡ refusal ScriptRefused (fault_line fault) → SeedEnds R Good opened seed o
