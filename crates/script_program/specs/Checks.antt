-- What is told of a script whose blocks are read and not run.
use Rattle.std.specs.Prelude.{◌≡◌, ℕ, List, [], ◌∷◌, ◌++◌, map, length, codes, decimal, Option, Some, None}
use Rattle.std.specs.List.{flat_map, sum_by}
use Rattle.pg_values.specs.declared.fault.Fault.{Fault}
use Rattle.schedule.specs.Lines.{error_line}
use Rattle.schedule.specs.Rules.{Rules}
use Rattle.spec_reader.specs.Specs.{IsScript}
use Rattle.spec_reader.specs.declared.fault.SpecFault.{SpecFault}
use Rattle.spec_reader.specs.declared.spec.SessionSpec.{SessionSpec}
use Rattle.spec_reader.specs.declared.spec.Spec.{Spec}
use Rattle.spec_reader.specs.declared.spec.StepSpec.{StepSpec}
use Rattle.script_program.specs.declared.ended.Ended.TheVariants.{Done, ScriptRefused}
use Rattle.script_program.specs.Lines.{fault_line}
use Rattle.script_program.specs.Outcomes.{Outcome, refusal}
use Rattle.script_program.specs.Texts.{IsNoScript}

-- ---- the blocks of a script in the order of its text, each under `setup`, `teardown` or its step's name

pub record NamedBlock : Type 0 where
  pub name : List ℕ
  pub text : List ℕ

abbrev pub setup_block : List ℕ → NamedBlock
setup_block text = record { name = codes "setup"; text = text }

abbrev pub teardown_block : List ℕ → NamedBlock
teardown_block text = record { name = codes "teardown"; text = text }

abbrev pub step_block : StepSpec → NamedBlock
step_block step = record { name = step.name; text = step.block }

-- one that may be there
abbrev pub if_there : Option (List ℕ) → List (List ℕ)
if_there None = []
if_there (Some text) = text ∷ []

abbrev pub session_blocks : SessionSpec → List NamedBlock
session_blocks s = map setup_block (if_there s.setup) ++ map step_block s.steps ++ map teardown_block (if_there s.teardown)

abbrev pub blocks_of : Spec → List NamedBlock
blocks_of script = map setup_block script.setups ++ map teardown_block (if_there script.teardown) ++ flat_map session_blocks script.sessions

-- ---- what is told of them, where `refused` says why a text is no block

-- the error of one that is refused, behind its name, and nothing of another
abbrev pub block_line : {S : Type 0} → Rules S → (refused : List ℕ → Option Fault) → NamedBlock → List ℕ
block_line R refused b = error_line R (b.name ++ codes ": ") (refused b.text)

abbrev pub block_lines : {S : Type 0} → Rules S → (refused : List ℕ → Option Fault) → List NamedBlock → List ℕ
block_lines R refused blocks = flat_map (block_line R refused) blocks

abbrev pub step_count : List SessionSpec → ℕ
step_count sessions = sum_by (λ s. length s.steps) sessions

abbrev pub counts_line : Spec → List ℕ
counts_line script =
    codes "checked " ++ decimal (length script.sessions) ++ codes " sessions, "
    ++ decimal (step_count script.sessions) ++ codes " steps, "
    ++ decimal (length script.permutations) ++ codes " permutations\n"

-- each block that is refused, and the counts
abbrev pub checked : {S : Type 0} → Rules S → (refused : List ℕ → Option Fault) → Spec → List ℕ
checked R refused script = block_lines R refused (blocks_of script) ++ counts_line script

-- ---- a text that was read whole

pub data CheckEnds {S : Type 0} (R : Rules S) (refused : List ℕ → Option Fault) (text : List ℕ) (o : Outcome) : Type 0 where
  Checked : (spec : Spec) → IsScript text spec → o ≡ record { ended = Done; out = checked R refused spec; err = [] } → CheckEnds R refused text o
  NoScript : (fault : SpecFault) → IsNoScript text fault → o ≡ refusal ScriptRefused (fault_line fault) → CheckEnds R refused text o

-- what `out` has come to at some point: nothing yet, or all of it
pub data CheckBegins {S : Type 0} (R : Rules S) (refused : List ℕ → Option Fault) (text out : List ℕ) : Type 0 where
  NothingTold : out ≡ [] → CheckBegins R refused text out
  Told : (spec : Spec) → IsScript text spec → out ≡ checked R refused spec → CheckBegins R refused text out
