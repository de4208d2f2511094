-- The lines on `err`.
use Rattle.std.specs.Prelude.{ℕ, ◌-◌, ◌==◌, if◌then◌else◌, List, [], ◌++◌, Option, Some, None, codes, decimal, slice_get}
use Rattle.pg_values.specs.Words.{which_word}
use Rattle.pg_values.specs.declared.fault.Fault.{Fault}
use Rattle.schedule.specs.Rules.{Rules}
use Rattle.spec_reader.specs.declared.fault.SpecFault.{SpecFault}
use Rattle.spec_reader.specs.declared.fault.SpecFault.TheVariants.{BadToken, Limit, DoubleName, NoPermutation, UnknownStep, UnknownMarker, NoMemory}
use Rattle.spec_reader.specs.declared.spec.SessionSpec.{SessionSpec}

abbrev pub usage_line : List ℕ
usage_line = codes "usage: partscript [--mode run|check|gen|dump] [--today DATE] [--trail] [--seed N]\n"

abbrev pub too_large_line : List ℕ
too_large_line = codes "input over 4194304 bytes\n"

abbrev pub read_line : List ℕ
read_line = codes "read failed\n"

-- why a text is no script; want of memory has no line
abbrev pub fault_line : SpecFault → List ℕ
fault_line (BadToken line) = codes "line " ++ decimal line ++ codes ": unexpected token\n"
fault_line (Limit which) = codes "too many " ++ which_word which ++ codes "\n"
fault_line (DoubleName name) = codes "name " ++ name ++ codes " is used twice\n"
fault_line NoPermutation = codes "no permutation line\n"
fault_line (UnknownStep name) = codes "unknown step " ++ name ++ codes "\n"
fault_line (UnknownMarker name) = codes "unknown marker " ++ name ++ codes "\n"
fault_line NoMemory = []

-- what a session is called; the control session has the number 0, the others 1, 2, ..
abbrev pub name_of : Option SessionSpec → List ℕ
name_of None = []
name_of (Some session) = session.name

abbrev pub session_name : List SessionSpec → ℕ → List ℕ
session_name sessions s = if s == 0 then codes "control" else name_of (slice_get sessions (s - 1))

-- why a run has ended early
abbrev pub setup_line : {S : Type 0} → Rules S → List SessionSpec → ℕ → Fault → List ℕ
setup_line R sessions s fault = codes "setup of " ++ session_name sessions s ++ codes " failed: " ++ R.fault_text fault ++ codes "\n"

abbrev pub teardown_line : {S : Type 0} → Rules S → Fault → List ℕ
teardown_line R fault = codes "teardown of control failed: " ++ R.fault_text fault ++ codes "\n"
