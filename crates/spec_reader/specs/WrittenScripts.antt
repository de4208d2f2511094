-- How a script may be written, each name between quotes and a blank before each token, so that it is read back.
use Rattle.std.specs.Prelude.{◌≡◌, ◌≢◌, ℕ, List, [], ◌∷◌, ◌++◌, map, Option, Some, None, codes}
use Rattle.std.specs.Str.{IsUtf8}
use Rattle.spec_reader.specs.Faults.{fault}
use Rattle.spec_reader.specs.Written.{quoted, braced, IsOneLine, IsBlock}
use Rattle.spec_reader.specs.declared.spec.Marker.{Marker}
use Rattle.spec_reader.specs.declared.spec.Marker.TheVariants as markers
use Rattle.spec_reader.specs.declared.spec.SessionSpec.{SessionSpec}
use Rattle.spec_reader.specs.declared.spec.Spec.{Spec}
use Rattle.spec_reader.specs.declared.spec.StepSpec.{StepSpec}
use Rattle.spec_reader.specs.declared.spec.StepUse.{StepUse}
use Rattle.spec_reader.specs.declared.written.WrittenMarker.{WrittenMarker}
use Rattle.spec_reader.specs.declared.written.WrittenMarker.TheVariants as written
use Rattle.spec_reader.specs.declared.written.WrittenSpec.{WrittenSpec}
use Rattle.spec_reader.specs.declared.written.WrittenUse.{WrittenUse}

-- Each is written before a rest.
abbrev pub all_of : {A : Type 0} → (A → List ℕ → List ℕ) → List A → List ℕ → List ℕ
all_of write [] rest = rest
all_of write (x ∷ xs) rest = write x (all_of write xs rest)

abbrev pub with_name : List ℕ → List ℕ → List ℕ
with_name n rest = 32 ∷ (quoted n ++ rest)

abbrev pub with_block : List ℕ → List ℕ → List ℕ
with_block b rest = 32 ∷ (braced b ++ rest)

abbrev pub with_setup : List ℕ → List ℕ → List ℕ
with_setup b rest = 32 ∷ (codes "setup" ++ with_block b rest)

abbrev pub with_maybe_setup : Option (List ℕ) → List ℕ → List ℕ
with_maybe_setup None rest = rest
with_maybe_setup (Some b) rest = with_setup b rest

abbrev pub with_teardown : Option (List ℕ) → List ℕ → List ℕ
with_teardown None rest = rest
with_teardown (Some b) rest = 32 ∷ (codes "teardown" ++ with_block b rest)

abbrev pub with_step : StepSpec → List ℕ → List ℕ
with_step t rest = 32 ∷ (codes "step" ++ with_name t.name (with_block t.block rest))

abbrev pub with_session : SessionSpec → List ℕ → List ℕ
with_session s rest = 32 ∷ (codes "session" ++ with_name s.name (with_maybe_setup s.setup (all_of with_step s.steps (with_teardown s.teardown rest))))

abbrev pub with_marker : WrittenMarker → List ℕ → List ℕ
with_marker written.Waiting rest = 32 ∷ 42 ∷ rest
with_marker (written.After n) rest = with_name n rest
with_marker written.Notices rest = rest

abbrev pub with_comma : WrittenMarker → List ℕ → List ℕ
with_comma m rest = 32 ∷ 44 ∷ with_marker m rest

abbrev pub with_markers : List WrittenMarker → List ℕ → List ℕ
with_markers [] rest = rest
with_markers (m ∷ ms) rest = 32 ∷ 40 ∷ with_marker m (all_of with_comma ms (32 ∷ 41 ∷ rest))

abbrev pub with_use : WrittenUse → List ℕ → List ℕ
with_use u rest = with_name u.step (with_markers u.markers rest)

abbrev pub with_permutation : List WrittenUse → List ℕ → List ℕ
with_permutation us rest = 32 ∷ (codes "permutation" ++ all_of with_use us rest)

abbrev pub written_text : WrittenSpec → List ℕ
written_text w = all_of with_setup w.setups (with_teardown w.teardown (all_of with_session w.sessions (all_of with_permutation w.permutations [])))

-- What is written of a script.
abbrev pub marker_as : Marker → WrittenMarker
marker_as markers.Waiting = written.Waiting
marker_as (markers.After n) = written.After n

abbrev pub use_as : StepUse → WrittenUse
use_as u = record { step = u.step; markers = map marker_as u.markers }

abbrev pub uses_as : List StepUse → List WrittenUse
uses_as us = map use_as us

abbrev pub written_as : Spec → WrittenSpec
written_as s = record { setups = s.setups; teardown = s.teardown; sessions = s.sessions; permutations = map uses_as s.permutations }

abbrev pub script_text : Spec → List ℕ
script_text s = written_text (written_as s)

-- What can be written: names on one line, blocks without `}` and with no blanks at their ends, at least one session, one
-- step in each, and one use in each permutation.
abbrev pub Each : {A : Type 0} → (A → Type 0) → List A → Type 0
Each P [] = Unit {0}
Each P (x ∷ xs) = P x × Each P xs

abbrev pub IfThere : Option (List ℕ) → Type 0
IfThere None = Unit {0}
IfThere (Some b) = IsBlock b

abbrev pub IsStep : StepSpec → Type 0
IsStep t = IsOneLine t.name × IsBlock t.block

abbrev pub IsSession : SessionSpec → Type 0
IsSession s = IsOneLine s.name × IfThere s.setup × (s.steps ≢ []) × Each IsStep s.steps × IfThere s.teardown

abbrev pub IsMarker : WrittenMarker → Type 0
IsMarker written.Waiting = Unit {0}
IsMarker (written.After n) = IsOneLine n
IsMarker written.Notices = Unit {0} → ⊥

abbrev pub IsUse : WrittenUse → Type 0
IsUse u = IsOneLine u.step × Each IsMarker u.markers

abbrev pub IsPermutation : List WrittenUse → Type 0
IsPermutation us = (us ≢ []) × Each IsUse us

-- and it breaks no rule
pub record IsWritableScript (s : Spec) : Type 0 where
  pub setups : Each IsBlock s.setups
  pub teardown : IfThere s.teardown
  pub some : s.sessions ≢ []
  pub sessions : Each IsSession s.sessions
  pub permutations : Each IsPermutation (map uses_as s.permutations)
  pub keeps : fault (written_as s) ≡ None
  pub utf8 : IsUtf8 (script_text s)
