-- The tasks of a permutation: the control session runs the setup blocks, then each session its setup, then the steps are
-- launched, then each session runs its teardown, then open transactions are rolled back, then the control session runs the
-- teardown.
use Rattle.std.specs.Prelude.{ℕ, ◌+◌, Bool, true, false, List, [], ◌∷◌, ◌++◌, Option, Some, None, length, map, codes}
use Rattle.std.specs.List.{flat_map, list_any, range_with_len}
use Rattle.schedule.specs.declared.block.BlockKind.{BlockKind}
use Rattle.schedule.specs.declared.block.BlockKind.TheVariants.{Setup, Step, Teardown, ControlTeardown}
use Rattle.schedule.specs.declared.task.Task.{Task}
use Rattle.schedule.specs.declared.task.Task.TheVariants.{Launch, Settle, RollBack}
use Rattle.spec_reader.specs.declared.spec.Marker.{Marker}
use Rattle.spec_reader.specs.declared.spec.Marker.TheVariants.{Waiting, After}
use Rattle.spec_reader.specs.declared.spec.SessionSpec.{SessionSpec}
use Rattle.spec_reader.specs.declared.spec.Spec.{Spec}
use Rattle.spec_reader.specs.declared.spec.StepUse.{StepUse}
use Rattle.script_program.specs.Steps.{StepView, numbered, steps_of, number_of, step_at}

-- a block that is no step, where there is one
abbrev pub plain : BlockKind → ℕ → List ℕ → List ℕ → Task
plain kind session name text = Launch (record { kind = kind; session = session; step = 0; name = name; text = text; starred = false; behind = [] })

abbrev pub plain_if : BlockKind → ℕ → List ℕ → Option (List ℕ) → List Task
plain_if kind session name None = []
plain_if kind session name (Some text) = plain kind session name text ∷ []

abbrev pub setup_in : ℕ → SessionSpec → List Task
setup_in session s = plain_if Setup session s.name s.setup

abbrev pub teardown_in : ℕ → SessionSpec → List Task
teardown_in session s = plain_if Teardown session s.name s.teardown

-- the marker `(*)`
abbrev pub is_waiting : Marker → Bool
is_waiting Waiting = true
is_waiting (After name) = false

-- the step that a marker names
abbrev pub told : Option ℕ → List ℕ
told None = []
told (Some k) = k ∷ []

abbrev pub behind_marker : List StepView → Marker → List ℕ
behind_marker steps Waiting = []
behind_marker steps (After name) = told (number_of name steps)

-- a use of a step; the script's rules leave no use of a step that is not there
abbrev pub launch_of : List StepView → StepUse → Option ℕ → List Task
launch_of steps u None = []
launch_of steps u (Some k) = Launch (record {
  kind = Step;
  session = (step_at steps k).session;
  step = k;
  name = u.step;
  text = (step_at steps k).text;
  starred = list_any is_waiting u.markers;
  behind = flat_map (behind_marker steps) u.markers;
}) ∷ []

abbrev pub use_in : List StepView → StepUse → List Task
use_in steps u = launch_of steps u (number_of u.step steps)

abbrev pub before_steps : Spec → List Task
before_steps spec = map (plain Setup 0 (codes "control")) spec.setups ++ numbered setup_in 1 spec.sessions

abbrev pub behind_steps : Spec → List Task
behind_steps spec =
    Settle ∷ numbered teardown_in 1 spec.sessions ++ map RollBack (range_with_len 0 (length spec.sessions + 1))
    ++ plain_if ControlTeardown 0 (codes "control") spec.teardown

abbrev pub tasks_of : Spec → List StepUse → List Task
tasks_of spec uses = before_steps spec ++ flat_map (use_in (steps_of spec.sessions)) uses ++ behind_steps spec

abbrev pub permutations_of : Spec → List (List Task)
permutations_of spec = map (tasks_of spec) spec.permutations
