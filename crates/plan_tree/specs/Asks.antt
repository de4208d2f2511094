-- Which children pruning steps keep beside what is known by then (5.11.4 Partition Pruning).
use Rattle.std.specs.Prelude.{◌≡◌, ℕ, ◌&&◌, List, [], Option, Some, None}
use Rattle.std.specs.List.{list_all}
use Rattle.pg_values.specs.declared.value.Value.{Value}
use Rattle.bound_forms.specs.declared.level.Level.{Level}
use Rattle.bound_forms.specs.declared.partition_bound.Bound.{Bound}
use Rattle.cond_logic.specs.Trees.{CondTree}
use Rattle.cond_logic.specs.Tuples.{Places, Bound as Known, no_rows, put}
use Rattle.prune_steps.specs.declared.pruning.Pruning.{Pruning}
use Rattle.prune_steps.specs.Atoms.{asked}
use Rattle.prune_steps.specs.Beside.{beside}
use Rattle.prune_steps.specs.Kept.{kept}
use Rattle.prune_steps.specs.Prunings.{condition_of}
use Rattle.plan_tree.specs.declared.asks.Asks.{Asks}
use Rattle.plan_tree.specs.declared.asks.Asks.TheVariants.{Alone, Started, Beside, StartedBeside}
use Rattle.plan_tree.specs.Kept.{Keeps}

-- with these values of parameters and these rows of the items before that one
abbrev pub step_keeps : Pruning → List Value → (before : ℕ) → Places → Keeps
step_keeps p args before rows level bounds b = kept (asked p.item level) bounds args (beside before rows (condition_of p)) b

-- each time that it is asked
abbrev pub keeps_each : Asks → Known → Pruning → Keeps
keeps_each Alone known p level bounds b = step_keeps p [] 0 no_rows level bounds b
keeps_each Started known p level bounds b = step_keeps p [] 0 no_rows level bounds b && step_keeps p known.args 0 known.rows level bounds b
keeps_each (Beside n) known p level bounds b = step_keeps p [] 0 no_rows level bounds b && step_keeps p known.args n known.rows level bounds b
keeps_each (StartedBeside n) known p level bounds b =
    step_keeps p [] 0 no_rows level bounds b && (step_keeps p known.args 0 known.rows level bounds b && step_keeps p known.args n known.rows level bounds b)

-- all of them, where nothing is known
abbrev pub keeps_alone : List Pruning → Keeps
keeps_alone ps level bounds b = list_all (λ p. step_keeps p [] 0 no_rows level bounds b) ps

-- and each time that they are asked
abbrev pub keeps_asked : Asks → Known → List Pruning → Keeps
keeps_asked q known ps level bounds b = list_all (λ p. keeps_each q known p level bounds b) ps

-- they keep what the conditions keep of the FROM item of that number, whatever is known
abbrev pub AreStepsOf : List Pruning → (item : ℕ) → List CondTree → Type 0
AreStepsOf ps item ts = (level : Level) (bounds : List Bound) (args : List Value) (before : ℕ) (rows : Places) (b : Bound)
    → list_all (λ p. step_keeps p args before rows level bounds b) ps ≡ list_all (λ t. kept (asked item level) bounds args (beside before rows t) b) ts

-- the row comes to that place, where there is one
abbrev pub with_row : Places → ℕ → Option (List Value) → Places
with_row rows n None = rows
with_row rows n (Some row) = put rows n row
