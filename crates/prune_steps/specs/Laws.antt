-- What holds of kept children for every condition, level and row (5.11.4 Partition Pruning).
use Rattle.std.specs.Prelude.{◌≡◌, ◌++◌, ◌<◌, ℕ, Bool, true, List, Option, map}
use Rattle.std.specs.List.{list_all}
use Rattle.pg_values.specs.declared.value.Value.{Value}
use Rattle.bound_forms.specs.declared.partition_bound.Bound.{Bound}
use Rattle.bound_forms.specs.Accepts.{accepts_among}
use Rattle.bound_forms.specs.Levels.{IsOfLevel}
use Rattle.bound_forms.specs.Points.{picked}
use Rattle.cond_logic.specs.declared.truth.Truth3.TheVariants.{Yes}
use Rattle.cond_logic.specs.Conjuncts.{conjuncts}
use Rattle.cond_logic.specs.Rewriting.{pushed}
use Rattle.cond_logic.specs.Trees.{CondTree, listed}
use Rattle.cond_logic.specs.Truths.{truth}
use Rattle.cond_logic.specs.Tuples.{Places, put}
use Rattle.prune_steps.specs.Atoms.{Asked, given, first_given}
use Rattle.prune_steps.specs.Beside.{beside}
use Rattle.prune_steps.specs.Kept.{kept, part_keeps}

-- the key of a row at the level
abbrev pub row_key : Asked → List Value → List Value
row_key a row = picked row (map (λ c. c.position) a.level.columns)

-- of a row that passes, whatever the rows of the other FROM items and the arguments that come behind the known ones, the
-- child that accepts it is kept
abbrev pub PruningIsSound : Type 0
PruningIsSound = (a : Asked) (bounds : List Bound) (rows : Places) (args later row : List Value) (t : CondTree) (b : Bound) → a.item < 4 → IsOfLevel a.level b
    → truth (put rows a.item row) (args ++ later) t ≡ Yes → accepts_among bounds (row_key a row) b ≡ true → kept a bounds args t b ≡ true

-- beside the equalities of an AND a condition keeps what all of its conjuncts keep, and of the equalities that these give on
-- a key column it gives the first
abbrev pub KeepsByConjuncts : Type 0
KeepsByConjuncts = (a : Asked) (bounds : List Bound) (first : ℕ → Option Value) (t : CondTree) (b : Bound) → part_keeps a bounds first t b ≡ list_all (λ c. part_keeps a bounds first c b) (conjuncts t)

abbrev pub GivesByConjuncts : Type 0
GivesByConjuncts = (a : Asked) (nulls : Bool) (t : CondTree) (j : ℕ) → given a nulls t j ≡ first_given a nulls (listed (conjuncts t)) j

-- a condition keeps the same with NOT pushed inwards, with whatever arguments, and rows of the items before one, are known
abbrev pub PushingKeepsAlike : Type 0
PushingKeepsAlike = (a : Asked) (bounds : List Bound) (args : List Value) (before : ℕ) (rows : Places) (t : CondTree) (b : Bound)
    → kept a bounds args (beside before rows (pushed t)) b ≡ kept a bounds args (beside before rows t) b
