-- A condition whose steps are run beside what is known by then: arguments, and the rows of the FROM items before one
-- (5.11.4 Partition Pruning: during initialization and during actual execution of the query plan).
use Rattle.std.specs.Prelude.{ℕ, zero, suc, Bool, true, false, List, [], ◌∷◌, ◌++◌, Option, Some, None, unwrap_or}
use Rattle.pg_values.specs.declared.value.Value.{Value}
use Rattle.pg_values.specs.declared.value.Value.TheVariants.{Null}
use Rattle.cond_logic.specs.declared.cond.Operand.{Operand}
use Rattle.cond_logic.specs.Rewriting.{operand_with, with_args, all_with_args}
use Rattle.cond_logic.specs.Trees.{CondTree, CondTrees}
use Rattle.prune_steps.specs.declared.asking.Asking.{Asking}
use Rattle.prune_steps.specs.declared.asking.Read.{Read}
use Rattle.prune_steps.specs.declared.asking.Read.TheVariants.{Never as ReadNever, Anything as ReadAnything, On as ReadOn}
use Rattle.prune_steps.specs.Atoms.{Asked, asked, Reading, Never, Anything, On}
use Rattle.prune_steps.specs.Beside.{operand_beside, beside, all_beside}

abbrev pub asked_by : Asking → Asked
asked_by g = asked g.item g.level.now

-- with what is known in its places
abbrev pub operand_known : Asking → Operand → Operand
operand_known g x = operand_with g.binding.now.args (operand_beside g.before g.binding.now.rows x)

abbrev pub known_in : Asking → CondTree → CondTree
known_in g t = with_args g.binding.now.args (beside g.before g.binding.now.rows t)

abbrev pub all_known_in : Asking → CondTrees → CondTrees
all_known_in g ts = all_with_args g.binding.now.args (all_beside g.before g.binding.now.rows ts)

-- a reading whose value is lent
abbrev pub reading_of : Read → Reading
reading_of ReadNever = Never
reading_of ReadAnything = Anything
reading_of (ReadOn j op v) = On j op v.now

-- ---- the values of the first key columns

abbrev pub given_values : (ℕ → Option Value) → ℕ → List Value
given_values first zero = []
given_values first (suc n) = given_values first n ++ unwrap_or (first n) Null ∷ []

abbrev pub if_given : Bool → (ℕ → Option Value) → ℕ → Option (List Value)
if_given true first n = Some (given_values first n)
if_given false first n = None
