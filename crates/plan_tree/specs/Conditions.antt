-- The condition by which a statement prunes: all of its conditions at once.
use Rattle.std.specs.Prelude.{List, [], ◌∷◌, Option, Some, None}
use Rattle.pg_values.specs.declared.value.Value.{Value}
use Rattle.cond_logic.specs.Rewriting.{with_args}
use Rattle.cond_logic.specs.Trees.{CondTree, all_of, listed}

abbrev pub all_hold : List CondTree → CondTree
all_hold ts = all_of (listed ts)

-- with the values of parameters that a plan was started with
abbrev pub given : Option (List Value) → CondTree → CondTree
given None t = t
given (Some args) t = with_args args t

-- and by which it prunes with these: without them first
abbrev pub without_and_given : Option (List Value) → CondTree → List CondTree
without_and_given None t = t ∷ []
without_and_given (Some args) t = t ∷ with_args args t ∷ []
