-- What the rewritings of a condition keep, and what they bring about; and what its conjuncts tell of it.
use Rattle.std.specs.Prelude.{◌≡◌, true, List, length, ◌++◌}
use Rattle.pg_values.specs.declared.value.Value.{Value}
use Rattle.cond_logic.specs.Tuples.{Places}
use Rattle.cond_logic.specs.Conjuncts.{conjuncts}
use Rattle.cond_logic.specs.Trees.{CondTree, listed}
use Rattle.cond_logic.specs.Truths.{truth, least_of}
use Rattle.cond_logic.specs.Rewriting.{pushed, is_pushed, with_args, is_without}

-- pushing NOT inwards keeps the truth of every tuple
abbrev pub PushingKeepsTruth : Type 0
PushingKeepsTruth = (rows : Places) (args : List Value) (t : CondTree) → truth rows args (pushed t) ≡ truth rows args t

-- and then NOT stands over IS NULL alone
abbrev pub NotStandsOverNullTests : Type 0
NotStandsOverNullTests = (t : CondTree) → is_pushed (pushed t) ≡ true

-- arguments in the places of their parameters keep the truth of every tuple, whatever arguments come behind them
abbrev pub BindingKeepsTruth : Type 0
BindingKeepsTruth = (rows : Places) (args later : List Value) (t : CondTree) → truth rows (args ++ later) (with_args args t) ≡ truth rows (args ++ later) t

-- and then no parameter is left for which an argument was given
abbrev pub BindingLeavesNoGivenParameter : Type 0
BindingLeavesNoGivenParameter = (args : List Value) (t : CondTree) → is_without (length args) (with_args args t) ≡ true

-- the conjuncts have together the truth of the condition, for every tuple
abbrev pub ConjunctsKeepTruth : Type 0
ConjunctsKeepTruth = (rows : Places) (args : List Value) (t : CondTree) → least_of rows args (listed (conjuncts t)) ≡ truth rows args t
