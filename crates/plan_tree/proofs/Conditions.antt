-- Without arguments a condition stays as it is.
use Rattle.std.proofs.Common.{◌≡◌, [], ◌∙◌, Result, Ok, Err, IfOk}
use Rattle.pg_values.specs.declared.text.NoMemory.{NoMemory}
use Rattle.cond_logic.specs.declared.cond.Cond.{Cond}
use Rattle.cond_logic.specs.Rewriting.{with_args}
use Rattle.cond_logic.specs.Trees.{CondTree, cond_tree}
use Rattle.cond_logic.proofs.Bound.{without_args}

pub copied : (r : Result Cond NoMemory) (t : CondTree) → IfOk r (λ b. cond_tree b ≡ with_args [] t) → IfOk r (λ b. cond_tree b ≡ t)
copied (Ok b) t is = is ∙ without_args t
copied (Err e) t is = tt
