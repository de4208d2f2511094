-- The sessions of all tasks.
use Rattle.std.proofs.Common.{◌≡◌, ℕ, suc, List, [], ◌∷◌, All, arith, subst}
use Rattle.schedule.specs.Run.{others}
use Rattle.schedule.specs.Tasks.{AreKnown}
use Rattle.schedule.specs.declared.task.Task.{Task}

-- those of the first permutation
pub first_known : (n : ℕ) (p : List Task) (ps qs : List (List Task)) → qs ≡ p ∷ ps → All (AreKnown n) qs → AreKnown n p
first_known n p ps qs e all = (subst (λ l. All (AreKnown n) l) e all) 0 p (omega arith)

-- those of the others
pub others_known : (n : ℕ) (p : List Task) (ps qs : List (List Task)) → qs ≡ p ∷ ps → All (AreKnown n) qs → All (AreKnown n) ps
others_known n p ps qs e all k d lt = (subst (λ l. All (AreKnown n) l) e all) (suc k) d (omega arith)

-- those behind the first task
pub rest_known : (n : ℕ) (ts : List Task) → AreKnown n ts → AreKnown n (others ts)
rest_known n [] all = all
rest_known n (t ∷ ts) all = λ k d lt. all (suc k) d (omega arith)
