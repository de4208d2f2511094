-- Sessions over an executor that has done nothing, told in other words.
use Rattle.std.proofs.Common.{◌≡◌, ℕ, List, subst, IfOk, Result, Ok, Err, replicate}
use Rattle.sessions.specs.Sessions.{State, new_session}
use Rattle.sessions.specs.Whole.{StandsFor}
use Rattle.sessions.specs.declared.executor.Executor.{Ghosts}
use Rattle.sessions.specs.declared.sessions.Sessions.{Sessions}

pub opened_so : {E T X : Type 0} (g : Ghosts E T) (r : Result (Sessions E T g) X) (e : E) (v w : g.State) (k n : ℕ)
    → IfOk r (λ s. (u : g.State) → g.stands e u → StandsFor g s (record { executor = u; sessions = replicate k new_session }))
    → g.stands e v → v ≡ w → k ≡ n → IfOk r (λ s. StandsFor g s (record { executor = w; sessions = replicate n new_session }))
opened_so g (Ok s) e v w k n all stands same count =
    subst (λ j. StandsFor g s (record { executor = w; sessions = replicate j new_session })) count (all w (subst (g.stands e) same stands))
opened_so g (Err x) e v w k n all stands same count = tt
