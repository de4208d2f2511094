-- What has come of a statement that commits what it did first.
use Rattle.std.proofs.Common.{◌≡◌, ◌≢◌, ◌∙◌, ℕ, zero, suc, ◌<◌, Bool, List, [], ◌∷◌, refl, ap, sym, subst, arith, Option, Some, None, Result, Ok, Err, IfOk, OnOk, length, slice_index_or, slice_set}
use Rattle.pg_values.specs.declared.fault.Fault.{Fault}
use Rattle.pg_values.specs.declared.text.NoMemory.{NoMemory}
use Rattle.history.specs.History.{History}
use Rattle.sessions.specs.Commits.{CommitsOnce, AreAsBefore, OthersAreAsBefore}
use Rattle.sessions.specs.declared.asker.Asker.{Asker}
use Rattle.sessions.specs.declared.outcome.Outcome.{Outcome}
use Rattle.sessions.specs.declared.settings.Settings.{Settings}
use Rattle.statement_steps.specs.Ended.{Ended}
use Rattle.statement_steps.specs.Made.{Made}
use Rattle.statement_runs.specs.Attempted.{attempted}
use Rattle.statement_runs.specs.Roles.{has_committed}
use Rattle.statement_runs.specs.declared.options.Options.{Options}
use Rattle.sql_ast.specs.Statements.{StatementTree}
use Rattle.prepared_statements.specs.Prepared.{Prepared}
use Rattle.statement_runs.proofs.StatementsOnce.{all_once}
use Rattle.statement_runs.specs.Database.{caller_of, refused_or, rest_told, outcome_told}
use Rattle.statement_runs.specs.Kept.{KeptSeats, AreSeated, TellOf}
use Rattle.statement_runs.specs.Ran.{attempt_at, refusal_in, HasRun}
use Rattle.statement_steps.specs.declared.rest.Rest.{Rest}

-- ---- where statements stand

set_own : {X : Type 0} (xs : List X) (s : ℕ) (x d : X) → s < length xs → slice_index_or (slice_set xs s x) s d ≡ x
set_own [] s x d lt = absurd (omega arith)
set_own (y ∷ ys) zero x d lt = refl
set_own (y ∷ ys) (suc s) x d lt = set_own ys s x d (omega arith)

set_other : {X : Type 0} (xs : List X) (s r : ℕ) (x d : X) → r ≢ s → slice_index_or (slice_set xs s x) r d ≡ slice_index_or xs r d
set_other [] s r x d other = refl
set_other (y ∷ ys) zero zero x d other = absurd (other refl)
set_other (y ∷ ys) zero (suc r) x d other = refl
set_other (y ∷ ys) (suc s) zero x d other = refl
set_other (y ∷ ys) (suc s) (suc r) x d other = set_other ys s r x d (λ e. other (ap suc e))

-- whether the statement of a session has committed what it did first
abbrev pub committed_in : List (Option Rest) → ℕ → StatementTree → Bool
committed_in rests s t = has_committed (slice_index_or rests s None) t

pub same_rests : (old new : List (Option Rest)) → new ≡ old → AreAsBefore (committed_in old) (committed_in new)
same_rests old new same = λ s t. ap (λ rests. committed_in rests s t) same

-- ---- a statement was run

once_made : (o : Option Fault) (m : Made Ended) (t : StatementTree) (before : Bool) (x : Outcome) (rest : Option Rest)
    → CommitsOnce before (has_committed (rest_told m.told) t) (outcome_told m.told) → x ≡ outcome_told (refused_or o m).told → rest ≡ rest_told (refused_or o m).told → CommitsOnce before (has_committed rest t) x
once_made (Some f) m t before x rest once is at = subst (CommitsOnce before (has_committed rest t)) (sym is) tt
once_made None m t before x rest once is at =
    subst (CommitsOnce before (has_committed rest t)) (sym is) (subst (λ r. CommitsOnce before (has_committed r t) (outcome_told m.told)) (sym at) once)

once_ran : (o : Options) (old new : KeptSeats) (a : Asker) (h : History) (g : Settings) (ps : List Prepared) (t : StatementTree) (before after : List ℕ) (x : Outcome) → AreSeated old → a.session < length old.opened
    → HasRun (attempt_at o old a h g ps t) a old new before after x h → CommitsOnce (committed_in old.rests a.session t) (committed_in new.rests a.session t) x
once_ran o old new a h g ps t before after x seated known ran =
    let c = caller_of (length old.opened) (slice_index_or old.commands a.session 0) a in
    let rest = slice_index_or old.rests a.session None in
    once_made (refusal_in old a.session) (attempted o c rest g ps t h) t (has_committed rest t) x (slice_index_or new.rests a.session None) (all_once o c rest h g ps t) ran.outcome
    (ap (λ rests. slice_index_or rests a.session None) ran.rests ∙ set_own old.rests a.session (rest_told (attempt_at o old a h g ps t).told) None (rw seated.rests known))

others_ran : (m : Made Ended) (old new : KeptSeats) (a : Asker) (h : History) (before after : List ℕ) (x : Outcome) → HasRun m a old new before after x h → OthersAreAsBefore a.session (committed_in old.rests) (committed_in new.rests)
others_ran m old new a h before after x ran = λ s t other.
    ap (λ rest. has_committed rest t) (ap (λ rests. slice_index_or rests s None) ran.rests ∙ set_other old.rests a.session s (rest_told m.told) None other)

-- behind the waits that it has cancelled, which left all statements where they stood
pub once_on : (o : Options) (first old new : KeptSeats) (a : Asker) (g : Settings) (ps : List Prepared) (t : StatementTree) (before after : List ℕ) (r : Result Outcome NoMemory) → old.rests ≡ first.rests → a.session < length old.opened
    → IfOk r (λ x. (h : History) → TellOf old h → HasRun (attempt_at o old a h g ps t) a old new before after x h) → OnOk r ((h : History) × TellOf old h × AreSeated old)
    → IfOk r (λ x. CommitsOnce (committed_in first.rests a.session t) (committed_in new.rests a.session t) x)
once_on o first old new a g ps t before after (Ok x) same known ran (h, tells, seated) =
    subst (λ rests. CommitsOnce (committed_in rests a.session t) (committed_in new.rests a.session t) x) same (once_ran o old new a h g ps t before after x seated known (ran h tells))
once_on o first old new a g ps t before after (Err e) same known ran heard = tt

pub others_on : (o : Options) (first old new : KeptSeats) (a : Asker) (g : Settings) (ps : List Prepared) (t : StatementTree) (before after : List ℕ) (r : Result Outcome NoMemory) → old.rests ≡ first.rests
    → IfOk r (λ x. (h : History) → TellOf old h → HasRun (attempt_at o old a h g ps t) a old new before after x h) → OnOk r ((h : History) × TellOf old h × AreSeated old)
    → OnOk r (OthersAreAsBefore a.session (committed_in first.rests) (committed_in new.rests))
others_on o first old new a g ps t before after (Ok x) same ran (h, tells, seated) =
    subst (λ rests. OthersAreAsBefore a.session (committed_in rests) (committed_in new.rests)) same (others_ran (attempt_at o old a h g ps t) old new a h before after x (ran h tells))
others_on o first old new a g ps t before after (Err e) same ran heard = tt
