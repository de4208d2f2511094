-- Parts of a run, one after another.
use Rattle.std.proofs.Common.{Err, IsErrAnd, IsSome, None, Ok, Result, Some, ℕ, [], ap, append_assoc, length, refl, slice_index_or, subst, sym, ◌++◌, ◌+◌, ◌∙◌, ◌∷◌, ◌≡◌}
use Rattle.std.proofs.lemmas.Result.{err_from_is_err_and}
use Rattle.pg_values.specs.declared.fault.Fault.{Fault}
use Rattle.history.specs.History.{History}
use Rattle.stores.specs.Stand.{Stands}
use Rattle.stores.specs.declared.stores.Stores.{Stores}
use Rattle.statement_steps.specs.Ended.{giving, told_as}
use Rattle.statement_steps.specs.Made.{Made, Refused, made, halted, and_then, then_told, behind}
use Rattle.statement_steps.specs.Gathered.{Found}
use Rattle.statement_steps.specs.Attempts.{IsLeft, WentOn, GoesOn}
use Rattle.statement_steps.specs.declared.caller.Caller.{Caller}
use Rattle.statement_steps.specs.declared.stop.Stop.{Stop}
use Rattle.statement_steps.specs.declared.stop.Stop.TheVariants as stop
use Rattle.statement_steps.specs.Steps.{follow}
use Rattle.statement_steps.proofs.Parts.{still_on, stays}
use Rattle.statement_steps.proofs.Steps.{went_on, goes_on, paused_same}
use Rattle.change_statement.specs.Running.{IsInRun, IsRunTold, IsRun, MayRun}

run_behind : {Y U : Type 0} (g : Found) (view : Y → U) (r : Result Y Stop) (mid new : Stores) (caller : Caller) (h : History) (events : History) (m : Made U)
    → WentOn h caller.session (caller.cmd + 1) [] mid (events ++ h) → IsRunTold g view r new caller (events ++ h) m → IsRunTold g view r new caller h (behind events m)
run_behind g view (Ok x) mid new caller h events m first told =
    let same = sym (append_assoc m.events events h) in (
      told.0,
      subst (WentOn h caller.session (caller.cmd + 1) [] new) same (went_on h (events ++ h) (m.events ++ (events ++ h)) caller.session (caller.cmd + 1) (caller.cmd + 1) [] mid new first told.1),
      subst (λ k. IsInRun g k caller) same told.2,
    )
run_behind g view (Err (stop.Waits None)) mid new caller h events m first told = told
run_behind g view (Err (stop.Waits (Some rest))) mid new caller h events m first told =
    let same = sym (append_assoc m.events events h) in (
      told.0,
      subst (WentOn h caller.session (caller.cmd + 1) (caller.session ∷ []) new) same (went_on h (events ++ h) (m.events ++ (events ++ h)) caller.session (caller.cmd + 1) (caller.cmd + 1) (caller.session ∷ []) mid new first told.1),
      subst (λ k. IsLeft k caller.session rest) same told.2,
    )
run_behind g view (Err (stop.Refused f)) mid new caller h events m first told =
    (told.0, subst (WentOn h caller.session (caller.cmd + 1) [] new) (sym (append_assoc m.events events h)) (went_on h (events ++ h) (m.events ++ (events ++ h)) caller.session (caller.cmd + 1) (caller.cmd + 1) [] mid new first told.1))
run_behind g view (Err stop.NoMemory) mid new caller h events m first told = tt

-- what comes first is done, and the next part goes on from what it gave
pub then_run : {X T Y U : Type 0} {g : Found} {see : X → T} {view : Y → U} {x : X} {r : Result Y Stop} {old mid new : Stores} {caller : Caller} (f : History → Made T) (next : T → History → Made U)
    → IsRun g see (Ok x) old mid caller f → IsRun g view r mid new caller (next (see x)) → IsRun g view r old new caller (follow f next)
then_run {g = g} {see = see} {view = view} {x = x} {r = r} {old = old} {mid = mid} {new = new} {caller = caller} f next first second = record {
  is = λ h stands run.
      let a = first.is h stands run in
      let told = second.is ((f h).events ++ h) a.1.stands a.2 in
      subst (λ t. IsRunTold g view r new caller h (then_told t (f h).events (λ y. next y ((f h).events ++ h)))) (sym a.0)
      (run_behind g view r mid new caller h (f h).events (next (see x) ((f h).events ++ h)) a.1 told);
  keeps = goes_on old mid new caller.session first.keeps second.keeps;
  waits = second.waits;
}

-- what comes first stops
stop_run_told : {X T Y U : Type 0} (g : Found) (see : X → T) (view : Y → U) (e : Stop) (new : Stores) (caller : Caller) (h : History) (m : Made T) (next : T → Made U)
    → IsRunTold g see (Err e) new caller h m → IsRunTold g view (Err e) new caller h (and_then m next)
stop_run_told g see view (stop.Waits None) new caller h m next told = told
stop_run_told g see view (stop.Waits (Some rest)) new caller h m next told = subst (λ t. IsRunTold g view (Err (stop.Waits (Some rest))) new caller h (then_told t m.events next)) (sym told.0) (refl, told.1, told.2)
stop_run_told g see view (stop.Refused f) new caller h m next told = subst (λ t. IsRunTold g view (Err (stop.Refused f)) new caller h (then_told t m.events next)) (sym told.0) (refl, told.1)
stop_run_told g see view stop.NoMemory new caller h m next told = tt

pub stop_run : {X T Y U : Type 0} {g : Found} {see : X → T} {view : Y → U} {e : Stop} {old new : Stores} {caller : Caller} (f : History → Made T) (next : T → History → Made U)
    → IsRun g see (Err e) old new caller f → IsRun g view (Err e) old new caller (follow f next)
stop_run {X = X} {Y = Y} {g = g} {see = see} {view = view} {e = e} {old = old} {new = new} {caller = caller} f next first = record {
  is = λ h stands run. stop_run_told g see view e new caller h (f h) (λ y. next y ((f h).events ++ h)) (first.is h stands run);
  keeps = first.keeps;
  waits = paused_same X Y e new caller.session first.waits;
}

-- so a `?` hands it on
pub handed_run : {X T : Type 0} {g : Found} {view : X → T} {r : Result X Stop} {e : Stop} {old new : Stores} {caller : Caller} {f : History → Made T} → IsErrAnd r (λ s. s ≡ e) → IsRun g view (Err e) old new caller f → IsRun g view r old new caller f
handed_run {g = g} {view = view} {r = r} {old = old} {new = new} {caller = caller} {f = f} is run = let p = err_from_is_err_and r is in subst (λ x. IsRun g view x old new caller f) (sym (p.1 ∙ ap Err p.2)) run

-- ---- single parts

pub nothing_run : {X T : Type 0} (g : Found) (see : X → T) (x : X) (stores : Stores) (caller : Caller) (f : History → Made T) → MayRun g stores caller
    → ((h : History) → Stands stores h → f h ≡ made [] (see x)) → IsRun g see (Ok x) stores stores caller f
nothing_run g see x stores caller f may is = record {
  is = λ h stands run. subst (IsRunTold g see (Ok x) stores caller h) (sym (is h stands)) (refl, still_on stores h caller.session (caller.cmd + 1) stands run.at, run);
  keeps = stays stores caller.session;
  waits = may.may.idle;
}

pub refused_run : {X T : Type 0} (g : Found) (see : X → T) (fault : Fault) (stores : Stores) (caller : Caller) (f : History → Made T) → MayRun g stores caller
    → ((h : History) → Stands stores h → f h ≡ halted [] (Refused fault)) → IsRun g see (Err (stop.Refused fault)) stores stores caller f
refused_run g see fault stores caller f may is = record {
  is = λ h stands run. subst (IsRunTold g see (Err (stop.Refused fault)) stores caller h) (sym (is h stands)) (refl, still_on stores h caller.session (caller.cmd + 1) stands run.at);
  keeps = stays stores caller.session;
  waits = may.may.idle;
}

pub no_memory_run : {X T : Type 0} (g : Found) (see : X → T) (old new : Stores) (caller : Caller) (f : History → Made T) → GoesOn old new caller.session → IsRun g see (Err stop.NoMemory) old new caller f
no_memory_run g see old new caller f keeps = record { is = λ h stands run. tt; keeps = keeps; waits = tt }

-- the same at each history
pub same_run : {X T : Type 0} (g : Found) (see : X → T) (r : Result X Stop) (old new : Stores) (caller : Caller) (f k : History → Made T) → ((h : History) → Stands old h → f h ≡ k h) → IsRun g see r old new caller k → IsRun g see r old new caller f
same_run g see r old new caller f k same run = record {
  is = λ h stands in_run. subst (IsRunTold g see r new caller h) (sym (same h stands)) (run.is h stands in_run);
  keeps = run.keeps;
  waits = run.waits;
}

-- ---- who may go on

pub may_run_on : {X T : Type 0} (g : Found) (see : X → T) (x : X) (old mid : Stores) (caller : Caller) (f : History → Made T) → MayRun g old caller → IsRun g see (Ok x) old mid caller f → MayRun g mid caller
may_run_on g see x old mid caller f may first =
    let s = may.sound in
    let a = first.is s.0 s.1 s.2 in
    let k : History = (f s.0).events ++ s.0 in
    record {
      may = record {
        sound = (k, a.1.stands, a.2.at);
        transaction = subst (λ c. IsSome (slice_index_or c caller.session None)) (sym first.keeps.transactions) may.may.transaction;
        idle = first.waits;
        known = may.may.known;
        few = may.may.few;
        sessions = first.keeps.size.sessions ∙ may.may.sessions;
        seats = ap length first.keeps.transactions ∙ may.may.seats;
        tables = first.keeps.size.tables ∙ may.may.tables;
      };
      next = may.next;
      sound = (k, a.1.stands, a.2);
    }

-- ---- what is told

-- how many rows are changed is told of the statement, with what it has read
pub counted_run : {X U : Type 0} {g : Found} {see : X → U} {n : ℕ} {x : X} {old new : Stores} {caller : Caller} {f : History → Made ℕ} (t : ℕ → U) → t n ≡ see x → IsRun g (λ (m : ℕ). m) (Ok n) old new caller f → IsRun g see (Ok x) old new caller (λ h. giving t (f h))
counted_run t same run = record {
  is = λ h stands in_run. let told = run.is h stands in_run in (ap (told_as t) told.0 ∙ ap Ok same, told.1, told.2);
  keeps = run.keeps;
  waits = run.waits;
}

run_stops : {X U : Type 0} (g : Found) (see : X → U) (t : ℕ → U) (e : Stop) (new : Stores) (caller : Caller) (h : History) (m : Made ℕ) → IsRunTold g (λ (k : ℕ). k) (Err e) new caller h m → IsRunTold g see (Err e) new caller h (giving t m)
run_stops g see t (stop.Waits None) new caller h m told = told
run_stops g see t (stop.Waits (Some rest)) new caller h m told = (ap (told_as t) told.0, told.1, told.2)
run_stops g see t (stop.Refused f) new caller h m told = (ap (told_as t) told.0, told.1)
run_stops g see t stop.NoMemory new caller h m told = tt

pub stopped_run : {X U : Type 0} {g : Found} {see : X → U} {e : Stop} {old new : Stores} {caller : Caller} {f : History → Made ℕ} (t : ℕ → U) → IsRun g (λ (m : ℕ). m) (Err e) old new caller f → IsRun g see (Err e) old new caller (λ h. giving t (f h))
stopped_run {X = X} {g = g} {see = see} {e = e} {new = new} {caller = caller} {f = f} t run = record {
  is = λ h stands in_run. run_stops g see t e new caller h (f h) (run.is h stands in_run);
  keeps = run.keeps;
  waits = paused_same ℕ X e new caller.session run.waits;
}
