-- A statement that waits until snapshots have gone, or need not wait.
use Rattle.std.proofs.Common.{◌≡◌, ℕ, ◌≤◌, Bool, true, false, if◌then◌else◌, List, inl, inr, refl, ap, Option, Some, None, Result, Ok, Err, IfOk, map}
use Rattle.std.proofs.lemmas.Bool.{cases_lt}
use Rattle.pg_values.specs.Refusals.{IsAnswer}
use Rattle.pg_values.specs.declared.fault.Refusal.{Refusal}
use Rattle.pg_values.specs.declared.fault.Refusal.TheVariants.{Sql, NoMemory}
use Rattle.pg_values.specs.Sets.{has, nobody}
use Rattle.pg_values.specs.declared.session_set.SessionSet.{SessionSet}
use Rattle.pg_values.proofs.Bits.{nobody_is}
use Rattle.history.specs.declared.wait.Wanted.{Wanted}
use Rattle.history.specs.declared.wait.Wanted.TheVariants.{Others}
use Rattle.history.specs.declared.wait.WaitOn.TheVariants.{Snapshots}
use Rattle.history.specs.History.{History, LockChange, lock_events}
use Rattle.history.specs.Waits.{is_cause, waits_with}
use Rattle.lock_table.specs.Asked.{AskedView, AtOnce, WaitsBehind, ClosesCycle, asked, asked_events, cycle_or_wait, least_cycle, those}
use Rattle.stores.specs.Stand.{Stands}
use Rattle.stores.specs.declared.stores.Stores.{Stores}
use Rattle.statement_steps.specs.Attempts.{MayAttempt}
use Rattle.statement_steps.specs.declared.caller.Caller.{Caller}
use Rattle.statement_steps.specs.declared.stop.Stop.{Stop}
use Rattle.statement_steps.specs.Asks.{told_by, waited}
use Rattle.statement_steps.specs.Faults.{stop_of}
use Rattle.statement_steps.specs.Steps.{IsStep}
use Rattle.statement_steps.proofs.Parts.{no_memory, refused_here, stays}
use Rattle.statement_steps.proofs.Steps.{same_step}
use Rattle.ddl_steps.specs.Scans.{Scan, judged}
use Rattle.ddl_steps.specs.Waited.{scanned, waits_for}

-- ---- nobody is waited for

at_once : (names : List (List ℕ)) (events : History) (v : AskedView) → (told_by names None events v).told ≡ Ok tt → v ≡ AtOnce
at_once names events AtOnce told = refl
at_once names events (WaitsBehind others) told = absurd (let c = told in cc)
at_once names events (ClosesCycle cycle) told = absurd (let c = told in cc)

free_at_once : (b : Bool) (o : Option (List ℕ)) (others : List ℕ) → (if b then AtOnce else cycle_or_wait o others) ≡ AtOnce → b ≡ true
free_at_once true o others e = refl
free_at_once false None others e = absurd (let c = e in cc)
free_at_once false (Some cycle) others e = absurd (let c = e in cc)

pub nobody_watches : (names : List (List ℕ)) (h : History) (s : ℕ) (set : SessionSet) → (waited names s (Snapshots set) None h).told ≡ Ok tt → ((r : ℕ) → 128 ≤ r → has set r ≡ false) → (r : ℕ) → has set r ≡ false
nobody_watches names h s set told low r =
    let w : Wanted = Others (Snapshots set) in
    let k = lock_events h in
    let first = at_once names (map LockChange (asked_events k s w)) (asked k s w) told in
    let none = free_at_once (nobody (is_cause k s w)) (least_cycle (waits_with k s w) s) (those (is_cause k s w)) first in
    elim (cases_lt r 128) [ inl lt ↦ nobody_is (is_cause k s w) r lt none | inr le ↦ low r le ]

-- so where the part is done nobody is waited for
pub none_watch : (names : List (List ℕ)) (r : Result (Unit {0}) Stop) (old new : Stores) (caller : Caller) (set : SessionSet) (judgement : Result SessionSet Refusal) → MayAttempt old caller → judgement ≡ Ok set → ((k : ℕ) → 128 ≤ k → has set k ≡ false)
    → IsStep (λ (u : Unit {0}). u) r old new caller caller.cmd (waited names caller.session (Snapshots set) None) → IfOk r (λ u. (x : SessionSet) × (judgement ≡ Ok x) × ((k : ℕ) → has x k ≡ false))
none_watch names (Ok u) old new caller set judgement may is low step = (set, is, nobody_watches names may.sound.0 caller.session set (step.is may.sound.0 may.sound.1 may.sound.2).0 low)
none_watch names (Err e) old new caller set judgement may is low step = tt

-- ---- what was judged refuses the statement, or says for whom it waits

pub judged_refused : (names : List (List ℕ)) (r : Refusal) (stores : Stores) (caller : Caller) (rows : History → List Scan) → MayAttempt stores caller
    → ((h : History) → Stands stores h → IsAnswer {T = SessionSet} (Err r) (judged h caller.session (rows h))) → IsStep (λ (u : Unit {0}). u) (Err (stop_of r)) stores stores caller caller.cmd (scanned names caller.session rows)
judged_refused names (Sql f) stores caller rows may is = refused_here (λ (u : Unit {0}). u) f stores caller caller.cmd (scanned names caller.session rows) may (λ h stands. ap (λ a. waits_for names caller.session a h) (is h stands))
judged_refused names NoMemory stores caller rows may is = no_memory (λ (u : Unit {0}). u) stores stores caller caller.cmd (scanned names caller.session rows) (stays stores caller.session)

pub judged_waits : (names : List (List ℕ)) (r : Result (Unit {0}) Stop) (old new : Stores) (caller : Caller) (set : SessionSet) (rows : History → List Scan) → ((h : History) → Stands old h → judged h caller.session (rows h) ≡ Ok set)
    → IsStep (λ (u : Unit {0}). u) r old new caller caller.cmd (waited names caller.session (Snapshots set) None) → IsStep (λ (u : Unit {0}). u) r old new caller caller.cmd (scanned names caller.session rows)
judged_waits names r old new caller set rows is step =
    same_step (λ (u : Unit {0}). u) r old new caller caller.cmd (scanned names caller.session rows) (waited names caller.session (Snapshots set) None) (λ h stands. ap (λ a. waits_for names caller.session a h) (is h stands)) step
