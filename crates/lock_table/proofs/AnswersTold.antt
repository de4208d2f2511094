-- What a lock table answers is what the history tells.
use Rattle.std.proofs.Common.{◌≡◌, ℕ, ◌<◌, Bool, true, false, List, [], ◌∷◌, ◌++◌, map, inl, inr, refl, sym, ap, ◌∙◌, subst}
use Rattle.std.proofs.lemmas.Bool.{cases_Bool}
use Rattle.pg_values.specs.Lists.{listed}
use Rattle.pg_values.specs.Sets.{nobody}
use Rattle.pg_values.proofs.Bits.{nobody_is, nobody_none}
use Rattle.history.specs.declared.wait.Wanted.{Wanted}
use Rattle.history.specs.declared.wait.Wanted.TheVariants.{Lock, Others}
use Rattle.history.specs.Locks.{LockEvents}
use Rattle.history.specs.LocksSound.{AreLocksSound}
use Rattle.history.specs.Waits.{is_cause, waits_with, IsChain, IsCycle}
use Rattle.history.specs.History.{History, LockChange, lock_events}
use Rattle.lock_table.specs.Answers.{IsAnswer, after}
use Rattle.lock_table.specs.declared.asked.Asked.{Asked}
use Rattle.lock_table.specs.declared.asked.Asked.TheVariants.{Granted, Waits, Deadlock}
use Rattle.lock_table.specs.Asked.{asked_view, asked, events_of, asked_events, asked_history}
use Rattle.lock_table.specs.AnswerLaws.{NamesSessions}
use Rattle.lock_table.proofs.Sessions.{sessions_are}
use Rattle.lock_table.proofs.Cycles.{AreWaiters, least_is, least_none}
use Rattle.lock_table.proofs.AnswerCauses.{waiters_with, cause_of}

somebody : (p : ℕ → Bool) (y : ℕ) → y < 128 → p y ≡ true → nobody p ≡ false
somebody p y lt t = elim (cases_Bool (nobody p)) [
  | inl none ↦ absurd (let f = nobody_is p y lt none in cc)
  | inr some ↦ some
]

-- who begins a cycle waits for a session
next_low : (waits : ℕ → ℕ → Bool) (s : ℕ) (ys : List ℕ) → AreWaiters waits → s < 128 → IsChain waits s s ys → (y : ℕ) × (y < 128) × (waits s y ≡ true)
next_low waits s [] low small c = (s, small, c)
next_low waits s (y ∷ ys) low small c = (y, from ys c.1, c.0)
  where
    from : (zs : List ℕ) → IsChain waits s y zs → y < 128
    from [] d = low y s d
    from (z ∷ zs) d = low y z d.0

cycle_next : (waits : ℕ → ℕ → Bool) (s : ℕ) (cycle : List ℕ) → AreWaiters waits → s < 128 → IsCycle waits s cycle → (y : ℕ) × (y < 128) × (waits s y ≡ true)
cycle_next waits s [] low small c = absurd c
cycle_next waits s (x ∷ ys) low small c = next_low waits s ys low small (subst (λ k. IsChain waits s k ys) c.0 c.1)

pub answer_told : (answer : Asked) (h : LockEvents) (s : ℕ) (w : Wanted) → NamesSessions answer → AreLocksSound h → s < 128 → IsAnswer h s w answer → asked_view answer ≡ asked h s w
answer_told Granted h s w known sound low is = rw (nobody_none (is_cause h s w) is) refl
answer_told (Waits behind) h s w known sound low is =
    let y = is.some.0 in
    let small = known y (is.all y ∙ is.some.1) in
    rw (somebody (is_cause h s w) y small is.some.1, least_none (waits_with h s w) s is.acyclic, sym (sessions_are behind (is_cause h s w) is.all)) refl
answer_told (Deadlock cycle) h s w known sound low is =
    let waiters = waiters_with h s w sound low in
    let next = cycle_next (waits_with h s w) s (listed cycle) waiters low is.is in
    rw (somebody (is_cause h s w) next.0 next.1 (cause_of h s next.0 w next.2), least_is (waits_with h s w) s (listed cycle) waiters is) refl

after_is : (answer : Asked) (h : History) (s : ℕ) (w : Wanted) → after s w answer h ≡ map LockChange (events_of s w (asked_view answer)) ++ h
after_is Granted h s (Lock table mode) = refl
after_is Granted h s (Others what) = refl
after_is (Waits behind) h s (Lock table mode) = refl
after_is (Waits behind) h s (Others what) = refl
after_is (Deadlock cycle) h s (Lock table mode) = refl
after_is (Deadlock cycle) h s (Others what) = refl

lock_events_of : (es : LockEvents) (h : History) → lock_events (map LockChange es ++ h) ≡ es ++ lock_events h
lock_events_of [] h = refl
lock_events_of (e ∷ es) h = ap (λ l. e ∷ l) (lock_events_of es h)

pub history_told : (answer : Asked) (h : History) (s : ℕ) (w : Wanted) → NamesSessions answer → AreLocksSound (lock_events h) → s < 128 → IsAnswer (lock_events h) s w answer → after s w answer h ≡ asked_history h s w
history_told answer h s w known sound low is =
    after_is answer h s w ∙ ap (λ v. map LockChange (events_of s w v) ++ h) (answer_told answer (lock_events h) s w known sound low is)

pub events_told : (answer : Asked) (h : History) (s : ℕ) (w : Wanted) → NamesSessions answer → AreLocksSound (lock_events h) → s < 128 → IsAnswer (lock_events h) s w answer
    → lock_events (after s w answer h) ≡ asked_events (lock_events h) s w ++ lock_events h
events_told answer h s w known sound low is =
    ap lock_events (history_told answer h s w known sound low is) ∙ lock_events_of (asked_events (lock_events h) s w) h
