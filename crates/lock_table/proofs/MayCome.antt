-- What is added by a session that asks could come.
use Rattle.std.proofs.Common.{◌≡◌, ℕ, ◌<◌, ◌==◌, ◌&&◌, ◌||◌, ◌⊎◌, not, Bool, true, false, List, [], ◌∷◌, ◌++◌, Option, Some, None, is_some, nat_eq, inl, inr, refl, subst, arith}
use Rattle.std.specs.List.{list_any}
use Rattle.std.proofs.lemmas.Bool.{cases_Bool, and_parts}
use Rattle.std.proofs.lemmas.Bool.Decides.{nat_tests}
use Rattle.pg_values.specs.Modes.{conflicting}
use Rattle.pg_values.specs.Sets.{nobody}
use Rattle.pg_values.specs.declared.lock_mode.LockMode.{LockMode}
use Rattle.pg_values.proofs.Bits.{nobody_is, somebody_is}
use Rattle.history.specs.declared.wait.Wanted.{Wanted}
use Rattle.history.specs.declared.wait.Wanted.TheVariants.{Lock, Others}
use Rattle.history.specs.Locks.{LockEvents, LockGot, LocksGivenUp, SnapshotGone, WaitBegan, WaitResumed, WaitWithdrawn, wanted, is_lock, holds, holds_one_of, holds_against, queue}
use Rattle.history.specs.LocksSound.{AreLocksSound}
use Rattle.history.specs.Waits.{before, wants_against, stands_against, is_cause, waits_with, IsFree}
use Rattle.lock_table.specs.Asked.{those, least_cycle, cycle_or_wait, events_of, asked_events}
use Rattle.lock_table.proofs.AnswerCauses.{wanter_low, waiters_with}
use Rattle.lock_table.proofs.Straight.{no_cycle}

or_cases : (a b : Bool) → (a || b) ≡ true → (a ≡ true) ⊎ (b ≡ true)
or_cases true b e = inl refl
or_cases false b e = inr e

same_from_test : (a b : ℕ) → (a == b) ≡ true → a ≡ b
same_from_test a b t = grind (arith, nat_tests)

lock_some : (t : ℕ) (m : LockMode) (w : Option Wanted) → is_lock t m w ≡ true → is_some w ≡ true
lock_some t m None e = absurd (cc)
lock_some t m (Some w) e = refl

-- who holds a lock is a session
holder_low : (h : LockEvents) (x t : ℕ) (m : LockMode) → AreLocksSound h → holds h x t m ≡ true → x < 128
holder_low [] x t m sound e = absurd (cc)
holder_low (LockGot s table mode ∷ h) x t m sound e = elim (or_cases _ (holds h x t m) e) [
  | inr here ↦ holder_low h x t m sound.1 here
  | inl new ↦ subst (λ y. y < 128) (same_from_test s x (and_parts (s == x) _ new).0) sound.0.session
]
holder_low (LocksGivenUp s ∷ h) x t m sound e = holder_low h x t m sound.1 (and_parts (not (s == x)) (holds h x t m) e).1
holder_low (SnapshotGone s ∷ h) x t m sound e = holder_low h x t m sound.1 e
holder_low (WaitBegan s w ∷ h) x t m sound e = holder_low h x t m sound.1 e
holder_low (WaitResumed s ∷ h) x t m sound e = elim (or_cases ((s == x) && is_lock t m (wanted h s)) (holds h x t m) e) [
  | inr here ↦ holder_low h x t m sound.1 here
  | inl new ↦
      let both = and_parts (s == x) (is_lock t m (wanted h s)) new in
      subst (λ y. y < 128) (same_from_test s x both.0) (wanter_low h s sound.1 (lock_some t m (wanted h s) both.1))
]
holder_low (WaitWithdrawn s ∷ h) x t m sound e = holder_low h x t m sound.1 e

one_held_low : (h : LockEvents) (x t : ℕ) (modes : List LockMode) → AreLocksSound h → holds_one_of h x t modes ≡ true → x < 128
one_held_low h x t [] sound e = absurd (cc)
one_held_low h x t (m ∷ ms) sound e = elim (or_cases (holds h x t m) (holds_one_of h x t ms) e) [
  | inl here ↦ holder_low h x t m sound here
  | inr later ↦ one_held_low h x t ms sound later
]

against_some : (h : LockEvents) (x t : ℕ) (m : LockMode) (w : Option Wanted) → wants_against h x t m w ≡ true → is_some w ≡ true
against_some h x t m None e = absurd (cc)
against_some h x t m (Some w) e = refl

-- who stands in the way of a lock is a session
against_low : (h : LockEvents) (x t y : ℕ) (m : LockMode) → AreLocksSound h → stands_against h x t m y ≡ true → y < 128
against_low h x t y m sound e =
    elim (or_cases (holds_against h y t m) (list_any (nat_eq y) (before x (queue h)) && wants_against h x t m (wanted h y)) (and_parts (not (y == x)) _ e).1) [
      | inl held ↦ one_held_low h y t (conflicting m) sound held
      | inr waits ↦ wanter_low h y sound (against_some h x t m (wanted h y) (and_parts (list_any (nat_eq y) (before x (queue h))) _ waits).1)
    ]

free_lock : (h : LockEvents) (s t : ℕ) (m : LockMode) → AreLocksSound h → nobody (is_cause h s (Lock (record { number = t }) m)) ≡ true → IsFree h s (Lock (record { number = t }) m)
free_lock h s t m sound none y = elim (cases_Bool (is_cause h s (Lock (record { number = t }) m) y)) [
  | inr f ↦ f
  | inl cause ↦ nobody_is (is_cause h s (Lock (record { number = t }) m)) y (against_low h s t y m sound (and_parts (not (holds h s t m)) (stands_against h s t m y) cause).1) none
]

got : (h : LockEvents) (s : ℕ) (w : Wanted) → AreLocksSound h → s < 128 → wanted h s ≡ None → nobody (is_cause h s w) ≡ true → AreLocksSound (asked_events h s w ++ h)
got h s (Lock table m) sound low idle none = rw none (record { session = low; idle = idle; free = free_lock h s table.number m sound none }, sound)
got h s (Others what) sound low idle none = rw none sound

waits : (h : LockEvents) (s : ℕ) (w : Wanted) (c : Option (List ℕ)) → AreLocksSound h → s < 128 → wanted h s ≡ None → nobody (is_cause h s w) ≡ false → least_cycle (waits_with h s w) s ≡ c → AreLocksSound (events_of s w (cycle_or_wait c (those (is_cause h s w))) ++ h)
waits h s w (Some cycle) sound low idle some is = closed w
  where
    closed : (v : Wanted) → AreLocksSound (events_of s v (cycle_or_wait (Some cycle) (those (is_cause h s w))) ++ h)
    closed (Lock table m) = sound
    closed (Others what) = sound
waits h s w None sound low idle some is =
    let cause = somebody_is (is_cause h s w) some in
    begun w (record { session = low; idle = idle; cause = (cause.0, cause.2); acyclic = no_cycle (waits_with h s w) s (waiters_with h s w sound low) is }, sound)
  where
    begun : (v : Wanted) → AreLocksSound (WaitBegan s v ∷ h) → AreLocksSound (events_of s v (cycle_or_wait None (those (is_cause h s w))) ++ h)
    begun (Lock table m) is = is
    begun (Others what) is = is

pub may_come : (h : LockEvents) (s : ℕ) (w : Wanted) → AreLocksSound h → s < 128 → wanted h s ≡ None → AreLocksSound (asked_events h s w ++ h)
may_come h s w sound low idle = elim (cases_Bool (nobody (is_cause h s w))) [
  | inl none ↦ got h s w sound low idle none
  | inr some ↦
      let all = waits h s w (least_cycle (waits_with h s w) s) sound low idle some refl in
      rw some all
]
