-- Who is a cause to wait before the wait begins, and who waits then.
use Rattle.std.proofs.Common.{◌≡◌, ◌≢◌, ℕ, ◌<◌, ◌==◌, true, List, [], ◌∷◌, ◌++◌, Option, Some, None, is_some, inl, inr, refl, sym, ap, ◌∙◌, subst, arith}
use Rattle.std.proofs.lemmas.Grind.{common_steps}
use Rattle.std.proofs.lemmas.Bool.{cases_eq}
use Rattle.std.proofs.lemmas.Bool.Decides.{nat_tests}
use Rattle.pg_values.specs.declared.lock_mode.LockMode.{LockMode}
use Rattle.history.specs.declared.wait.WaitOn.TheVariants.{Ends, Snapshots}
use Rattle.history.specs.declared.wait.Wanted.{Wanted}
use Rattle.history.specs.declared.wait.Wanted.TheVariants.{Lock, Others}
use Rattle.history.specs.Locks.{LockEvents, LockGot, LocksGivenUp, SnapshotGone, WaitBegan, WaitResumed, WaitWithdrawn, wanted, after_end, after_snapshot, queue}
use Rattle.history.specs.Waits.{before, wants_against, stands_against, is_cause, is_cause_of, waits_with}
use Rattle.history.specs.LocksSound.{AreLocksSound}
use Rattle.lock_table.proofs.Cycles.{AreWaiters}

end-some : (s : ℕ) (w : Option Wanted) → is_some (after_end s w) ≡ is_some w
end-some s None = refl
end-some s (Some (Lock table m)) = refl
end-some s (Some (Others (Ends of))) = refl
end-some s (Some (Others (Snapshots of))) = refl

snapshot-some : (s : ℕ) (w : Option Wanted) → is_some (after_snapshot s w) ≡ is_some w
snapshot-some s None = refl
snapshot-some s (Some (Lock table m)) = refl
snapshot-some s (Some (Others (Ends of))) = refl
snapshot-some s (Some (Others (Snapshots of))) = refl

-- who waits is a session
pub wanter_low : (h : LockEvents) (x : ℕ) → AreLocksSound h → is_some (wanted h x) ≡ true → x < 128
wanter_low [] x sound t = absurd (cc)
wanter_low (LockGot s table m ∷ h) x sound t = wanter_low h x sound.1 t
wanter_low (LocksGivenUp s ∷ h) x sound t = wanter_low h x sound.1 (sym (end-some s (wanted h x)) ∙ t)
wanter_low (SnapshotGone s ∷ h) x sound t = wanter_low h x sound.1 (sym (snapshot-some s (wanted h x)) ∙ t)
wanter_low (WaitBegan s w ∷ h) x sound t = elim (cases_eq s x) [
  | inl same ↦ subst (λ y. y < 128) same sound.0.session
  | inr apart ↦ wanter_low h x sound.1 (grind (arith, common_steps, nat_tests, t))
]
wanter_low (WaitResumed s ∷ h) x sound t = wanter_low h x sound.1 (grind (arith, common_steps, nat_tests, t))
wanter_low (WaitWithdrawn s ∷ h) x sound t = wanter_low h x sound.1 (grind (arith, common_steps, nat_tests, t))

wants_some : (h : LockEvents) (x y : ℕ) (w : Option Wanted) → is_cause_of h x w y ≡ true → is_some w ≡ true
wants_some h x y None t = absurd (cc)
wants_some h x y (Some w) t = refl

other_wants : (s x : ℕ) (w : Wanted) (h : LockEvents) → s ≢ x → wanted (WaitBegan s w ∷ h) x ≡ wanted h x
other_wants s x w h apart = grind (arith, common_steps, nat_tests)

own_wants : (s : ℕ) (w : Wanted) (h : LockEvents) → wanted (WaitBegan s w ∷ h) s ≡ Some w
own_wants s w h = grind (arith, common_steps, nat_tests)

-- once s waits, too, only sessions wait
pub waiters_with : (h : LockEvents) (s : ℕ) (w : Wanted) → AreLocksSound h → s < 128 → AreWaiters (waits_with h s w)
waiters_with h s w sound low x y t = elim (cases_eq s x) [
  | inl same ↦ subst (λ k. k < 128) same low
  | inr apart ↦ wanter_low h x sound (ap is_some (sym (other_wants s x w h apart)) ∙ wants_some (WaitBegan s w ∷ h) x y (wanted (WaitBegan s w ∷ h) x) t)
]

-- those who stand before a session that comes last are the same
before_self : (q : List ℕ) (s : ℕ) → before s (q ++ s ∷ []) ≡ before s q
before_self [] s = grind (arith, common_steps, nat_tests)
before_self (y ∷ ys) s = rw (before_self ys s) refl

wants_with : (h : LockEvents) (s t : ℕ) (m : LockMode) (w : Wanted) (o : Option Wanted) → wants_against (WaitBegan s w ∷ h) s t m o ≡ wants_against h s t m o
wants_with h s t m w None = refl
wants_with h s t m w (Some (Lock table mode)) = refl
wants_with h s t m w (Some (Others what)) = refl

stands_with : (h : LockEvents) (s t y : ℕ) (m : LockMode) (w : Wanted) → stands_against (WaitBegan s w ∷ h) s t m y ≡ stands_against h s t m y
stands_with h s t y m w = elim (cases_eq y s) [
  | inl same ↦ let self : (y == s) ≡ true = grind (arith, nat_tests) in rw self refl
  | inr apart ↦ rw (before_self (queue h) s, other_wants s y w h (λ e. apart (sym e)), wants_with h s t m w (wanted h y)) refl
]

cause_with : (h : LockEvents) (s y : ℕ) (v w : Wanted) → is_cause (WaitBegan s v ∷ h) s w y ≡ is_cause h s w y
cause_with h s y v (Lock table mode) = rw (stands_with h s table.number y mode v) refl
cause_with h s y v (Others (Ends of)) = refl
cause_with h s y v (Others (Snapshots of)) = refl

-- for whom a session waits then is a cause
pub cause_of : (h : LockEvents) (s y : ℕ) (w : Wanted) → waits_with h s w s y ≡ true → is_cause h s w y ≡ true
cause_of h s y w t = sym (cause_with h s y w w) ∙ sym (ap (λ o. is_cause_of (WaitBegan s w ∷ h) s o y) (own_wants s w h)) ∙ t
