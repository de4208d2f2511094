-- What is left of waits as others go on.
use Rattle.std.proofs.Common.{◌≡◌, ◌≢◌, ◌≤◌, ℕ, ◌==◌, true, ◌∷◌, Option, Some, None, refl, inl, inr, ap, sym, subst, ◌∙◌, if◌then◌else◌, arith}
use Rattle.std.proofs.lemmas.Grind.{common_steps}
use Rattle.std.proofs.lemmas.Bool.{and_parts, cases_Bool}
use Rattle.std.proofs.lemmas.Bool.Decides.{nat_tests}
use Rattle.pg_values.specs.Sets.{has, without}
use Rattle.pg_values.specs.declared.session_set.SessionSet.{SessionSet}
use Rattle.pg_values.proofs.Bits.{and_has}
use Rattle.std.specs.Int.{bit_at}
use Rattle.std.specs.Prelude.{◌-◌, ◌*◌, ◌^◌, ◌%◌}
use Rattle.history.specs.declared.wait.WaitOn.TheVariants.{Ends, Snapshots}
use Rattle.history.specs.declared.wait.Wanted.{Wanted}
use Rattle.history.specs.declared.wait.Wanted.TheVariants.{Lock, Others}
use Rattle.history.specs.Locks.{LockEvents, LocksGivenUp, SnapshotGone, WaitWithdrawn, wanted, after_end, after_snapshot}
use Rattle.run_ends.specs.Asking.{IsBounded}

-- who waits after the events waited before, for as much at least
abbrev pub Shrinks : (old new : LockEvents) → Type 0
Shrinks old new = (x : ℕ) (w : Wanted) → wanted new x ≡ Some w → (u : Wanted) × (wanted old x ≡ Some u) × ((n : ℕ) → IsBounded n u → IsBounded n w)

pub bounded_below : (a b : ℕ) (w : Wanted) → a ≤ b → IsBounded a w → IsBounded b w
bounded_below a b (Lock t m) le h = omega (arith, le, h)
bounded_below a b (Others what) le h = h

still_named : (s : SessionSet) (k y : ℕ) → has (without s k) y ≡ true → has s y ≡ true
still_named s k y e = (and_parts (has s y) (bit_at (2 ^ 128 - 1 - 1 * 2 ^ k % 2 ^ 128) y == 1) (sym (and_has s.bits (2 ^ 128 - 1 - 1 * 2 ^ k % 2 ^ 128) y) ∙ e)).0

some_same : (a b : Wanted) → Some a ≡ Some b → a ≡ b
some_same a b e = cc

snapshot_left : (s : ℕ) (o : Option Wanted) (w : Wanted) → after_snapshot s o ≡ Some w → (u : Wanted) × (o ≡ Some u) × ((n : ℕ) → IsBounded n u → IsBounded n w)
snapshot_left s None w e = absurd (cc)
snapshot_left s (Some (Lock t m)) w e = (Lock t m, refl, λ n h. subst (IsBounded n) (some_same (Lock t m) w e) h)
snapshot_left s (Some (Others (Ends x))) w e = (Others (Ends x), refl, λ n h. subst (IsBounded n) (some_same (Others (Ends x)) w e) h)
snapshot_left s (Some (Others (Snapshots x))) w e =
    (Others (Snapshots x), refl, λ n h. subst (IsBounded n) (some_same (Others (Snapshots (without x s))) w e) (λ y named. h y (still_named x s y named)))

end_left : (s : ℕ) (o : Option Wanted) (w : Wanted) → after_end s o ≡ Some w → (u : Wanted) × (o ≡ Some u) × ((n : ℕ) → IsBounded n u → IsBounded n w)
end_left s None w e = absurd (cc)
end_left s (Some (Lock t m)) w e = (Lock t m, refl, λ n h. subst (IsBounded n) (some_same (Lock t m) w e) h)
end_left s (Some (Others (Snapshots x))) w e = (Others (Snapshots x), refl, λ n h. subst (IsBounded n) (some_same (Others (Snapshots x)) w e) h)
end_left s (Some (Others (Ends x))) w e =
    (Others (Ends x), refl, λ n h. subst (IsBounded n) (some_same (Others (Ends (without x s))) w e) (λ y named. h y (still_named x s y named)))

-- a wait of another session that is over
pub over_left : (s x : ℕ) (o : Option Wanted) (w : Wanted) → (if s == x then None else o) ≡ Some w → (s ≢ x) × (o ≡ Some w)
over_left s x o w e =
    elim (cases_Bool (s == x)) [
      | inl t ↦ absurd (let c : None ≡ Some w = sym (ap (λ b. if b then None else o) t) ∙ e in cc)
      | inr f ↦ (λ same. absurd (grind (arith, common_steps, nat_tests, f, same)), sym (ap (λ b. if b then None else o) f) ∙ e)
    ]

pub snapshot_shrinks : (s : ℕ) (l : LockEvents) → Shrinks l (SnapshotGone s ∷ l)
snapshot_shrinks s l x w e = snapshot_left s (wanted l x) w e

end_shrinks : (s : ℕ) (l : LockEvents) → Shrinks l (LocksGivenUp s ∷ l)
end_shrinks s l x w e = end_left s (wanted l x) w e

withdrawn_shrinks : (s : ℕ) (l : LockEvents) → Shrinks l (WaitWithdrawn s ∷ l)
withdrawn_shrinks s l x w e = (w, (over_left s x (wanted l x) w e).1, λ n h. h)

pub shrinks_twice : (a b c : LockEvents) → Shrinks a b → Shrinks b c → Shrinks a c
shrinks_twice a b c f g x w e =
    let one = g x w e in
    let two = f x one.0 one.1 in
    (two.0, two.1, λ n h. one.2 n (two.2 n h))

pub given_up_shrinks : (s : ℕ) (l : LockEvents) → Shrinks l (LocksGivenUp s ∷ (SnapshotGone s ∷ (WaitWithdrawn s ∷ l)))
given_up_shrinks s l =
    shrinks_twice l (SnapshotGone s ∷ (WaitWithdrawn s ∷ l)) (LocksGivenUp s ∷ (SnapshotGone s ∷ (WaitWithdrawn s ∷ l)))
    (shrinks_twice l (WaitWithdrawn s ∷ l) (SnapshotGone s ∷ (WaitWithdrawn s ∷ l)) (withdrawn_shrinks s l) (snapshot_shrinks s (WaitWithdrawn s ∷ l)))
    (end_shrinks s (SnapshotGone s ∷ (WaitWithdrawn s ∷ l)))

-- who did not wait does not
pub idle_after : (old new : LockEvents) (s : ℕ) → Shrinks old new → wanted old s ≡ None → wanted new s ≡ None
idle_after old new s f e = by (wanted new s) refl
  where
    by : (o : Option Wanted) → wanted new s ≡ o → wanted new s ≡ None
    by None is = is
    by (Some w) is = absurd (let r = f s w is in let c : None ≡ Some r.0 = sym e ∙ r.1 in cc)
