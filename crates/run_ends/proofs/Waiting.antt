-- What sessions wait for, whatever happens to transactions and locks.
use Rattle.std.proofs.Common.{◌≡◌, ◌≢◌, ℕ, ◌<◌, ◌==◌, ◌&&◌, ◌||◌, not, Bool, true, false, if◌then◌else◌, List, [], ◌∷◌, ◌++◌, refl, ap, sym, ◌∙◌, subst, arith, inl, inr, Option, Some, None, is_some, nat_eq, find}
use Rattle.std.specs.List.{list_any}
use Rattle.std.proofs.lemmas.Grind.{common_steps}
use Rattle.std.proofs.lemmas.Bool.{cases_eq, cases_Bool}
use Rattle.std.proofs.lemmas.Bool.Decides.{nat_tests}
use Rattle.std.proofs.lemmas.List.Folds.{list_any-append}
use Rattle.pg_values.specs.Sets.{nobody}
use Rattle.pg_values.specs.declared.ids.TableNo.{TableNo}
use Rattle.pg_values.specs.declared.lock_mode.LockMode.{LockMode}
use Rattle.pg_values.proofs.Bits.{nobody_is}
use Rattle.history.specs.declared.wait.WaitOn.{WaitOn}
use Rattle.history.specs.declared.wait.WaitOn.TheVariants.{Ends, Snapshots}
use Rattle.history.specs.declared.wait.Wanted.{Wanted}
use Rattle.history.specs.declared.wait.Wanted.TheVariants.{Lock, Others}
use Rattle.history.specs.Locks.{LockEvents, LockGot, LocksGivenUp, SnapshotGone, WaitBegan, WaitResumed, WaitWithdrawn, wanted, holds, queue, removed, after_end, after_snapshot}
use Rattle.history.specs.LocksSound.{AreLocksSound}
use Rattle.history.specs.Waits.{is_cause, is_cause_of, waits_for, ready}
use Rattle.lock_table.specs.Stands.{names}
use Rattle.schedule.specs.Lists.{head_of}

end_some : (s : ℕ) (w : Option Wanted) → is_some (after_end s w) ≡ is_some w
end_some s None = refl
end_some s (Some (Lock t m)) = refl
end_some s (Some (Others (Ends x))) = refl
end_some s (Some (Others (Snapshots x))) = refl

snapshot_some : (s : ℕ) (w : Option Wanted) → is_some (after_snapshot s w) ≡ is_some w
snapshot_some s None = refl
snapshot_some s (Some (Lock t m)) = refl
snapshot_some s (Some (Others (Ends x))) = refl
snapshot_some s (Some (Others (Snapshots x))) = refl

-- ---- a session does not hold what it waits for

not_held : (b c : Bool) → (not b && c) ≡ true → b ≡ false
not_held true c e = absurd (cc)
not_held false c e = refl

end_lock : (r : ℕ) (w : Option Wanted) (t : TableNo) (m : LockMode) → after_end r w ≡ Some (Lock t m) → w ≡ Some (Lock t m)
end_lock r None t m e = absurd (cc)
end_lock r (Some (Lock k n)) t m e = e
end_lock r (Some (Others (Ends x))) t m e = absurd (cc)
end_lock r (Some (Others (Snapshots x))) t m e = absurd (cc)

snapshot_lock : (r : ℕ) (w : Option Wanted) (t : TableNo) (m : LockMode) → after_snapshot r w ≡ Some (Lock t m) → w ≡ Some (Lock t m)
snapshot_lock r None t m e = absurd (cc)
snapshot_lock r (Some (Lock k n)) t m e = e
snapshot_lock r (Some (Others (Ends x))) t m e = absurd (cc)
snapshot_lock r (Some (Others (Snapshots x))) t m e = absurd (cc)

over_none : (r s : ℕ) (w : Option Wanted) (t : TableNo) (m : LockMode) → r ≡ s → (if r == s then None else w) ≡ Some (Lock t m) → ⊥
over_none r s w t m same e = absurd (grind (arith, common_steps, nat_tests, same, e))

over_other : (r s : ℕ) (w : Option Wanted) (t : TableNo) (m : LockMode) → r ≢ s → (if r == s then None else w) ≡ Some (Lock t m) → w ≡ Some (Lock t m)
over_other r s w t m other e = grind (arith, common_steps, nat_tests, other, e)

-- who begins to wait has a cause, and lacks the lock
cause_lacks : (h : LockEvents) (s y : ℕ) (t : TableNo) (m : LockMode) → is_cause h s (Lock t m) y ≡ true → holds h s t.number m ≡ false
cause_lacks h s y t m e = not_held (holds h s t.number m) _ e

began_same : (r s : ℕ) (w : Wanted) (old : Option Wanted) (t : TableNo) (m : LockMode) → r ≡ s → (if r == s then Some w else old) ≡ Some (Lock t m) → w ≡ Lock t m
began_same r s w old t m same e = let is : (if r == s then Some w else old) ≡ Some w = grind (arith, common_steps, nat_tests, same) in let c = sym is ∙ e in cc

own_wait : (h : LockEvents) (r s : ℕ) (w : Wanted) (t : TableNo) (m : LockMode) → r ≡ s → (y : ℕ) × (is_cause h r w y ≡ true) → (if r == s then Some w else wanted h s) ≡ Some (Lock t m) → holds h s t.number m ≡ false
own_wait h r s w t m same cause e =
    let is = began_same r s w (wanted h s) t m same e in
    let c : is_cause h r (Lock t m) cause.0 ≡ true = subst (λ v. is_cause h r v cause.0 ≡ true) is cause.1 in
    subst (λ x. holds h x t.number m ≡ false) same (cause_lacks h r cause.0 t m c)

pub lacks_wanted : (h : LockEvents) (s : ℕ) (t : TableNo) (m : LockMode) → AreLocksSound h → wanted h s ≡ Some (Lock t m) → holds h s t.number m ≡ false
lacks_wanted [] s t m sound e = absurd (cc)
lacks_wanted (LockGot r k n ∷ h) s t m sound e =
    let before = lacks_wanted h s t m sound.1 e in
    elim (cases_eq r s) [
      | inl same ↦ absurd (let idle = sound.0.idle in let w = subst (λ x. wanted h x ≡ None) same idle in let c = sym w ∙ e in cc)
      | inr other ↦ grind (arith, common_steps, nat_tests, before, other)
    ]
lacks_wanted (LocksGivenUp r ∷ h) s t m sound e = grind (arith, common_steps, nat_tests, lacks_wanted h s t m sound.1 (end_lock r (wanted h s) t m e))
lacks_wanted (SnapshotGone r ∷ h) s t m sound e = lacks_wanted h s t m sound.1 (snapshot_lock r (wanted h s) t m e)
lacks_wanted (WaitBegan r w ∷ h) s t m sound e =
    elim (cases_eq r s) [
      | inl same ↦ own_wait h r s w t m same sound.0.cause e
      | inr other ↦ lacks_wanted h s t m sound.1 (grind (arith, common_steps, nat_tests, other, e))
    ]
lacks_wanted (WaitResumed r ∷ h) s t m sound e =
    elim (cases_eq r s) [
      | inl same ↦ absurd (over_none r s (wanted h s) t m same e)
      | inr other ↦ grind (arith, common_steps, nat_tests, other, lacks_wanted h s t m sound.1 (over_other r s (wanted h s) t m other e))
    ]
lacks_wanted (WaitWithdrawn r ∷ h) s t m sound e =
    elim (cases_eq r s) [
      | inl same ↦ absurd (over_none r s (wanted h s) t m same e)
      | inr other ↦ lacks_wanted h s t m sound.1 (over_other r s (wanted h s) t m other e)
    ]

-- ---- who is queued waits

queued_began : (q : List ℕ) (s r : ℕ) → r ≢ s → list_any (nat_eq s) (q ++ r ∷ []) ≡ true → list_any (nat_eq s) q ≡ true
queued_began q s r other e = grind (arith, common_steps, nat_tests, list_any-append (nat_eq s) q (r ∷ []), other, e)

queued_apart : (r s : ℕ) (q : List ℕ) → list_any (nat_eq s) (removed r q) ≡ true → r ≢ s
queued_apart r s [] e = absurd (cc)
queued_apart r s (x ∷ q) e = λ same. elim (cases_Bool (r == x)) [
  | inl t ↦ queued_apart r s q (subst (λ b. list_any (nat_eq s) (if not b then x ∷ removed r q else removed r q) ≡ true) t e) same
  | inr f ↦
      elim (cases_Bool (nat_eq s x)) [
        | inl t ↦ absurd (grind (arith, common_steps, nat_tests, f, t, same))
        | inr g ↦ queued_apart r s q (let c : list_any (nat_eq s) (x ∷ removed r q) ≡ true = subst (λ b. list_any (nat_eq s) (if not b then x ∷ removed r q else removed r q) ≡ true) f e in subst (λ b. (b || list_any (nat_eq s) (removed r q)) ≡ true) g c) same
      ]
]

queued_before : (r s : ℕ) (q : List ℕ) → list_any (nat_eq s) (removed r q) ≡ true → list_any (nat_eq s) q ≡ true
queued_before r s [] e = e
queued_before r s (x ∷ q) e =
    elim (cases_Bool (nat_eq s x)) [
      | inl t ↦ rw t refl
      | inr g ↦ rw g (queued_before r s q (elim (cases_Bool (r == x)) [
        | inl t ↦ subst (λ b. list_any (nat_eq s) (if not b then x ∷ removed r q else removed r q) ≡ true) t e
        | inr f ↦ let c : list_any (nat_eq s) (x ∷ removed r q) ≡ true = subst (λ b. list_any (nat_eq s) (if not b then x ∷ removed r q else removed r q) ≡ true) f e in subst (λ b. (b || list_any (nat_eq s) (removed r q)) ≡ true) g c
      ]))
    ]

over_kept : (r s : ℕ) (w : Option Wanted) → r ≢ s → is_some w ≡ true → is_some (if r == s then None else w) ≡ true
over_kept r s w other e = grind (arith, common_steps, nat_tests, other, e)

queued_waits : (h : LockEvents) (s : ℕ) → list_any (nat_eq s) (queue h) ≡ true → is_some (wanted h s) ≡ true
queued_waits [] s e = absurd (cc)
queued_waits (LockGot r t m ∷ h) s e = queued_waits h s e
queued_waits (LocksGivenUp r ∷ h) s e = end_some r (wanted h s) ∙ queued_waits h s e
queued_waits (SnapshotGone r ∷ h) s e = snapshot_some r (wanted h s) ∙ queued_waits h s e
queued_waits (WaitBegan r w ∷ h) s e =
    elim (cases_eq r s) [
      | inl same ↦ grind (arith, common_steps, nat_tests, same)
      | inr other ↦ grind (arith, common_steps, nat_tests, other, queued_waits h s (queued_began (queue h) s r other e))
    ]
queued_waits (WaitResumed r ∷ h) s e = over_kept r s (wanted h s) (queued_apart r s (queue h) e) (queued_waits h s (queued_before r s (queue h) e))
queued_waits (WaitWithdrawn r ∷ h) s e = over_kept r s (wanted h s) (queued_apart r s (queue h) e) (queued_waits h s (queued_before r s (queue h) e))

found_here : (p : ℕ → Bool) (x : ℕ) (q : List ℕ) → p x ≡ true → find p (x ∷ q) ≡ Some x
found_here p x q t = rw t refl

found_later : (p : ℕ → Bool) (x : ℕ) (q : List ℕ) → p x ≡ false → find p (x ∷ q) ≡ find p q
found_later p x q f = rw f refl

head_queued : (q : List ℕ) (s : ℕ) → head_of q ≡ Some s → list_any (nat_eq s) q ≡ true
head_queued [] s e = absurd (cc)
head_queued (x ∷ q) s e = let same : x ≡ s = cc in grind (arith, common_steps, nat_tests, same)

found_queued : (p : ℕ → Bool) (q : List ℕ) (s : ℕ) → find p q ≡ Some s → list_any (nat_eq s) q ≡ true
found_queued p [] s e = absurd (cc)
found_queued p (x ∷ q) s e =
    elim (cases_Bool (p x)) [
      | inl t ↦ let is : Some x ≡ Some s = sym (found_here p x q t) ∙ e in let same : x ≡ s = cc in grind (arith, common_steps, nat_tests, same)
      | inr f ↦ grind (arith, common_steps, nat_tests, found_queued p q s (sym (found_later p x q f) ∙ e))
    ]

found_passes : (p : ℕ → Bool) (q : List ℕ) (s : ℕ) → find p q ≡ Some s → p s ≡ true
found_passes p [] s e = absurd (cc)
found_passes p (x ∷ q) s e =
    elim (cases_Bool (p x)) [
      | inl t ↦ let is : Some x ≡ Some s = sym (found_here p x q t) ∙ e in let same : x ≡ s = cc in subst (λ y. p y ≡ true) same t
      | inr f ↦ found_passes p q s (sym (found_later p x q f) ∙ e)
    ]

-- who is ready waits for nobody
ready_gone : (h : LockEvents) (s y : ℕ) → ready h ≡ Some s → y < 128 → waits_for h s y ≡ false
ready_gone h s y e lt = nobody_is (waits_for h s) y lt (found_passes (λ x. nobody (waits_for h x)) (queue h) s e)

-- nor is anybody named for whom it waits
named_cause : (h : LockEvents) (s y : ℕ) (v : WaitOn) → is_cause h s (Others v) y ≡ names v y
named_cause h s y (Ends of) = refl
named_cause h s y (Snapshots of) = refl

pub ready_names : (h : LockEvents) (s y : ℕ) (v : WaitOn) → ready h ≡ Some s → wanted h s ≡ Some (Others v) → y < 128 → names v y ≡ false
ready_names h s y v e is lt = sym (named_cause h s y v) ∙ (ap (λ w. is_cause_of h s w y) (sym is) ∙ ready_gone h s y e lt)

pub ready_waits : (h : LockEvents) (s : ℕ) → ready h ≡ Some s → is_some (wanted h s) ≡ true
ready_waits h s e = queued_waits h s (found_queued (λ x. nobody (waits_for h x)) (queue h) s e)

pub first_waits : (h : LockEvents) (s : ℕ) → head_of (queue h) ≡ Some s → is_some (wanted h s) ≡ true
first_waits h s e = queued_waits h s (head_queued (queue h) s e)

or_true : (b : Bool) → (b || true) ≡ true
or_true true = refl
or_true false = refl

-- whose wait is over holds what it waited for, and the others what they held
pub got_it : (h : LockEvents) (s : ℕ) (t : TableNo) (m : LockMode) → wanted h s ≡ Some (Lock t m) → holds (WaitResumed s ∷ h) s t.number m ≡ true
got_it h s t m e = rw e (grind (arith, common_steps, nat_tests))

pub still_holds : (h : LockEvents) (s r t : ℕ) (m : LockMode) → holds h r t m ≡ true → holds (WaitResumed s ∷ h) r t m ≡ true
still_holds h s r t m e = rw e (or_true _)
