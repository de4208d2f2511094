-- Two sessions hold no conflicting modes.
use Rattle.std.proofs.Common.{◌≡◌, ◌≢◌, ℕ, ◌<◌, ◌==◌, ◌&&◌, ◌||◌, not, Bool, true, false, List, [], ◌∷◌, Option, Some, None, find, is_some, inl, inr, refl, sym, ap, ◌∙◌, subst, arith}
use Rattle.std.specs.List.{list_any}
use Rattle.std.proofs.lemmas.Grind.{common_steps}
use Rattle.std.proofs.lemmas.Bool.{cases_Bool, cases_eq, and_parts}
use Rattle.std.proofs.lemmas.Bool.Decides.{nat_tests}
use Rattle.pg_values.specs.Modes.{same_mode, conflicting, conflicts}
use Rattle.pg_values.specs.declared.lock_mode.LockMode.{LockMode}
use Rattle.pg_values.specs.Sets.{nobody}
use Rattle.pg_values.proofs.Modes.{both_ways, rank_tells}
use Rattle.pg_values.proofs.Bits.{nobody_is}
use Rattle.history.specs.declared.wait.WaitOn.TheVariants.{Ends, Snapshots}
use Rattle.history.specs.declared.wait.Wanted.{Wanted}
use Rattle.history.specs.declared.wait.Wanted.TheVariants.{Lock, Others}
use Rattle.history.specs.Locks.{LockEvents, LockGot, LocksGivenUp, SnapshotGone, WaitBegan, WaitResumed, WaitWithdrawn, wanted, queue, after_end, after_snapshot, is_lock, holds, holds_one_of, holds_against}
use Rattle.history.specs.Waits.{is_cause, is_cause_of, waits_for, ready}
use Rattle.history.specs.LocksSound.{AreLocksSound}

-- what is found passes the test
found_passes : (p : ℕ → Bool) (q : List ℕ) (x : ℕ) → find p q ≡ Some x → p x ≡ true
found_passes p [] x e = absurd (cc)
found_passes p (y ∷ ys) x e = elim (cases_Bool (p y)) [
  | inl t ↦ let e' : Some y ≡ Some x = rw t at e in let same : y ≡ x = cc in subst (λ z. p z ≡ true) same t
  | inr f ↦ let e' = rw f at e in found_passes p ys x e'
]

pub ready_nobody : (h : LockEvents) (x : ℕ) → ready h ≡ Some x → nobody (waits_for h x) ≡ true
ready_nobody h x e = found_passes (λ z. nobody (waits_for h z)) (queue h) x e

end-some : (s : ℕ) (w : Option Wanted) → is_some (after_end s w) ≡ is_some w
end-some s None = refl
end-some s (Some (Lock table m)) = refl
end-some s (Some (Others (Ends of))) = refl
end-some s (Some (Others (Snapshots of))) = refl

snapshot-some : (s : ℕ) (w : Option Wanted) → is_some (after_snapshot s w) ≡ is_some w
snapshot-some s None = refl
snapshot-some s (Some (Lock table m)) = refl
snapshot-some s (Some (Others (Ends of))) = refl
snapshot-some s (Some (Others (Snapshots of))) = refl

-- who waits is a session
waiter_low : (h : LockEvents) (x : ℕ) → AreLocksSound h → is_some (wanted h x) ≡ true → x < 128
waiter_low [] x sound t = absurd (cc)
waiter_low (LockGot s table m ∷ h) x sound t = waiter_low h x sound.1 t
waiter_low (LocksGivenUp s ∷ h) x sound t = waiter_low h x sound.1 (sym (end-some s (wanted h x)) ∙ t)
waiter_low (SnapshotGone s ∷ h) x sound t = waiter_low h x sound.1 (sym (snapshot-some s (wanted h x)) ∙ t)
waiter_low (WaitBegan s w ∷ h) x sound t = elim (cases_eq s x) [
  | inl same ↦ subst (λ y. y < 128) same sound.0.session
  | inr apart ↦ waiter_low h x sound.1 (grind (arith, common_steps, nat_tests, t))
]
waiter_low (WaitResumed s ∷ h) x sound t = waiter_low h x sound.1 (grind (arith, common_steps, nat_tests, t))
waiter_low (WaitWithdrawn s ∷ h) x sound t = waiter_low h x sound.1 (grind (arith, common_steps, nat_tests, t))

lock-some : (t : ℕ) (m : LockMode) (w : Option Wanted) → is_lock t m w ≡ true → is_some w ≡ true
lock-some t m None e = absurd (cc)
lock-some t m (Some w) e = refl

one_of : (a b : Bool) → (a || b) ≡ true → b ≡ false → a ≡ true
one_of true b e f = refl
one_of false b e f = absurd (cc)

same_from_test : (a b : ℕ) → (a == b) ≡ true → a ≡ b
same_from_test a b t = grind (arith, nat_tests)

-- and so is who holds a lock
holder_low : (h : LockEvents) (x t : ℕ) (m : LockMode) → AreLocksSound h → holds h x t m ≡ true → x < 128
holder_low [] x t m sound e = absurd (cc)
holder_low (LockGot s table mode ∷ h) x t m sound e = elim (cases_Bool (holds h x t m)) [
  | inl here ↦ holder_low h x t m sound.1 here
  | inr f ↦ let new = and_parts (s == x) _ (one_of _ (holds h x t m) e f) in subst (λ y. y < 128) (same_from_test s x new.0) sound.0.session
]
holder_low (LocksGivenUp s ∷ h) x t m sound e = holder_low h x t m sound.1 (and_parts (not (s == x)) (holds h x t m) e).1
holder_low (SnapshotGone s ∷ h) x t m sound e = holder_low h x t m sound.1 e
holder_low (WaitBegan s w ∷ h) x t m sound e = holder_low h x t m sound.1 e
holder_low (WaitResumed s ∷ h) x t m sound e = elim (cases_Bool (holds h x t m)) [
  | inl here ↦ holder_low h x t m sound.1 here
  | inr f ↦
      let new = and_parts (s == x) (is_lock t m (wanted h s)) (one_of _ (holds h x t m) e f) in
      subst (λ y. y < 128) (same_from_test s x new.0) (waiter_low h s sound.1 (lock-some t m (wanted h s) new.1))
]
holder_low (WaitWithdrawn s ∷ h) x t m sound e = holder_low h x t m sound.1 e

-- a mode that is held is none of those of which none is
none_held : (h : LockEvents) (y t : ℕ) (b : LockMode) (modes : List LockMode) → holds_one_of h y t modes ≡ false → holds h y t b ≡ true → list_any (λ m. same_mode m b) modes ≡ false
none_held h y t b [] none held = refl
none_held h y t b (m ∷ modes) none held =
    elim (cases_Bool (holds h y t m)) [
      | inl here ↦ absurd (let f = none in let e : (holds h y t m || holds_one_of h y t modes) ≡ true = rw here refl in cc)
      | inr f ↦
          let rest : holds_one_of h y t modes ≡ false = sym (rw f refl) ∙ none in
          elim (cases_Bool (same_mode m b)) [
            | inl same ↦ absurd (let e : holds h y t m ≡ holds h y t b = ap (holds h y t) (rank_tells m b same) in cc)
            | inr apart ↦ rw apart (none_held h y t b modes rest held)
          ]
    ]

-- who could get a mode stands against nobody that holds another
free_from : (h : LockEvents) (s y t : ℕ) (m b : LockMode) → s ≢ y → holds h s t m ≡ false → is_cause h s (Lock (record { number = t }) m) y ≡ false → holds h y t b ≡ true → conflicts m b ≡ false
free_from h s y t m b apart new free held =
    elim (cases_Bool (holds_against h y t m)) [
      | inr f ↦ none_held h y t b (conflicting m) f held
      | inl against ↦ absurd (let other : (y == s) ≡ false = grind (arith, common_steps, nat_tests) in let c = rw (new, other, against) at free in cc)
    ]

abbrev pub NoneConflict : LockEvents → Type 0
NoneConflict h = (x y t : ℕ) (a b : LockMode) → x ≢ y → holds h x t a ≡ true → holds h y t b ≡ true → conflicts a b ≡ false

-- s got a mode that it could get, or had it
grown : (h : LockEvents) (s table : ℕ) (m : LockMode) → NoneConflict h → ((y : ℕ) (b : LockMode) → s ≢ y → holds h y table b ≡ true → is_cause h s (Lock (record { number = table }) m) y ≡ false)
    → (x y t : ℕ) (a b : LockMode) → x ≢ y → (((s == x) && ((table == t) && same_mode m a)) || holds h x t a) ≡ true → holds h y t b ≡ true → conflicts a b ≡ false
grown h s table m before free x y t a b apart ex ey =
    elim (cases_Bool (holds h x t a)) [
      | inl old ↦ before x y t a b apart old ey
      | inr f ↦
          let new = and_parts (s == x) ((table == t) && same_mode m a) (one_of _ (holds h x t a) ex f) in
          let both = and_parts (table == t) (same_mode m a) new.1 in
          let sx = same_from_test s x new.0 in
          let tt' = same_from_test table t both.0 in
          let ma = rank_tells m a both.1 in
          let unheld : holds h s table m ≡ false = rw (sx, tt', ma) f in
          let apart' : s ≢ y = λ e. apart (sym sx ∙ e) in
          let ey' : holds h y table b ≡ true = rw tt' ey in
          ap (λ q. conflicts q b) (sym ma) ∙ free_from h s y table m b apart' unheld (free y b apart' ey') ey'
    ]

both_grown : (h : LockEvents) (s table : ℕ) (m : LockMode) → NoneConflict h → ((y : ℕ) (b : LockMode) → s ≢ y → holds h y table b ≡ true → is_cause h s (Lock (record { number = table }) m) y ≡ false)
    → (x y t : ℕ) (a b : LockMode) → x ≢ y → (((s == x) && ((table == t) && same_mode m a)) || holds h x t a) ≡ true → (((s == y) && ((table == t) && same_mode m b)) || holds h y t b) ≡ true → conflicts a b ≡ false
both_grown h s table m before free x y t a b apart ex ey =
    elim (cases_Bool (holds h y t b)) [
      | inl old ↦ grown h s table m before free x y t a b apart ex old
      | inr f ↦
          let new = and_parts (s == y) ((table == t) && same_mode m b) (one_of _ (holds h y t b) ey f) in
          let other : (s == x) ≡ false = let sy = same_from_test s y new.0 in grind (arith, common_steps, nat_tests) in
          let old : holds h x t a ≡ true = rw other at ex in
          both_ways a b ∙ grown h s table m before free y x t b a (λ e. apart (sym e)) ey old
    ]

resumed : (h : LockEvents) (s : ℕ) (w : Option Wanted) → wanted h s ≡ w → AreLocksSound h → ready h ≡ Some s → NoneConflict h
    → (x y t : ℕ) (a b : LockMode) → x ≢ y → (((s == x) && is_lock t a w) || holds h x t a) ≡ true → (((s == y) && is_lock t b w) || holds h y t b) ≡ true → conflicts a b ≡ false
resumed h s (Some (Lock table m)) e sound first before x y t a b apart ex ey =
    both_grown h s table.number m before
    (λ z c other held. ap (λ q. is_cause_of h s q z) (sym e) ∙ nobody_is (waits_for h s) z (holder_low h z table.number c sound held) (ready_nobody h s first))
    x y t a b apart ex ey
resumed h s None e sound first before x y t a b apart ex ey = before x y t a b apart (plain (s == x) (holds h x t a) ex) (plain (s == y) (holds h y t b) ey)
  where
    plain : (p q : Bool) → ((p && false) || q) ≡ true → q ≡ true
    plain true q g = g
    plain false q g = g
resumed h s (Some (Others what)) e sound first before x y t a b apart ex ey = before x y t a b apart (plain (s == x) (holds h x t a) ex) (plain (s == y) (holds h y t b) ey)
  where
    plain : (p q : Bool) → ((p && false) || q) ≡ true → q ≡ true
    plain true q g = g
    plain false q g = g

pub none_conflict : (h : LockEvents) → AreLocksSound h → NoneConflict h
none_conflict [] sound x y t a b apart ex ey = absurd (cc)
none_conflict (LockGot s table m ∷ h) sound x y t a b apart ex ey = both_grown h s table m (none_conflict h sound.1) (λ z c other held. sound.0.free z) x y t a b apart ex ey
none_conflict (LocksGivenUp s ∷ h) sound x y t a b apart ex ey =
    none_conflict h sound.1 x y t a b apart (and_parts (not (s == x)) (holds h x t a) ex).1 (and_parts (not (s == y)) (holds h y t b) ey).1
none_conflict (SnapshotGone s ∷ h) sound x y t a b apart ex ey = none_conflict h sound.1 x y t a b apart ex ey
none_conflict (WaitBegan s w ∷ h) sound x y t a b apart ex ey = none_conflict h sound.1 x y t a b apart ex ey
none_conflict (WaitResumed s ∷ h) sound x y t a b apart ex ey = resumed h s (wanted h s) refl sound.1 sound.0 (none_conflict h sound.1) x y t a b apart ex ey
none_conflict (WaitWithdrawn s ∷ h) sound x y t a b apart ex ey = none_conflict h sound.1 x y t a b apart ex ey
