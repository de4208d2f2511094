-- Who is ready, and who keeps its place.
use Rattle.std.proofs.Common.{◌≡◌, ℕ, Bool, true, false, List, [], ◌∷◌, ◌++◌, Some, find, nat_eq, inl, inr, refl, sym, ap, ◌∙◌, subst, arith}
use Rattle.std.specs.List.{list_any}
use Rattle.std.proofs.lemmas.Grind.{common_steps}
use Rattle.std.proofs.lemmas.Bool.{cases_Bool, cases_eq}
use Rattle.std.proofs.lemmas.Bool.Decides.{nat_tests}
use Rattle.pg_values.specs.Sets.{nobody}
use Rattle.pg_values.proofs.Bits.{nobody_is, somebody_is}
use Rattle.history.specs.Locks.{LockEvent, LockEvents, LockGot, LocksGivenUp, SnapshotGone, WaitBegan, WaitResumed, WaitWithdrawn, queue, removed}
use Rattle.history.specs.Waits.{before, waits_for, ready}
use Rattle.history.proofs.Holders.{ready_nobody}
use Rattle.lock_table.specs.Laws.{IsOldestReady}

-- nothing before what is found passes the test
none_before : (p : ℕ → Bool) (q : List ℕ) (x z : ℕ) → find p q ≡ Some x → list_any (nat_eq z) (before x q) ≡ true → p z ≡ false
none_before p [] x z e t = absurd (cc)
none_before p (y ∷ ys) x z e t = elim (cases_Bool (p y)) [
  | inl passes ↦
      let e' : Some y ≡ Some x = rw passes at e in
      let same : y ≡ x = cc in
      absurd (grind (arith, common_steps, nat_tests, t))
  | inr f ↦
      let e' = rw f at e in
      elim (cases_eq z y) [
        | inl same ↦ subst (λ u. p u ≡ false) (sym same) f
        | inr apart ↦ none_before p ys x z e' (grind (arith, common_steps, nat_tests, t))
      ]
]

pub oldest_ready : (h : LockEvents) (x : ℕ) → ready h ≡ Some x → IsOldestReady h x
oldest_ready h x e = record {
  gone = λ y lt. nobody_is (waits_for h x) y lt (ready_nobody h x e);
  oldest = λ z t. let s = somebody_is (waits_for h z) (none_before (λ u. nobody (waits_for h u)) (queue h) x z e t) in (s.0, s.2);
}

-- a wait behind the others changes nothing before them
before_behind : (q : List ℕ) (x s : ℕ) → list_any (nat_eq x) q ≡ true → before x (q ++ s ∷ []) ≡ before x q
before_behind [] x s t = absurd (cc)
before_behind (y ∷ ys) x s t = elim (cases_eq y x) [
  | inl same ↦ grind (arith, common_steps, nat_tests)
  | inr apart ↦ let rest = before_behind ys x s (grind (arith, common_steps, nat_tests, t)) in grind (arith, common_steps, nat_tests, rest)
]

-- who was taken out is not there
removed_none : (q : List ℕ) (s : ℕ) → list_any (nat_eq s) (removed s q) ≡ false
removed_none [] s = refl
removed_none (y ∷ ys) s = grind (arith, common_steps, nat_tests, removed_none ys s)

-- and nobody comes to stand before those who are
before_removed : (q : List ℕ) (s x y : ℕ) → list_any (nat_eq x) (removed s q) ≡ true → list_any (nat_eq y) (before x (removed s q)) ≡ true → list_any (nat_eq y) (before x q) ≡ true
before_removed [] s x y here t = absurd (cc)
before_removed (z ∷ zs) s x y here t = elim (cases_eq s z) [
  | inl out ↦
      let here' : list_any (nat_eq x) (removed s zs) ≡ true = grind (arith, common_steps, nat_tests, here) in
      let t' : list_any (nat_eq y) (before x (removed s zs)) ≡ true = grind (arith, common_steps, nat_tests, t) in
      let rest = before_removed zs s x y here' t' in
      elim (cases_eq z x) [
        | inl same ↦ absurd (let none = removed_none zs s in let sx : s ≡ x = out ∙ same in let here'' = rw (sym sx) at here' in cc)
        | inr apart ↦ grind (arith, common_steps, nat_tests, rest)
      ]
  | inr stays ↦ elim (cases_eq z x) [
    | inl same ↦ absurd (grind (arith, common_steps, nat_tests, t))
    | inr apart ↦
        let here' : list_any (nat_eq x) (removed s zs) ≡ true = grind (arith, common_steps, nat_tests, here) in
        elim (cases_eq y z) [
          | inl first ↦ grind (arith, common_steps, nat_tests)
          | inr later ↦
              let t' : list_any (nat_eq y) (before x (removed s zs)) ≡ true = grind (arith, common_steps, nat_tests, t) in
              let rest = before_removed zs s x y here' t' in
              grind (arith, common_steps, nat_tests, rest)
        ]
  ]
]

pub keeps_place : (e : LockEvent) (h : LockEvents) (x y : ℕ) → list_any (nat_eq x) (queue h) ≡ true → list_any (nat_eq x) (queue (e ∷ h)) ≡ true → list_any (nat_eq y) (before x (queue (e ∷ h))) ≡ true → list_any (nat_eq y) (before x (queue h)) ≡ true
keeps_place (LockGot s table m) h x y here still t = t
keeps_place (LocksGivenUp s) h x y here still t = t
keeps_place (SnapshotGone s) h x y here still t = t
keeps_place (WaitBegan s w) h x y here still t = sym (ap (list_any (nat_eq y)) (before_behind (queue h) x s here)) ∙ t
keeps_place (WaitResumed s) h x y here still t = before_removed (queue h) s x y still t
keeps_place (WaitWithdrawn s) h x y here still t = before_removed (queue h) s x y still t

-- before one who isn't there stand all
pub before_all : (q : List ℕ) (x : ℕ) → list_any (nat_eq x) q ≡ false → before x q ≡ q
before_all [] x f = refl
before_all (y ∷ ys) x f = grind (arith, common_steps, nat_tests, before_all ys x, f)
