-- A transaction that runs is open in its session.
use Rattle.std.proofs.Common.{◌≡◌, ◌≢◌, ℕ, ◌<◌, ◌==◌, ◌||◌, not, Bool, true, false, if◌then◌else◌, [], ◌∷◌, inl, inr, refl, sym, ap, ◌∙◌, arith, Option, Some, None}
use Rattle.std.proofs.lemmas.Bool.{cases_Bool}
use Rattle.std.proofs.lemmas.Bool.Decides.{nat_tests}
use Rattle.history.specs.declared.transaction.Fate.TheVariants.{Running, Committed, Aborted}
use Rattle.history.specs.Transactions.{TxEvent, TxEvents, TxBegan, TxCommitted, TxAborted, next_tx, open_of, session_of, fate, was_aborted, was_committed, IsSound}
use Rattle.history.proofs.Open.{open_own}

-- a transaction that still runs after an end is not the one that ended
ended_fate : (a b c : Bool) → (if a then Aborted else if b || c then Committed else Running) ≡ Running → ((if a then Aborted else if c then Committed else Running) ≡ Running) × (b ≡ false)
ended_fate true b c e = absurd (cc)
ended_fate false true c e = absurd (cc)
ended_fate false false true e = absurd (cc)
ended_fate false false false e = (refl, refl)

aborted_fate : (a b c : Bool) → (if b || a then Aborted else if c then Committed else Running) ≡ Running → ((if a then Aborted else if c then Committed else Running) ≡ Running) × (b ≡ false)
aborted_fate a true c e = absurd (cc)
aborted_fate true false c e = absurd (cc)
aborted_fate false false true e = absurd (cc)
aborted_fate false false false e = (refl, refl)

still_open : (h : TxEvents) (s n t : ℕ) → open_of h s ≡ Some n → open_of h (session_of h t) ≡ Some t → (n == t) ≡ false → (if s == session_of h t then None else open_of h (session_of h t)) ≡ Some t
still_open h s n t its seat ne = elim (cases_Bool (s == session_of h t)) [
  | inl here ↦
      let at : s ≡ session_of h t = grind (arith, nat_tests, here) in
      let both : Some n ≡ Some t = sym its ∙ ap (open_of h) at ∙ seat in
      let same : n ≡ t = cc in
      let differ : n ≢ t = grind (arith, nat_tests, ne) in
      absurd (differ same)
  | inr away ↦ rw away seat
]

began_open : (h : TxEvents) (s n t : ℕ) → open_of h s ≡ None → open_of h (session_of h t) ≡ Some t → (if s == session_of h t then Some n else open_of h (session_of h t)) ≡ Some t
began_open h s n t none seat = elim (cases_Bool (s == session_of h t)) [
  | inl here ↦
      let at : s ≡ session_of h t = grind (arith, nat_tests, here) in
      let both : None ≡ Some t = sym none ∙ ap (open_of h) at ∙ seat in
      absurd (cc)
  | inr away ↦ rw away seat
]

self_open : (s n t : ℕ) (o : Option ℕ) → (n == t) ≡ true → (if s == s then Some n else o) ≡ Some t
self_open s n t o same =
    let at : n ≡ t = grind (arith, nat_tests, same) in
    let own : (s == s) ≡ true = grind (arith, nat_tests) in
    rw (own, at) refl

pub running_open : (h : TxEvents) (t : ℕ) → IsSound h → t < next_tx h → fate h t ≡ Running → open_of h (session_of h t) ≡ Some t
running_open [] t sound begun runs = absurd (omega (arith, begun))
running_open (TxBegan s n ∷ h) t sound begun runs = elim (cases_Bool (n == t)) [
  | inl same ↦ rw same (self_open s n t (open_of h s) same)
  | inr other ↦
      let before : t < next_tx h = grind (arith, nat_tests, other, begun, sound.0) in
      rw other (began_open h s n t sound.1 (running_open h t sound.2 before runs))
]
running_open (TxCommitted s n ∷ h) t sound begun runs =
    let old = ended_fate (was_aborted h t) (n == t) (was_committed h t) runs in
    still_open h s n t sound.1 (running_open h t sound.2 begun old.0) old.1
running_open (TxAborted s n ∷ h) t sound begun runs =
    let old = aborted_fate (was_aborted h t) (n == t) (was_committed h t) runs in
    still_open h s n t sound.1 (running_open h t sound.2 begun old.0) old.1

-- who has begun before has begun behind a further event
pub began_before : (e : TxEvent) (h : TxEvents) (t : ℕ) → t < next_tx h → t < next_tx (e ∷ h)
began_before (TxBegan s n) h t lt = omega (arith, lt)
began_before (TxCommitted s n) h t lt = lt
began_before (TxAborted s n) h t lt = lt

-- one transaction has one session
pub one_session : (txs : TxEvents) (r s u t : ℕ) → IsSound txs → open_of txs r ≡ Some u → open_of txs s ≡ Some t → u ≡ t → r ≡ s
one_session txs r s u t sound mine its same = sym (open_own txs r u sound mine) ∙ (ap (session_of txs) same ∙ open_own txs s t sound its)
