-- Whom the stages wait for.
use Rattle.std.proofs.Common.{◌≡◌, ℕ, ◌+◌, ◌==◌, ◌&&◌, ◌||◌, nat_lt, not, Bool, true, false, arith, inl, inr, refl, sym, ap, ◌∙◌, Option, Some, None}
use Rattle.std.proofs.lemmas.Grind.{common_steps}
use Rattle.std.proofs.lemmas.Bool.{cases_Bool}
use Rattle.std.proofs.lemmas.Bool.Decides.{nat_tests}
use Rattle.history.specs.declared.transaction.TxId.{TxId}
use Rattle.history.specs.History.{History, tx_events, snapshot_events}
use Rattle.history.specs.Snapshots.{held_by}
use Rattle.alter_table.specs.Finalized.{is_blind, unseeing}

-- never for the session itself
pub not_itself : (s : ℕ) (b : Bool) → (not (s == s) && b) ≡ false
not_itself s b = grind (arith, common_steps, nat_tests)

pub sees_itself : (h : History) (s : ℕ) (o : Option TxId) → unseeing h s o s ≡ false
sees_itself h s None = refl
sees_itself h s (Some by) = not_itself s (is_blind (tx_events h) by (held_by (snapshot_events h) s))

-- ---- one session more is asked

or_false : (b : Bool) → (b || false) ≡ b
or_false true = refl
or_false false = refl

pub one_more : (p : ℕ → Bool) (n k : ℕ) → ((nat_lt k n && p k) || ((k == n) && p n)) ≡ (nat_lt k (n + 1) && p k)
one_more p n k = elim (cases_Bool (k == n)) [
  | inl same ↦
      let e : k ≡ n = grind (arith, nat_tests, same) in
      let before : nat_lt n n ≡ false = grind (arith, nat_tests) in
      let itself : (n == n) ≡ true = grind (arith, nat_tests) in
      let after : nat_lt n (n + 1) ≡ true = grind (arith, nat_tests) in
      rw e (rw (before, itself, after) refl)
  | inr other ↦
      let still : nat_lt k (n + 1) ≡ nat_lt k n = grind (arith, nat_tests, other) in
      rw (other, still) (or_false (nat_lt k n && p k))
]
