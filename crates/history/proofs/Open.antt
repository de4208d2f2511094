-- A transaction that is open runs, and no other session has it.
use Rattle.std.proofs.Common.{◌≡◌, ℕ, ◌<◌, ◌≤◌, ◌==◌, arith, [], ◌∷◌, inl, inr, refl, sym, ◌∙◌, Some, None}
use Rattle.std.proofs.lemmas.Grind.{common_steps}
use Rattle.std.proofs.lemmas.Bool.{cases_Bool}
use Rattle.std.proofs.lemmas.Bool.Decides.{nat_tests}
use Rattle.history.specs.declared.transaction.Fate.TheVariants.{Running}
use Rattle.history.specs.Transactions.{TxEvents, TxBegan, TxCommitted, TxAborted, next_tx, open_of, session_of, fate, IsRunning, IsSound}

record Seat (h : TxEvents) (s t : ℕ) : Type 0 where
  begun : t < next_tx h
  runs : fate h t ≡ Running
  own : session_of h t ≡ s

record Seats (h : TxEvents) : Type 0 where
  later : (t : ℕ) → next_tx h ≤ t → fate h t ≡ Running
  each : (s t : ℕ) → open_of h s ≡ Some t → Seat h s t

seats : (h : TxEvents) → IsSound h → Seats h
seats [] sound = record { later = λ t le. refl; each = λ s t e. absurd (cc) }
seats (TxBegan r n ∷ h) sound =
    let o : Seats h = seats h sound.2 in
    record {
      later = λ t le. o.later t (omega (arith, le));
      each = λ s t e. elim (cases_Bool (r == s)) [
        | inl same ↦
            let new : Some n ≡ Some t = sym (rw same refl) ∙ e in
            let is : n ≡ t = cc in
            let at : r ≡ s = grind (arith, nat_tests) in
            record { begun = omega (arith, is, sound.0); runs = o.later t (omega (arith, is, sound.0)); own = grind (arith, common_steps, nat_tests) }
        | inr other ↦
            let old : open_of h s ≡ Some t = sym (rw other refl) ∙ e in
            let its : Seat h s t = o.each s t old in
            record { begun = omega (arith, its.begun); runs = its.runs; own = grind (arith, common_steps, nat_tests, its.begun, its.own, sound.0) }
      ];
    }
seats (TxCommitted r n ∷ h) sound =
    let o : Seats h = seats h sound.2 in
    let mine : Seat h r n = o.each r n sound.1 in
    record {
      later = λ t le. grind (arith, common_steps, nat_tests, o.later t le, mine.begun);
      each = λ s t e. elim (cases_Bool (r == s)) [
        | inl same ↦ let none : None ≡ Some t = sym (rw same refl) ∙ e in absurd (cc)
        | inr other ↦
            let old : open_of h s ≡ Some t = sym (rw other refl) ∙ e in
            let its : Seat h s t = o.each s t old in
            record { begun = its.begun; runs = grind (arith, common_steps, nat_tests, its.runs, its.own, mine.own); own = its.own }
      ];
    }
seats (TxAborted r n ∷ h) sound =
    let o : Seats h = seats h sound.2 in
    let mine : Seat h r n = o.each r n sound.1 in
    record {
      later = λ t le. grind (arith, common_steps, nat_tests, o.later t le, mine.begun);
      each = λ s t e. elim (cases_Bool (r == s)) [
        | inl same ↦ let none : None ≡ Some t = sym (rw same refl) ∙ e in absurd (cc)
        | inr other ↦
            let old : open_of h s ≡ Some t = sym (rw other refl) ∙ e in
            let its : Seat h s t = o.each s t old in
            record { begun = its.begun; runs = grind (arith, common_steps, nat_tests, its.runs, its.own, mine.own); own = its.own }
      ];
    }

pub open_runs : (h : TxEvents) (s t : ℕ) → IsSound h → open_of h s ≡ Some t → IsRunning h t
open_runs h s t sound e =
    let o = seats h sound in
    let its = o.each s t e in
    record { begun = its.begun; runs = its.runs }

pub open_own : (h : TxEvents) (s t : ℕ) → IsSound h → open_of h s ≡ Some t → session_of h t ≡ s
open_own h s t sound e =
    let o = seats h sound in
    let its = o.each s t e in
    its.own
