-- Rows of those for whom each session waits.
use Rattle.std.proofs.Common.{◌≡◌, ◌≢◌, ℕ, ◌+◌, ◌<◌, ◌≤◌, Bool, false, List, [], ◌∷◌, Option, None, length, slice_index_or, slice_set, inl, inr, refl, sym, ap, ◌∙◌, arith}
use Rattle.std.proofs.lemmas.Grind.{common_steps, elements}
use Rattle.std.proofs.lemmas.Bool.{cases_lt, cases_eq}
use Rattle.pg_values.specs.Sets.{has, empty}
use Rattle.pg_values.specs.declared.session_set.SessionSet.{SessionSet}
use Rattle.history.specs.declared.wait.Wanted.{Wanted}
use Rattle.history.specs.Locks.{LockEvents, wanted}
use Rattle.history.specs.Waits.{waits_for, is_cause_of, IsChain, IsCycle, IsLeastCycle}
use Rattle.lock_table.specs.Graph.{edge}
use Rattle.lock_table.proofs.Chains.{no_edge}

pub rows_more : (rows : List SessionSet) (i : ℕ) (row : SessionSet) (waits : ℕ → ℕ → Bool) → i < length rows → ((x y : ℕ) → x < i → edge rows x y ≡ waits x y) → ((y : ℕ) → has row y ≡ waits i y)
    → (x y : ℕ) → x < i + 1 → edge (slice_set rows i row) x y ≡ waits x y
rows_more rows i row waits room done new x y lt =
    elim (cases_eq x i) [
      | inl same ↦ let here : slice_index_or (slice_set rows i row) x empty ≡ row = grind (arith, common_steps, elements) in ap (λ l. has l y) here ∙ new y ∙ ap (λ j. waits j y) (sym same)
      | inr apart ↦ let there : slice_index_or (slice_set rows i row) x empty ≡ slice_index_or rows x empty = grind (arith, common_steps, elements) in ap (λ l. has l y) there ∙ done x y (omega arith)
    ]

pub rows_all : (rows : List SessionSet) (ws : List (Option Wanted)) (h : LockEvents) → length rows ≡ 65 → length ws ≤ 65 → ((s : ℕ) → slice_index_or ws s None ≡ wanted h s) → ((x y : ℕ) → x < 65 → edge rows x y ≡ waits_for h x y)
    → (x y : ℕ) → edge rows x y ≡ waits_for h x y
rows_all rows ws h len few same done x y =
    elim (cases_lt x 65) [
      | inl lt ↦ done x y lt
      | inr above ↦
          let idle : slice_index_or ws x None ≡ None = grind (arith, common_steps, elements) in
          let none : waits_for h x y ≡ false = ap (λ w. is_cause_of h x w y) (sym (same x) ∙ idle) in
          no_edge rows x y (omega arith) ∙ sym none
    ]

-- cycles of the same waits are the same
chain_same : (v w : ℕ → ℕ → Bool) (s x : ℕ) (ys : List ℕ) → ((a b : ℕ) → v a b ≡ w a b) → IsChain v s x ys → IsChain w s x ys
chain_same v w s x [] same c = sym (same x s) ∙ c
chain_same v w s x (y ∷ ys) same c = (sym (same x y) ∙ c.0, chain_same v w s y ys same c.1)

pub cycle_same : (v w : ℕ → ℕ → Bool) (s : ℕ) (cycle : List ℕ) → ((a b : ℕ) → v a b ≡ w a b) → IsCycle v s cycle → IsCycle w s cycle
cycle_same v w s [] same c = c
cycle_same v w s (x ∷ xs) same c = (c.0, chain_same v w s x xs same c.1)

pub least_same : (v w : ℕ → ℕ → Bool) (s : ℕ) (cycle : List ℕ) → ((a b : ℕ) → v a b ≡ w a b) → IsLeastCycle v s cycle → IsLeastCycle w s cycle
least_same v w s cycle same c = record {
  is = cycle_same v w s cycle same c.is;
  shortest = λ other o. c.shortest other (cycle_same w v s other (λ a b. sym (same a b)) o);
  least = λ other o len. c.least other (cycle_same w v s other (λ a b. sym (same a b)) o) len;
}
