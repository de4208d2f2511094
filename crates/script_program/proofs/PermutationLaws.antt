-- The uses of a permutation, and which session gives the next one.
use Rattle.std.proofs.Common.{suc, ◌≡◌, ◌∙◌, ◌+◌, ◌-◌, ◌<◌, ◌≤◌, ℕ, Bool, true, false, List, ◌++◌, map, replicate, codes, decimal, slice_index, slice_set, Option, Some, None, refl, sym, ap, arith, append-nil, append_assoc}
use Rattle.std.specs.List.{find, range_with_len}
use Rattle.script_program.specs.Draws.{Moves, draw, fixed, next_state, repeated}
use Rattle.script_program.specs.LoadScript.{one_use, permutation_line, session_with_step, used_of}

-- ---- a search over numbers

pub found_here : (p : ℕ → Bool) (f : ℕ → ℕ) (k n : ℕ) → k < n → p (f k) ≡ true → find p (map f (range_with_len k (n - k))) ≡ Some (f k)
found_here p f k n lt hit =
    let more : n - k ≡ suc (n - (k + 1)) = omega arith in
    rw (more, hit) refl

pub found_later : (p : ℕ → Bool) (f : ℕ → ℕ) (k n : ℕ) → k < n → p (f k) ≡ false
    → find p (map f (range_with_len k (n - k))) ≡ find p (map f (range_with_len (k + 1) (n - (k + 1))))
found_later p f k n lt miss =
    let more : n - k ≡ suc (n - (k + 1)) = omega arith in
    rw (more, miss) refl

pub found_nowhere : (p : ℕ → Bool) (f : ℕ → ℕ) (k n : ℕ) → n ≤ k → find p (map f (range_with_len k (n - k))) ≡ None
found_nowhere p f k n past =
    let none : n - k ≡ 0 = omega arith in
    rw none refl

-- ---- a use

pub no_use : {s s' : ℕ} {given : List ℕ} {t t' : List ℕ} → None ≡ session_with_step (draw 8 s) given → s' ≡ next_state s → t' ≡ t
    → Moves one_use (s, given) t (s', given) t'
no_use {s} {s'} {given} {t} {t'} none state same = record {
  appends = same ∙ sym (append-nil t) ∙ ap (λ (o : Option ℕ). t ++ (used_of o given).0) none;
  goes_on = (λ i. (state i, given)) ∙ ap (λ (o : Option ℕ). (next_state s, (used_of o given).1)) none;
}

pub some_use : (i n : ℕ) {s s' s'' : ℕ} {given given' : List ℕ} {t t' t'' : List ℕ} → Some i ≡ session_with_step (draw 8 s) given
    → n ≡ slice_index given i + 1 → given' ≡ slice_set given i n → s' ≡ next_state s → t' ≡ t
    → Moves (fixed (codes " w" ++ decimal (i + 1) ++ codes "_" ++ decimal n)) s' t' s'' t'' → Moves one_use (s, given) t (s'', given') t''
some_use i n {s} {s'} {s''} {given} {given'} {t} {t'} {t''} some number set state same wrote = record {
  appends = wrote.appends ∙ (λ j. same j ++ (codes " w" ++ decimal (i + 1) ++ codes "_" ++ decimal (number j)))
      ∙ ap (λ (o : Option ℕ). t ++ (used_of o given).0) some;
  goes_on = (λ j. ((wrote.goes_on ∙ state) j, (set ∙ ap (slice_set given i) number) j))
      ∙ ap (λ (o : Option ℕ). (next_state s, (used_of o given).1)) some;
}

-- ---- all of them

pub permuted : {s s' s'' s''' : ℕ} {given given' : List ℕ} {t t' t'' t''' : List ℕ} → given ≡ replicate 8 0 → Moves (fixed (codes "permutation")) s t s' t'
    → Moves (repeated 512 one_use) (s', given) t' (s'', given') t'' → Moves (fixed (codes "\n")) s'' t'' s''' t''' → Moves permutation_line s t s''' t'''
permuted {s} {s'} {s''} {s'''} {given} {given'} {t} {t'} {t''} {t'''} fresh before uses behind =
    let all = repeated 512 one_use (s, replicate 8 0) in
    let same : (repeated 512 one_use (s', given)) ≡ all = λ i. repeated 512 one_use (before.goes_on i, fresh i) in
    record {
      appends = behind.appends ∙ ap (λ p. p ++ codes "\n") (uses.appends ∙ (λ i. before.appends i ++ (same i).0))
          ∙ ap (λ p. p ++ codes "\n") (append_assoc t (codes "permutation") all.0) ∙ append_assoc t (codes "permutation" ++ all.0) (codes "\n");
      goes_on = behind.goes_on ∙ ap (λ (p : ℕ × List ℕ). p.0) (uses.goes_on ∙ ap (λ (q : List ℕ × (ℕ × List ℕ)). q.1) same);
    }
