-- What stands between quotes is a text with each quote twice.
use Rattle.std.proofs.Common.{◌≡◌, ℕ, zero, suc, ◌+◌, ◌≤◌, Bool, true, false, ◌==◌, slice_index, List, [], ◌∷◌, ◌++◌, length, take, Some, refl, sym, ap, ◌∙◌, arith, eqb-true, append_assoc, length-append}
use Rattle.std.proofs.Math.Seq.{take-append_seam}
use Rattle.sql_tokens.specs.Quotes.{closing}
use Rattle.sql_tokens.specs.Written.{doubled, quoted}

record Closed (q at end : ℕ) (w : List ℕ) : Type 0 where
  text : List ℕ
  rest : List ℕ
  whole : w ≡ doubled q text ++ q ∷ rest
  ends : end ≡ at + length (doubled q text) + 1

doubled_quote : (q : ℕ) (z : List ℕ) → doubled q (q ∷ z) ≡ q ∷ q ∷ doubled q z
doubled_quote q z = let e : (q == q) ≡ true = grind arith in rw e refl

doubled_other : (q b : ℕ) (z : List ℕ) → (b == q) ≡ false → doubled q (b ∷ z) ≡ b ∷ doubled q z
doubled_other q b z e = rw e refl

one_behind : (q at end b : ℕ) (z : List ℕ) → (b == q) ≡ true → Some (at + 1) ≡ Some end → Closed q at end (b ∷ z)
one_behind q at end b z e h = let n : at + 1 ≡ end = cc in record { text = []; rest = z; whole = ap (λ c. c ∷ z) (eqb-true b q e); ends = omega arith }

two_behind : (q at end b c : ℕ) (z : List ℕ) → (b == q) ≡ true → (c == q) ≡ true → Closed q (at + 1 + 1) end z → Closed q at end (b ∷ c ∷ z)
two_behind q at end b c z e i k =
    let d : doubled q (q ∷ k.text) ≡ q ∷ q ∷ doubled q k.text = doubled_quote q k.text in
    let n : length (doubled q (q ∷ k.text)) ≡ suc (suc (length (doubled q k.text))) = ap (λ x. length x) d in
    record {
      text = q ∷ k.text;
      rest = k.rest;
      whole = ap (λ x. x ∷ c ∷ z) (eqb-true b q e) ∙ (ap (λ x. q ∷ x ∷ z) (eqb-true c q i) ∙ (ap (λ x. q ∷ q ∷ x) k.whole ∙ ap (λ x. x ++ q ∷ k.rest) (sym d)));
      ends = omega (arith, k.ends, n);
    }

other_behind : (q at end b : ℕ) (z : List ℕ) → (b == q) ≡ false → Closed q (at + 1) end z → Closed q at end (b ∷ z)
other_behind q at end b z e k =
    let d : doubled q (b ∷ k.text) ≡ b ∷ doubled q k.text = doubled_other q b k.text e in
    let n : length (doubled q (b ∷ k.text)) ≡ suc (length (doubled q k.text)) = ap (λ x. length x) d in
    record {
      text = b ∷ k.text;
      rest = k.rest;
      whole = ap (λ x. b ∷ x) k.whole ∙ ap (λ x. x ++ q ∷ k.rest) (sym d);
      ends = omega (arith, k.ends, n);
    }

abbrev Closes : ℕ → ℕ → ℕ → Type 0
Closes q end n = (at : ℕ) (w : List ℕ) → length w ≤ n → closing q false at w ≡ Some end → Closed q at end w

second_quote : (q at end b n : ℕ) (z : List ℕ) → (0 == q) ≡ false → (b == q) ≡ true → (slice_index z 0 == q) ≡ true → length z ≤ n → Closes q end n → closing q true (at + 1) z ≡ Some end → Closed q at end (b ∷ z)
second_quote q at end b n [] o e i l on h = cc
second_quote q at end b n (c ∷ z) o e i l on h = two_behind q at end b c z e i (on (at + 1 + 1) z (omega arith) h)

step : (q at end b n : ℕ) (z : List ℕ) (f g : Bool) → (0 == q) ≡ false → (b == q) ≡ f → (slice_index z 0 == q) ≡ g → length z ≤ n → Closes q end n → closing q false at (b ∷ z) ≡ Some end → Closed q at end (b ∷ z)
step q at end b n z true true o e i l on h = let k : closing q true (at + 1) z ≡ Some end = rw (e, i) at h in second_quote q at end b n z o e i l on k
step q at end b n z true false o e i l on h = let k : Some (at + 1) ≡ Some end = rw (e, i) at h in one_behind q at end b z e k
step q at end b n z false g o e i l on h = let k : closing q false (at + 1) z ≡ Some end = rw e at h in other_behind q at end b z e (on (at + 1) z l k)

closes_by : (n q end : ℕ) → (0 == q) ≡ false → Closes q end n
closes_by n q end o at [] l h = cc
closes_by zero q end o at (b ∷ z) l h = absurd (omega arith)
closes_by (suc n) q end o at (b ∷ z) l h = step q at end b n z (b == q) (slice_index z 0 == q) o refl refl (omega arith) (λ m w i k. closes_by n q end o m w i k) h

-- the bytes up to the closing quote
pub record IsQuoted (q : ℕ) (z : List ℕ) : Type 0 where
  pub text : List ℕ
  pub same : z ≡ quoted q text

quoted_to : (q end : ℕ) (w : List ℕ) → (0 == q) ≡ false → closing q false 1 w ≡ Some end → IsQuoted q (take end (q ∷ w)) × (length (take end (q ∷ w)) ≡ end)
quoted_to q end w o h =
    let k = closes_by (length w) q end o 1 w (omega arith) h in
    let n : end ≡ length (quoted q k.text) = omega (arith, k.ends, length-append (doubled q k.text) (q ∷ [])) in
    let e : q ∷ w ≡ quoted q k.text ++ k.rest = ap (λ x. q ∷ x) (k.whole ∙ sym (append_assoc (doubled q k.text) (q ∷ []) k.rest)) in
    let same : take end (q ∷ w) ≡ quoted q k.text = ap (λ m. take m (q ∷ w)) n ∙ (ap (λ x. take (length (quoted q k.text)) x) e ∙ take-append_seam (quoted q k.text) k.rest) in
    (record { text = k.text; same = same }, ap (λ x. length x) same ∙ sym n)

pub quoted_there : (q end : ℕ) (w : List ℕ) → (0 == q) ≡ false → closing q false 1 w ≡ Some end → IsQuoted q (take end (q ∷ w))
quoted_there q end w o h = (quoted_to q end w o h).0

pub quoted_long : (q end : ℕ) (w : List ℕ) → (0 == q) ≡ false → closing q false 1 w ≡ Some end → length (take end (q ∷ w)) ≡ end
quoted_long q end w o h = (quoted_to q end w o h).1
