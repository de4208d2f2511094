-- What is written between quotes is read back.
use Rattle.std.proofs.Common.{◌≡◌, ℕ, suc, ◌+◌, ◌-◌, Bool, true, false, cond, ◌==◌, slice_index, List, [], ◌∷◌, ◌++◌, length, Some, refl, ap, ◌∙◌, arith, eqb-true, length-append}
use Rattle.std.proofs.Math.Seq.{take-append_seam}
use Rattle.grammar.specs.TextPlaces.{inside}
use Rattle.grammar.specs.Quotes.{closing, doubled, quoted, undoubled}

closing_one : (q at b : ℕ) (w rest : List ℕ) (f : Bool) → (q == q) ≡ true → (b == q) ≡ f → ((n : ℕ) → closing q false n (w ++ q ∷ rest) ≡ Some (n + length w + 1))
    → closing q false at (cond f (q ∷ q ∷ w) (b ∷ w) ++ q ∷ rest) ≡ Some (at + length (cond f (q ∷ q ∷ w) (b ∷ w)) + 1)
closing_one q at b w rest true e h on = let p : at + 1 + 1 + length w + 1 ≡ at + suc (suc (length w)) + 1 = omega arith in rw e (on (at + 1 + 1) ∙ ap Some p)
closing_one q at b w rest false e h on = let p : at + 1 + length w + 1 ≡ at + suc (length w) + 1 = omega arith in rw h (on (at + 1) ∙ ap Some p)

pub closing_doubled : (q at : ℕ) (z rest : List ℕ) → (q == q) ≡ true → (slice_index rest 0 == q) ≡ false → closing q false at (doubled q z ++ q ∷ rest) ≡ Some (at + length (doubled q z) + 1)
closing_doubled q at [] rest e h = let p : at + 1 ≡ at + 0 + 1 = omega arith in rw (e, h) (ap Some p)
closing_doubled q at (b ∷ z) rest e h = closing_one q at b (doubled q z) rest (b == q) e refl (λ n. closing_doubled q n z rest e h)

undoubled_one : (q b : ℕ) (w z : List ℕ) (f : Bool) → (q == q) ≡ true → (b == q) ≡ f → undoubled q false w ≡ z → undoubled q false (cond f (q ∷ q ∷ w) (b ∷ w)) ≡ b ∷ z
undoubled_one q b w z true e h same = let p : b ≡ q = eqb-true b q h in rw (p, e) (ap (λ x. q ∷ x) same)
undoubled_one q b w z false e h same = rw h (ap (λ x. b ∷ x) same)

pub undoubled-doubled : (q : ℕ) (z : List ℕ) → (q == q) ≡ true → undoubled q false (doubled q z) ≡ z
undoubled-doubled q [] e = refl
undoubled-doubled q (b ∷ z) e = undoubled_one q b (doubled q z) z (b == q) e refl (undoubled-doubled q z e)

pub length_quoted : (q : ℕ) (z : List ℕ) → length (quoted q z) ≡ length (doubled q z) + 2
length_quoted q z = omega (arith, length-append (doubled q z) (q ∷ []))

pub inside-quoted : (q : ℕ) (z : List ℕ) → inside (quoted q z) ≡ doubled q z
inside-quoted q z =
    let n : length (quoted q z) - 2 ≡ length (doubled q z) = omega (arith, length_quoted q z) in
    rw n (take-append_seam (doubled q z) (q ∷ []))
