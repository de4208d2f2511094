-- Lists compared number by number.
use Rattle.std.proofs.Common.{◌≡◌, ◌≢◌, ℕ, ◌<◌, ◌==◌, ◌&&◌, ◌||◌, Bool, true, false, List, [], ◌∷◌, length, nat_lt, inl, inr, refl, sym, ap, ◌∙◌, arith}
use Rattle.std.proofs.lemmas.Grind.{common_steps}
use Rattle.std.proofs.lemmas.Bool.{cases_lt, cases_eq}
use Rattle.std.proofs.lemmas.Bool.Decides.{nat_tests}
use Rattle.history.specs.Waits.{precedes, IsLeastCycle}

neither_first : (xs ys : List ℕ) → length xs ≡ length ys → precedes xs ys ≡ false → precedes ys xs ≡ false → xs ≡ ys
neither_first [] [] len a b = refl
neither_first [] (y ∷ ys) len a b = absurd (omega (arith, len))
neither_first (x ∷ xs) [] len a b = absurd (omega (arith, len))
neither_first (x ∷ xs) (y ∷ ys) len a b =
    elim (cases_eq x y) [
      | inl same ↦
          let rest = neither_first xs ys (omega (arith, len)) (grind (arith, common_steps, nat_tests, a)) (grind (arith, common_steps, nat_tests, b)) in
          cc
      | inr apart ↦ absurd (grind (arith, common_steps, nat_tests, a, b))
    ]

pub one_least : (waits : ℕ → ℕ → Bool) (s : ℕ) (a b : List ℕ) → IsLeastCycle waits s a → IsLeastCycle waits s b → a ≡ b
one_least waits s a b la lb =
    let le = la.shortest b lb.is in
    let ge = lb.shortest a la.is in
    let len : length a ≡ length b = omega arith in
    neither_first a b len (lb.least a la.is len) (la.least b lb.is (sym len))
