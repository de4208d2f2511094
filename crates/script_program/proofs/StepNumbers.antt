-- The numbers of steps by their names.
use Rattle.std.proofs.Common.{◌≡◌, ◌<◌, ◌≤◌, ℕ, suc, ◌+◌, ◌-◌, Bool, true, false, cond, List, [], ◌∷◌, length, drop, get_or, Option, Some, None, sym, ap, ◌∙◌, arith, if◌then◌else◌}
use Rattle.std.specs.Prelude.{IfSome}
use Rattle.std.specs.Str.{bytes_eq}
use Rattle.std.proofs.Math.Seq.{drop-cons}
use Rattle.script_program.specs.Steps.{StepView, number_from, number_of}

below_more : (n m : ℕ) (r : Option ℕ) → IfSome r (λ k. k < suc n + m) → IfSome r (λ k. k < n + suc m)
below_more n m None h = tt
below_more n m (Some k) h = omega (arith, h)

number_below : (n : ℕ) (name : List ℕ) (steps : List StepView) → IfSome (number_from n name steps) (λ k. k < n + length steps)
number_below n name [] = tt
number_below n name (x ∷ xs) = by (bytes_eq x.name name) (number_below (suc n) name xs)
  where
    by : (t : Bool) → IfSome (number_from (suc n) name xs) (λ k. k < suc n + length xs) → IfSome (if t then Some n else number_from (suc n) name xs) (λ k. k < n + length (x ∷ xs))
    by true rest = omega arith
    by false rest = below_more n (length xs) (number_from (suc n) name xs) rest

none_or_below : (n : ℕ) (r : Option ℕ) → IfSome r (λ k. k < 0 + n) → IfSome r (λ k. k < n)
none_or_below n None h = tt
none_or_below n (Some k) h = omega (arith, h)

-- the number that is found is that of a step
pub number_is_known : (name : List ℕ) (steps : List StepView) → IfSome (number_of name steps) (λ k. k < length steps)
number_is_known name steps = none_or_below (length steps) (number_of name steps) (number_below 0 name steps)

-- a step has its number before those behind it
pub one_before : (steps : List StepView) (i : ℕ) (x : StepView) (key name : List ℕ) (o : Option ℕ) → 0 < i → i ≤ length steps → get_or steps (i - 1) x ≡ x → key ≡ x.name → o ≡ number_from i name (drop i steps)
    → cond (bytes_eq key name) (Some (i - 1)) o ≡ number_from (i - 1) name (drop (i - 1) steps)
one_before steps i x key name o some within at_x is rest =
    let next : suc (i - 1) ≡ i = omega (arith, some) in
    let first : drop (i - 1) steps ≡ x ∷ drop i steps = drop-cons steps (i - 1) x (omega (arith, some, within)) ∙ ap (λ y. y ∷ drop (suc (i - 1)) steps) at_x ∙ ap (λ k. x ∷ drop k steps) next in
    ap (cond (bytes_eq key name) (Some (i - 1))) rest ∙ ap (λ k. cond (bytes_eq k name) (Some (i - 1)) (number_from i name (drop i steps))) is
    ∙ ap (λ k. cond (bytes_eq x.name name) (Some (i - 1)) (number_from k name (drop i steps))) (sym next) ∙ ap (number_from (i - 1) name) (sym first)
