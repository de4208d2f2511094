-- A number that stops growing at the largest one gives what the whole number gives.
use Rattle.std.proofs.Common.{◌≡◌, ℕ, suc, ◌+◌, ◌-◌, ◌*◌, ◌<◌, length, drop, get_or, add-one, drop-cons, min, Bool, true, false, cond, List, [], ◌∷◌, sym, ap, ◌∙◌, arith}
use Rattle.sql_tokens.specs.declared.bytes.Class.TheVariants as class
use Rattle.sql_tokens.specs.Bytes.{belongs}
use Rattle.sql_tokens.specs.Numbers.{digits_from, with_digit}

step_at : (b : Bool) (most n d : ℕ) → min most (cond b (min most n * 10 + d) (min most n)) ≡ min most (cond b (n * 10 + d) n)
step_at true most n d = omega arith
step_at false most n d = omega arith

pub capped_digits : (most n : ℕ) (z : List ℕ) → min most (digits_from (min most n) z) ≡ min most (digits_from n z)
capped_digits most n [] = omega arith
capped_digits most n (b ∷ z) =
    let e : min most (with_digit (min most n) b) ≡ min most (with_digit n b) = step_at (belongs class.Digit b) most n (b - 48) in
    sym (capped_digits most (with_digit (min most n) b) z) ∙ (ap (λ k. min most (digits_from k z)) e ∙ capped_digits most (with_digit n b) z)

pub digits_step : (most n r i : ℕ) (z : List ℕ) → i < length z → r ≡ min most (with_digit n (get_or z i 0)) → min most (digits_from r (drop (i + 1) z)) ≡ min most (digits_from n (drop i z))
digits_step most n r i z h e = rw (e, add-one, drop-cons z i 0) (capped_digits most (with_digit n (get_or z i 0)) (drop (suc i) z))
