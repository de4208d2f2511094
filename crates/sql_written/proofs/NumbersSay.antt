-- A number without point and exponent is digits, one or more.
use Rattle.std.proofs.Common.{◌≡◌, ℕ, suc, ◌+◌, ◌<◌, ◌≤◌, Bool, true, false, cond, ◌&&◌, ◌||◌, not, ◌==◌, slice_index, List, [], ◌∷◌, length, take, drop, refl, sym, ap, ◌∙◌, subst, arith}
use Rattle.std.specs.List.{prefix_len}
use Rattle.sql_tokens.specs.Bytes.{belongs, past}
use Rattle.sql_tokens.specs.Numbers.{begins_number, is_digit_at, is_exponent, past_exponent, past_fraction, past_sign}
use Rattle.sql_tokens.specs.declared.bytes.Class.TheVariants as class

pub record AreDigits (z : List ℕ) : Type 0 where
  pub some : 0 < length z
  pub digits : prefix_len (belongs class.Digit) z ≡ length z

-- the first bytes of a class are of it
front_one : (p : ℕ → Bool) (b : ℕ) (z : List ℕ) (f : Bool) → p b ≡ f → prefix_len p (take (prefix_len p z) z) ≡ length (take (prefix_len p z) z) → prefix_len p (take (prefix_len p (b ∷ z)) (b ∷ z)) ≡ length (take (prefix_len p (b ∷ z)) (b ∷ z))
front_one p b z true e h =
    let n : prefix_len p (b ∷ z) ≡ suc (prefix_len p z) = rw e (omega arith) in
    let same : prefix_len p (b ∷ take (prefix_len p z) z) ≡ suc (length (take (prefix_len p z) z)) = rw e (omega (arith, h)) in
    subst (λ m. prefix_len p (take m (b ∷ z)) ≡ length (take m (b ∷ z))) (sym n) same
front_one p b z false e h =
    let n : prefix_len p (b ∷ z) ≡ 0 = rw e refl in
    subst (λ m. prefix_len p (take m (b ∷ z)) ≡ length (take m (b ∷ z))) (sym n) refl

pub front_of : (p : ℕ → Bool) (z : List ℕ) → prefix_len p (take (prefix_len p z) z) ≡ length (take (prefix_len p z) z)
front_of p [] = refl
front_of p (b ∷ z) = front_one p b z (p b) refl (front_of p z)

some_digits : (z : List ℕ) → is_digit_at z 0 ≡ true → 0 < length (take (prefix_len (belongs class.Digit) z) z)
some_digits [] h = cc
some_digits (b ∷ z) h =
    let n : prefix_len (belongs class.Digit) (b ∷ z) ≡ suc (prefix_len (belongs class.Digit) z) = rw h (omega arith) in
    subst (λ m. 0 < length (take m (b ∷ z))) (sym n) (omega arith)

-- a number that begins with a point ends behind it
no_digits : (z : List ℕ) → is_digit_at z 0 ≡ false → past class.Digit z 0 ≡ 0
no_digits [] h = refl
no_digits (b ∷ z) h = rw h refl

digit_no_point : (b : ℕ) → belongs class.Digit b ≡ true → (b == 46) ≡ false
digit_no_point b h = grind (arith, h)

both_true : (p q : Bool) → (p && q) ≡ true → (p ≡ true) × (q ≡ true)
both_true true q h = (refl, h)
both_true false q h = cc

second_true : (p q : Bool) → p ≡ false → (p || q) ≡ true → q ≡ true
second_true true q e h = cc
second_true false q e h = h

behind_point : (z : List ℕ) → (slice_index z 0 == 46) ≡ true → is_digit_at z 1 ≡ true → 1 ≤ past_fraction z 0
behind_point z p d =
    let n : (slice_index z 1 == 46) ≡ false = digit_no_point (slice_index z 1) d in
    rw (p, n) (omega arith)

sign_on : (z : List ℕ) (at : ℕ) (b : Bool) → at ≤ cond b (at + 1) at
sign_on z at true = omega arith
sign_on z at false = omega arith

exponent_by : (z : List ℕ) (at : ℕ) (b : Bool) → at ≤ cond b (past class.Digit z (past_sign z (at + 1))) at
exponent_by z at true = let s : at + 1 ≤ past_sign z (at + 1) = sign_on z (at + 1) _ in omega (arith, s)
exponent_by z at false = omega arith

exponent_on : (z : List ℕ) (at : ℕ) → at ≤ past_exponent z at
exponent_on z at = exponent_by z at (is_exponent z at)

same_long : (n m : ℕ) → (n == m) ≡ true → n ≡ m
same_long n m h = grind (arith, h)

abbrev whole : List ℕ → ℕ
whole z = past class.Digit z 0

abbrev end : List ℕ → ℕ
end z = past_exponent z (past_fraction z (whole z))

no_point : (z : List ℕ) → is_digit_at z 0 ≡ false → begins_number z ≡ true → end z ≡ whole z → ⊥
no_point z f h e =
    let p = both_true (slice_index z 0 == 46) (is_digit_at z 1) (second_true (is_digit_at z 0) _ f h) in
    let none : whole z ≡ 0 = no_digits z f in
    let on : 1 ≤ past_fraction z (whole z) = subst (λ n. 1 ≤ past_fraction z n) (sym none) (behind_point z p.0 p.1) in
    let more : past_fraction z (whole z) ≤ end z = exponent_on z (past_fraction z (whole z)) in
    omega (arith, none, on, more, e)

some_there : (z : List ℕ) (f : Bool) → is_digit_at z 0 ≡ f → begins_number z ≡ true → end z ≡ whole z → 0 < length (take (prefix_len (belongs class.Digit) z) z)
some_there z true f h e = some_digits z f
some_there z false f h e = absurd (no_point z f h e)

pub digits_there : (z : List ℕ) → begins_number z ≡ true → (end z == whole z) ≡ true → AreDigits (take (end z) z)
digits_there z h e =
    let same = same_long (end z) (whole z) e in
    let n : prefix_len (belongs class.Digit) z ≡ end z = omega (arith, same) in
    subst (λ m. AreDigits (take m z)) n (record { some = some_there z (is_digit_at z 0) refl h same; digits = front_of (belongs class.Digit) z })
