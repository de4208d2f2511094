-- The digits of a number without the zeros before them are digits, and none of those zeros is left.
use Rattle.std.proofs.Common.{◌≡◌, ℕ, suc, ◌+◌, ◌<◌, Bool, true, false, ◌==◌, List, [], ◌∷◌, length, refl, arith}
use Rattle.std.specs.List.{prefix_len}
use Rattle.sql_tokens.specs.Bytes.{belongs}
use Rattle.sql_tokens.specs.declared.bytes.Class.TheVariants as class
use Rattle.sql_syntax.specs.Setting.{without_zeros}
use Rattle.sql_written.proofs.NumbersSay.{AreDigits}
use Rattle.sql_written.specs.WritableCommands.{IsNumeral}

pub digits_of : (z : List ℕ) → IsNumeral z → AreDigits z
digits_of z w = record { some = w.0; digits = w.1 }

behind_first : (b : ℕ) (z : List ℕ) (f : Bool) → belongs class.Digit b ≡ f → prefix_len (belongs class.Digit) (b ∷ z) ≡ suc (length z) → prefix_len (belongs class.Digit) z ≡ length z
behind_first b z true i e = let one : 1 + prefix_len (belongs class.Digit) z ≡ suc (length z) = rw i at e in omega arith
behind_first b z false i e = let none : 0 ≡ suc (length z) = rw i at e in absurd (omega arith)

numeral_by : (b c : ℕ) (z : List ℕ) (f : Bool) → (b == 48) ≡ f → prefix_len (belongs class.Digit) (b ∷ c ∷ z) ≡ length (b ∷ c ∷ z) → IsNumeral (without_zeros (c ∷ z)) → IsNumeral (without_zeros (b ∷ c ∷ z))
numeral_by b c z true i e on = rw i on
numeral_by b c z false i e on = rw i (omega arith, e, rw i refl)

pub numeral : (z : List ℕ) → AreDigits z → IsNumeral (without_zeros z)
numeral [] d = absurd (omega (arith, d.some))
numeral (b ∷ []) d = (d.some, d.digits, refl)
numeral (b ∷ c ∷ z) d =
    numeral_by b c z (b == 48) refl d.digits (numeral (c ∷ z) (record { some = omega arith; digits = behind_first b (c ∷ z) (belongs class.Digit b) refl d.digits }))
