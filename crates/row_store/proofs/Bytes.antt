-- The bytes of the values of a row, one after another.
use Rattle.std.proofs.Common.{◌≡◌, ℕ, ◌+◌, ◌<◌, ◌≤◌, zero, suc, arith, ap, ◌∙◌, List, [], ◌∷◌, ◌++◌, length, take, get_or}
use Rattle.std.proofs.lemmas.List.{take_more}
use Rattle.pg_values.specs.declared.value.Value.{Value}
use Rattle.row_store.specs.Limits.{value_bytes, row_bytes}

bytes_behind : (xs : List Value) (x : Value) → row_bytes (xs ++ x ∷ []) ≡ row_bytes xs + value_bytes x
bytes_behind [] x = omega arith
bytes_behind (y ∷ ys) x = omega (arith, bytes_behind ys x)

pub bytes_more : (xs : List Value) (i : ℕ) (d : Value) → i < length xs → row_bytes (take (i + 1) xs) ≡ row_bytes (take i xs) + value_bytes (get_or xs i d)
bytes_more xs i d lt = ap row_bytes (take_more xs i d lt) ∙ bytes_behind (take i xs) (get_or xs i d)

pub bytes_up_to : (xs : List Value) (i : ℕ) (d : Value) → i < length xs → row_bytes (take i xs) + value_bytes (get_or xs i d) ≤ row_bytes xs
bytes_up_to [] i d lt = absurd (omega arith)
bytes_up_to (x ∷ xs) zero d lt = omega arith
bytes_up_to (x ∷ xs) (suc i) d lt = omega (arith, bytes_up_to xs i d (omega (arith, lt)))
