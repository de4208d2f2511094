-- Places one after the other, and how many values a row has.
use Rattle.std.proofs.Common.{ℕ, zero, suc, ◌+◌, ◌≡◌, List, [], ◌∷◌, ◌++◌, map, length, refl, ap, ◌∙◌, add-one, arith}
use Rattle.sql_ast.specs.declared.expr.Expr.{Expr}
use Rattle.sql_ast.specs.Expressions.{tree, listed}
use Rattle.sql_binder.specs.Inserts.{from_to, count_of}

-- one place more
pub from_to_more : (place n : ℕ) → from_to place (suc n) ≡ from_to place n ++ (place + n) ∷ []
from_to_more place zero = ap (λ p. p ∷ []) (omega arith)
from_to_more place (suc n) = ap (λ ps. place ∷ ps) (from_to_more (place + 1) n ∙ ap (λ p. from_to (place + 1) n ++ p ∷ []) (omega arith))

-- the first places, one more
pub first_next : (n : ℕ) → from_to 0 (n + 1) ≡ from_to 0 n ++ n ∷ []
first_next n = ap (from_to 0) (add-one n) ∙ (from_to_more 0 n ∙ ap (λ p. from_to 0 n ++ p ∷ []) (omega arith))

pub count_is : (es : List Expr) → count_of (listed (map tree es)) ≡ length es
count_is [] = refl
count_is (e ∷ es) = ap (λ n. n + 1) (count_is es) ∙ add-one (length es)
