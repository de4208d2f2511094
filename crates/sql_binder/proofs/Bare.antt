-- A list with an expression in it.
use Rattle.std.proofs.Common.{◌≡◌, ℕ, ◌≤◌, false, List, [], ◌∷◌, map, length, ap, arith}
use Rattle.sql_ast.specs.declared.expr.Expr.{Expr}
use Rattle.sql_ast.specs.Expressions.{Trees, tree, listed}
use Rattle.sql_binder.specs.Same.{is_bare}

pub not_bare : (es : List Expr) (ts : Trees) → 1 ≤ length es → listed (map tree es) ≡ ts → false ≡ is_bare ts
not_bare [] ts h e = absurd (omega (arith, h))
not_bare (x ∷ es) ts h e = ap is_bare e
