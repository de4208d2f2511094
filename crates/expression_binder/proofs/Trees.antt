-- Expressions and their trees: how much is left, part by part, and the tree by its operands.
use Rattle.std.proofs.Common.{Box, Global, Bool, add-one, drop-cons, zero, ◌≡◌, ℕ, suc, ◌+◌, ◌<◌, ◌≤◌, List, [], ◌∷◌, map, length, drop, get_or, sym, ap, ◌∙◌, arith}
use Rattle.sql_ast.specs.declared.expr.Expr.{Expr, Negated, Binary, Between, IsNull, Not}
use Rattle.sql_ast.specs.declared.expr.Expr.TheFolds.{fold-roll-Expr}
use Rattle.sql_ast.specs.declared.expr.Expr.TheOpen.{Negated as negated-F, Binary as binary-F, Between as between-F, IsNull as null-F, Not as not-F}
use Rattle.sql_ast.specs.declared.expr.Expr.TheVariants.{rolls-Negated, rolls-Binary, rolls-Between, rolls-IsNull, rolls-Not}
use Rattle.sql_ast.specs.declared.leaf.Operator.{Operator}
use Rattle.sql_ast.specs.Expressions.{layer, list_layer, tree, Tree, Trees, no_more, and_more, leaf, call, call_of_all, negated, binary, in_list, between, is_null, inverted, all_of, any_of, listed}

abbrev mutual
  pub weight : Tree → ℕ
  weight (leaf l) = 1
  weight (call f ts) = suc (weights ts)
  weight (call_of_all f) = 1
  weight (negated e) = suc (weight e)
  weight (binary op x y) = suc (weight x + weight y)
  weight (in_list b x ts) = suc (weight x + weights ts)
  weight (between b x from to) = suc (weight x + (weight from + weight to))
  weight (is_null b x) = suc (weight x)
  weight (inverted e) = suc (weight e)
  weight (all_of ts) = suc (weights ts)
  weight (any_of ts) = suc (weights ts)

  pub weights : Trees → ℕ
  weights no_more = 0
  weights (and_more t ts) = weight t + weights ts

pub part_less : (parts : List Expr) (i : ℕ) (x : Expr) → i < length parts → x ≡ get_or parts i x → weight (tree x) ≤ weights (listed (map tree parts))
part_less [] i x h e = absurd (omega arith)
part_less (y ∷ ys) zero x h e = let w = ap (λ z. weight (tree z)) e in omega (arith, w)
part_less (y ∷ ys) (suc i) x h e = let w = part_less ys i x (omega arith) e in omega (arith, w)

pub parts_step : (parts : List Expr) (i : ℕ) (x : Expr) → i < length parts → x ≡ get_or parts i x → listed (map tree (drop i parts)) ≡ and_more (tree x) (listed (map tree (drop (i + 1) parts)))
parts_step parts i x h e =
    ap (λ l. listed (map tree l)) (drop-cons parts i x h)
    ∙ (ap (λ y. and_more (tree y) (listed (map tree (drop (suc i) parts)))) (sym e) ∙ ap (λ n. and_more (tree x) (listed (map tree (drop n parts)))) (sym (add-one i)))

module _ (b : Bool) (e l r : Box Expr Global) where
  pub negated_is : tree (Negated e) ≡ negated (tree e.value)
  negated_is = ap tree (sym (rolls-Negated e)) ∙ fold-roll-Expr Tree Trees layer list_layer (negated-F e)

  pub binary_is : (op : Operator) → tree (Binary op l r) ≡ binary op (tree l.value) (tree r.value)
  binary_is op = ap tree (sym (rolls-Binary op l r)) ∙ fold-roll-Expr Tree Trees layer list_layer (binary-F op l r)

  pub null_is : tree (IsNull b e) ≡ is_null b (tree e.value)
  null_is = ap tree (sym (rolls-IsNull b e)) ∙ fold-roll-Expr Tree Trees layer list_layer (null-F b e)

  pub not_is : tree (Not e) ≡ inverted (tree e.value)
  not_is = ap tree (sym (rolls-Not e)) ∙ fold-roll-Expr Tree Trees layer list_layer (not-F e)

  pub between_is : tree (Between b e l r) ≡ between b (tree e.value) (tree l.value) (tree r.value)
  between_is = ap tree (sym (rolls-Between b e l r)) ∙ fold-roll-Expr Tree Trees layer list_layer (between-F b e l r)
