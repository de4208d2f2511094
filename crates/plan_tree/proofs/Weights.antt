-- How much of a condition is left.
use Rattle.std.proofs.Common.{◌≡◌, ℕ, zero, suc, ◌+◌, ◌<◌, ◌≤◌, arith, List, [], ◌∷◌, map, length, get_or, ap, sym}
use Rattle.cond_logic.specs.declared.cond.Cond.{Cond}
use Rattle.cond_logic.specs.declared.cond.CondList.{CondList}
use Rattle.cond_logic.specs.declared.cond.Cond.TheViews.{And, Or}
use Rattle.cond_logic.specs.Trees.{CondTree, CondTrees, no_more, and_more, all_of, any_of, inverted, compares, null_test, known, listed, cond_tree, cond_trees}
use Rattle.prune_steps.proofs.CondTrees.{of_and, of_or}

abbrev mutual
  pub weight : CondTree → ℕ
  weight (all_of ts) = suc (weights ts)
  weight (any_of ts) = suc (weights ts)
  weight (inverted t) = suc (weight t)
  weight (compares op x y) = 1
  weight (null_test x) = 1
  weight (known t) = 1

  pub weights : CondTrees → ℕ
  weights no_more = 0
  weights (and_more t ts) = weight t + weights ts

pub part_less : (parts : List Cond) (i : ℕ) (x : Cond) → i < length parts → x ≡ get_or parts i x → weight (cond_tree x) ≤ weights (listed (map cond_tree parts))
part_less [] i x h e = absurd (omega arith)
part_less (y ∷ ys) zero x h e = let w = ap (λ z. weight (cond_tree z)) e in omega (arith, w)
part_less (y ∷ ys) (suc i) x h e = let w = part_less ys i x (omega arith) e in omega (arith, w)

pub and_less : (cond : Cond) (l : CondList) (xs : List Cond) → cond ≡ And l → listed (map cond_tree xs) ≡ cond_trees l → suc (weights (listed (map cond_tree xs))) ≡ weight (cond_tree cond)
and_less cond l xs is at = sym (ap weight (of_and cond l xs is at))

pub or_less : (cond : Cond) (l : CondList) (xs : List Cond) → cond ≡ Or l → listed (map cond_tree xs) ≡ cond_trees l → suc (weights (listed (map cond_tree xs))) ≡ weight (cond_tree cond)
or_less cond l xs is at = sym (ap weight (of_or cond l xs is at))

pub not_less : (t u : CondTree) → t ≡ inverted u → suc (weight u) ≡ weight t
not_less t u is = sym (ap weight is)
