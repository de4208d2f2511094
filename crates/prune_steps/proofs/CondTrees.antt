-- Conditions and their trees: how much is left, part by part.
use Rattle.std.proofs.Common.{Box, Global, ◌≡◌, ℕ, zero, suc, ◌+◌, ◌<◌, ◌≤◌, true, false, List, [], ◌∷◌, map, length, drop, get_or, add-one, drop-cons, refl, sym, ap, ◌∙◌, arith}
use Rattle.cond_logic.specs.declared.cond.CompareOp.{CompareOp}
use Rattle.cond_logic.specs.declared.cond.Cond.{Cond}
use Rattle.cond_logic.specs.declared.cond.CondList.{CondList}
use Rattle.cond_logic.specs.declared.cond.Cond.TheFolds.{fold_out-Cond, fold-roll-Cond}
use Rattle.cond_logic.specs.declared.cond.Cond.TheOpen.{Not as not-F}
use Rattle.cond_logic.specs.declared.cond.Cond.TheVariants.{Compare, IsNull, Not, Const, rolls-Not}
use Rattle.cond_logic.specs.declared.cond.Cond.TheViews.{And, Or, out-Cond, outs-And, outs-Or}
use Rattle.cond_logic.specs.declared.cond.Operand.{Operand}
use Rattle.cond_logic.specs.declared.truth.Truth3.{Truth3}
use Rattle.cond_logic.specs.Trees.{CondTree, CondTrees, no_more, and_more, all_of, any_of, inverted, compares, null_test, known, listed, level, list_level, cond_tree, cond_trees}
use Rattle.prune_steps.specs.Atoms.{is_one}

abbrev mutual
  pub weight : CondTree → ℕ
  weight (all_of ts) = suc (weights ts)
  weight (any_of ts) = suc (weights ts)
  weight (inverted t) = 1
  weight (compares op x y) = 1
  weight (null_test x) = 1
  weight (known t) = 1

  pub weights : CondTrees → ℕ
  weights no_more = 0
  weights (and_more t ts) = weight t + weights ts

pub part_less : (parts : List Cond) (i : ℕ) (x : Cond) → i < length parts → x ≡ get_or parts i x → weight (cond_tree x) ≤ weights (listed (map cond_tree parts))
part_less [] i x h e = absurd (omega arith)
part_less (y ∷ ys) zero x h e = let w = ap (λ z. weight (cond_tree z)) e in omega (arith, w)
part_less (y ∷ ys) (suc i) x h e = let w = part_less ys i x (omega arith) e in omega (arith, w)

pub parts_step : (parts : List Cond) (i : ℕ) (x : Cond) → i < length parts → x ≡ get_or parts i x → listed (map cond_tree (drop i parts)) ≡ and_more (cond_tree x) (listed (map cond_tree (drop (i + 1) parts)))
parts_step parts i x h e =
    ap (λ l. listed (map cond_tree l)) (drop-cons parts i x h)
    ∙ (ap (λ y. and_more (cond_tree y) (listed (map cond_tree (drop (suc i) parts)))) (sym e) ∙ ap (λ n. and_more (cond_tree x) (listed (map cond_tree (drop n parts)))) (sym (add-one i)))

and_is : (l : CondList) → cond_tree (And l) ≡ all_of (cond_trees l)
and_is l = fold_out-Cond CondTree CondTrees level list_level (And l) ∙ rw (outs-And l) refl

or_is : (l : CondList) → cond_tree (Or l) ≡ any_of (cond_trees l)
or_is l = fold_out-Cond CondTree CondTrees level list_level (Or l) ∙ rw (outs-Or l) refl

-- an AND is all of its parts, and an OR any of its choices
pub of_and : (cond : Cond) (l : CondList) (xs : List Cond) → cond ≡ And l → listed (map cond_tree xs) ≡ cond_trees l → cond_tree cond ≡ all_of (listed (map cond_tree xs))
of_and cond l xs is at = ap cond_tree is ∙ (and_is l ∙ ap all_of (sym at))

pub of_or : (cond : Cond) (l : CondList) (xs : List Cond) → cond ≡ Or l → listed (map cond_tree xs) ≡ cond_trees l → cond_tree cond ≡ any_of (listed (map cond_tree xs))
of_or cond l xs is at = ap cond_tree is ∙ (or_is l ∙ ap any_of (sym at))

pub and_less : (cond : Cond) (l : CondList) (xs : List Cond) → cond ≡ And l → listed (map cond_tree xs) ≡ cond_trees l → suc (weights (listed (map cond_tree xs))) ≡ weight (cond_tree cond)
and_less cond l xs is at = sym (ap weight (of_and cond l xs is at))

pub or_less : (cond : Cond) (l : CondList) (xs : List Cond) → cond ≡ Or l → listed (map cond_tree xs) ≡ cond_trees l → suc (weights (listed (map cond_tree xs))) ≡ weight (cond_tree cond)
or_less cond l xs is at = sym (ap weight (of_or cond l xs is at))

-- ---- one condition, or several

pub one_is : (xs : List Cond) → length xs ≡ 1 → is_one (listed (map cond_tree xs)) ≡ true
one_is [] h = absurd (omega (arith, h))
one_is (x ∷ []) h = refl
one_is (x ∷ (y ∷ xs)) h = absurd (omega (arith, h))

pub not_one : (xs : List Cond) → (length xs ≡ 1 → ⊥) → is_one (listed (map cond_tree xs)) ≡ false
not_one [] h = refl
not_one (x ∷ []) h = absurd (h refl)
not_one (x ∷ (y ∷ xs)) h = refl

-- ---- conditions without parts

pub compares_is : (op : CompareOp) (x y : Operand) → cond_tree (Compare op x y) ≡ compares op x y
unfolding out-Cond denote.Hole.Carrier.out
compares_is op x y = fold_out-Cond CondTree CondTrees level list_level (Compare op x y)

pub null_is : (x : Operand) → cond_tree (IsNull x) ≡ null_test x
unfolding out-Cond denote.Hole.Carrier.out
null_is x = fold_out-Cond CondTree CondTrees level list_level (IsNull x)

pub const_is : (t : Truth3) → cond_tree (Const t) ≡ known t
unfolding out-Cond denote.Hole.Carrier.out
const_is t = fold_out-Cond CondTree CondTrees level list_level (Const t)

pub not_is : (c : Box Cond Global) → cond_tree (Not c) ≡ inverted (cond_tree c.value)
not_is c = ap cond_tree (sym (rolls-Not c)) ∙ fold-roll-Cond CondTree CondTrees level list_level (not-F c)
