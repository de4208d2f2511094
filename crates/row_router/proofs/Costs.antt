-- What the way of a row has cost.
use Rattle.std.proofs.Common.{◌≡◌, ℕ, ◌+◌, ◌-◌, ◌*◌, ◌^◌, ◌<◌, ◌≤◌, zero, suc, arith, ap, refl, sym, subst, ◌∙◌, List, [], ◌∷◌, Some, None, map, length, get_or}
use Rattle.std.proofs.Math.Nat.{mul-le-mul_left, mul-le-mul_right, mul_assoc}
use Rattle.std.proofs.lemmas.Nat.{pow-add}
use Rattle.pg_values.specs.declared.value.Value.{Value}
use Rattle.bound_forms.specs.declared.partition_bound.Bound.{Bound}
use Rattle.bound_forms.specs.declared.level.Level.{Level}
use Rattle.row_router.specs.declared.tree.Tree.{Tree}
use Rattle.row_router.specs.declared.tree.Shape.{Level as ShapeLevel}
use Rattle.row_router.specs.declared.tree.TreeList.{TreeList}
use Rattle.row_router.specs.Trees.{TableTree, trees_of, child_of}
use Rattle.row_router.specs.Seen.{seen, items_of}
use Rattle.row_router.proofs.Seen.{seen_level}
use Rattle.row_router.specs.Costs.{outcomes, way_outcomes, outcomes_in}

at_child : {T : Type 0} (f : T → TableTree) (row : List Value) (i : ℕ) (ks : List T) (k : T) → i < length ks → k ≡ get_or ks i k → outcomes_in row (Some i) (trees_of (map f ks)) ≡ way_outcomes row (f k)
at_child f row i [] k lt is = absurd (omega arith)
at_child f row zero (x ∷ ks) k lt is = ap (λ y. way_outcomes row (f y)) (sym is)
at_child f row (suc i) (x ∷ ks) k lt is = at_child f row i ks k (omega arith) is

-- a level decides among its outcomes, and then the child that was chosen among those of its own
pub chosen_outcomes : (t : Tree) (row : List Value) (level : Level) (bounds : List Bound) (kids : TreeList) (i : ℕ) (x : Tree) → t.shape ≡ ShapeLevel level bounds kids → Some i ≡ child_of level bounds row → i < length (items_of kids) → x ≡ get_or (items_of kids) i x
    → way_outcomes row (seen t) ≡ outcomes bounds * way_outcomes row (seen x)
chosen_outcomes t row level bounds kids i x is found within at =
    let s = seen_level t level bounds kids is in
    let below = trees_of (map seen (items_of kids)) in
    ap (way_outcomes row) s ∙ ap (λ o. outcomes bounds * outcomes_in row o below) (sym found) ∙ ap (λ n. outcomes bounds * n) (at_child seen row i (items_of kids) x within at)

pub no_outcomes : (t : Tree) (row : List Value) (level : Level) (bounds : List Bound) (kids : TreeList) → t.shape ≡ ShapeLevel level bounds kids → None ≡ child_of level bounds row → way_outcomes row (seen t) ≡ outcomes bounds * 1
no_outcomes t row level bounds kids is found =
    let s = seen_level t level bounds kids is in
    let below = trees_of (map seen (items_of kids)) in
    ap (way_outcomes row) s ∙ ap (λ o. outcomes bounds * outcomes_in row o below) (sym found)

-- one level more
pub costs_more : (start now next n rest here all : ℕ) → start ≤ now → now ≤ next → 2 ^ (next - now) ≤ n → here ≡ n * rest → 2 ^ (now - start) * here ≤ all → 2 ^ (next - start) * rest ≤ all
costs_more start now next n rest here all later more cost is so_far =
    let steps : next - start ≡ (now - start) + (next - now) = omega arith in
    let split : 2 ^ (next - start) ≡ 2 ^ (now - start) * 2 ^ (next - now) = ap (λ k. 2 ^ k) steps ∙ pow-add 2 (now - start) (next - now) in
    let product : 2 ^ (next - start) * rest ≡ 2 ^ (now - start) * (2 ^ (next - now) * rest) = ap (λ k. k * rest) split ∙ mul_assoc (2 ^ (now - start)) (2 ^ (next - now)) rest in
    let fewer : 2 ^ (next - now) * rest ≤ n * rest = mul-le-mul_right rest cost in
    let bounded : 2 ^ (now - start) * (2 ^ (next - now) * rest) ≤ 2 ^ (now - start) * (n * rest) = mul-le-mul_left (2 ^ (now - start)) fewer in
    let whole : 2 ^ (now - start) * (n * rest) ≤ all = subst (λ k. 2 ^ (now - start) * k ≤ all) is so_far in
    subst (λ k. k ≤ all) (sym product) (omega (arith, bounded, whole))
