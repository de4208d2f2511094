-- What one level of a tree says of the child that was chosen.
use Rattle.std.proofs.Common.{◌≡◌, ℕ, ◌<◌, ◌≤◌, zero, suc, arith, ap, refl, sym, subst, ◌∙◌, List, [], ◌∷◌, Some, None, Err, map, length, get_or, position, Bool}
use Rattle.std.proofs.lemmas.Grind.{common_steps}
use Rattle.std.proofs.lemmas.List.Quantifiers.{position-Some}
use Rattle.std.specs.List.{All}
use Rattle.pg_values.specs.declared.value.Value.{Value}
use Rattle.pg_values.specs.declared.ids.TableNo.{TableNo}
use Rattle.bound_forms.specs.declared.partition_bound.Bound.{Bound}
use Rattle.bound_forms.specs.declared.partition_bound.Bound.TheVariants.{Default}
use Rattle.bound_forms.specs.declared.level.Level.{Level}
use Rattle.bound_forms.specs.Bounds.{IsInPlainOrder}
use Rattle.bound_forms.specs.Accepts.{accepts_among, FitsSet}
use Rattle.row_router.specs.declared.tree.Tree.{Tree}
use Rattle.row_router.specs.declared.tree.Shape.{Level as ShapeLevel}
use Rattle.row_router.specs.declared.tree.TreeList.{TreeList}
use Rattle.row_router.specs.Trees.{TableTree, LevelTable, Trees, trees_of, count, key_of, child_of, accepting, routed, routed_in, Fits, AllFit, height, heights}
use Rattle.row_router.specs.Seen.{seen, items_of}
use Rattle.row_router.proofs.Seen.{seen_level}
use Rattle.row_router.proofs.OneLeaf.{accepts_once, one_child, at_place}

pub count_is : {T : Type 0} (f : T → TableTree) (ks : List T) → count (trees_of (map f ks)) ≡ length ks
count_is f [] = refl
count_is f (k ∷ ks) = omega (arith, count_is f ks)

-- what all children say of the one that was read
record Child (row : List Value) (table : TableNo) (i : ℕ) (kids : Trees) (t : TableTree) : Type 0 where
  routed : routed_in row table (Some i) kids ≡ routed row t
  accepts : at_place row (Some i) kids ≡ accepting row t
  fits : AllFit row kids → Fits row t
  lower : height t ≤ heights kids

child : {T : Type 0} (f : T → TableTree) (row : List Value) (table : TableNo) (i : ℕ) (ks : List T) (k : T) → i < length ks → k ≡ get_or ks i k → Child row table i (trees_of (map f ks)) (f k)
child f row table i [] k lt is = absurd (omega arith)
child f row table zero (x ∷ ks) k lt is = subst (λ y. Child row table 0 (trees_of (map f (x ∷ ks))) (f y)) (sym is) (record { routed = refl; accepts = refl; fits = λ all. all.0; lower = omega arith })
child f row table (suc i) (x ∷ ks) k lt is =
    let r = child f row table i ks k (omega arith) is in
    record { routed = r.routed; accepts = r.accepts; fits = λ all. r.fits all.1; lower = omega (arith, r.lower) }

-- a level that a row may be asked of
pub record Here (row : List Value) (level : Level) (bounds : List Bound) (kids : TreeList) : Type 0 where
  pub paired : length bounds ≡ length (items_of kids)
  pub inside : All (λ c. c.position < length row) level.columns
  pub key : FitsSet bounds (key_of level row)

pub here : (t : Tree) (row : List Value) (level : Level) (bounds : List Bound) (kids : TreeList) → t.shape ≡ ShapeLevel level bounds kids → Fits row (seen t) → Here row level bounds kids
here t row level bounds kids is fits =
    let f : Fits row (LevelTable t.node level bounds (trees_of (map seen (items_of kids)))) = subst (Fits row) (seen_level t level bounds kids is) fits in
    record { paired = f.0 ∙ count_is seen (items_of kids); inside = f.1; key = f.2 }

-- the child that was chosen
pub record Chosen (t : Tree) (row : List Value) (x : Tree) : Type 0 where
  pub fits : Fits row (seen x)
  pub way : routed row (seen t) ≡ routed row (seen x)
  pub accept : accepting row (seen t) ≡ accepting row (seen x)
  pub lower : height (seen x) < height (seen t)

pub chosen : (t : Tree) (row : List Value) (level : Level) (bounds : List Bound) (kids : TreeList) (i : ℕ) (x : Tree) → t.shape ≡ ShapeLevel level bounds kids → Fits row (seen t) → IsInPlainOrder bounds → Some i ≡ child_of level bounds row → i < length bounds → x ≡ get_or (items_of kids) i x → Chosen t row x
chosen t row level bounds kids i x is fits ord found within at =
    let h = here t row level bounds kids is fits in
    let lt : i < length (items_of kids) = omega (arith, within, h.paired) in
    let s = seen_level t level bounds kids is in
    let f : Fits row (LevelTable t.node level bounds (trees_of (map seen (items_of kids)))) = subst (Fits row) s fits in
    let below = trees_of (map seen (items_of kids)) in
    let c = child seen row t.node.table i (items_of kids) x lt at in
    let test = accepts_among bounds (key_of level row) in
    record {
      fits = c.fits f.3;
      way = ap (routed row) s ∙ ap (λ o. routed_in row t.node.table o below) (sym found) ∙ c.routed;
      accept = ap (accepting row) s ∙ one_child row test bounds below f.0 (accepts_once bounds (key_of level row) ord) ∙ ap (λ o. at_place row o below) (sym found) ∙ c.accepts;
      lower = rw s (grind (arith, common_steps, c.lower));
    }

-- no child was found
pub none_chosen : (t : Tree) (row : List Value) (level : Level) (bounds : List Bound) (kids : TreeList) → t.shape ≡ ShapeLevel level bounds kids → Fits row (seen t) → IsInPlainOrder bounds → None ≡ child_of level bounds row → (routed row (seen t) ≡ Err (record { table = t.node.table })) × (accepting row (seen t) ≡ [])
none_chosen t row level bounds kids is fits ord found =
    let s = seen_level t level bounds kids is in
    let f : Fits row (LevelTable t.node level bounds (trees_of (map seen (items_of kids)))) = subst (Fits row) s fits in
    let below = trees_of (map seen (items_of kids)) in
    let test = accepts_among bounds (key_of level row) in (
      ap (routed row) s ∙ ap (λ o. routed_in row t.node.table o below) (sym found),
      ap (accepting row) s ∙ one_child row test bounds below f.0 (accepts_once bounds (key_of level row) ord) ∙ ap (λ o. at_place row o below) (sym found),
    )

-- a child that was found is one of the bounds
pub found_within : (test : Bound → Bool) (bounds : List Bound) (i : ℕ) → Some i ≡ position test bounds → i < length bounds
found_within test bounds i found = (position-Some test bounds i Default (sym found)).0
