-- The items of FROM, one after the other.
use Rattle.std.proofs.Common.{◌≡◌, ℕ, suc, ◌+◌, ◌<◌, arith, List, [], ◌∷◌, ◌++◌, length, get_or, drop, map, sym, ap, ◌∙◌, append_assoc, add-one, drop-cons}
use Rattle.row_router.specs.Trees.{TableTree}
use Rattle.expression_binder.specs.Scopes.{Item}
use Rattle.sql_ast.specs.Queries.{Joined}
use Rattle.sql_binder.specs.From.{item_name}
use Rattle.plan_text.specs.declared.named_item.NamedItem.{NamedItem}
use Rattle.select_statement.specs.Explained.{named_item, named_items}
use Rattle.select_statement.specs.Items.{item_of, items_of}

pub from_here : {X : Type 0} (xs : List X) (i : ℕ) (x : X) → i < length xs → x ≡ get_or xs i x → drop i xs ≡ x ∷ drop (i + 1) xs
from_here xs i x less is = rw (add-one i) (drop-cons xs i x less ∙ ap (λ y. y ∷ drop (suc i) xs) (sym is))

-- one item more
pub one_item : {F T : Type 0} (f : F → Joined) (s : T → TableTree) (from : List F) (trees : List T) (i : ℕ) (j : F) (t : T) (before now : List Item) (n : ℕ) (item : Item) {all : List Item} → i < length from → length from ≡ length trees → j ≡ get_or from i j → t ≡ get_or trees i t
    → item ≡ item_of n (item_name (f j)) (s t) → now ≡ before ++ item ∷ [] → before ++ items_of n (map f (drop i from)) (map s (drop i trees)) ≡ all → now ++ items_of (n + 1) (map f (drop (i + 1) from)) (map s (drop (i + 1) trees)) ≡ all
one_item f s from trees i j t before now n item less each here there is more told =
    let rest = items_of (n + 1) (map f (drop (i + 1) from)) (map s (drop (i + 1) trees)) in
    ap (λ l. l ++ rest) more ∙ append_assoc before (item ∷ []) rest ∙ ap (λ x. before ++ (x ∷ rest)) is
    ∙ ap (λ xs. before ++ items_of n (map f xs) (map s (t ∷ drop (i + 1) trees))) (sym (from_here from i j less here))
    ∙ ap (λ ys. before ++ items_of n (map f (drop i from)) (map s ys)) (sym (from_here trees i t (omega (arith, less, each)) there)) ∙ told

-- one name more
pub one_named : {F T : Type 0} (f : F → Joined) (s : T → TableTree) (from : List F) (trees : List T) (i : ℕ) (j : F) (t : T) (before now : List NamedItem) (item : NamedItem) {all : List NamedItem} → i < length from → length from ≡ length trees → j ≡ get_or from i j → t ≡ get_or trees i t
    → item ≡ named_item (f j) (s t) → now ≡ before ++ item ∷ [] → before ++ named_items (map f (drop i from)) (map s (drop i trees)) ≡ all → now ++ named_items (map f (drop (i + 1) from)) (map s (drop (i + 1) trees)) ≡ all
one_named f s from trees i j t before now item less each here there is more told =
    let rest = named_items (map f (drop (i + 1) from)) (map s (drop (i + 1) trees)) in
    ap (λ l. l ++ rest) more ∙ append_assoc before (item ∷ []) rest ∙ ap (λ x. before ++ (x ∷ rest)) is
    ∙ ap (λ xs. before ++ named_items (map f xs) (map s (t ∷ drop (i + 1) trees))) (sym (from_here from i j less here))
    ∙ ap (λ ys. before ++ named_items (map f (drop i from)) (map s ys)) (sym (from_here trees i t (omega (arith, less, each)) there)) ∙ told
