-- Lists of conditions, and the columns that are found in them.
use Rattle.std.proofs.Common.{◌≡◌, ℕ, suc, ◌+◌, ◌<◌, add-one, drop-cons, drop, get_or, length, append-nil, Bool, true, false, List, [], ◌∷◌, ◌++◌, map, refl, sym, ap, ◌∙◌, arith}
use Rattle.pg_values.specs.declared.value.Value.{Value}
use Rattle.cond_logic.specs.declared.cond.ColumnId.{ColumnId}
use Rattle.cond_logic.specs.declared.cond.Cond.{Cond}
use Rattle.cond_logic.specs.declared.cond.CondList.{CondList}
use Rattle.cond_logic.specs.declared.cond.Cond.TheFolds.{fold_out-CondList}
use Rattle.cond_logic.specs.Trees.{CondTree, CondTrees, and_more, listed, level, list_level, cond_tree, cond_trees}
use Rattle.cond_logic.specs.Rewriting.{pushed, negation, pushed_if, all_pushed_if, with_args, all_with_args}
use Rattle.cond_logic.specs.Columns.{once_more, with_new, columns_of, all_columns}

pub all_pushed_listed : {A : Type 0} (f : A → CondTree) (negated : Bool) (xs : List A) → all_pushed_if negated (listed (map f xs)) ≡ listed (map (λ x. pushed_if negated (f x)) xs)
all_pushed_listed f true [] = refl
all_pushed_listed f false [] = refl
all_pushed_listed f true (x ∷ xs) = ap (and_more (negation (f x))) (all_pushed_listed f true xs)
all_pushed_listed f false (x ∷ xs) = ap (and_more (pushed (f x))) (all_pushed_listed f false xs)

pub all_with_args_listed : {A : Type 0} (f : A → CondTree) (args : List Value) (xs : List A) → all_with_args args (listed (map f xs)) ≡ listed (map (λ x. with_args args (f x)) xs)
all_with_args_listed f args [] = refl
all_with_args_listed f args (x ∷ xs) = ap (and_more (with_args args (f x))) (all_with_args_listed f args xs)

pub with_new_append : (found xs ys : List ColumnId) → with_new found (xs ++ ys) ≡ with_new (with_new found xs) ys
with_new_append found [] ys = refl
with_new_append found (x ∷ xs) ys = with_new_append (once_more found x) xs ys

-- where nothing is left of a list, what was made of it is all
pub all_made : {A B : Type 0} (f : A → B) (made : List B) (xs rest : List A) → length rest ≡ 0 → made ++ map f rest ≡ map f xs → made ≡ map f xs
all_made f made xs [] none told = sym (append-nil made) ∙ told
all_made f made xs (y ∷ ys) none told = absurd (omega (arith, none))

pub trees_of : (l : CondList) → cond_trees l ≡ listed (map cond_tree l.conds.items)
trees_of l = fold_out-CondList CondTree CondTrees level list_level l

pub columns_step : (found now : List ColumnId) (conds : List Cond) (i : ℕ) (c : Cond) → i < length conds → c ≡ get_or conds i c → now ≡ with_new found (columns_of (cond_tree c))
    → with_new now (all_columns (listed (map cond_tree (drop (i + 1) conds)))) ≡ with_new found (all_columns (listed (map cond_tree (drop i conds))))
columns_step found now conds i c less is added =
    let rest = all_columns (listed (map cond_tree (drop (suc i) conds))) in
    rw (added, drop-cons conds i c less, add-one i) (sym (with_new_append found (columns_of (cond_tree c)) rest) ∙ ap (λ y. with_new found (columns_of (cond_tree y) ++ rest)) is)
