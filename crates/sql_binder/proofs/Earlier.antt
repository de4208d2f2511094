-- Names that may not stand twice: one step along a list.
use Rattle.std.proofs.Common.{ℕ, ◌+◌, ◌<◌, ◌≡◌, List, [], ◌∷◌, ◌++◌, map, take, drop, length, get_or, sym, ap, ◌∙◌}
use Rattle.std.proofs.lemmas.List.{map-append}
use Rattle.sql_ast.specs.declared.select.FromItem.{FromItem}
use Rattle.sql_ast.specs.Queries.{joined_tree}
use Rattle.expression_binder.proofs.Lists.{earlier_step, later_step}
use Rattle.sql_binder.specs.From.{item_name, once_faults, twice_faults}

abbrev pub item_names : List FromItem → List (List ℕ)
item_names xs = map item_name (map joined_tree xs)

pub twice_step : (xs : List FromItem) (i : ℕ) (x : FromItem) → i < length xs → x ≡ get_or xs i x
    → twice_faults (item_names (take i xs)) (item_names (drop i xs)) ≡ once_faults (item_names (take i xs)) (item_name (joined_tree x)) ++ twice_faults (item_names (take (i + 1) xs)) (item_names (drop (i + 1) xs))
twice_step xs i x within is =
    let n = item_name (joined_tree x) in
    let before = item_names (take i xs) in
    let behind = item_names (drop (i + 1) xs) in
    let later : item_names (drop i xs) ≡ n ∷ behind = ap (map item_name) (later_step joined_tree xs i x within is) in
    let earlier : item_names (take (i + 1) xs) ≡ before ++ n ∷ [] = ap (map item_name) (earlier_step joined_tree xs i x within is) ∙ map-append item_name (map joined_tree (take i xs)) (joined_tree x ∷ []) in
    ap (twice_faults before) later ∙ ap (λ ns. once_faults before n ++ twice_faults ns behind) (sym earlier)
