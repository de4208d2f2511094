-- Values are listed where their keys are.
use Rattle.std.proofs.Common.{◌≡◌, Bool, true, false, ◌||◌, List, [], ◌∷◌, ◌++◌, map, refl, sym, ap, ◌∙◌, if◌then◌else◌}
use Rattle.std.specs.List.{list_any}
use Rattle.std.proofs.lemmas.List.{map-append}
use Rattle.pg_values.specs.declared.value.Value.{Value}
use Rattle.bound_forms.specs.Listed.{is_same, lists}
use Rattle.bound_forms.proofs.ListedLaws.{same_turned}
use Rattle.table_binder.specs.declared.listed_value.ListedValue.{ListedValue}
use Rattle.table_binder.specs.ListedValues.{value_of, values_in}

any_listed : (k : ListedValue) (ks : List ListedValue) → list_any (λ x. is_same (value_of k) (value_of x)) ks ≡ lists (values_in ks) (value_of k)
any_listed k [] = refl
any_listed k (x ∷ ks) =
    ap (λ t. t || list_any (λ y. is_same (value_of k) (value_of y)) ks) (same_turned (value_of k) (value_of x)) ∙ ap (λ t. is_same (value_of x) (value_of k) || t) (any_listed k ks)

-- a key is put last unless its value is listed
pub put_once : (ks new : List ListedValue) (k : ListedValue) → new ≡ (if list_any (λ x. is_same (value_of k) (value_of x)) ks then ks else ks ++ k ∷ [])
    → values_in new ≡ (if lists (values_in ks) (value_of k) then values_in ks else values_in ks ++ value_of k ∷ [])
put_once ks new k is = by (lists (values_in ks) (value_of k)) (is ∙ ap (λ t. if t then ks else ks ++ k ∷ []) (any_listed k ks))
  where
    by : (t : Bool) → new ≡ (if t then ks else ks ++ k ∷ []) → values_in new ≡ (if t then values_in ks else values_in ks ++ value_of k ∷ [])
    by true e = ap values_in e
    by false e = ap values_in e ∙ map-append value_of ks (k ∷ [])
