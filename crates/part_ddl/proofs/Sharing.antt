-- Whether a value is among those of a set's only list.
use Rattle.std.proofs.Common.{◌≡◌, ℕ, suc, ◌+◌, ◌<◌, ap, refl, sym, ◌∙◌, add-one, drop-cons, ◌||◌, Bool, true, false, if◌then◌else◌, List, [], ◌∷◌, Option, Some, None, drop, get_or, length}
use Rattle.std.specs.Prelude.{is_some}
use Rattle.std.specs.List.{list_any, position}
use Rattle.pg_values.specs.declared.value.Value.{Value}
use Rattle.pg_values.specs.declared.value.Value.TheVariants.{Null}
use Rattle.bound_forms.specs.declared.partition_bound.Bound.{Bound}
use Rattle.bound_forms.specs.declared.partition_bound.Bound.TheVariants.{List as Listed}
use Rattle.bound_forms.specs.Accepts.{accepts_among}
use Rattle.bound_forms.specs.Listed.{lists}
use Rattle.part_ddl.proofs.Suiting.{place_one}

or_none : (u : Bool) → (u || false) ≡ u
or_none true = refl
or_none false = refl

-- the child that is found tells it
pub found_in_one : (listed : List Value) (v : Value) (one : List Bound) (r : Option ℕ) (t : Bool) → one ≡ Listed listed ∷ [] → r ≡ position (accepts_among one (v ∷ [])) one → is_some r ≡ t → lists listed v ≡ t
found_in_one listed v one r t is told test =
    let placed = place_one (accepts_among (Listed listed ∷ []) (v ∷ [])) (Listed listed) (lists listed v) (or_none (lists listed v)) in
    by_place (lists listed v) (sym test ∙ ap is_some (told ∙ ap (λ bounds. position (accepts_among bounds (v ∷ [])) bounds) is ∙ placed))
  where
    by_place : (u : Bool) → t ≡ is_some {T = ℕ} (if u then Some 0 else None) → u ≡ t
    by_place true h = sym h
    by_place false h = sym h

-- ---- a loop over the other list

pub any_here : (p : Value → Bool) (xs : List Value) (i : ℕ) → i < length xs → p (get_or xs i Null) ≡ true → list_any p (drop i xs) ≡ true
any_here p xs i within passes = ap (list_any p) (drop-cons xs i Null within) ∙ rw passes refl

pub any_later : (p : Value → Bool) (xs : List Value) (i : ℕ) → i < length xs → p (get_or xs i Null) ≡ false → list_any p (drop i xs) ≡ list_any p (drop (i + 1) xs)
any_later p xs i within fails =
    let here : list_any p (get_or xs i Null ∷ drop (suc i) xs) ≡ list_any p (drop (suc i) xs) = rw fails refl in
    ap (list_any p) (drop-cons xs i Null within) ∙ here ∙ ap (λ n. list_any p (drop n xs)) (sym (add-one i))
