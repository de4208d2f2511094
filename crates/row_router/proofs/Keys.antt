-- The key of a row at a level, value by value.
use Rattle.std.proofs.Common.{◌≡◌, ℕ, zero, suc, ◌<◌, arith, ap, ◌∙◌, List, [], ◌∷◌, Some, map, length, get_or, slice_index_or}
use Rattle.std.specs.List.{slice_get}
use Rattle.std.proofs.lemmas.List.{length-map}
use Rattle.std.proofs.lemmas.Option.{get_or_from_slice_get}
use Rattle.pg_values.specs.declared.value.Value.{Value}
use Rattle.pg_values.specs.declared.value.Value.TheVariants.{Null}
use Rattle.bound_forms.specs.declared.level.KeyColumn.{KeyColumn}
use Rattle.bound_forms.specs.Points.{picked}

read_is : (row : List Value) (i : ℕ) (v : Value) → slice_get row i ≡ Some v → slice_index_or row i Null ≡ v
read_is row i v is = get_or_from_slice_get row i v Null is

key_at : (row : List Value) (cs : List KeyColumn) (i : ℕ) (d : KeyColumn) (v : Value) → i < length cs → slice_get row (get_or cs i d).position ≡ Some v → slice_get (picked row (map (λ c. c.position) cs)) i ≡ Some v
key_at row [] i d v lt is = absurd (omega arith)
key_at row (c ∷ cs) zero d v lt is = ap Some (read_is row c.position v is)
key_at row (c ∷ cs) (suc i) d v lt is = key_at row cs i d v (omega (arith, lt)) is

pub key_value : (row : List Value) (cs : List KeyColumn) (i : ℕ) (d : KeyColumn) (v : Value) → i < length (picked row (map (λ c. c.position) cs)) → slice_get row (get_or cs i d).position ≡ Some v → slice_get (picked row (map (λ c. c.position) cs)) i ≡ Some v
key_value row cs i d v lt is =
    let n : length (picked row (map (λ c. c.position) cs)) ≡ length cs = length-map (map (λ c. c.position) cs) (λ k. slice_index_or row k Null) ∙ length-map cs (λ c. c.position) in
    key_at row cs i d v (omega (arith, n, lt)) is
