-- The remainder that a key's hash leaves.
use Rattle.std.proofs.Common.{◌≡◌, true, List, refl}
use Rattle.std.specs.List.{position}
use Rattle.pg_values.specs.declared.value.Value.{Value}
use Rattle.pg_values.specs.Hash.{key_hash}
use Rattle.bound_forms.specs.declared.partition_bound.Bound.{Bound}
use Rattle.bound_forms.specs.declared.partition_bound.Bound.TheVariants.{Range, List as Listed, Hash, Default}
use Rattle.bound_forms.specs.Accepts.{accepts, leaves_remainder}
use Rattle.part_bounds.specs.Stored.{of_hashes, IsHashLevel}
use Rattle.bound_forms.proofs.Choice.{position_same}

pub by_remainder : (key : List Value) (bounds : List Bound) → IsHashLevel bounds → position (leaves_remainder (key_hash key)) bounds ≡ position (accepts key) bounds
by_remainder key bounds h = position_same (leaves_remainder (key_hash key)) (accepts key) bounds (λ k d lt. same _ (h k d lt))
  where
    same : (b : Bound) → of_hashes b ≡ true → leaves_remainder (key_hash key) b ≡ accepts key b
    same (Hash m n) e = refl
    same (Range l u) e = cc
    same (Listed values) e = cc
    same Default e = cc
