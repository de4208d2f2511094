-- Remainders in plain order: by modulus, then by remainder.
use Rattle.std.specs.Prelude.{ℕ, nat_lt, ◌==◌, ◌&&◌, ◌||◌, Bool, false}
use Rattle.bound_forms.specs.declared.partition_bound.Bound.{Bound}
use Rattle.bound_forms.specs.declared.partition_bound.Bound.TheVariants.{Range, List as Listed, Hash, Default}

-- the bound has this modulus and this remainder
abbrev pub is_remainder : ℕ → ℕ → Bound → Bool
is_remainder modulus remainder (Hash m r) = m == modulus && r == remainder
is_remainder modulus remainder _ = false

-- it stands before this remainder of this modulus
abbrev pub stands_before : ℕ → ℕ → Bound → Bool
stands_before modulus remainder (Hash m r) = nat_lt m modulus || (m == modulus && nat_lt r remainder)
stands_before modulus remainder _ = false
