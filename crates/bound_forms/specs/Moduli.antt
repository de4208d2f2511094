-- The moduli and remainders of HASH bounds (5.11.2 Declarative Partitioning, CREATE TABLE).
use Rattle.std.specs.Prelude.{ℕ, ◌%◌, ◌==◌, Bool, true, ◌&&◌, ◌||◌, List, [], ◌∷◌, Option, Some, None, if◌then◌else◌}
use Rattle.bound_forms.specs.declared.partition_bound.Bound.{Bound}
use Rattle.bound_forms.specs.declared.partition_bound.Bound.TheVariants.{Hash}

-- the first modulus is a factor of the second
abbrev pub divides : ℕ → ℕ → Bool
divides m n = n % m == 0

-- the first modulus is a factor of the second, and the remainders agree modulo the first
abbrev pub meets : ℕ → ℕ → ℕ → ℕ → Bool
meets m r n s = divides m n && s % m == r % m

-- one modulus is a factor of the other; it is so of bounds that have none
abbrev pub moduli_suit : Bound → Bound → Bool
moduli_suit (Hash m r) (Hash n s) = divides m n || divides n m
moduli_suit _ _ = true

abbrev pub modulus_of : Bound → Option ℕ
modulus_of (Hash m r) = Some m
modulus_of _ = None

-- the modulus of the first bound of which neither modulus is a factor of the other
abbrev pub bad_modulus : Bound → List Bound → Option ℕ
bad_modulus b [] = None
bad_modulus b (a ∷ bounds) = if moduli_suit a b then bad_modulus b bounds else modulus_of a
