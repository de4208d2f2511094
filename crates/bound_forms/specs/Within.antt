-- A bound that lies inside another of the same key columns (5.11.2 Declarative Partitioning; ALTER TABLE, ATTACH PARTITION).
use Rattle.std.specs.Prelude.{◌≡◌, ℕ, ◌%◌, ◌==◌, Bool, true, false, ◌&&◌, List}
use Rattle.std.specs.List.{list_all}
use Rattle.std.specs.Ordering.{is_le, is_ge}
use Rattle.pg_values.specs.declared.value.Value.{Value}
use Rattle.bound_forms.specs.declared.partition_bound.Bound.{Bound}
use Rattle.bound_forms.specs.declared.partition_bound.Bound.TheVariants.{Range, List as Listed, Hash}
use Rattle.bound_forms.specs.Points.{point_order}
use Rattle.bound_forms.specs.Listed.{lists}
use Rattle.bound_forms.specs.Moduli.{divides}
use Rattle.bound_forms.specs.Accepts.{accepts}

-- each value of the first list is among those of the second
abbrev pub lists_all : List Value → List Value → Bool
lists_all values others = list_all (λ v. lists others v) values

-- the remainder of the inner modulus leaves that of the outer one, which is a factor of it
abbrev pub leaves_outer : ℕ → ℕ → ℕ → ℕ → Bool
leaves_outer m r n s = divides n m && r % n == s

-- the outer range begins no later and ends no earlier, the outer list has each value of the inner one, and the outer
-- remainder is that of the inner one; bounds of two strategies, and DEFAULT, never lie inside one another
abbrev pub within : Bound → Bound → Bool
within (Range l u) (Range m v) = is_le (point_order m l) && is_ge (point_order v u)
within (Listed values) (Listed others) = lists_all values others
within (Hash m r) (Hash n s) = leaves_outer m r n s
within _ _ = false

-- what the inner bound accepts the outer one accepts
abbrev pub WithinAccepts : Type 0
WithinAccepts = (inner outer : Bound) (key : List Value) → within inner outer ≡ true → accepts key inner ≡ true → accepts key outer ≡ true
