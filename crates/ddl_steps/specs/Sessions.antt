-- The set of the sessions that pass a test.
use Rattle.std.specs.Prelude.{ℕ, zero, suc, ◌*◌, ◌^◌, ◌%◌, Bool, if◌then◌else◌}
use Rattle.std.specs.Int.RustNames.{bit_or}
use Rattle.pg_values.specs.Sets.{empty}
use Rattle.pg_values.specs.declared.session_set.SessionSet.{SessionSet}

-- the set with one session more
abbrev pub joined_by : SessionSet → ℕ → SessionSet
joined_by s k = record { bits = bit_or s.bits (1 * 2 ^ k % 2 ^ 128) }

-- those of the sessions below n that pass
abbrev pub those_below : ℕ → (ℕ → Bool) → SessionSet
those_below zero p = empty
those_below (suc n) p = if p n then joined_by (those_below n p) n else those_below n p

unfoldable pub those : (ℕ → Bool) → SessionSet
those p = those_below 128 p
