-- The sessions of a set.
use Rattle.std.specs.Prelude.{ℕ, zero, suc, ◌-◌, ◌*◌, ◌^◌, ◌%◌, ◌==◌, ◌&&◌, not, Bool, true, List, [], ◌∷◌, ◌++◌, if◌then◌else◌}
use Rattle.std.specs.Int.{bit_at}
use Rattle.std.specs.Int.RustNames.{bit_and}
use Rattle.pg_values.specs.declared.session_set.SessionSet.{SessionSet}

-- session k is in the set
abbrev pub has : SessionSet → ℕ → Bool
has s k = bit_at s.bits k == 1

-- those of the sessions below n that are in the set, in ascending order
abbrev pub sessions_below : ℕ → SessionSet → List ℕ
sessions_below zero s = []
sessions_below (suc n) s = sessions_below n s ++ (if has s n then n ∷ [] else [])

-- the sessions of the set, in ascending order
unfoldable pub sessions : SessionSet → List ℕ
sessions s = sessions_below 128 s

-- no session
abbrev pub empty : SessionSet
empty = record { bits = 0 }

-- the set without one session
abbrev pub without : SessionSet → ℕ → SessionSet
without s k = record { bits = bit_and s.bits (2 ^ 128 - 1 - 1 * 2 ^ k % 2 ^ 128) }

-- none of the sessions below n passes the test
abbrev pub none_below : ℕ → (ℕ → Bool) → Bool
none_below zero p = true
none_below (suc n) p = not (p n) && none_below n p

-- no session passes the test; a session is a number below 128
unfoldable pub nobody : (ℕ → Bool) → Bool
nobody p = none_below 128 p
