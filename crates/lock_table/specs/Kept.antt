-- What the lock table keeps.
use Rattle.std.specs.Prelude.{◌≡◌, ◌≢◌, ◌<◌, ℕ, ◌+◌, ◌*◌, Bool, true, false, nat_eq, List, Option, slice_index_or}
use Rattle.std.specs.List.{AllPairs, list_any}
use Rattle.pg_values.specs.Modes.{rank}
use Rattle.pg_values.specs.Sets.{has, empty, nobody}
use Rattle.pg_values.specs.declared.lock_mode.LockMode.{LockMode}
use Rattle.pg_values.specs.declared.session_set.SessionSet.{SessionSet}
use Rattle.history.specs.declared.wait.Wanted.{Wanted}

-- how many tables there are; who holds each mode, table by table, as far as a lock was ever held; what each
-- session waits for; and who waits, the oldest wait first
pub record KeptLocks : Type 0 where
  pub tables : ℕ
  pub held : List SessionSet
  pub wants : List (Option Wanted)
  pub queue : List ℕ

-- who holds the mode on the table: nobody does past the end
abbrev pub held_at : List SessionSet → ℕ → LockMode → SessionSet
held_at held t m = slice_index_or held (8 * t + rank m) empty

-- nobody is in the set at the place
abbrev pub is_empty_at : List SessionSet → ℕ → Bool
is_empty_at held place = nobody (λ s. has (slice_index_or held place empty) s)

-- the places below room of the sets in which somebody is, each once
pub record AreTaken (held : List SessionSet) (places : List ℕ) (room : ℕ) : Type 0 where
  pub apart : AllPairs (λ p q. p ≢ q) places
  pub below : (p : ℕ) → list_any (nat_eq p) places ≡ true → p < room
  pub somebody : (p : ℕ) → list_any (nat_eq p) places ≡ true → is_empty_at held p ≡ false
  pub none : (p : ℕ) → list_any (nat_eq p) places ≡ false → is_empty_at held p ≡ true

-- the session is in the set at the place, and no other set has changed
pub record IsHeldThere (old new : List SessionSet) (place session : ℕ) : Type 0 where
  pub low : session < 128
  pub here : has (slice_index_or new place empty) session ≡ true
  pub others : (p : ℕ) → p ≢ place → slice_index_or new p empty ≡ slice_index_or old p empty
