-- Who waits for whom, as rows of sets, and chains of waits.
use Rattle.std.specs.Prelude.{◌≡◌, ℕ, zero, suc, ◌+◌, ◌<◌, ◌==◌, ◌&&◌, not, Bool, true, false, List, slice_index_or}
use Rattle.pg_values.specs.Sets.{has, empty, nobody}
use Rattle.pg_values.specs.declared.session_set.SessionSet.{SessionSet}

-- row x has those for whom x waits
abbrev pub edge : List SessionSet → ℕ → ℕ → Bool
edge g x y = has (slice_index_or g x empty) y

-- a chain of k waits leads from x to s
abbrev pub leads : List SessionSet → ℕ → ℕ → ℕ → Bool
leads g s zero x = x == s
leads g s (suc k) x = not (nobody (λ y. edge g x y && leads g s k y))

-- the shortest cycle through s has k waits
pub record IsShortest (g : List SessionSet) (s k : ℕ) : Type 0 where
  pub some : 0 < k
  pub closed : leads g s k s ≡ true
  pub least : (i : ℕ) → 0 < i → i < k → leads g s i s ≡ false

-- row by row, from whom chains of 1, 2 and more waits lead to s
abbrev pub AreLevels : List SessionSet → ℕ → List SessionSet → ℕ → Type 0
AreLevels g s levels count = (i x : ℕ) → i < count → has (slice_index_or levels i empty) x ≡ leads g s (i + 1) x
