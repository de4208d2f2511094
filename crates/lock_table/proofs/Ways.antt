-- Shortest cycles, and the way along them, by chains of so many waits.
use Rattle.std.proofs.Common.{◌≡◌, ℕ, zero, suc, ◌+◌, ◌<◌, ◌≤◌, ◌&&◌, Bool, true, false, List, [], ◌∷◌, ◌++◌, nat_eq, length, slice_index_or}
use Rattle.std.specs.List.{list_any, IsDistinct}
use Rattle.pg_values.specs.Numbers.{AreBelow65}
use Rattle.pg_values.specs.Sets.{has, empty}
use Rattle.pg_values.specs.declared.session_set.SessionSet.{SessionSet}
use Rattle.lock_table.specs.Graph.{edge, leads, AreLevels}

-- no cycle goes through s
abbrev pub IsFreeOfCycles : List SessionSet → ℕ → Type 0
IsFreeOfCycles g s = (i : ℕ) → 0 < i → leads g s i s ≡ false

-- the least session for whom x waits and from whom k waits lead to s
pub record IsLeastNext (g : List SessionSet) (s k x y : ℕ) : Type 0 where
  pub waits : edge g x y ≡ true
  pub on : leads g s k y ≡ true
  pub least : (z : ℕ) → z < y → (edge g x z && leads g s k z) ≡ false

-- k waits from x to s, at each the least session that does
abbrev pub IsLeastWay : List SessionSet → ℕ → ℕ → ℕ → List ℕ → Type 0
IsLeastWay g s zero x way = way ≡ []
IsLeastWay g s (suc k) x [] = ⊥
IsLeastWay g s (suc k) x (y ∷ way) = IsLeastNext g s k x y × IsLeastWay g s k y way

-- a way was begun from s: so many waits are left from where it is, by as short a way as there is, and each
-- session on it is further from s than what is left
pub record IsBegun (g : List SessionSet) (s count left at : ℕ) (list : List ℕ) : Type 0 where
  pub within : left ≤ count
  pub on : leads g s (left + 1) at ≡ true
  pub reach : (d i : ℕ) → d + left ≡ count → leads g s i at ≡ true → leads g s (d + i) s ≡ true
  pub apart : (z i : ℕ) → list_any (nat_eq z) list ≡ true → 0 < i → i < left + 1 → leads g s i z ≡ false
  pub tail : List ℕ
  pub is : list ≡ s ∷ tail
  pub more : (rest : List ℕ) → IsLeastWay g s (left + 1) at rest → IsLeastWay g s (count + 1) s (tail ++ rest)

-- the levels up to a number of waits were gone through, and none had s
pub record IsSearched (g : List SessionSet) (s k : ℕ) (level reached : SessionSet) (levels : List SessionSet) : Type 0 where
  pub len : length levels ≡ 65
  pub room : k ≤ 65
  pub is : (x : ℕ) → has level x ≡ leads g s k x
  pub each : AreLevels g s levels k
  pub near : (i x : ℕ) → 0 < i → i ≤ k → leads g s i x ≡ true → has reached x ≡ true
  pub only : (x : ℕ) → has reached x ≡ true → (i : ℕ) × (0 < i) × (i ≤ k) × (leads g s i x ≡ true)
  pub not_yet : (i : ℕ) → 0 < i → i ≤ k → leads g s i s ≡ false
  pub found : List ℕ
  pub count : length found ≡ k
  pub distinct : IsDistinct nat_eq found
  pub small : AreBelow65 found
  pub inside : (q : ℕ) → list_any (nat_eq q) found ≡ true → has reached q ≡ true
