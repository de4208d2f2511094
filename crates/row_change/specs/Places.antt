-- Targets by their leaves.
use Rattle.std.specs.Prelude.{◌≡◌, ℕ, ◌<◌, List, Option, Some, None, find, length, slice_get, slice_index_or}
use Rattle.pg_values.specs.declared.ids.LeafId.{LeafId}
use Rattle.row_change.specs.declared.by_leaf.ByLeaf.{ByLeaf}
use Rattle.row_change.specs.declared.target.Target.{Target}
use Rattle.row_change.specs.Storing.{is_into}

-- what is noted of a leaf
abbrev pub noted : {V : Type 0} → ByLeaf V → LeafId → Option V
noted notes leaf = slice_index_or notes.notes.items leaf.number None

abbrev pub at_place : List Target → Option ℕ → Option Target
at_place targets None = None
at_place targets (Some k) = slice_get targets k

-- of each leaf the place of its first target in the list
pub record ArePlaces (places : ByLeaf ℕ) (targets : List Target) : Type 0 where
  pub first : (leaf : LeafId) → find (is_into leaf) targets ≡ at_place targets (noted places leaf)
  pub within : (leaf : LeafId) (k : ℕ) → noted places leaf ≡ Some k → k < length targets
