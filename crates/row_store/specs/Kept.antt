-- What the row store and a trail keep.
use Rattle.std.specs.Prelude.{◌≡◌, ℕ, ◌+◌, ◌<◌, ◌==◌, Bool, true, List, [], Option, Some, None, map, All, length, slice_index_or, slice_set, ◌∷◌, ◌++◌}
use Rattle.pg_values.specs.declared.ids.LeafId.{LeafId}
use Rattle.pg_values.specs.declared.ids.RowId.{RowId}
use Rattle.history.specs.declared.version.Version.{Version}
use Rattle.history.specs.declared.version.End.{End}
use Rattle.history.specs.RowsSound.{IsEndingKnown}
use Rattle.row_store.specs.declared.stored.Stored.{Stored}
use Rattle.row_store.specs.Limits.{row_bytes}

-- all versions in order of birth, each with its last end; the number of leaves; for each leaf the numbers of those of
-- its versions that a scan looks at; the bytes of values that there is room for
pub record KeptRows : Type 0 where
  pub stored : List Stored
  pub leaves : ℕ
  pub listed : List (List RowId)
  pub room : ℕ

-- the leaves that were read, and for how many more there is room
pub record KeptTrail : Type 0 where
  pub leaves : List LeafId
  pub spare : ℕ

-- what stands past the end
abbrev pub no_id : RowId
no_id = record { number = 0 }

abbrev pub blank : Stored
blank = record { version = record { id = no_id; leaf = record { number = 0 }; row = []; by = record { number = 0 }; cmd = 0 }; ended = None }

abbrev pub version_of : Stored → Version
version_of x = x.version

abbrev pub in_leaf : ℕ → Stored → Bool
in_leaf l x = x.version.leaf.number == l

abbrev pub stored_at : List Stored → RowId → Stored
stored_at xs id = slice_index_or xs id.number blank

-- the versions that a leaf lists
abbrev pub listed_in : List Stored → List (List RowId) → ℕ → List Stored
listed_in stored lists l = map (stored_at stored) (slice_index_or lists l [])

-- the number is that of a version of the leaf
abbrev pub IsOf : List Stored → ℕ → RowId → Type 0
IsOf stored l id = (id.number < length stored) × (in_leaf l (stored_at stored id) ≡ true)

-- what the last end of a version names is there
abbrev pub IsEndKept : List Stored → ℕ → ℕ → Version → Option End → Type 0
IsEndKept stored leaves k v None = Unit {0}
IsEndKept stored leaves k v (Some e) = IsEndingKnown (map version_of stored) leaves k v e.by e.how

-- what is always so of a store: each leaf lists versions of its own; each version has a leaf that is there and its
-- place for a number, and what its end names is there
pub record AreListed (stored : List Stored) (leaves : List (List RowId)) : Type 0 where
  pub lists : (l : ℕ) → l < length leaves → All (IsOf stored l) (slice_index_or leaves l [])
  pub leaf : (k : ℕ) → k < length stored → (slice_index_or stored k blank).version.leaf.number < length leaves
  pub numbered : (k : ℕ) → k < length stored → (slice_index_or stored k blank).version.id.number ≡ k
  pub ends : (k : ℕ) → k < length stored → IsEndKept stored (length leaves) k (slice_index_or stored k blank).version (slice_index_or stored k blank).ended

-- each of the numbers is that of a version
abbrev pub AreBelow : List RowId → List Stored → Type 0
AreBelow ids xs = (k : ℕ) → k < length ids → (slice_index_or ids k no_id).number < length xs

-- a store after a version was born
abbrev pub after_birth : KeptRows → Version → List (List RowId) → ℕ → KeptRows
after_birth kept v listed room = record { stored = kept.stored ++ (record { version = v; ended = None }) ∷ []; leaves = kept.leaves; listed = listed; room = room }

-- the store has one more version, and room for less; but for what the leaves list, nothing else has changed
abbrev pub IsBirth : KeptRows → KeptRows → Version → Type 0
IsBirth old new v = (room : ℕ) × (new ≡ after_birth old v new.listed room) × (room + row_bytes v.row ≡ old.room)

-- a store after a version was ended
abbrev pub after_end : KeptRows → ℕ → End → KeptRows
after_end kept k e = record { stored = slice_set kept.stored k (record { version = (slice_index_or kept.stored k blank).version; ended = Some e }); leaves = kept.leaves; listed = kept.listed; room = kept.room }

-- the store has one more version, room for less, and another version ended; but for what the leaves list, nothing else
-- has changed
abbrev pub IsReplacement : KeptRows → KeptRows → Version → ℕ → End → Type 0
IsReplacement old new v k e = (room : ℕ) × (new ≡ after_end (after_birth old v new.listed room) k e) × (room + row_bytes v.row ≡ old.room)
