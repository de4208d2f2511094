-- Bounds that have an order.
use Rattle.std.specs.Prelude.{◌≡◌, ℕ, ◌<◌, Bool, true, false, List, length, slice_index_or}
use Rattle.std.specs.List.{AllPairs}
use Rattle.pg_values.specs.KeyKinds.{IsNotNull}
use Rattle.bound_forms.specs.declared.partition_bound.Bound.{Bound}
use Rattle.bound_forms.specs.Ordered.{are_alike}
use Rattle.bound_forms.specs.Bounds.{comes_after, BoundOfKind, CanCompare}
use Rattle.history.specs.declared.catalogue.Entry.{Entry}
use Rattle.part_catalog.specs.declared.stored.StoredEntry.{StoredEntry}
use Rattle.part_catalog.specs.Kept.{no_entry}

pub record HaveAnOrder (a b : Bound) : Type 0 where
  pub alike : are_alike a b ≡ true
  pub compare : CanCompare a b
  pub first : BoundOfKind IsNotNull a
  pub second : BoundOfKind IsNotNull b

-- the bound of the entry of that number comes after the given one
abbrev pub stands_behind : List StoredEntry → Bound → ℕ → Bool
stands_behind entries b n = comes_after (slice_index_or entries n no_entry).entry.bound b

-- there is an entry of that number, and its bound and that of the further entry have an order
abbrev pub CanPlace : List StoredEntry → Entry → ℕ → Type 0
CanPlace entries e n = (n < length entries) × HaveAnOrder (slice_index_or entries n no_entry).entry.bound e.bound

-- the entries of these numbers stand in plain order
abbrev pub AreInOrder : List StoredEntry → List ℕ → Type 0
AreInOrder entries numbers = AllPairs (λ m n. stands_behind entries (slice_index_or entries n no_entry).entry.bound m ≡ false) numbers
