-- What a tree is grown from.
use Rattle.std.specs.Prelude.{◌≡◌, ℕ, ◌<◌, Bool, List, map, filter, length, slice_index_or}
use Rattle.pg_values.specs.KeyKinds.{IsNotNull}
use Rattle.bound_forms.specs.Bounds.{BoundOfKind}
use Rattle.history.specs.declared.catalogue.Table.{Table}
use Rattle.history.specs.declared.catalogue.Entry.{Entry}
use Rattle.row_router.specs.Trees.{TableTree}
use Rattle.row_router.specs.Seen.{seen}
use Rattle.row_router.specs.Siblings.{AreSiblings}
use Rattle.row_router.specs.Histories.{children, tree_within}
use Rattle.part_catalog.specs.declared.stored.StoredTable.{StoredTable}
use Rattle.part_catalog.specs.declared.stored.StoredEntry.{StoredEntry}
use Rattle.part_catalog.specs.declared.keep.KeptTree.{KeptTree}
use Rattle.part_catalog.specs.Kept.{AreListed, by_place, number_of, no_entry}
use Rattle.part_catalog.specs.Stands.{is_flagged}

-- a level of it: a flag for each entry, at its place; the entries below the table stand in plain order; those whose flag is set are
-- siblings, and no bound has a null where it may have none
pub record IsLevel (entries : List StoredEntry) (numbers : List ℕ) (flags : List Bool) (t : ℕ) : Type 0 where
  pub below : numbers ≡ map number_of (children (by_place entries) t)
  pub flagged : length flags ≡ length entries
  pub siblings : AreSiblings (filter (is_flagged flags) (by_place entries))
  pub kinds : (k : ℕ) → k < length entries → BoundOfKind IsNotNull (slice_index_or entries k no_entry).entry.bound

-- the whole: a flag for each entry, at its place; those whose flag is set are siblings, and no bound has a null where it may have none
pub record IsGrove (tables : List StoredTable) (entries : List StoredEntry) (numbers : List (List ℕ)) (flags : List Bool) : Type 0 where
  pub listed : AreListed tables entries numbers
  pub flagged : length flags ≡ length entries
  pub siblings : AreSiblings (filter (is_flagged flags) (by_place entries))
  pub kinds : (k : ℕ) → k < length entries → BoundOfKind IsNotNull (slice_index_or entries k no_entry).entry.bound

-- the tree of a table, grown from these tables and entries for these flags
unfoldable pub grown_for : List Table → List Entry → List Bool → (table : ℕ) → TableTree
grown_for tables entries flags t = tree_within 7 tables (filter (is_flagged flags) entries) t t

-- a tree that is kept is such a one
abbrev pub IsGrownFrom : List Table → List Entry → KeptTree → Type 0
IsGrownFrom tables entries k = seen k.tree ≡ grown_for tables entries k.flags.items k.table.number
