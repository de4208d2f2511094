-- Which tables have a name.
use Rattle.std.specs.Prelude.{◌≡◌, ℕ, zero, suc, ◌<◌, Bool, if◌then◌else◌, List, [], Option, Some, None, length, slice_index_or}
use Rattle.std.specs.Str.{bytes_eq}
use Rattle.indexmap.specs.IndexMap.{get_by}
use Rattle.part_catalog.specs.declared.names.Names.{Names}

-- the greatest number below the given one that passes the test
abbrev pub last_below : (ℕ → Bool) → ℕ → Option ℕ
last_below test zero = None
last_below test (suc k) = if test k then Some k else last_below test k

-- the table of that number has the name
abbrev pub has_name : List (List ℕ) → List ℕ → ℕ → Bool
has_name named name k = bytes_eq name (slice_index_or named k [])

-- what is kept of names, for tables of these names in the order of their numbers
pub record NamesStand (names : Names) (named : List (List ℕ)) : Type 0 where
  pub count : length names.earlier.items ≡ length named
  pub newest : (name : List ℕ) → get_by (λ k. bytes_eq name k.items) names.newest ≡ last_below (has_name named name) (length named)
  pub earlier : (k : ℕ) → k < length named → slice_index_or names.earlier.items k None ≡ last_below (has_name named (slice_index_or named k [])) k
