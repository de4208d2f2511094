-- Why a version is not stored, or a scan not made.
use Rattle.std.specs.Prelude.{◌≡◌, ◌<◌, ◌≤◌, List, length}
use Rattle.pg_values.specs.declared.value.Value.{Value}
use Rattle.pg_values.specs.declared.which.Which.{Which}
use Rattle.pg_values.specs.declared.which.Which.TheVariants.{Versions, BytesOfRows}
use Rattle.row_store.specs.declared.refused.PutCause.{PutCause}
use Rattle.row_store.specs.declared.refused.PutCause.TheVariants.{Full, NoMemory}
use Rattle.row_store.specs.declared.TheConstants.{VERSION_LIMIT}
use Rattle.row_store.specs.Kept.{KeptRows}
use Rattle.row_store.specs.Limits.{row_bytes}

-- there is room for one more version, and for these values
abbrev pub HasRoom : KeptRows → List Value → Type 0
HasRoom kept row = (length kept.stored < VERSION_LIMIT) × (row_bytes row ≤ kept.room)

-- what is full: the count of versions, else the bytes of rows
pub data IsFull (kept : KeptRows) (row : List Value) (which : Which) : Type 0 where
  OfVersions : which ≡ Versions → VERSION_LIMIT ≤ length kept.stored → IsFull kept row which
  OfBytes : which ≡ BytesOfRows → length kept.stored < VERSION_LIMIT → kept.room < row_bytes row → IsFull kept row which

abbrev pub IsCause : KeptRows → List Value → PutCause → Type 0
IsCause kept row (Full which) = IsFull kept row which
IsCause kept row NoMemory = HasRoom kept row
