-- What a slot keeps of the end of a version.
use Rattle.std.specs.Prelude.{ℕ, ◌<◌, Option, Some, None}
use Rattle.history.specs.declared.transaction.TxId.{TxId}
use Rattle.history.specs.declared.version.End.{End}
use Rattle.history.specs.declared.version.Ending as history
use Rattle.row_store.specs.declared.slot.SlotEnding.{SlotEnding}
use Rattle.row_store.specs.declared.slot.SlotEnding.TheVariants.{NotEnded, Deleted, MovedTo, ReplacedBy}

abbrev pub kept_end : TxId → ℕ → SlotEnding → Option End
kept_end by cmd NotEnded = None
kept_end by cmd Deleted = Some (record { by = by; cmd = cmd; how = history.TheVariants.Deleted })
kept_end by cmd (MovedTo leaf) = Some (record { by = by; cmd = cmd; how = history.TheVariants.MovedTo leaf })
kept_end by cmd (ReplacedBy id) = Some (record { by = by; cmd = cmd; how = history.TheVariants.ReplacedBy id })

-- a version that replaces another one has a number of 32 bits
abbrev pub HasShortId : history.Ending → Type 0
HasShortId history.TheVariants.Deleted = Unit {0}
HasShortId (history.TheVariants.MovedTo leaf) = Unit {0}
HasShortId (history.TheVariants.ReplacedBy id) = id.number < 4294967296
