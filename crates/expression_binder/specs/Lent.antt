-- What is lent, where something is.
use Rattle.std.specs.Prelude.{Option, Some, None}
use Rattle.std.specs.Borrow.{Bor}

abbrev pub option_now : {A : Type 0} → Option (Bor A) → Option A
option_now None = None
option_now (Some b) = Some b.now
