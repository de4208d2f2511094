-- What statements have given and read (partscript's own).
use Rattle.std.specs.Prelude.{◌≡◌, ℕ, ◌+◌, ◌-◌, min, Option, Some, None, Result, Ok, Err}
use Rattle.pg_values.specs.declared.fault.Fault.{Fault}
use Rattle.schedule.specs.declared.tally.Tally.{Tally}
use Rattle.statement_steps.specs.declared.stop.Stop.{Stop}
use Rattle.statement_steps.specs.declared.stop.Stop.TheVariants as stop

abbrev pub none : Tally
none = record { rows = 0; reads = 0 }

-- with as much of the other as there is room for: a sum has 64 bits, and stays at the greatest where it would pass it
abbrev pub summed : ℕ → ℕ → ℕ
summed n m = n + min m (18446744073709551615 - n)

abbrev pub added : Tally → Tally → Tally
added n m = record { rows = summed n.rows m.rows; reads = summed n.reads m.reads }

-- one that is refused first gives and reads nothing
abbrev pub unless_cut : Option Fault → Tally → Tally
unless_cut None n = n
unless_cut (Some f) n = none

-- want of memory apart, so much has come to a tally
abbrev pub Grows : {X : Type 0} → Result X Stop → (before after more : Tally) → Type 0
Grows (Ok x) before after more = after ≡ added before more
Grows (Err (stop.Waits rest)) before after more = after ≡ added before more
Grows (Err (stop.Refused f)) before after more = after ≡ added before more
Grows (Err stop.NoMemory) before after more = Unit {0}
