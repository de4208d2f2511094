-- What a statement makes of a history.
use Rattle.std.specs.Prelude.{◌≡◌, List, [], ◌∷◌, ◌++◌, Result, Ok, Err}
use Rattle.pg_values.specs.declared.fault.Fault.{Fault}
use Rattle.pg_values.specs.declared.fault.Refusal.{Refusal}
use Rattle.pg_values.specs.declared.fault.Refusal.TheVariants.{Sql, NoMemory}
use Rattle.pg_values.specs.declared.ids.TableNo.{TableNo}
use Rattle.history.specs.History.{History}
use Rattle.row_store.specs.Kept.{KeptRows}
use Rattle.row_store.specs.Stands.{StoreStands}
use Rattle.part_catalog.specs.Kept.{KeptCatalogue}
use Rattle.part_catalog.specs.Stands.{CatalogueStands}

-- the events, the newest first, and the new table, or the refusal
pub record Made : Type 0 where
  pub events : History
  pub told : Result TableNo Fault

-- the first fault, if there is one, or else the table with these events
abbrev pub made_by : List Fault → TableNo → History → Made
made_by [] table events = record { events = events; told = Ok table }
made_by (f ∷ fs) table events = record { events = []; told = Err f }

-- the stores stand for the history with the events
pub record StandAfter (kept : KeptCatalogue) (store : KeptRows) (h : History) (made : Made) : Type 0 where
  pub catalogue : CatalogueStands kept (made.events ++ h)
  pub rows : StoreStands store (made.events ++ h)

-- want of memory apart, this is what the answer tells, and the stores stand for the history with the events
abbrev pub IsMade : Result TableNo Refusal → KeptCatalogue → KeptRows → History → Made → Type 0
IsMade (Ok t) kept rows h made = (made.told ≡ Ok t) × StandAfter kept rows h made
IsMade (Err (Sql f)) kept rows h made = (made.told ≡ Err f) × StandAfter kept rows h made
IsMade (Err NoMemory) kept rows h made = Unit {0}
