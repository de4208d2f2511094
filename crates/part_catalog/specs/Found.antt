-- Which table a name means (the manual, CREATE TABLE and 5.11.2).
use Rattle.std.specs.Prelude.{ℕ, ◌&&◌, not, Bool, List, Option, length, option_map}
use Rattle.std.specs.Str.{bytes_eq}
use Rattle.history.specs.declared.catalogue.Table.{Table}
use Rattle.history.specs.Transactions.{fate, open_of, session_of}
use Rattle.history.specs.Catalogue.{tables_made}
use Rattle.history.specs.History.{History, tx_events, catalogue_events}
use Rattle.history.specs.Places.{table_at}
use Rattle.history.specs.Presence.{is_there, is_own}
use Rattle.part_catalog.specs.Names.{last_below}
use Rattle.part_catalog.specs.Stands.{is_running}

-- the table of that number
abbrev pub made_at : History → ℕ → Table
made_at h k = table_at (tables_made (catalogue_events h)) k

abbrev pub table_number : History → ℕ
table_number h = length (tables_made (catalogue_events h))

-- the newest table of the name that is there for the session
abbrev pub is_meant : History → ℕ → List ℕ → ℕ → Bool
is_meant h session name k = bytes_eq name (made_at h k).name && is_there h session (made_at h k)

abbrev pub resolved : History → (session : ℕ) → List ℕ → Option ℕ
resolved h session name = last_below (is_meant h session name) (table_number h)

-- the session of another open transaction that made a table of the name
abbrev pub is_made_elsewhere : History → ℕ → List ℕ → ℕ → Bool
is_made_elsewhere h session name k = bytes_eq name (made_at h k).name && (is_running (fate (tx_events h) (made_at h k).by.number) && not (is_own (open_of (tx_events h) session) (made_at h k).by.number))

abbrev pub taken_by : History → (session : ℕ) → List ℕ → Option ℕ
taken_by h session name = option_map (λ k. session_of (tx_events h) (made_at h k).by.number) (last_below (is_made_elsewhere h session name) (table_number h))
