-- What events of rows, locks and snapshots leave as it was.
use Rattle.std.specs.Prelude.{◌≡◌, ℕ, ◌∷◌}
use Rattle.history.specs.Snapshots.{TakenSnapshot}
use Rattle.history.specs.Presence.{entries_present}
use Rattle.history.specs.History.{Event, History, TxChange, CatalogueChange}
use Rattle.row_router.specs.Histories.{tree_of, ddl_tree, path_of}

-- the event is none of transactions or of the catalogue
abbrev pub LeavesTrees : Event → Type 0
LeavesTrees (TxChange e) = ⊥
LeavesTrees (CatalogueChange e) = ⊥
LeavesTrees e = Unit {0}

-- a session is shown after the event what it was shown before
pub record ShowsTheSame (e : Event) (h : History) (session : ℕ) : Type 0 where
  pub entries : entries_present (e ∷ h) session ≡ entries_present h session
  pub tree : (table : ℕ) (s : TakenSnapshot) → tree_of (e ∷ h) session table s ≡ tree_of h session table s
  pub ddl : (table : ℕ) → ddl_tree (e ∷ h) session table ≡ ddl_tree h session table
  pub path : (table : ℕ) → path_of (e ∷ h) session table ≡ path_of h session table
