-- What holds where nothing stands against a further partition, and of the tables of a tree.
use Rattle.std.specs.Prelude.{◌≡◌, ◌≢◌, ◌<◌, ◌≤◌, ℕ, zero, suc, true, false, List, [], All, Contains, length}
use Rattle.std.specs.List.{AllPairs}
use Rattle.bound_forms.specs.Accepts.{is_default}
use Rattle.history.specs.declared.catalogue.Entry.{Entry}
use Rattle.history.specs.History.{History}
use Rattle.history.specs.Places.{TakesBound, AreCatalogueSound}
use Rattle.history.specs.Presence.{entries_present, is_pending}
use Rattle.row_router.specs.Siblings.{CanStandTogether}
use Rattle.part_catalog.specs.declared.TheConstants.{ENTRY_LIMIT}
use Rattle.part_catalog.specs.Found.{made_at}
use Rattle.part_catalog.specs.Full.{added}
use Rattle.part_ddl.specs.Below.{tables_from}
use Rattle.part_ddl.specs.Dropped.{AreTwo}
use Rattle.part_ddl.specs.Placing.{partitions_of, levels_with, place_faults}

-- below one table the further entry is no default beside a pending one
abbrev pub IsNoDefaultBeside : History → (session : ℕ) → Entry → Entry → Type 0
IsNoDefaultBeside h session e x = x.parent.number ≡ e.parent.number → is_pending h session x ≡ true → is_default e.bound ≡ false

-- the entry has a place: it can stand together with each that is present, is no default beside a pending one, and there is
-- room for it
pub record HasPlace (h : History) (session height : ℕ) (e : Entry) : Type 0 where
  pub together : All (λ x. CanStandTogether x e) (entries_present h session)
  pub no_pending : All (IsNoDefaultBeside h session e) (entries_present h session)
  pub partitions : length (partitions_of h session e.parent.number) < 1024
  pub added : added h < ENTRY_LIMIT
  pub levels : levels_with h session e.parent.number height ≤ 8

abbrev pub PassedHavePlaces : Type 0
PassedHavePlaces = (h : History) (session height : ℕ) (e : Entry) → AreCatalogueSound h → TakesBound (made_at h e.parent.number).shape e.bound → place_faults h session e.parent.number e.bound height ≡ [] → HasPlace h session height e

-- ---- a forest

-- so many steps down from the one table to the other, by these entries
abbrev pub IsWay : List Entry → ℕ → (top x : ℕ) → Type 0
IsWay entries zero top x = top ≡ x
IsWay entries (suc n) top x = (e : Entry) × Contains entries e × (e.child.number ≡ x) × IsWay entries n top e.parent.number

abbrev pub HaveTwoChildren : Entry → Entry → Type 0
HaveTwoChildren a b = a.child.number ≢ b.child.number

-- each table is the child of one of them at most, and none stands above itself
pub record IsForest (entries : List Entry) : Type 0 where
  pub one_parent : AllPairs HaveTwoChildren entries
  pub no_cycle : (n x : ℕ) → IsWay entries (suc n) x x → ⊥

abbrev pub TablesStandOnce : Type 0
TablesStandOnce = (h : History) (session table : ℕ) → IsForest (entries_present h session) → AllPairs AreTwo (tables_from h session table)
