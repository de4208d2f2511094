-- Where the rows of a table that becomes a partition need not be judged (the manual, ALTER TABLE, ATTACH PARTITION).
--
-- A concurrent DETACH leaves the table a CHECK with the bound that it had. Where a CHECK of the table says all that its new
-- place asks, no row of the table stands against the place: a scan would find nothing, whether it is made or not.
use Rattle.std.specs.Prelude.{◌≡◌, ℕ, ◌==◌, ◌&&◌, Bool, true, false, is_none, List, [], ◌∷◌, Some, Result, Ok, Err, length, map}
use Rattle.std.specs.List.{list_any, Contains}
use Rattle.pg_values.specs.declared.fault.Fault.{Fault}
use Rattle.bound_forms.specs.declared.level.Level.{Level}
use Rattle.bound_forms.specs.declared.partition_bound.Bound.{Bound}
use Rattle.history.specs.declared.catalogue.KeptCheck.{KeptCheck}
use Rattle.history.specs.Transactions.{open_of}
use Rattle.history.specs.History.{History, tx_events, catalogue_events}
use Rattle.history.specs.Presence.{checks_of}
use Rattle.row_router.specs.Histories.{kept_of}
use Rattle.soundness.specs.Worlds.{IsMade}
use Rattle.part_ddl.specs.Placing.{level_at}
use Rattle.legal_statements.specs.Below.{numbers_from}
use Rattle.legal_statements.specs.Locked.{IsOwned}
use Rattle.stores.specs.Good.{IsGood}
use Rattle.ddl_steps.specs.Places.{place_scan}
use Rattle.ddl_steps.specs.Scans.{IsClean}
use Rattle.ddl_steps.specs.Families.{parent_in}
use Rattle.ddl_steps.specs.Checks.{implies}

abbrev pub kept_for : History → (session table : ℕ) → List KeptCheck
kept_for h s t = map kept_of (checks_of h s t)

-- the table is no partition, and keeps no CHECK
abbrev pub asks_nothing : History → (session table : ℕ) → Bool
asks_nothing h s t = is_none (parent_in h s t) && (length (kept_for h s t) == 0)

-- one of the CHECKs says all that the bound does
abbrev pub is_implied : Result Level Fault → Bound → List KeptCheck → Bool
is_implied (Ok level) b kept = list_any (implies level b) kept
is_implied (Err f) b kept = false

-- the new place asks no more than its bound, and a CHECK of the table says that
abbrev pub is_skipped : History → (session parent table : ℕ) → Bound → Bool
is_skipped h s p t b = asks_nothing h s p && is_implied (level_at h p) b (kept_for h s t)

-- where nobody else may use the table and what is below it
abbrev pub SkippedIsClean : Type 0
SkippedIsClean = (h : History) (session parent table tx : ℕ) (b : Bound) → IsGood h → open_of (tx_events h) session ≡ Some tx → IsMade (catalogue_events h) table → ((x : ℕ) → Contains (numbers_from h session table) x → IsOwned h session x)
    → is_skipped h session parent table b ≡ true → IsClean h session (place_scan h session parent table b ∷ [])
