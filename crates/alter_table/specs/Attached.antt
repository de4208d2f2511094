-- ALTER TABLE, ATTACH PARTITION of a session (the manual, ALTER TABLE; 5.11.2.2 Partition Maintenance; 13.3.1 Table-Level
-- Locks).
use Rattle.std.specs.Prelude.{ℕ, List, [], ◌∷◌, Some, length}
use Rattle.pg_values.specs.declared.lock_mode.LockMode.TheVariants.{ShareUpdateExclusive, AccessExclusive}
use Rattle.bound_forms.specs.declared.partition_bound.Bound.{Bound as MeantBound}
use Rattle.history.specs.declared.catalogue.Entry.{Entry}
use Rattle.history.specs.Catalogue.{EntryAdded, entries_added}
use Rattle.history.specs.History.{History, CatalogueChange, catalogue_events}
use Rattle.row_router.specs.Histories.{table_of}
use Rattle.sql_ast.specs.Commands.{Bound}
use Rattle.part_ddl.specs.Below.{default_of}
use Rattle.ddl_steps.specs.Places.{place_scan, default_scan}
use Rattle.ddl_steps.specs.Scans.{Scan}
use Rattle.ddl_steps.specs.Waited.{scanned}
use Rattle.ddl_steps.specs.Families.{numbers_under}
use Rattle.ddl_steps.specs.Locks.{default_locked}
use Rattle.statement_steps.specs.Made.{Made, made, answered}
use Rattle.statement_steps.specs.declared.caller.Caller.{Caller}
use Rattle.statement_steps.specs.Asks.{named, held_at, all_locked}
use Rattle.statement_steps.specs.Steps.{follow}
use Rattle.statement_steps.specs.Owned.{own}
use Rattle.alter_table.specs.Places.{attach_place, name_at}

-- ---- the table and those under it are locked

abbrev pub family_locked : List (List ℕ) → (session table : ℕ) → History → Made (Unit {0})
family_locked names s t h = all_locked names s AccessExclusive (numbers_under h s (Some (table_of t))) h

-- ---- what stands against it

abbrev pub place_found : (session parent table : ℕ) → Bound → History → Made MeantBound
place_found s p t b h = answered (attach_place h s p t b)

-- the rows of the table are judged, and those of the default partition of the parent
abbrev pub scans : (session parent table : ℕ) → MeantBound → History → List Scan
scans s p t b h = place_scan h s p t b ∷ default_scan h s p b (name_at h t) (default_of h s p)

-- ---- the entry by which the table is a partition

abbrev pub new_entry : Caller → (parent table : ℕ) → MeantBound → History → Entry
new_entry caller p t b h = record { id = record { number = length (entries_added (catalogue_events h)) }; parent = table_of p; child = table_of t; bound = b; by = own h caller.session; cmd = caller.cmd }

abbrev pub entry_added : Caller → (parent table : ℕ) → MeantBound → History → Made (Unit {0})
entry_added caller p t b h = made (CatalogueChange (EntryAdded (new_entry caller p t b h)) ∷ []) tt

-- ---- the statement

abbrev pub scanned_and_added : (names : List (List ℕ)) → Caller → (parent table : ℕ) → MeantBound → History → Made (Unit {0})
scanned_and_added names caller p t b = follow (scanned names caller.session (scans caller.session p t b)) (λ u. entry_added caller p t b)

-- where all is locked, come the refusals, and then the scans
abbrev pub placed_and_added : (names : List (List ℕ)) → Caller → (parent table : ℕ) → Bound → History → Made (Unit {0})
placed_and_added names caller p t b = follow (place_found caller.session p t b) (λ bound. scanned_and_added names caller p t bound)

-- the default partition of the parent is locked
abbrev pub attached_beside : (names : List (List ℕ)) → Caller → (parent table : ℕ) → Bound → History → Made (Unit {0})
attached_beside names caller p t b = follow (default_locked names caller.session p) (λ u. placed_and_added names caller p t b)

-- the tables under the table are locked, then the default partition of the parent
abbrev pub table_attached : (names : List (List ℕ)) → Caller → (parent table : ℕ) → Bound → History → Made (Unit {0})
table_attached names caller p t b = follow (family_locked names caller.session t) (λ u. attached_beside names caller p t b)

-- the parent is locked, then the table
abbrev pub locked_and_attached : (names : List (List ℕ)) → Caller → (parent name : List ℕ) → Bound → History → Made (Unit {0})
locked_and_attached names caller parent name b =
    follow (named names caller.session ShareUpdateExclusive parent) (λ p.
    follow (named names caller.session AccessExclusive name) (λ t.
    table_attached names caller p t b))

-- ALTER TABLE parent ATTACH PARTITION name bound
abbrev pub attached : (names : List (List ℕ)) → Caller → (parent name : List ℕ) → Bound → History → Made (Unit {0})
attached names caller parent name b = follow (held_at caller.level caller.session caller.cmd) (λ u. locked_and_attached names caller parent name b)
