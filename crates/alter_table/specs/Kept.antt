-- The CHECK that a table keeps which was detached concurrently: the bound that it had, at the level of its parent (the
-- manual, ALTER TABLE, DETACH PARTITION).
use Rattle.std.specs.Prelude.{ℕ, if◌then◌else◌, List, [], ◌∷◌, Option, Some, None, Result, Ok, Err, find, map}
use Rattle.std.specs.List.{list_any}
use Rattle.pg_values.specs.declared.fault.Fault.{Fault}
use Rattle.pg_values.specs.declared.ids.TableNo.{TableNo}
use Rattle.bound_forms.specs.declared.level.Level.{Level}
use Rattle.history.specs.declared.catalogue.Entry.{Entry}
use Rattle.history.specs.declared.catalogue.KeptCheck.{KeptCheck}
use Rattle.history.specs.declared.transaction.TxId.{TxId}
use Rattle.history.specs.Catalogue.{CheckKept}
use Rattle.history.specs.History.{History, CatalogueChange}
use Rattle.history.specs.Presence.{checks_of}
use Rattle.row_router.specs.Histories.{is_over, kept_of, table_of}
use Rattle.part_ddl.specs.Placing.{level_at, partitions_of}
use Rattle.statement_steps.specs.declared.caller.Caller.{Caller}
use Rattle.statement_steps.specs.Owned.{own}
use Rattle.ddl_steps.specs.Checks.{same_check}

-- ---- the CHECK of a partition

-- the entry by which the table is a partition of the parent
abbrev pub place_below : History → (session parent table : ℕ) → Option Entry
place_below h s p t = find (is_over t) (partitions_of h s p)

-- the bound of the entry, at the level of the parent
abbrev pub check_told : Result Level Fault → Option Entry → Option KeptCheck
check_told (Ok level) (Some e) = Some (record { level = level; bound = e.bound })
check_told (Ok level) None = None
check_told (Err f) e = None

-- one that is not equal to one of these
abbrev pub unless_equal : List KeptCheck → Option KeptCheck → Option KeptCheck
unless_equal kept None = None
unless_equal kept (Some c) = if list_any (λ k. same_check k c) kept then None else Some c

-- the table keeps it, unless it keeps an equal one already
abbrev pub new_check : History → (session parent table : ℕ) → Option KeptCheck
new_check h s p t = unless_equal (map kept_of (checks_of h s t)) (check_told (level_at h p) (place_below h s p t))

abbrev pub check_by : TableNo → TxId → (cmd : ℕ) → Option KeptCheck → History
check_by t by cmd None = []
check_by t by cmd (Some c) = CatalogueChange (CheckKept (record { table = t; kept = c; by = by; cmd = cmd })) ∷ []

abbrev pub check_kept : Caller → (table : ℕ) → History → Option KeptCheck → History
check_kept caller t h c = check_by (table_of t) (own h caller.session) caller.cmd c
