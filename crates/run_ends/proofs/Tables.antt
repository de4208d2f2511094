-- CREATE TABLE, DROP TABLE and LOCK.
use Rattle.std.proofs.Common.{◌≡◌, ◌<◌, ℕ, Bool, true, false, if◌then◌else◌, List, [], ◌∷◌, ◌++◌, Option, Some, None, IfSome, Ok, refl, All, map}
use Rattle.std.proofs.lemmas.List.Elements.{All-nil, All-cons, All-head, All-tail, All-append}
use Rattle.pg_values.specs.declared.fault.Fault.{Fault}
use Rattle.pg_values.specs.declared.ids.TableNo.{TableNo}
use Rattle.pg_values.specs.declared.lock_mode.LockMode.{LockMode}
use Rattle.pg_values.specs.declared.lock_mode.LockMode.TheVariants.{AccessExclusive}
use Rattle.pg_values.specs.Refusals.{or_first}
use Rattle.refusals.specs.Refusals.{no_table}
use Rattle.bound_forms.specs.declared.level.Level.{Level}
use Rattle.history.specs.declared.catalogue.Column.{Column}
use Rattle.history.specs.declared.catalogue.Entry.{Entry}
use Rattle.history.specs.declared.catalogue.Stamp.{Stamp}
use Rattle.history.specs.declared.transaction.TxId.{TxId}
use Rattle.history.specs.declared.wait.WaitOn.TheVariants.{Snapshots}
use Rattle.history.specs.Catalogue.{TableDropped}
use Rattle.history.specs.Presence.{entries_present}
use Rattle.history.specs.History.{History, CatalogueChange}
use Rattle.row_router.specs.Histories.{above}
use Rattle.sql_ast.specs.Commands.{Bound}
use Rattle.sql_ast.specs.declared.locked_table.LockedTable.{LockedTable}
use Rattle.sql_ast.specs.declared.table_definition.ColumnDefinition.{ColumnDefinition}
use Rattle.sql_ast.specs.declared.table_definition.Partitioning.{Partitioning}
use Rattle.part_catalog.specs.Found.{is_meant, made_at, resolved, table_number, taken_by}
use Rattle.part_ddl.specs.Below.{default_of, tables_from, tables_under}
use Rattle.part_ddl.specs.Dropped.{ended, place_ended, places_ended, tables_dropped, drop_events}
use Rattle.part_ddl.specs.Partitions.{partition_events}
use Rattle.part_ddl.specs.Placing.{level_at}
use Rattle.part_ddl.specs.Tables.{name_faults, table_events}
use Rattle.ddl_steps.specs.Places.{default_scan}
use Rattle.ddl_steps.specs.Scans.{Scan, refusals, watches}
use Rattle.ddl_steps.specs.Sessions.{those}
use Rattle.ddl_steps.specs.Waited.{waits_for, scanned}
use Rattle.statement_steps.specs.Asks.{named, all_locked, held_at}
use Rattle.statement_steps.specs.Made.{made}
use Rattle.statement_steps.specs.Steps.{follow}
use Rattle.table_statements.specs.Claims.{name_claimed, name_tested, name_waited, waits_if_taken}
use Rattle.table_statements.specs.Drops.{one_number, default_beside, tables_to_lock, drop_locked, absent, locked_one, found_one, found_all, is_left, dropped_one, dropped_all, locked_and_dropped, dropped}
use Rattle.table_statements.specs.Locked.{whole, one_named, all_named, one_under, all_under, locked}
use Rattle.table_statements.specs.Partitions.{Place, default_scanned, partition_place, place_found, partition_made, scanned_and_made, placed_and_made, level_there, parent_tested, claimed_and_placed, claimed_and_made as claimed_and_made_below, made_beside, made_below, partitioned}
use Rattle.ddl_steps.specs.Families.{numbers_under, parent_in}
use Rattle.ddl_steps.specs.Locks.{default_locked}
use Rattle.ddl_steps.specs.Refused.{next_answer, unless_faults}
use Rattle.statement_steps.specs.Owned.{own, stamp}
use Rattle.table_statements.specs.Tables.{table_plan, planned, table_made, planned_and_made, claimed_and_made, created}
use Rattle.run_ends.specs.Asking.{MayAsk}
use Rattle.run_ends.proofs.StatementParts.{Attempt, Now, Part, Parts, Gives, Any, Ends, AreSilent, both_silent, events_part, made_part, refused_part, answered_part, follow_part, then_parts}
use Rattle.run_ends.proofs.Locks.{Low, all_locked_parts, waited_parts, waited_one_parts, named_parts, held_at_parts, made_low, last_low}
use Rattle.run_ends.proofs.Numbers.{IsLow, numbers_low, from_low, under_low, default_low, above_low}
use Rattle.run_ends.proofs.Waits.{those_known}

abbrev pub AreLow : Attempt → List ℕ → Type 0
AreLow k ns = All (λ n. n < k.bound) ns

-- ---- events of the catalogue

silent_table : (h : History) (name : List ℕ) (columns : List Column) (level : Option Level) (by : TxId) (cmd : ℕ) → AreSilent (table_events h name columns level by cmd)
silent_table h name columns None by cmd = tt
silent_table h name columns (Some level) by cmd = tt

pub silent_ended : (s : Stamp) (o : Option Entry) → AreSilent (ended s o)
silent_ended s None = tt
silent_ended s (Some e) = tt

silent_places : (session : ℕ) (s : Stamp) (h : History) (ts : List TableNo) → AreSilent (places_ended session s h ts)
silent_places session s h [] = tt
silent_places session s h (t ∷ ts) =
    let first = place_ended session s h t in
    both_silent (places_ended session s (first ++ h) ts) first (silent_places session s (first ++ h) ts) (silent_ended s (above (entries_present h session) t.number))

silent_dropped : (s : Stamp) (ts : List TableNo) → AreSilent (tables_dropped s ts)
silent_dropped s [] = tt
silent_dropped s (t ∷ ts) = both_silent (tables_dropped s ts) (CatalogueChange (TableDropped t.number s) ∷ []) (silent_dropped s ts) tt

silent_if : (b : Bool) (es : History) → AreSilent es → AreSilent (if b then es else [])
silent_if true es is = is
silent_if false es is = tt

-- ---- the name of a new table

module _ (k : Attempt) (names : List (List ℕ)) where
  taken_parts : (o : Option ℕ) → Parts k (Gives k Any) (waits_if_taken names k.caller.session o)
  taken_parts None h now = made_part k (Gives k Any) h tt now.may (now.still, tt)
  taken_parts (Some other) h now = waited_one_parts k names other None tt h now

  claimed_parts : (name : List ℕ) → Parts k (Gives k Any) (name_claimed names k.caller.session name)
  claimed_parts name =
      then_parts k Any (Gives k Any) (name_tested k.caller.session name) (λ u. name_waited names k.caller.session name) (λ h now. answered_part k h now (unless_faults (name_faults h k.caller.session name) (Ok tt)))
      (λ u any h now. taken_parts (taken_by h k.caller.session name) h now)

  -- ---- CREATE TABLE

  pub created_parts : (name : List ℕ) (columns : List ColumnDefinition) (by : Option Partitioning) → Parts k Ends (created names k.caller name columns by)
  created_parts name columns by =
      then_parts k Any Ends (held_at k.caller.level k.caller.session k.caller.cmd) (λ u. claimed_and_made names k.caller name columns by) (held_at_parts k k.caller.level k.caller.cmd)
      (λ u any. then_parts k Any Ends (name_claimed names k.caller.session name) (λ u. planned_and_made k.caller name columns by) (claimed_parts name)
      (λ v more. then_parts k Any Ends (planned columns by) (λ plan. table_made k.caller name plan) (λ h now. answered_part k h now (table_plan h columns by))
      (λ plan last h now.
      events_part k Ends h (table_events h name plan.columns plan.level (own h k.caller.session) k.caller.cmd) tt now.may
      (silent_table h name plan.columns plan.level (own h k.caller.session) k.caller.cmd) tt)))

  -- ---- the default partition

  family_low : (h : History) → Now k h → (o : Option TableNo) → IfSome o (IsLow k) → AreLow k (numbers_under h k.caller.session o)
  family_low h now None low = All-nil (λ n. n < k.bound)
  family_low h now (Some t) low = numbers_low k (tables_from h k.caller.session t.number) (from_low k h now k.caller.session t.number low)

  -- the tables under one are locked
  pub family_parts : (o : History → Option TableNo) → ((h : History) → Now k h → IfSome (o h) (IsLow k)) → Parts k (Gives k Any) (λ h. all_locked names k.caller.session AccessExclusive (numbers_under h k.caller.session (o h)) h)
  family_parts o low h now = all_locked_parts k names AccessExclusive (numbers_under h k.caller.session (o h)) (family_low h now (o h) (low h now)) h now

  pub default_parts : (t : ℕ) → Parts k (Gives k Any) (default_locked names k.caller.session t)
  default_parts t = family_parts (λ h. default_of h k.caller.session t) (λ h now. default_low k h now k.caller.session t)

  pub scanned_parts : (scans : History → List Scan) → Parts k (Gives k Any) (scanned names k.caller.session scans)
  scanned_parts scans h now = by (refusals h k.caller.session (scans h))
    where
      by : (fs : List Fault) → Part k (Gives k Any) h (waits_for names k.caller.session (or_first fs (those (watches h k.caller.session (scans h)))) h)
      by [] = waited_parts k names (Snapshots (those (watches h k.caller.session (scans h)))) None (those_known (watches h k.caller.session (scans h))) tt h now
      by (f ∷ fs) = refused_part k (Gives k Any) h f now.may

  -- ---- CREATE TABLE, PARTITION OF

  scanned_and_made_parts : (name : List ℕ) (p : ℕ) (place : Place) → Parts k Ends (scanned_and_made names k.caller name p place)
  scanned_and_made_parts name p place =
      then_parts k Any Ends (default_scanned names k.caller.session p place.bound name) (λ u. partition_made k.caller name p place)
      (scanned_parts (λ h. default_scan h k.caller.session p place.bound name (default_of h k.caller.session p)))
      (λ u any h now.
      events_part k Ends h (partition_events h name p place.bound place.level (own h k.caller.session) k.caller.cmd) tt now.may
      (silent_table h name (made_at h p).columns place.level (own h k.caller.session) k.caller.cmd) tt)

  claimed_below_parts : (name : List ℕ) (p : ℕ) (b : Bound) (by : Option Partitioning) → Parts k Ends (claimed_and_made_below names k.caller name p b by)
  claimed_below_parts name p b by =
      then_parts k Any Ends (parent_tested p) (λ u. claimed_and_placed names k.caller name p b by) (λ h now. answered_part k h now (next_answer (level_at h p) level_there))
      (λ u any. then_parts k Any Ends (name_claimed names k.caller.session name) (λ u. placed_and_made names k.caller name p b by) (claimed_parts name)
      (λ v more. then_parts k Any Ends (place_found k.caller.session p b by) (λ place. scanned_and_made names k.caller name p place) (λ h now. answered_part k h now (partition_place h k.caller.session p b by))
      (λ place last. scanned_and_made_parts name p place)))

  pub partitioned_parts : (name parent : List ℕ) (b : Bound) (by : Option Partitioning) → Parts k Ends (partitioned names k.caller name parent b by)
  partitioned_parts name parent b by =
      then_parts k Any Ends (held_at k.caller.level k.caller.session k.caller.cmd) (λ u. made_below names k.caller name parent b by) (held_at_parts k k.caller.level k.caller.cmd)
      (λ u any. then_parts k (Low k) Ends (named names k.caller.session AccessExclusive parent) (λ p. made_beside names k.caller name p b by) (named_parts k names AccessExclusive parent)
      (λ p low. then_parts k Any Ends (default_locked names k.caller.session p) (λ u. claimed_and_made_below names k.caller name p b by) (default_parts p) (λ v more. claimed_below_parts name p b by)))

  -- ---- DROP TABLE

  one_low : (o : Option TableNo) → IfSome o (IsLow k) → AreLow k (one_number o)
  one_low None low = All-nil (λ n. n < k.bound)
  one_low (Some t) low = All-cons (λ n. n < k.bound) t.number [] low (All-nil (λ n. n < k.bound))

  beside_low : (h : History) → Now k h → (o : Option TableNo) → IfSome (default_beside h k.caller.session o) (IsLow k)
  beside_low h now None = tt
  beside_low h now (Some p) = default_low k h now k.caller.session p.number

  to_lock_low : (h : History) → Now k h → (t : ℕ) → t < k.bound → AreLow k (tables_to_lock h k.caller.session t)
  to_lock_low h now t low =
      let s = k.caller.session in
      All-append (λ n. n < k.bound) (one_number (parent_in h s t)) (map (λ x. x.number) (tables_from h s t) ++ one_number (default_beside h s (parent_in h s t))) (one_low (parent_in h s t) (above_low k h now s t))
      (All-append (λ n. n < k.bound) (map (λ x. x.number) (tables_from h s t)) (one_number (default_beside h s (parent_in h s t))) (numbers_low k (tables_from h s t) (from_low k h now s t low))
      (one_low (default_beside h s (parent_in h s t)) (beside_low h now (parent_in h s t))))

  absent_part : (if_there : Bool) (name : List ℕ) (h : History) → Now k h → Part k (Gives k Any) h (absent if_there name)
  absent_part true name h now = made_part k (Gives k Any) h [] now.may (now.still, tt)
  absent_part false name h now = refused_part k (Gives k Any) h (no_table name) now.may

  found_one_parts : (if_there : Bool) (name : List ℕ) → Parts k (Gives k Any) (found_one names k.caller.session if_there name)
  found_one_parts if_there name h now = by (resolved h k.caller.session name) refl
    where
      by : (o : Option ℕ) → resolved h k.caller.session name ≡ o → Part k (Gives k Any) h (locked_one names k.caller.session if_there name o h)
      by None e = absent_part if_there name h now
      by (Some t) e =
          let low = made_low k h now t (last_low (is_meant h k.caller.session name) (table_number h) t e) in
          then_parts k Any (Gives k Any) (drop_locked names k.caller.session t) (λ u h. made [] (t ∷ []))
          (λ h now. all_locked_parts k names AccessExclusive (tables_to_lock h k.caller.session t) (to_lock_low h now t low) h now)
          (λ u any h now. made_part k (Gives k Any) h (t ∷ []) now.may (now.still, tt)) h now

  found_all_parts : (if_there : Bool) (ts : List (List ℕ)) → Parts k (Gives k Any) (found_all names k.caller.session if_there ts)
  found_all_parts if_there [] h now = made_part k (Gives k Any) h [] now.may (now.still, tt)
  found_all_parts if_there (t ∷ ts) h now =
      then_parts k Any (Gives k Any) (found_one names k.caller.session if_there t) (λ first. follow (found_all names k.caller.session if_there ts) (λ others h. made [] (first ++ others))) (found_one_parts if_there t)
      (λ first any. then_parts k Any (Gives k Any) (found_all names k.caller.session if_there ts) (λ others h. made [] (first ++ others)) (found_all_parts if_there ts)
      (λ others more h now. made_part k (Gives k Any) h (first ++ others) now.may (now.still, tt))) h now

  dropped_one_part : (t : ℕ) (h : History) → MayAsk k.caller.session h → Part k Ends h (dropped_one k.caller t h)
  dropped_one_part t h may =
      let s = k.caller.session in
      let st = stamp k.caller h in
      events_part k Ends h (if is_left h s t then drop_events h s t st else []) tt may
      (silent_if (is_left h s t) (drop_events h s t st)
      (both_silent (tables_dropped st (tables_from h s t)) (places_ended s st h (tables_from h s t)) (silent_dropped st (tables_from h s t)) (silent_places s st h (tables_from h s t)))) tt

  dropped_all_part : (ts : List ℕ) (h : History) → MayAsk k.caller.session h → Part k Ends h (dropped_all k.caller ts h)
  dropped_all_part [] h may = made_part k Ends h tt may tt
  dropped_all_part (t ∷ ts) h may =
      follow_part k Ends Ends (dropped_one k.caller t) (λ u. dropped_all k.caller ts) h may (dropped_one_part t h may) (λ u still any. dropped_all_part ts ((dropped_one k.caller t h).events ++ h) still)

  pub dropped_parts : (if_there : Bool) (tables : List (List ℕ)) → Parts k Ends (dropped names k.caller if_there tables)
  dropped_parts if_there tables =
      then_parts k Any Ends (held_at k.caller.level k.caller.session k.caller.cmd) (λ u. locked_and_dropped names k.caller if_there tables) (held_at_parts k k.caller.level k.caller.cmd)
      (λ u any. then_parts k Any Ends (found_all names k.caller.session if_there tables) (λ ts. dropped_all k.caller ts) (found_all_parts if_there tables) (λ ts more h now. dropped_all_part ts h now.may))

  -- ---- LOCK

  whole_low : (only : Bool) (t : ℕ) → t < k.bound → AreLow k (whole only t)
  whole_low true t low = All-nil (λ n. n < k.bound)
  whole_low false t low = All-cons (λ n. n < k.bound) t [] low (All-nil (λ n. n < k.bound))

  one_named_parts : (m : LockMode) (x : LockedTable) → Parts k (Gives k (AreLow k)) (one_named names k.caller.session m x)
  one_named_parts m x =
      then_parts k (Low k) (Gives k (AreLow k)) (named names k.caller.session m x.name) (λ t h. made [] (whole x.only t)) (named_parts k names m x.name)
      (λ t low h now. made_part k (Gives k (AreLow k)) h (whole x.only t) now.may (now.still, whole_low x.only t low))

  all_named_parts : (m : LockMode) (xs : List LockedTable) → Parts k (Gives k (AreLow k)) (all_named names k.caller.session m xs)
  all_named_parts m [] h now = made_part k (Gives k (AreLow k)) h [] now.may (now.still, All-nil (λ n. n < k.bound))
  all_named_parts m (x ∷ xs) h now =
      then_parts k (AreLow k) (Gives k (AreLow k)) (one_named names k.caller.session m x) (λ first. follow (all_named names k.caller.session m xs) (λ others h. made [] (first ++ others))) (one_named_parts m x)
      (λ first low. then_parts k (AreLow k) (Gives k (AreLow k)) (all_named names k.caller.session m xs) (λ others h. made [] (first ++ others)) (all_named_parts m xs)
      (λ others more h now. made_part k (Gives k (AreLow k)) h (first ++ others) now.may (now.still, All-append (λ n. n < k.bound) first others low more))) h now

  all_under_parts : (m : LockMode) (ts : List ℕ) → AreLow k ts → Parts k (Gives k Any) (all_under names k.caller.session m ts)
  all_under_parts m [] low h now = made_part k (Gives k Any) h tt now.may (now.still, tt)
  all_under_parts m (t ∷ ts) low h now =
      then_parts k Any (Gives k Any) (one_under names k.caller.session m t) (λ u. all_under names k.caller.session m ts)
      (λ h now. all_locked_parts k names m (map (λ x. x.number) (tables_under h k.caller.session t)) (numbers_low k (tables_under h k.caller.session t) (under_low k h now k.caller.session t (All-head (λ n. n < k.bound) t ts low))) h now)
      (λ u any. all_under_parts m ts (All-tail (λ n. n < k.bound) t ts low)) h now

  pub locked_parts : (tables : List LockedTable) (mode : LockMode) → Parts k (Gives k Any) (locked names k.caller.session tables mode)
  locked_parts tables mode = then_parts k (AreLow k) (Gives k Any) (all_named names k.caller.session mode tables) (all_under names k.caller.session mode) (all_named_parts mode tables) (all_under_parts mode)
