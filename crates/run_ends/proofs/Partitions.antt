-- ALTER TABLE: DETACH PARTITION in its three ways, and ATTACH PARTITION.
use Rattle.std.proofs.Common.{◌<◌, ℕ, List, [], ◌∷◌, ◌++◌, Option, Some, None, IfSome}
use Rattle.pg_values.specs.Sets.{without}
use Rattle.pg_values.specs.declared.ids.TableNo.{TableNo}
use Rattle.pg_values.specs.declared.lock_mode.LockMode.TheVariants.{ShareUpdateExclusive, AccessExclusive}
use Rattle.bound_forms.specs.declared.partition_bound.Bound.{Bound as MeantBound}
use Rattle.history.specs.declared.catalogue.Entry.{Entry}
use Rattle.history.specs.declared.catalogue.KeptCheck.{KeptCheck}
use Rattle.history.specs.declared.catalogue.Stamp.{Stamp}
use Rattle.history.specs.declared.transaction.TxId.{TxId}
use Rattle.history.specs.declared.wait.WaitOn.TheVariants.{Ends as EndsOf, Snapshots}
use Rattle.history.specs.Catalogue.{EntryAdded}
use Rattle.history.specs.Locks.{holds_any}
use Rattle.history.specs.Presence.{entries_present}
use Rattle.history.specs.History.{History, CatalogueChange, lock_events}
use Rattle.row_router.specs.Histories.{above, table_of}
use Rattle.sql_ast.specs.Commands.{Bound}
use Rattle.part_catalog.specs.Answers.{entry_between, marker_told, pending_entry}
use Rattle.part_ddl.specs.Below.{default_of}
use Rattle.part_ddl.specs.Dropped.{place_ended}
use Rattle.ddl_steps.specs.Locks.{default_locked as family_of_default_locked}
use Rattle.ddl_steps.specs.Sessions.{those}
use Rattle.ddl_steps.specs.Waited.{scanned}
use Rattle.statement_steps.specs.Asks.{named, named_still, held_at}
use Rattle.statement_steps.specs.Steps.{follow, going_on}
use Rattle.statement_steps.specs.declared.ending.Ending.{Ending}
use Rattle.statement_steps.specs.declared.ending.Ending.TheVariants as endings
use Rattle.statement_steps.specs.declared.rest.Rest.{Rest}
use Rattle.statement_steps.specs.declared.rest.Rest.TheVariants.{Rows, Detach}
use Rattle.statement_steps.specs.declared.rest.RestOfDetach.{RestOfDetach}
use Rattle.statement_steps.specs.Owned.{own, stamp}
use Rattle.alter_table.specs.Concurrent.{judged, marked, rest_of, place_marked, table_marked, first_stage, others_ended, behind_nobody, judged_still, endable, markable, partition_left, third_stage, later_stages, by_rest, detached_concurrently}
use Rattle.alter_table.specs.Detached.{locked_or_none, default_locked, checked, detachable, place_left, table_detached, locked_and_detached, detached}
use Rattle.alter_table.specs.Finalized.{judged as judged_pending, finalizable, unseeing, mark_seen, table_finalized, locked_and_finalized, finalized}
use Rattle.alter_table.specs.Kept.{check_by, check_kept, new_check}
use Rattle.alter_table.specs.Attached.{family_locked, place_found, scans, new_entry, entry_added, scanned_and_added, placed_and_added, attached_beside, table_attached, locked_and_attached, attached}
use Rattle.alter_table.specs.Places.{attach_place}
use Rattle.run_ends.specs.Asking.{HasSessions, IsKnown}
use Rattle.run_ends.proofs.StatementParts.{Attempt, Parts, Gives, Any, Ends, AreSilent, both_silent, events_part, made_part, answered_part, then_parts, giving_part, going_on_part}
use Rattle.run_ends.proofs.Locks.{Low, locked_parts, waited_parts, named_parts, named_still_parts, held_at_parts}
use Rattle.run_ends.proofs.Numbers.{IsLow, default_low}
use Rattle.run_ends.proofs.Tables.{silent_ended, family_parts, default_parts, scanned_parts}
use Rattle.run_ends.proofs.Waits.{nobody_known, without_known, those_known}

-- ---- events of the catalogue

silent_marked : (s : Stamp) (o : Option Entry) → AreSilent (marked s o)
silent_marked s None = tt
silent_marked s (Some e) = tt

silent_check : (t : TableNo) (by : TxId) (cmd : ℕ) (o : Option KeptCheck) → AreSilent (check_by t by cmd o)
silent_check t by cmd None = tt
silent_check t by cmd (Some c) = tt

-- where a detach goes on, the others whose ends it waits for are sessions
abbrev WaitsForSessions : RestOfDetach → History → Type 0
WaitsForSessions d g = HasSessions d.behind

abbrev pub EndsKnown : Ending → History → Type 0
EndsKnown endings.Done g = Unit {0}
EndsKnown (endings.Commits d) g = HasSessions d.behind

module _ (k : Attempt) (names : List (List ℕ)) where
  -- ---- DETACH

  one_or_none_parts : (o : Option TableNo) → IfSome o (IsLow k) → Parts k (Gives k Any) (locked_or_none names k.caller.session o)
  one_or_none_parts None low h now = made_part k (Gives k Any) h tt now.may (now.still, tt)
  one_or_none_parts (Some t) low h now = locked_parts k names t.number AccessExclusive low h now

  table_detached_parts : (p t : ℕ) → Parts k Ends (table_detached names k.caller p t)
  table_detached_parts p t =
      then_parts k Any Ends (default_locked names k.caller.session p) (λ u. follow (checked k.caller.session p t) (λ v. place_left k.caller t))
      (λ h now. one_or_none_parts (default_of h k.caller.session p) (default_low k h now k.caller.session p) h now)
      (λ u any. then_parts k Any Ends (checked k.caller.session p t) (λ v. place_left k.caller t) (λ h now. answered_part k h now (detachable h k.caller.session p t))
      (λ v more h now.
      events_part k Ends h (place_ended k.caller.session (stamp k.caller h) h (table_of t)) tt now.may (silent_ended (stamp k.caller h) (above (entries_present h k.caller.session) t)) tt))

  pub detached_parts : (parent name : List ℕ) → Parts k Ends (detached names k.caller parent name)
  detached_parts parent name =
      then_parts k Any Ends (held_at k.caller.level k.caller.session k.caller.cmd) (λ u. locked_and_detached names k.caller parent name) (held_at_parts k k.caller.level k.caller.cmd)
      (λ u any. then_parts k (Low k) Ends (named names k.caller.session AccessExclusive parent) (λ p. follow (named names k.caller.session AccessExclusive name) (λ t. table_detached names k.caller p t))
      (named_parts k names AccessExclusive parent)
      (λ p low. then_parts k (Low k) Ends (named names k.caller.session AccessExclusive name) (λ t. table_detached names k.caller p t) (named_parts k names AccessExclusive name) (λ t more. table_detached_parts p t)))

  -- ---- DETACH CONCURRENTLY

  table_marked_parts : (p t : ℕ) → Parts k WaitsForSessions (table_marked k.caller p t)
  table_marked_parts p t =
      then_parts k Any WaitsForSessions (judged k.caller.session p t) (λ u. place_marked k.caller p t) (λ h now. answered_part k h now (markable h k.caller.session p t))
      (λ u any h now.
      events_part k WaitsForSessions h (marked (stamp k.caller h) (entry_between h k.caller.session p t)) (rest_of h k.caller.session p t) now.may
      (silent_marked (stamp k.caller h) (entry_between h k.caller.session p t)) (those_known (λ r. holds_any (lock_events h) r p)))

  first_stage_parts : (parent name : List ℕ) → Parts k WaitsForSessions (first_stage names k.caller parent name)
  first_stage_parts parent name =
      then_parts k (Low k) WaitsForSessions (named names k.caller.session ShareUpdateExclusive parent) (λ p. follow (named names k.caller.session ShareUpdateExclusive name) (λ t. table_marked k.caller p t))
      (named_parts k names ShareUpdateExclusive parent)
      (λ p low. then_parts k (Low k) WaitsForSessions (named names k.caller.session ShareUpdateExclusive name) (λ t. table_marked k.caller p t) (named_parts k names ShareUpdateExclusive name)
      (λ t more. table_marked_parts p t))

  left_parts : (p t : ℕ) → Parts k Ends (partition_left k.caller p t)
  left_parts p t h now =
      let st = stamp k.caller h in
      events_part k Ends h (place_ended k.caller.session st h (table_of t) ++ check_kept k.caller t h (new_check h k.caller.session p t)) tt now.may
      (both_silent (place_ended k.caller.session st h (table_of t)) (check_kept k.caller t h (new_check h k.caller.session p t)) (silent_ended st (above (entries_present h k.caller.session) t))
      (silent_check (table_of t) (own h k.caller.session) k.caller.cmd (new_check h k.caller.session p t))) tt

  third_stage_parts : (d : RestOfDetach) (parent name : List ℕ) → Parts k Ends (third_stage names k.caller d parent name)
  third_stage_parts d parent name =
      then_parts k Any Ends (named_still names k.caller.session ShareUpdateExclusive parent d.parent.number)
      (λ u. follow (named_still names k.caller.session AccessExclusive name d.table.number) (λ v. follow (judged_still k.caller.session d) (λ w. partition_left k.caller d.parent.number d.table.number)))
      (named_still_parts k names ShareUpdateExclusive parent d.parent.number)
      (λ u any. then_parts k Any Ends (named_still names k.caller.session AccessExclusive name d.table.number) (λ v. follow (judged_still k.caller.session d) (λ w. partition_left k.caller d.parent.number d.table.number))
      (named_still_parts k names AccessExclusive name d.table.number)
      (λ v more. then_parts k Any Ends (judged_still k.caller.session d) (λ w. partition_left k.caller d.parent.number d.table.number) (λ h now. answered_part k h now (endable h k.caller.session d))
      (λ w last. left_parts d.parent.number d.table.number)))

  later_stages_parts : (d : RestOfDetach) (parent name : List ℕ) → HasSessions d.behind → Parts k Ends (later_stages names k.caller d parent name)
  later_stages_parts d parent name known =
      then_parts k Any Ends (others_ended names k.caller.session d) (λ u. third_stage names k.caller d parent name)
      (waited_parts k names (EndsOf (without d.behind k.caller.session)) None (without_known d.behind k.caller.session known) tt) (λ u any. third_stage_parts d parent name)

  by_rest_parts : (o : Option RestOfDetach) (parent name : List ℕ) → IfSome o (λ d. HasSessions d.behind) → Parts k EndsKnown (by_rest names k.caller o parent name)
  by_rest_parts None parent name known h now =
      giving_part k WaitsForSessions EndsKnown endings.Commits h (first_stage names k.caller parent name h) (λ d g is. is) (first_stage_parts parent name h now)
  by_rest_parts (Some d) parent name known h now =
      giving_part k Ends EndsKnown (λ u. endings.Done) h (going_on (Some (Detach (behind_nobody d))) (later_stages names k.caller d parent name h)) (λ u g is. tt)
      (going_on_part k Ends (Some (Detach (behind_nobody d))) h (later_stages names k.caller d parent name h) nobody_known (later_stages_parts d parent name known h now))

  pub concurrently_parts : (rest : Option Rest) (parent name : List ℕ) → IsKnown rest → Parts k EndsKnown (detached_concurrently names k.caller rest parent name)
  concurrently_parts None parent name known h now = by_rest_parts None parent name tt h now
  concurrently_parts (Some (Rows r)) parent name known h now = by_rest_parts None parent name tt h now
  concurrently_parts (Some (Detach d)) parent name known h now = by_rest_parts (Some d) parent name known h now

  -- ---- DETACH FINALIZE

  table_finalized_parts : (p t : ℕ) → Parts k Ends (table_finalized names k.caller p t)
  table_finalized_parts p t =
      then_parts k Any Ends (judged_pending k.caller.session p t) (λ u. follow (mark_seen names k.caller.session p) (λ v. partition_left k.caller p t)) (λ h now. answered_part k h now (finalizable h k.caller.session p t))
      (λ u any. then_parts k Any Ends (mark_seen names k.caller.session p) (λ v. partition_left k.caller p t)
      (λ h now.
      let blind = unseeing h k.caller.session (marker_told h (pending_entry h k.caller.session p)) in
      waited_parts k names (Snapshots (those blind)) None (those_known blind) tt h now)
      (λ v more. left_parts p t))

  pub finalized_parts : (parent name : List ℕ) → Parts k Ends (finalized names k.caller parent name)
  finalized_parts parent name =
      then_parts k Any Ends (held_at k.caller.level k.caller.session k.caller.cmd) (λ u. locked_and_finalized names k.caller parent name) (held_at_parts k k.caller.level k.caller.cmd)
      (λ u any. then_parts k (Low k) Ends (named names k.caller.session ShareUpdateExclusive parent) (λ p. follow (named names k.caller.session AccessExclusive name) (λ t. table_finalized names k.caller p t))
      (named_parts k names ShareUpdateExclusive parent)
      (λ p low. then_parts k (Low k) Ends (named names k.caller.session AccessExclusive name) (λ t. table_finalized names k.caller p t) (named_parts k names AccessExclusive name) (λ t more. table_finalized_parts p t)))

  -- ---- ATTACH

  scanned_and_added_parts : (p t : ℕ) (b : MeantBound) → Parts k Ends (scanned_and_added names k.caller p t b)
  scanned_and_added_parts p t b =
      then_parts k Any Ends (scanned names k.caller.session (scans k.caller.session p t b)) (λ u. entry_added k.caller p t b) (scanned_parts k names (scans k.caller.session p t b))
      (λ u any h now. events_part k Ends h (CatalogueChange (EntryAdded (new_entry k.caller p t b h)) ∷ []) tt now.may tt tt)

  attached_beside_parts : (p t : ℕ) (b : Bound) → Parts k Ends (attached_beside names k.caller p t b)
  attached_beside_parts p t b =
      then_parts k Any Ends (family_of_default_locked names k.caller.session p) (λ u. placed_and_added names k.caller p t b) (default_parts k names p)
      (λ u any. then_parts k Any Ends (place_found k.caller.session p t b) (λ bound. scanned_and_added names k.caller p t bound) (λ h now. answered_part k h now (attach_place h k.caller.session p t b))
      (λ bound more. scanned_and_added_parts p t bound))

  table_attached_parts : (p t : ℕ) (b : Bound) → t < k.bound → Parts k Ends (table_attached names k.caller p t b)
  table_attached_parts p t b low =
      then_parts k Any Ends (family_locked names k.caller.session t) (λ u. attached_beside names k.caller p t b) (family_parts k names (λ h. Some (table_of t)) (λ h now. low)) (λ u any. attached_beside_parts p t b)

  pub attached_parts : (parent name : List ℕ) (b : Bound) → Parts k Ends (attached names k.caller parent name b)
  attached_parts parent name b =
      then_parts k Any Ends (held_at k.caller.level k.caller.session k.caller.cmd) (λ u. locked_and_attached names k.caller parent name b) (held_at_parts k k.caller.level k.caller.cmd)
      (λ u any. then_parts k (Low k) Ends (named names k.caller.session ShareUpdateExclusive parent) (λ p. follow (named names k.caller.session AccessExclusive name) (λ t. table_attached names k.caller p t b))
      (named_parts k names ShareUpdateExclusive parent)
      (λ p low. then_parts k (Low k) Ends (named names k.caller.session AccessExclusive name) (λ t. table_attached names k.caller p t b) (named_parts k names AccessExclusive name)
      (λ t more. table_attached_parts p t b more)))
