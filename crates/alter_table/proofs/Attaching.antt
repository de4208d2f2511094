-- The entry by which a table becomes a partition.
use Rattle.std.proofs.Common.{◌≡◌, ℕ, ◌+◌, ◌<◌, ◌&&◌, ◌||◌, not, Bool, true, false, List, [], ◌∷◌, ◌++◌, ◌⊎◌, inl, inr, refl, sym, ap, ◌∙◌, subst, arith, Option, Some, None, Ok, Err, map, length}
use Rattle.std.specs.Prelude.{is_some, ◌≤◌}
use Rattle.std.specs.List.{Contains, list_any}
use Rattle.std.proofs.lemmas.List.Elements.{All-contains}
use Rattle.pg_values.specs.declared.value.Value.{Value}
use Rattle.pg_values.specs.declared.ids.TableNo.{TableNo}
use Rattle.pg_values.specs.declared.lock_mode.LockMode.TheVariants.{ShareUpdateExclusive, AccessExclusive}
use Rattle.bound_forms.specs.declared.partition_bound.Bound.{Bound}
use Rattle.bound_forms.specs.Accepts.{accepts, accepts_among, is_default}
use Rattle.history.specs.declared.transaction.TxId.{TxId}
use Rattle.history.specs.declared.version.Version.{Version}
use Rattle.history.specs.declared.catalogue.Entry.{Entry}
use Rattle.history.specs.Transactions.{open_of, session_of}
use Rattle.history.specs.Catalogue.{EntryAdded, entries_added}
use Rattle.history.specs.Locks.{holds}
use Rattle.history.specs.History.{History, CatalogueChange, tx_events, lock_events, catalogue_events}
use Rattle.history.specs.Presence.{entries_present}
use Rattle.history.proofs.Open.{open_own}
use Rattle.row_router.specs.Histories.{bound_of, path_of}
use Rattle.row_router.specs.Siblings.{AreSiblings, CanStandTogether}
use Rattle.row_router.specs.declared.path.PathTest.TheVariants.{Bounds, Checks}
use Rattle.row_router.specs.Paths.{refused}
use Rattle.tx_table.specs.Stands.{TableStands}
use Rattle.part_catalog.specs.Found.{made_at}
use Rattle.part_catalog.specs.declared.TheConstants.{ENTRY_LIMIT}
use Rattle.part_catalog.specs.Full.{EntryRefused, MayAdd, partitions, added, levels}
use Rattle.part_catalog.specs.Kept.{KeptCatalogue, next_entry}
use Rattle.part_catalog.specs.Stands.{CatalogueStands}
use Rattle.part_ddl.specs.Below.{default_of, tables_from}
use Rattle.part_ddl.specs.Laws.{PassedHavePlaces, IsNoDefaultBeside}
use Rattle.part_ddl.specs.Placing.{partitions_of, bounds_below}
use Rattle.part_ddl.proofs.Making.{table_count}
use Rattle.soundness.specs.Laws.{SessionsHaveSiblings}
use Rattle.soundness.specs.Legal.{Takes}
use Rattle.soundness.specs.Worlds.{key_at}
use Rattle.soundness.proofs.Listed.{child_listed, none_in, cases_in}
use Rattle.soundness.proofs.Sound.{catalogue_sound_of}
use Rattle.legal_statements.specs.Entries.{IsDefaultOf, IsScanned, IsNewPlace, IsAttached}
use Rattle.legal_statements.specs.Follows.{MayFollow}
use Rattle.legal_statements.specs.Laws.{NamedIsThere, AttachMayFollow, NoneBreaks}
use Rattle.legal_statements.proofs.Adding.{listed_for}
use Rattle.pg_values.specs.declared.which.Which.{Which}
use Rattle.part_catalog.specs.declared.new_table.CatalogRefused.TheVariants.{Full}
use Rattle.stores.specs.Events.{tx_in}
use Rattle.stores.specs.Numbers.{IsAt}
use Rattle.stores.specs.Stand.{Stands}
use Rattle.stores.specs.declared.stores.Stores.{Stores}
use Rattle.stores.proofs.Commands.{commands_are_in_order}
use Rattle.stores.proofs.Goodness.{legal_of, permitted_of}
use Rattle.statement_steps.specs.Attempts.{MayAttempt}
use Rattle.statement_steps.specs.declared.caller.Caller.{Caller}
use Rattle.statement_steps.specs.declared.stop.Stop.TheVariants as stop
use Rattle.statement_steps.specs.Steps.{IsStep}
use Rattle.statement_steps.proofs.Parts.{locks_same, no_memory}
use Rattle.statement_steps.specs.Owned.{own}
use Rattle.statement_steps.proofs.Owned.{own_number, own_is, IsOwn}
use Rattle.ddl_steps.specs.Places.{breaks_place, is_refused_above, place_scan, default_scan}
use Rattle.ddl_steps.specs.Scans.{IsClean}
use Rattle.ddl_steps.proofs.Cleaning.{clean_first, clean_rest}
use Rattle.ddl_steps.proofs.Beside.{stands_apart}
use Rattle.ddl_steps.proofs.Deeds.{IsDeed, deed_step}
use Rattle.alter_table.specs.AskedOfAttached.{MayBeAttached, HasPlace, HasLockedAll, AreRowsClean, IsJudgedIn}
use Rattle.alter_table.specs.Attached.{new_entry, entry_added, scans}
use Rattle.alter_table.specs.Places.{name_at}
use Rattle.alter_table.proofs.LeftOut.{judged_now}

pub record AttachLaws : Type 0 where
  pub named : NamedIsThere
  pub follow : AttachMayFollow
  pub passed : PassedHavePlaces
  pub none : NoneBreaks
  pub siblings : SessionsHaveSiblings

-- ---- what a row that does not break the new place is

not_true : (b : Bool) → not b ≡ false → b ≡ true
not_true true e = refl
not_true false e = absurd (let c = e in cc)

not_false : (b : Bool) → not b ≡ true → b ≡ false
not_false true e = absurd (let c = e in cc)
not_false false e = refl

none_refused : (o : Option TableNo) → is_some o ≡ false → o ≡ None
none_refused None e = refl
none_refused (Some t) e = absurd (let c = e in cc)

left_of : (a b : Bool) → (a || b) ≡ false → a ≡ false
left_of false b e = refl
left_of true b e = absurd (let c = e in cc)

right_of : (a b : Bool) → (a || b) ≡ false → b ≡ false
right_of false b e = e
right_of true b e = absurd (let c = e in cc)

either_of : (a b : Bool) → (a || b) ≡ true → (a ≡ true) ⊎ (b ≡ true)
either_of true b e = inl refl
either_of false b e = inr e

both_of : (a b : Bool) → (a && b) ≡ true → (a ≡ true) × (b ≡ true)
both_of true b e = (refl, e)
both_of false b e = absurd (let c = e in cc)

none_of_all : (key : List Value) (es : List Entry) (f : Entry) → list_any (accepts key) (map bound_of es) ≡ false → Contains es f → accepts key f.bound ≡ false
none_of_all key [] f none at = absurd (none_in f at)
none_of_all key (e ∷ es) f none at = elim (cases_in e es f at) [
  | inl here ↦ subst (λ (z : Entry). accepts key z.bound ≡ false) here (left_of (accepts key e.bound) (list_any (accepts key) (map bound_of es)) none)
  | inr later ↦ none_of_all key es f (right_of (accepts key e.bound) (list_any (accepts key) (map bound_of es)) none) later
]

-- ---- at a history that the stores stand for

module _ (laws : AttachLaws) (stores : Stores) (caller : Caller) (p t : ℕ) (b : Bound) (h : History) (stands : Stands stores h) (at : IsAt h caller.session caller.cmd) (n : ℕ) (its : open_of (tx_events h) caller.session ≡ Some n) (is_n : tx_in h caller.session ≡ n) (all : HasLockedAll stores caller.session p t)
    (may : MayBeAttached h caller.session p t b) (clean : IsClean h caller.session (scans caller.session p t b h)) where
  ours : open_of (tx_events h) caller.session ≡ Some (tx_in h caller.session)
  ours = its ∙ ap Some (sym is_n)

  guarded : holds (lock_events h) caller.session p ShareUpdateExclusive ≡ true
  guarded = sym (stands.all.locks.tells.held caller.session p ShareUpdateExclusive) ∙ all.guarded.guarded

  here : IsJudgedIn stores caller.session t h
  here = judged_now stores caller.session t h stands all.family

  takes_row : (row : List Value) → accepts_among (bounds_below h caller.session p) (key_at (catalogue_events h) p row) b ≡ true → Takes h (tx_in h caller.session) (new_entry caller p t b h) row
  takes_row row is =
      let key = key_at (catalogue_events h) p row in
      elim (either_of (accepts key b) (is_default b && not (list_any (accepts key) (bounds_below h caller.session p))) is) [
        | inl own ↦ inl own
        | inr other ↦
            let two = both_of (is_default b) (not (list_any (accepts key) (bounds_below h caller.session p))) other in
            let none : list_any (accepts key) (bounds_below h caller.session p) ≡ false = not_false (list_any (accepts key) (bounds_below h caller.session p)) two.1 in
            inr (two.0, λ f present under. none_of_all key (partitions_of h caller.session p) f none (child_listed (entries_present h caller.session) p f (listed_for h caller.session (tx_in h caller.session) f (legal_of h stands.good) ours present) under))
      ]

  scanned : (v : Version) → IsScanned h caller.session (tx_in h caller.session) t v → Takes h (tx_in h caller.session) (new_entry caller p t b h) v.row × (refused Bounds v.row (path_of h caller.session p) ≡ None) × (refused Checks v.row (path_of h caller.session p) ≡ None)
  scanned v it =
      let first = clean_first h caller.session (place_scan h caller.session p t b) (default_scan h caller.session p b (name_at h t) (default_of h caller.session p)) clean in
      let breaks = laws.none h caller.session (tx_in h caller.session) t (breaks_place h caller.session p b) first.0 first.1 v it in
      let key = key_at (catalogue_events h) p v.row in
      let own = left_of (not (accepts_among (bounds_below h caller.session p) key b)) (is_refused_above h caller.session p v.row) breaks in
      let above = right_of (not (accepts_among (bounds_below h caller.session p) key b)) (is_refused_above h caller.session p v.row) breaks in (
        takes_row v.row (not_true (accepts_among (bounds_below h caller.session p) key b) own),
        none_refused (refused Bounds v.row (path_of h caller.session p)) (left_of (is_some (refused Bounds v.row (path_of h caller.session p))) (is_some (refused Checks v.row (path_of h caller.session p))) above),
        none_refused (refused Checks v.row (path_of h caller.session p)) (right_of (is_some (refused Bounds v.row (path_of h caller.session p))) (is_some (refused Checks v.row (path_of h caller.session p))) above),
      )

  place : IsNewPlace h caller.session (new_entry caller p t b h)
  place =
      let legal = legal_of h stands.good in
      let permitted = permitted_of h stands.good in
      let law = laws.passed h caller.session _ (new_entry caller p t b h) (catalogue_sound_of h legal) may.takes may.place in
      let count = table_count stores.catalog h stands.all.catalog in
      let rest = clean_rest h caller.session (place_scan h caller.session p t b) (default_scan h caller.session p b (name_at h t) (default_of h caller.session p)) clean in
      let apart = λ (d : Entry) (is : IsDefaultOf h caller.session p d). stands_apart laws.none stores h caller.session (tx_in h caller.session) p b (name_at h t) d stands (laws.siblings h caller.session legal permitted) refl (all.default h stands.all.txs stands.all.catalog) rest is in
      record {
        own = ours;
        command = commands_are_in_order h caller.session (tx_in h caller.session) caller.cmd at ours;
        number = refl;
        suits = record { parent = let made = all.guarded.made in omega (arith, count, made); child = let made = all.locked.made in omega (arith, count, made); bound = may.takes; columns = may.columns };
        parent_there = laws.named h caller.session (tx_in h caller.session) p all.guarded.name legal ours (all.guarded.named h stands.all.txs stands.all.catalog);
        child_there = laws.named h caller.session (tx_in h caller.session) t all.locked.name legal ours (all.locked.named h stands.all.txs stands.all.catalog);
        guarded = inl guarded;
        room = record { partitions = law.partitions; added = law.added; levels = law.levels };
        together = λ x there. All-contains (λ (y : Entry). CanStandTogether y (new_entry caller p t b h)) (entries_present h caller.session) x law.together there;
        no_pending = λ x there of pending. All-contains (IsNoDefaultBeside h caller.session (new_entry caller p t b h)) (entries_present h caller.session) x law.no_pending there of pending;
        default_owned = λ d x is listed. inl ((apart d is).owned x listed);
        default_scanned = λ d v is it. (apart d is).scanned v it;
      }

  is_attached : IsAttached h caller.session (new_entry caller p t b h)
  is_attached = record {
    place = place;
    child_owned = here.owned;
    no_partition = may.no_partition;
    not_above = may.not_above;
    scanned = scanned;
  }

  pub entry_may_follow : MayFollow (CatalogueChange (EntryAdded (new_entry caller p t b h)) ∷ []) h
  entry_may_follow = laws.follow h caller.session (new_entry caller p t b h) (legal_of h stands.good) (permitted_of h stands.good) is_attached

-- ---- the catalogue takes it

-- it is the next one
is_next : (kept : KeptCatalogue) (caller : Caller) (p t : TableNo) (b : Bound) (by : TxId) (h : History) → CatalogueStands kept h → by ≡ own h caller.session → next_entry kept p t b by caller.cmd ≡ new_entry caller p.number t.number b h
is_next kept caller p t b by h stands is =
    let at : ℕ → TxId → Entry = λ n x. record { id = record { number = n }; parent = p; child = t; bound = b; by = x; cmd = caller.cmd } in
    ap (λ (n : ℕ). at n by) stands.added ∙ ap (λ (x : TxId). at (length (entries_added (catalogue_events h))) x) is

module _ (laws : AttachLaws) (stores : Stores) (caller : Caller) (p t : TableNo) (b : Bound) (by : TxId) (may : MayAttempt stores caller) (mine : IsOwn stores caller.session by) (all : HasLockedAll stores caller.session p.number t.number) (place : HasPlace stores caller.session p.number t.number b) where
  owner : (h : History) → TableStands stores.txs h → session_of (tx_events h) by.number ≡ caller.session
  owner h txs = open_own (tx_events h) caller.session by.number txs.sound (sym (mine h txs))

  pub may_add : MayAdd stores.txs stores.catalog (next_entry stores.catalog p t b by caller.cmd)
  may_add =
      let h = may.sound.0 in
      let stands = may.sound.1 in
      let can = place h stands.all.txs stands.all.catalog in
      let count = table_count stores.catalog h stands.all.catalog in
      record {
        h = h;
        txs = stands.all.txs;
        catalogue = stands.all.catalog;
        suits = record { parent = let made = all.guarded.made in omega (arith, count, made); child = let made = all.locked.made in omega (arith, count, made); bound = can.takes; columns = can.columns };
        siblings = subst (λ (n : ℕ). AreSiblings (entries_present h n)) (sym (owner h stands.all.txs)) (laws.siblings h caller.session (legal_of h stands.good) (permitted_of h stands.good));
      }

  -- there is room for it
  refused_none : (h : History) (s : ℕ) (which : Which) → partitions h s p.number < 1024 → added h < ENTRY_LIMIT → levels h s p.number t.number ≤ 8 → EntryRefused h s p.number t.number (Full which) → ⊥
  refused_none h s which few fit low (inl (is, inl many)) = omega (arith, many, few)
  refused_none h s which few fit low (inl (is, inr full)) = omega (arith, full, fit)
  refused_none h s which few fit low (inr r) = omega (arith, r.2, low)

  pub never_full : (which : Which) → ((h : History) → TableStands stores.txs h → CatalogueStands stores.catalog h → EntryRefused h (session_of (tx_events h) by.number) p.number t.number (Full which)) → ⊥
  never_full which refused =
      let h = may.sound.0 in
      let stands = may.sound.1 in
      let can = place h stands.all.txs stands.all.catalog in
      let room = laws.passed h caller.session _ (new_entry caller p.number t.number b h) (catalogue_sound_of h (legal_of h stands.good)) can.takes can.place in
      refused_none h caller.session which room.partitions room.added room.levels (subst (λ (n : ℕ). EntryRefused h n p.number t.number (Full which)) (owner h stands.all.txs) (refused h stands.all.txs stands.all.catalog))

  -- what the call says of the catalogue
  abbrev Adds : KeptCatalogue → Type 0
  Adds catalog = (h : History) → TableStands stores.txs h → CatalogueStands stores.catalog h → CatalogueStands catalog (CatalogueChange (EntryAdded (next_entry stores.catalog p t b by caller.cmd)) ∷ h)

  add_deed : AreRowsClean stores caller.session p.number t.number b → (catalog : KeptCatalogue) → Adds catalog → (h : History) (stands : Stands stores h) → IsAt h caller.session caller.cmd → (n : ℕ) → open_of (tx_events h) caller.session ≡ Some n
      → IsDeed stores.rows catalog n caller.cmd (CatalogueChange (EntryAdded (new_entry caller p.number t.number b h)) ∷ []) h
  add_deed clean catalog adds h stands at n its =
      let s = caller.session in
      let rows = stands.all.rows in
      let told = clean h (judged_now stores s t.number h stands all.family) in
      record {
        done = (ap (λ (m : ℕ). Some (m, caller.cmd)) (own_number h s n its), tt);
        may = entry_may_follow laws stores caller p.number t.number b h stands at n its (own_number h s n its) all (place h stands.all.txs stands.all.catalog) told;
        housed = (tt, tt);
        leaves = omega arith;
        catalogue = subst (λ (e : Entry). CatalogueStands catalog (CatalogueChange (EntryAdded e) ∷ h)) (is_next stores.catalog caller p t b by h stands.all.catalog (own_is h s by (mine h stands.all.txs))) (adds h stands.all.txs stands.all.catalog);
        store = record { sound = rows.sound; births = rows.births; ends = rows.ends; leaves = rows.leaves; room = rows.room; lists = rows.lists };
      }

  pub added_step : AreRowsClean stores caller.session p.number t.number b → (catalog : KeptCatalogue) → Adds catalog → IsStep (λ (u : Unit {0}). u) (Ok tt) stores (record stores { catalog = catalog }) caller (caller.cmd + 1) (entry_added caller p.number t.number b)
  added_step clean catalog adds =
      deed_step stores stores.rows catalog caller (λ h. CatalogueChange (EntryAdded (new_entry caller p.number t.number b h)) ∷ []) may (λ h n stands at its. add_deed clean catalog adds h stands at n its)

  pub not_added : (catalog : KeptCatalogue) → IsStep (λ (u : Unit {0}). u) (Err stop.NoMemory) stores (record stores { catalog = catalog }) caller (caller.cmd + 1) (entry_added caller p.number t.number b)
  not_added catalog = no_memory (λ (u : Unit {0}). u) stores (record stores { catalog = catalog }) caller (caller.cmd + 1) (entry_added caller p.number t.number b) (locks_same stores (record stores { catalog = catalog }) caller.session refl refl)
