-- A table keeps a CHECK, and then the entry ends by which it is a partition.
use Rattle.std.proofs.Common.{◌≡◌, ℕ, ◌+◌, ◌<◌, arith, List, [], ◌∷◌, ◌++◌, false, refl, sym, ap, ◌∙◌, subst, Option, Some, None, IfSome, Ok, All, length, map}
use Rattle.std.proofs.lemmas.List.Elements.{All-filter}
use Rattle.pg_values.specs.declared.ids.TableNo.{TableNo}
use Rattle.bound_forms.specs.Accepts.{is_default}
use Rattle.bound_forms.specs.Levels.{IsOfLevel}
use Rattle.history.specs.declared.transaction.TxId.{TxId}
use Rattle.history.specs.declared.catalogue.Entry.{Entry}
use Rattle.history.specs.declared.catalogue.KeptCheck.{KeptCheck}
use Rattle.history.specs.declared.catalogue.Stamp.{Stamp}
use Rattle.history.specs.declared.catalogue.Table.{Table}
use Rattle.history.specs.declared.catalogue.TableShape.TheVariants.{Level}
use Rattle.history.specs.Transactions.{open_of, session_of}
use Rattle.history.specs.Catalogue.{EntryEnded, CheckKept, entry_ends, counted_of, tables_made}
use Rattle.history.specs.History.{History, CatalogueChange, tx_events, catalogue_events}
use Rattle.history.specs.Places.{table_at, LiesIn, IsCatalogueSound}
use Rattle.history.specs.Presence.{entries_present, checks_of}
use Rattle.row_router.specs.Histories.{above, is_over, kept_of, table_of}
use Rattle.tx_table.specs.Kept.{KeptTable}
use Rattle.tx_table.specs.Stands.{TableStands}
use Rattle.part_catalog.specs.Answers.{entry_between, IsStanding}
use Rattle.part_catalog.specs.Found.{made_at}
use Rattle.part_catalog.specs.Kept.{KeptCatalogue}
use Rattle.part_catalog.specs.Stands.{CatalogueStands}
use Rattle.part_ddl.specs.Dropped.{ended, place_ended}
use Rattle.part_ddl.specs.Placing.{level_at, partitions_of}
use Rattle.part_ddl.proofs.Ends.{between_of, found_all}
use Rattle.part_ddl.proofs.Standing.{EndsAlike, same_entries, same_ended}
use Rattle.legal_statements.specs.Drops.{IsDrop}
use Rattle.legal_statements.specs.Follows.{MayFollow}
use Rattle.legal_statements.specs.Laws.{CheckMayFollow}
use Rattle.legal_statements.specs.Locked.{IsOwned, IsGuarded}
use Rattle.legal_statements.proofs.Following.{followed_is_legal}
use Rattle.row_store.specs.Kept.{KeptRows}
use Rattle.row_store.specs.Stands.{StoreStands}
use Rattle.soundness.specs.Kept.{Repeats}
use Rattle.soundness.specs.Laws.{LegalKeepsAll}
use Rattle.stores.specs.Numbers.{IsAt}
use Rattle.stores.specs.Stand.{Stands}
use Rattle.stores.specs.declared.stores.Stores.{Stores}
use Rattle.stores.proofs.Commands.{commands_are_in_order}
use Rattle.stores.proofs.Goodness.{legal_of, permitted_of}
use Rattle.statement_steps.specs.Attempts.{MayAttempt}
use Rattle.statement_steps.specs.declared.caller.Caller.{Caller}
use Rattle.statement_steps.specs.Steps.{IsStep}
use Rattle.statement_steps.specs.Owned.{stamp}
use Rattle.statement_steps.proofs.Owned.{own_number, own_is, IsOwn}
use Rattle.ddl_steps.proofs.Below.{below_listed, found_in, same_number}
use Rattle.ddl_steps.proofs.Deeds.{IsDeed, deed_step}
use Rattle.ddl_steps.proofs.Shapes.{shape_at}
use Rattle.alter_table.specs.AskedOfDetached.{IsPartition, IsPendingPart}
use Rattle.alter_table.specs.Concurrent.{partition_left}
use Rattle.alter_table.specs.Kept.{place_below, check_by, check_kept, check_told, new_check}
use Rattle.alter_table.proofs.Checks.{check_suits, made_of, of_told}
use Rattle.alter_table.proofs.KeptChecks.{none_kept}
use Rattle.alter_table.proofs.LeftPlaces.{LeaveLaws, MayChange, over, owner, not_ended, may_end, over_present}
use Rattle.alter_table.proofs.Pending.{pending_is_named}
use Rattle.alter_table.proofs.SameChecks.{none_equal}

pub record KeepLaws : Type 0 where
  pub leave : LeaveLaws
  pub keeps : LegalKeepsAll
  pub check : CheckMayFollow

-- ---- what a CHECK leaves as it was

table_behind : (table : KeptTable) (t : TableNo) (by : TxId) (cmd : ℕ) (o : Option KeptCheck) (h : History) → TableStands table h → TableStands table (check_by t by cmd o ++ h)
table_behind table t by cmd None h stands = stands
table_behind table t by cmd (Some c) h stands = stands

entries_behind : (t : TableNo) (by : TxId) (cmd : ℕ) (o : Option KeptCheck) (h : History) (s : ℕ) → entries_present (check_by t by cmd o ++ h) s ≡ entries_present h s
entries_behind t by cmd None h s = refl
entries_behind t by cmd (Some c) h s = refl

ended_behind : (t : TableNo) (by : TxId) (cmd : ℕ) (o : Option KeptCheck) (h : History) (k : ℕ)
    → counted_of (tx_events (check_by t by cmd o ++ h)) (entry_ends (catalogue_events (check_by t by cmd o ++ h))) k ≡ counted_of (tx_events h) (entry_ends (catalogue_events h)) k
ended_behind t by cmd None h k = refl
ended_behind t by cmd (Some c) h k = refl

owner_behind : (t : TableNo) (by : TxId) (cmd : ℕ) (o : Option KeptCheck) (h : History) (n : ℕ) → session_of (tx_events (check_by t by cmd o ++ h)) n ≡ session_of (tx_events h) n
owner_behind t by cmd None h n = refl
owner_behind t by cmd (Some c) h n = refl

drop_behind : (t : TableNo) (by : TxId) (cmd : ℕ) (o : Option KeptCheck) (h : History) (s : ℕ) (st : Stamp) (k : ℕ) → by.number ≡ st.by.number → cmd ≡ st.cmd → IsDrop h s st (k ∷ []) [] → IsDrop (check_by t by cmd o ++ h) s st (k ∷ []) []
drop_behind t by cmd None h s st k same number drop = drop
drop_behind t by cmd (Some c) h s st k same number drop = record {
  own = drop.own;
  command = (λ e. let n = number in omega (arith, n), drop.command);
  entries_there = λ x at. drop.entries_there x at;
  entries_once = drop.entries_once;
  tables_there = λ x at. drop.tables_there x at;
  tables_once = drop.tables_once;
  none_left = λ e has of. drop.none_left e has of;
}

-- ---- a CHECK suits its table in each history with the same tables

abbrev pub IsSoundCheck : TableNo → TxId → (cmd : ℕ) → History → KeptCheck → Type 0
IsSoundCheck t by cmd h c = IsCatalogueSound (CheckKept (record { table = t; kept = c; by = by; cmd = cmd })) h

sound_at : (t : TableNo) (by : TxId) (cmd : ℕ) (h : History) (c : KeptCheck) (tables : List Table) → tables ≡ tables_made (catalogue_events h)
    → (t.number < length tables) × IsOfLevel c.level c.bound × All (LiesIn (table_at tables t.number).columns) c.level.columns → IsSoundCheck t by cmd h c
sound_at t by cmd h c tables same suits =
    subst (λ (xs : List Table). (t.number < length xs) × IsOfLevel c.level c.bound × All (LiesIn (table_at xs t.number).columns) c.level.columns) same suits

some_sound : (P : KeptCheck → Type 0) (o : Option KeptCheck) → ((c : KeptCheck) → o ≡ Some c → P c) → IfSome o P
some_sound P None each = tt
some_sound P (Some c) each = each c refl

-- ---- both events

-- the CHECK may come, and then the end of the entry
deed_of : (rows : KeptRows) (catalog : KeptCatalogue) (t : TableNo) (by : TxId) (n cmd k : ℕ) (o : Option KeptCheck) (st : Stamp) (h : History) → by.number ≡ n → st.by.number ≡ n → st.cmd ≡ cmd → MayFollow (check_by t by cmd o) h
    → MayFollow (CatalogueChange (EntryEnded k st) ∷ []) (check_by t by cmd o ++ h) → CatalogueStands catalog (CatalogueChange (EntryEnded k st) ∷ (check_by t by cmd o ++ h)) → StoreStands rows h → IsDeed rows catalog n cmd (CatalogueChange (EntryEnded k st) ∷ check_by t by cmd o) h
deed_of rows catalog t by n cmd k None st h mine own number first second stands store = record {
  done = (ap (λ (m : ℕ). Some (m, st.cmd)) own ∙ ap (λ (m : ℕ). Some (n, m)) number, tt);
  may = (second.0, tt);
  housed = (tt, tt);
  leaves = omega arith;
  catalogue = stands;
  store = record { sound = store.sound; births = store.births; ends = store.ends; leaves = store.leaves; room = store.room; lists = store.lists };
}
deed_of rows catalog t by n cmd k (Some c) st h mine own number first second stands store = record {
  done = (ap (λ (m : ℕ). Some (m, st.cmd)) own ∙ ap (λ (m : ℕ). Some (n, m)) number, (ap (λ (m : ℕ). Some (m, cmd)) mine, tt));
  may = (second.0, first);
  housed = (tt, (tt, tt));
  leaves = omega arith;
  catalogue = stands;
  store = record { sound = store.sound; births = store.births; ends = store.ends; leaves = store.leaves; room = store.room; lists = store.lists };
}

-- ---- what is asked of the call

module _ (laws : KeepLaws) (stores : Stores) (caller : Caller) (by : TxId) (p : TableNo) (t : ℕ) (may : MayAttempt stores caller) (mine : IsOwn stores caller.session by) (locked : MayChange stores caller.session p) (partition : IsPartition stores caller.session p t) (pending : IsPendingPart stores caller.session p t) (owned : (h : History) → Stands stores h → IsOwned h caller.session t) (check : Option KeptCheck) (is_new : (h : History) → TableStands stores.txs h → CatalogueStands stores.catalog h → check ≡ new_check h caller.session p.number t) where
  -- the CHECK suits its table, whatever history the catalogue stands for
  pub keepable : (h : History) → CatalogueStands stores.catalog h → IfSome check (IsSoundCheck (table_of t) by caller.cmd h)
  keepable h catalog =
      let g = may.sound.0 in
      let stands = may.sound.1 in
      some_sound (IsSoundCheck (table_of t) by caller.cmd h) check (λ c some.
      sound_at (table_of t) by caller.cmd h c (tables_made (catalogue_events g)) (sym stands.all.catalog.tables ∙ catalog.tables)
      (check_suits g caller.session p.number t c stands.all.catalog.sound (sym (is_new g stands.all.txs stands.all.catalog) ∙ some)))

  -- ---- it may come

  check_comes : (c : KeptCheck) (h : History) (n : ℕ) → Stands stores h → IsAt h caller.session caller.cmd → open_of (tx_events h) caller.session ≡ Some n → by.number ≡ n → new_check h caller.session p.number t ≡ Some c
      → MayFollow (CatalogueChange (CheckKept (record { table = table_of t; kept = c; by = by; cmd = caller.cmd })) ∷ []) h
  check_comes c h n stands at its number is =
      let s = caller.session in
      let legal = legal_of h stands.good in
      let permitted = permitted_of h stands.good in
      let own : open_of (tx_events h) s ≡ Some by.number = its ∙ ap Some (sym number) in
      let suits = check_suits h s p.number t c stands.all.catalog.sound is in
      let told = of_told (map kept_of (checks_of h s t)) (check_told (level_at h p.number) (place_below h s p.number t)) c is in
      let m = made_of (level_at h p.number) (place_below h s p.number t) c told in
      let e = m.e in
      let found = found_in (is_over t) (partitions_of h s p.number) e m.found in
      let below = below_listed h s p.number e found.0 in
      let child : e.child.number ≡ t = same_number e.child.number t found.1 in
      let shape : (table_at (tables_made (catalogue_events h)) p.number).shape ≡ Level c.level = shape_at (made_at h p.number).name (made_at h p.number).shape c.level m.at_level in
      let named : is_default e.bound ≡ false = pending_is_named h s by.number p.number t e laws.keeps laws.leave.listed legal permitted own (pending h stands.all.txs stands.all.catalog) below.0 child in
      let repeats : Repeats (catalogue_events h) (record { table = table_of t; kept = c; by = by; cmd = caller.cmd }) e = record {
        child = child;
        level = subst (λ (x : ℕ). (table_at (tables_made (catalogue_events h)) x).shape ≡ Level c.level) (sym below.1) shape;
        bound = m.bound;
        named = named;
      } in
      laws.check h s (record { table = table_of t; kept = c; by = by; cmd = caller.cmd }) e legal permitted (record {
        own = own;
        command = commands_are_in_order h s by.number caller.cmd at own;
        sound = suits;
        present = below.0;
        repeats = repeats;
        guarded = subst (λ (x : ℕ). IsGuarded h s x) (sym below.1) (locked h stands);
        owned = owned h stands;
        another = λ d there same. none_equal c (checks_of h s t) d suits.1 (subst (λ b. is_default b ≡ false) m.bound named) (none_kept (map kept_of (checks_of h s t)) (check_told (level_at h p.number) (place_below h s p.number t)) c is) there same;
      })

  comes_by : (o : Option KeptCheck) (h : History) (n : ℕ) → Stands stores h → IsAt h caller.session caller.cmd → open_of (tx_events h) caller.session ≡ Some n → by.number ≡ n → new_check h caller.session p.number t ≡ o → MayFollow (check_by (table_of t) by caller.cmd o) h
  comes_by None h n stands at its number is = tt
  comes_by (Some c) h n stands at its number is = check_comes c h n stands at its number is

  -- ---- behind it the entry ends

  -- what the calls say of the catalogue
  abbrev Keeps : KeptCatalogue → Type 0
  Keeps mid = (h : History) → CatalogueStands stores.catalog h → CatalogueStands mid (check_by (table_of t) by caller.cmd check ++ h)

  abbrev Ends : (mid last : KeptCatalogue) → Type 0
  Ends mid last = (h : History) (e : Entry) → TableStands stores.txs h → CatalogueStands mid h → entry_between h (session_of (tx_events h) by.number) p.number t ≡ Some e
      → CatalogueStands last (CatalogueChange (EntryEnded e.id.number (record { by = by; cmd = caller.cmd })) ∷ h)

  between_behind : (h : History) (s : ℕ) (e : Entry) → above (entries_present h s) t ≡ Some e → e.parent ≡ p → entry_between h s p.number t ≡ Some e
  between_behind h s e found parent = subst (λ (x : TableNo). entry_between h s x.number t ≡ Some e) parent (between_of h s t e found)

  pub endable_behind : (mid : KeptCatalogue) → Keeps mid → (h : History) → TableStands stores.txs h → CatalogueStands mid h → IsStanding h (session_of (tx_events h) by.number) p.number t
  endable_behind mid keeps h txs catalog =
      let s = caller.session in
      let g = may.sound.0 in
      let stands = may.sound.1 in
      let f = check_by (table_of t) by caller.cmd check ++ g in
      let there : CatalogueStands mid f = keeps g stands.all.catalog in
      let txs_then : TableStands stores.txs f = table_behind stores.txs (table_of t) by caller.cmd check g stands.all.txs in
      let a = over laws.leave stores caller by p t may mine locked partition g stands.all.txs stands.all.catalog in
      let e = a.entry in
      let none : counted_of (tx_events g) (entry_ends (catalogue_events g)) e.id.number ≡ None = not_ended laws.leave stores caller by p t may mine locked partition g stands.all.txs stands.all.catalog in
      let entries : entries_present g s ≡ entries_present h s = sym (entries_behind (table_of t) by caller.cmd check g s) ∙ same_entries stores.txs mid f h txs_then txs there catalog s in
      let found : above (entries_present h s) t ≡ Some e = subst (λ (es : List Entry). above es t ≡ Some e) entries a.found in
      let ends : counted_of (tx_events h) (entry_ends (catalogue_events h)) e.id.number ≡ None =
      let same : EndsAlike f h e = found_all (EndsAlike f h) (is_over t) (entries_present h s) e found (All-filter (is_over t) (EndsAlike f h) (entries_present h s) (same_ended stores.txs mid f h txs_then txs there catalog s)) in
      sym same ∙ (ended_behind (table_of t) by caller.cmd check g e.id.number ∙ none) in
      subst (λ (n : ℕ). IsStanding h n p.number t) (sym (owner laws.leave stores caller by p t may mine locked partition h txs)) (e, between_behind h s e found a.parent, ends)

  keep_deed : (mid last : KeptCatalogue) → Keeps mid → Ends mid last → (h : History) (stands : Stands stores h) → IsAt h caller.session caller.cmd → (n : ℕ) → open_of (tx_events h) caller.session ≡ Some n
      → IsDeed stores.rows last n caller.cmd (place_ended caller.session (stamp caller h) h (table_of t) ++ check_kept caller t h (new_check h caller.session p.number t)) h
  keep_deed mid last keeps ends h stands at n its =
      let s = caller.session in
      let st = stamp caller h in
      let cs = check_by (table_of t) by caller.cmd check in
      let g = cs ++ h in
      let a = over laws.leave stores caller by p t may mine locked partition h stands.all.txs stands.all.catalog in
      let e = a.entry in
      let same : by ≡ st.by = own_is h s by (mine h stands.all.txs) in
      let own : st.by.number ≡ n = own_number h s n its in
      let number : by.number ≡ n = ap (λ (x : TxId). x.number) same ∙ own in
      let first : MayFollow cs h = comes_by check h n stands at its number (sym (is_new h stands.all.txs stands.all.catalog)) in
      let good = followed_is_legal cs h (legal_of h stands.good) (permitted_of h stands.good) first in
      let drop = may_end laws.leave stores caller by p t may mine locked partition h stands at n its e (over_present h s t p a) a.parent in
      let second : MayFollow (CatalogueChange (EntryEnded e.id.number st) ∷ []) g =
      laws.leave.follow g s st (e.id.number ∷ []) [] good.0 good.1 (drop_behind (table_of t) by caller.cmd check h s st e.id.number (ap (λ (x : TxId). x.number) same) refl drop) in
      let there : CatalogueStands mid g = keeps h stands.all.catalog in
      let txs_then : TableStands stores.txs g = table_behind stores.txs (table_of t) by caller.cmd check h stands.all.txs in
      let found : above (entries_present g s) t ≡ Some e = subst (λ (es : List Entry). above es t ≡ Some e) (sym (entries_behind (table_of t) by caller.cmd check h s)) a.found in
      let between : entry_between g (session_of (tx_events g) by.number) p.number t ≡ Some e =
      subst (λ (m : ℕ). entry_between g m p.number t ≡ Some e) (sym (owner laws.leave stores caller by p t may mine locked partition g txs_then)) (between_behind g s e found a.parent) in
      let last_stands : CatalogueStands last (CatalogueChange (EntryEnded e.id.number st) ∷ g) =
      subst (λ (x : TxId). CatalogueStands last (CatalogueChange (EntryEnded e.id.number (record { by = x; cmd = caller.cmd })) ∷ g)) same (ends g e txs_then there between) in
      let deed = deed_of stores.rows last (table_of t) by n caller.cmd e.id.number check st h number own refl first second last_stands stands.all.rows in
      subst (λ (x : TxId). IsDeed stores.rows last n caller.cmd (place_ended s st h (table_of t) ++ check_by (table_of t) x caller.cmd (new_check h s p.number t)) h) same
      (subst (λ (o : Option KeptCheck). IsDeed stores.rows last n caller.cmd (place_ended s st h (table_of t) ++ check_by (table_of t) by caller.cmd o) h) (is_new h stands.all.txs stands.all.catalog)
      (subst (λ (o : Option Entry). IsDeed stores.rows last n caller.cmd (ended st o ++ cs) h) (sym a.found) deed))

  -- ---- the part

  pub kept_step : (mid last : KeptCatalogue) → Keeps mid → Ends mid last → IsStep (λ (u : Unit {0}). u) (Ok tt) stores (record stores { catalog = last }) caller (caller.cmd + 1) (partition_left caller p.number t)
  kept_step mid last keeps ends =
      deed_step stores stores.rows last caller (λ h. place_ended caller.session (stamp caller h) h (table_of t) ++ check_kept caller t h (new_check h caller.session p.number t)) may (λ h n stands at its. keep_deed mid last keeps ends h stands at n its)
