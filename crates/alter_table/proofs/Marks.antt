-- The entry by which the table is a partition is marked pending.
use Rattle.std.proofs.Common.{◌≡◌, ℕ, ◌==◌, ◌+◌, ◌≤◌, true, false, List, ◌∷◌, inl, inr, refl, sym, ap, ◌∙◌, subst, arith, Option, Some, None, Result, Ok, Err, get_or, length, ◌<◌}
use Rattle.std.specs.List.{Contains, All}
use Rattle.std.proofs.lemmas.Bool.{cases_Bool}
use Rattle.std.proofs.lemmas.Bool.Decides.{nat_tests}
use Rattle.std.proofs.lemmas.List.Elements.{All-contains, All-contains_itself, All-filter}
use Rattle.pg_values.specs.declared.fault.Fault.{Fault}
use Rattle.pg_values.specs.Sets.{has}
use Rattle.pg_values.specs.declared.ids.TableNo.{TableNo}
use Rattle.pg_values.specs.declared.session_set.SessionSet.{SessionSet}
use Rattle.bound_forms.specs.Accepts.{is_default}
use Rattle.pg_values.specs.Refusals.{unless}
use Rattle.refusals.specs.Refusals.{not_a_partition}
use Rattle.history.specs.declared.catalogue.Entry.{Entry}
use Rattle.history.specs.declared.transaction.TxId.{TxId}
use Rattle.history.specs.Catalogue.{EntryMarked, entries_added, marks, counted_of}
use Rattle.history.specs.History.{Event, History, CatalogueChange, tx_events, lock_events, catalogue_events}
use Rattle.history.specs.Locks.{holds_any}
use Rattle.history.specs.Presence.{entries_present, is_present, is_pending}
use Rattle.history.specs.Transactions.{open_of, session_of}
use Rattle.history.proofs.Open.{open_own}
use Rattle.history.proofs.Stamps.{newest_mark_counts}
use Rattle.row_router.specs.Histories.{table_of}
use Rattle.tx_table.specs.Kept.{KeptTable}
use Rattle.tx_table.specs.Stands.{TableStands}
use Rattle.part_catalog.specs.Answers.{child_told, entry_between, is_pending_below, pending_entry, IsUnmarked}
use Rattle.part_catalog.specs.Kept.{KeptCatalogue, no_entry}
use Rattle.part_catalog.specs.Stands.{CatalogueStands}
use Rattle.part_ddl.specs.Below.{default_of, has_default_bound}
use Rattle.part_ddl.specs.Placing.{level_at, partitions_of}
use Rattle.part_ddl.proofs.Standing.{kept_present, same_entries, same_standing}
use Rattle.history.specs.Catalogue.{standing}
use Rattle.legal_statements.specs.Entries.{IsNewMark}
use Rattle.legal_statements.specs.Laws.{ListedIsThere, NobodyElseMarks, MarkMayFollow}
use Rattle.soundness.proofs.Listed.{child_listed}
use Rattle.ddl_steps.specs.Sessions.{those}
use Rattle.stores.specs.Numbers.{IsAt}
use Rattle.stores.specs.Stand.{Stands}
use Rattle.stores.specs.declared.stores.Stores.{Stores}
use Rattle.stores.proofs.Commands.{commands_are_in_order}
use Rattle.stores.proofs.Goodness.{legal_of, permitted_of}
use Rattle.statement_steps.specs.Attempts.{MayAttempt}
use Rattle.statement_steps.specs.declared.caller.Caller.{Caller}
use Rattle.statement_steps.specs.declared.rest.RestOfDetach.{RestOfDetach}
use Rattle.statement_steps.specs.Steps.{IsStep}
use Rattle.statement_steps.proofs.Parts.{own_tx, locks_same}
use Rattle.statement_steps.specs.Owned.{own, stamp}
use Rattle.statement_steps.proofs.Owned.{own_number, own_is, IsOwn}
use Rattle.ddl_steps.specs.Refused.{unless_faults}
use Rattle.ddl_steps.specs.Families.{parent_in}
use Rattle.ddl_steps.proofs.Below.{here_of, none_passes, no_default_found}
use Rattle.ddl_steps.proofs.Deeds.{IsDeed, deed_stands, went}
use Rattle.ddl_steps.proofs.Firsts.{both_told, none_told}
use Rattle.ddl_steps.proofs.Sets.{are_those}
use Rattle.alter_table.specs.AskedOfDetached.{MayBeMarked}
use Rattle.alter_table.specs.Concurrent.{default_faults, pending_faults, none_beside, markable, marked, rest_of, place_marked}
use Rattle.alter_table.specs.Detached.{is_table}
use Rattle.alter_table.specs.Places.{name_at}
use Rattle.alter_table.proofs.LeftPlaces.{MayChange, Over, over_is, over_present, over_guarded, over_between}
use Rattle.alter_table.proofs.Refusing.{none_against, is_parent}

pub record MarkLaws : Type 0 where
  pub listed : ListedIsThere
  pub marks : NobodyElseMarks
  pub follow : MarkMayFollow

-- ---- where nothing stands against it

no_default : (h : History) (p : ℕ) (o : Option TableNo) (rest : Result (Unit {0}) Fault) → unless_faults (default_faults h p o) rest ≡ Ok tt → (o ≡ None) × (rest ≡ Ok tt)
no_default h p None rest e = (refl, e)
no_default h p (Some d) rest e = absurd (let c = e in cc)

no_pending : (h : History) (p : ℕ) (o : Option TableNo) (rest : Result (Unit {0}) Fault) → unless_faults (pending_faults h p o) rest ≡ Ok tt → o ≡ None
no_pending h p None rest e = refl
no_pending h p (Some t) rest e = absurd (let c = e in cc)

none_told_below : (o : Option Entry) → child_told o ≡ None → o ≡ None
none_told_below None e = refl
none_told_below (Some x) e = absurd (let c = e in cc)

pub record IsMarkable (h : History) (s : ℕ) (p : TableNo) (t : ℕ) : Type 0 where
  pub parent : parent_in h s t ≡ Some p
  pub no_default : default_of h s p.number ≡ None
  pub no_pending : pending_entry h s p.number ≡ None

pub is_markable : (h : History) (s t : ℕ) (p : TableNo) → markable h s p.number t ≡ Ok tt → IsMarkable h s p t
is_markable h s t p e =
    let is = is_table (parent_in h s t) p.number in
    let other = not_a_partition (name_at h t) (name_at h p.number) in
    let rest = none_beside h s p.number in
    let level = both_told (level_at h p.number) (λ l. unless_faults (unless is other) rest) tt e in
    let first = none_told (unless is other) rest tt level.2 in
    let second = no_default h p.number (default_of h s p.number) (unless_faults (pending_faults h p.number (child_told (pending_entry h s p.number))) (Ok tt)) first.1 in
    record {
      parent = is_parent (parent_in h s t) p (none_against is other first.0);
      no_default = second.0;
      no_pending = none_told_below (pending_entry h s p.number) (no_pending h p.number (child_told (pending_entry h s p.number)) (Ok tt) second.1);
    }

-- ---- what is known of the others

present_added : (h : History) (s : ℕ) (g : Entry) → Contains (entries_present h s) g → Contains (entries_added (catalogue_events h)) g
present_added h s g at =
    let added = entries_added (catalogue_events h) in
    All-contains (Contains added) (entries_present h s) g (All-filter (is_present h s) (Contains added) added (All-contains_itself added)) at

none_is_pending : (h : History) (s p : ℕ) (g : Entry) → pending_entry h s p ≡ None → Contains (entries_present h s) g → g.parent.number ≡ p → is_pending h s g ≡ false
none_is_pending h s p g none at of = elim (cases_Bool (is_pending h s g)) [
  | inl t ↦
      let here : (g.parent.number == p) ≡ true = grind (arith, nat_tests, of) in
      absurd (none_passes (is_pending_below h s p) (entries_added (catalogue_events h)) g none (present_added h s g at) (rw (here, t) refl))
  | inr f ↦ f
]

none_is_default : (h : History) (s p : ℕ) (g : Entry) → default_of h s p ≡ None → Contains (entries_present h s) g → g.parent.number ≡ p → is_default g.bound ≡ false
none_is_default h s p g none at of = elim (cases_Bool (is_default g.bound)) [
  | inl t ↦ absurd (none_passes has_default_bound (partitions_of h s p) g (no_default_found h s p none) (child_listed (entries_present h s) p g at of) t)
  | inr f ↦ f
]

-- two histories for which the stores stand tell the same marks
abbrev MarksAlike : History → History → Entry → Type 0
MarksAlike g h e = counted_of (tx_events g) (marks (catalogue_events g)) e.id.number ≡ counted_of (tx_events h) (marks (catalogue_events h)) e.id.number

same_marked : (table : KeptTable) (kept : KeptCatalogue) (g h : History) → TableStands table g → TableStands table h → CatalogueStands kept g → CatalogueStands kept h → (s : ℕ) → All (MarksAlike g h) (entries_present h s)
same_marked table kept g h a b c d s =
    let each : (k : ℕ) → k < length kept.entries → MarksAlike g h (get_or kept.entries k no_entry).entry = λ k lt.
    let n = (get_or kept.entries k no_entry).entry.id.number in
    newest_mark_counts g n c.sound ∙ ap (standing (tx_events g)) (sym (c.marks k lt) ∙ d.marks k lt) ∙ same_standing table g h a b _ ∙ sym (newest_mark_counts h n d.sound) in
    kept_present kept h s (MarksAlike g h) b.sound d each

-- ---- what is asked of the call

module _ (laws : MarkLaws) (stores : Stores) (caller : Caller) (by : TxId) (p : TableNo) (t : ℕ) (may : MayAttempt stores caller) (mine : IsOwn stores caller.session by) (guarded : MayChange stores caller.session p) (free : MayBeMarked stores caller.session p.number t) where
  facts : (h : History) → TableStands stores.txs h → CatalogueStands stores.catalog h → IsMarkable h caller.session p t
  facts h txs catalog = is_markable h caller.session t p (free h txs catalog)

  over : (h : History) → TableStands stores.txs h → CatalogueStands stores.catalog h → Over h caller.session t p
  over h txs catalog = over_is h caller.session t p (facts h txs catalog).parent

  not_marked : (h : History) (txs : TableStands stores.txs h) (catalog : CatalogueStands stores.catalog h) → counted_of (tx_events h) (marks (catalogue_events h)) (over h txs catalog).entry.id.number ≡ None
  not_marked h txs catalog =
      let s = caller.session in
      let a = over h txs catalog in
      let g = may.sound.0 in
      let stands = may.sound.1 in
      let here = here_of stores caller g may stands in
      let at : Contains (entries_present g s) a.entry =
      subst (λ (es : List Entry). Contains es a.entry) (sym (same_entries stores.txs stores.catalog g h stands.all.txs txs stands.all.catalog catalog s)) (over_present h s t p a) in
      let has_it = (laws.listed g s here.0 a.entry here.1.legal here.1.permitted here.1.own at).0 in
      let of : a.entry.parent.number ≡ p.number = ap (λ (x : TableNo). x.number) a.parent in
      let off = none_is_pending g s p.number a.entry (facts g stands.all.txs stands.all.catalog).no_pending at of in
      let there = over_present h s t p a in
      sym (subst (MarksAlike g h) there.2 (same_marked stores.txs stores.catalog g h stands.all.txs txs stands.all.catalog catalog s there.0 a.entry there.1))
      ∙ laws.marks g s here.0 a.entry here.1.legal here.1.permitted here.1.own has_it off (over_guarded stores g s p a.entry stands guarded a.parent)

  owner : (h : History) → TableStands stores.txs h → session_of (tx_events h) by.number ≡ caller.session
  owner h txs = open_own (tx_events h) caller.session by.number txs.sound (sym (mine h txs))

  pub unmarked : (h : History) → TableStands stores.txs h → CatalogueStands stores.catalog h → IsUnmarked h (session_of (tx_events h) by.number) p.number t
  unmarked h txs catalog =
      let a = over h txs catalog in
      subst (λ (n : ℕ). IsUnmarked h n p.number t) (sym (owner h txs)) (a.entry, over_between h caller.session t p a, not_marked h txs catalog)

  -- ---- the event may follow

  is_new : (h : History) (stands : Stands stores h) → IsAt h caller.session caller.cmd → (n : ℕ) → open_of (tx_events h) caller.session ≡ Some n → (e : Entry) → Contains (entries_present h caller.session) e → e.parent ≡ p
      → IsNewMark h caller.session e (stamp caller h)
  is_new h stands at n its e present parent =
      let s = caller.session in
      let st = stamp caller h in
      let own_is_n : st.by.number ≡ n = own_number h s n its in
      let ours : open_of (tx_events h) s ≡ Some st.by.number = its ∙ ap Some (sym own_is_n) in
      let f = facts h stands.all.txs stands.all.catalog in
      let number : e.parent.number ≡ p.number = ap (λ (x : TableNo). x.number) parent in
      record {
        own = ours;
        command = commands_are_in_order h s st.by.number caller.cmd at ours;
        present = present;
        guarded = over_guarded stores h s p e stands guarded parent;
        none_pending = λ g there of. none_is_pending h s p.number g f.no_pending there (of ∙ number);
        no_default = λ g there of. none_is_default h s p.number g f.no_default there (of ∙ number);
      }

  -- what the call says of the catalogue
  abbrev Marks : KeptCatalogue → Type 0
  Marks catalog = (h : History) (e : Entry) → TableStands stores.txs h → CatalogueStands stores.catalog h → entry_between h (session_of (tx_events h) by.number) p.number t ≡ Some e
      → CatalogueStands catalog (CatalogueChange (EntryMarked e.id.number (record { by = by; cmd = caller.cmd })) ∷ h)

  abbrev events : History → List Event
  events h = marked (stamp caller h) (entry_between h caller.session p.number t)

  mark_deed : (catalog : KeptCatalogue) → Marks catalog → (h : History) (stands : Stands stores h) → IsAt h caller.session caller.cmd → (n : ℕ) → open_of (tx_events h) caller.session ≡ Some n
      → IsDeed stores.rows catalog n caller.cmd (events h) h
  mark_deed catalog tells h stands at n its =
      let s = caller.session in
      let st = stamp caller h in
      let a = over h stands.all.txs stands.all.catalog in
      let e = a.entry in
      let between : entry_between h s p.number t ≡ Some e = over_between h s t p a in
      let owned : entry_between h (session_of (tx_events h) by.number) p.number t ≡ Some e = subst (λ (m : ℕ). entry_between h m p.number t ≡ Some e) (sym (owner h stands.all.txs)) between in
      let rows = stands.all.rows in
      subst (λ (o : Option Entry). IsDeed stores.rows catalog n caller.cmd (marked st o) h) (sym between) (record {
        done = (ap (λ (m : ℕ). Some (m, caller.cmd)) (own_number h s n its), tt);
        may = laws.follow h s e st (legal_of h stands.good) (permitted_of h stands.good) (is_new h stands at n its e (over_present h s t p a) a.parent);
        housed = (tt, tt);
        leaves = omega arith;
        catalogue = subst (λ (x : TxId). CatalogueStands catalog (CatalogueChange (EntryMarked e.id.number (record { by = x; cmd = caller.cmd })) ∷ h)) (own_is h s by (mine h stands.all.txs)) (tells h e stands.all.txs stands.all.catalog owned);
        store = record { sound = rows.sound; births = rows.births; ends = rows.ends; leaves = rows.leaves; room = rows.room; lists = rows.lists };
      })

  -- ---- the part

  abbrev left : SessionSet → RestOfDetach
  left behind = record { parent = p; table = table_of t; by = by; behind = behind }

  same_rest : (behind : SessionSet) → ((h : History) → Stands stores h → (k : ℕ) → has behind k ≡ holds_any (lock_events h) k p.number) → ((k : ℕ) → 128 ≤ k → has behind k ≡ false) → (h : History) → Stands stores h
      → rest_of h caller.session p.number t ≡ left behind
  same_rest behind holders low h stands =
      let here : own h caller.session ≡ by = sym (own_is h caller.session by (mine h stands.all.txs)) in
      let who : those (λ r. holds_any (lock_events h) r p.number) ≡ behind = are_those behind (λ r. holds_any (lock_events h) r p.number) (holders h stands) low in
      ap (λ (x : TxId). record { parent = p; table = table_of t; by = x; behind = those (λ r. holds_any (lock_events h) r p.number) }) here
      ∙ ap (λ (b : SessionSet). record { parent = p; table = table_of t; by = by; behind = b }) who

  pub marked_step : (catalog : KeptCatalogue) (behind : SessionSet) → Marks catalog → ((h : History) → Stands stores h → (k : ℕ) → has behind k ≡ holds_any (lock_events h) k p.number) → ((k : ℕ) → 128 ≤ k → has behind k ≡ false)
      → IsStep (λ (d : RestOfDetach). d) (Ok (left behind)) stores (record stores { catalog = catalog }) caller (caller.cmd + 1) (place_marked caller p.number t)
  marked_step catalog behind tells holders low = record {
    is = λ h stands at.
        let s = caller.session in
        let tx = own_tx stores caller h may stands in
        let deed = mark_deed catalog tells h stands at tx.0 tx.1 in (
          ap (λ (r : RestOfDetach). Ok r) (same_rest behind holders low h stands),
          went (record stores { catalog = catalog }) s tx.0 caller.cmd (events h) h stands.all.txs.sound tx.1 at deed.done (deed_stands stores stores.rows catalog s tx.0 caller.cmd (events h) h stands tx.1 deed),
        );
    keeps = locks_same stores (record stores { catalog = catalog }) caller.session refl refl;
    waits = may.idle;
  }
