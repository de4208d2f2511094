-- The entry by which a table is a partition ends.
use Rattle.std.proofs.Common.{◌≡◌, ◌≢◌, ℕ, ◌+◌, List, [], ◌∷◌, inl, inr, sym, ap, ◌∙◌, subst, arith, Option, Some, None, Ok}
use Rattle.std.specs.List.{Contains}
use Rattle.pg_values.specs.declared.ids.TableNo.{TableNo}
use Rattle.history.specs.declared.transaction.TxId.{TxId}
use Rattle.history.specs.declared.catalogue.Entry.{Entry}
use Rattle.history.specs.Transactions.{open_of, session_of}
use Rattle.history.specs.Catalogue.{EntryEnded, entry_ends, counted_of}
use Rattle.history.specs.History.{History, CatalogueChange, tx_events, catalogue_events}
use Rattle.history.specs.Presence.{entries_present}
use Rattle.history.proofs.Open.{open_own}
use Rattle.row_router.specs.Histories.{above, is_over, table_of}
use Rattle.tx_table.specs.Stands.{TableStands}
use Rattle.part_catalog.specs.Answers.{entry_between, IsStanding}
use Rattle.part_catalog.specs.Kept.{KeptCatalogue}
use Rattle.part_catalog.specs.Stands.{CatalogueStands}
use Rattle.part_ddl.specs.Dropped.{ended, place_ended}
use Rattle.part_ddl.proofs.Ends.{IsAbove, above_is, between_of}
use Rattle.part_ddl.proofs.Standing.{EndsAlike, same_entries, same_ended}
use Rattle.legal_statements.specs.Drops.{IsOf, IsDrop}
use Rattle.legal_statements.specs.Laws.{ListedIsThere, NobodyElseEnds, DropMayFollow}
use Rattle.legal_statements.specs.Locked.{IsGuarded}
use Rattle.legal_statements.proofs.Pairs.{pairs_none, pairs_one}
use Rattle.stores.specs.Numbers.{IsAt}
use Rattle.stores.specs.Stand.{Stands}
use Rattle.stores.specs.declared.stores.Stores.{Stores}
use Rattle.stores.proofs.Commands.{commands_are_in_order}
use Rattle.stores.proofs.Goodness.{legal_of, permitted_of}
use Rattle.statement_steps.specs.Attempts.{MayAttempt}
use Rattle.statement_steps.specs.declared.caller.Caller.{Caller}
use Rattle.statement_steps.specs.Steps.{IsStep}
use Rattle.statement_steps.specs.Owned.{stamp}
use Rattle.statement_steps.proofs.Owned.{own_number, own_is, IsOwn}
use Rattle.soundness.proofs.Listed.{none_in, only_one}
use Rattle.ddl_steps.proofs.Below.{here_of, found_in}
use Rattle.ddl_steps.proofs.Deeds.{IsDeed, deed_step}
use Rattle.alter_table.specs.AskedOfDetached.{IsPartition}
use Rattle.alter_table.specs.Detached.{place_left}
use Rattle.ddl_steps.specs.Families.{parent_in}

pub record LeaveLaws : Type 0 where
  pub listed : ListedIsThere
  pub ends : NobodyElseEnds
  pub follow : DropMayFollow

-- the entry by which the table is a partition of the parent for the session
abbrev pub Over : History → (s t : ℕ) → TableNo → Type 0
Over h s t p = IsAbove (above (entries_present h s) t) p

pub over_is : (h : History) (s t : ℕ) (p : TableNo) → parent_in h s t ≡ Some p → Over h s t p
over_is h s t p is = above_is (above (entries_present h s) t) p (sym is)

pub over_present : (h : History) (s t : ℕ) (p : TableNo) (a : Over h s t p) → Contains (entries_present h s) a.entry
over_present h s t p a = (found_in (is_over t) (entries_present h s) a.entry a.found).0

-- the session may change the partitions of the table
abbrev pub MayChange : Stores → (session : ℕ) → TableNo → Type 0
MayChange stores s p = (h : History) → Stands stores h → IsGuarded h s p.number

pub over_guarded : (stores : Stores) (h : History) (s : ℕ) (p : TableNo) (e : Entry) → Stands stores h → MayChange stores s p → e.parent ≡ p → IsGuarded h s e.parent.number
over_guarded stores h s p e stands locked parent = subst (λ (x : TableNo). IsGuarded h s x.number) (sym parent) (locked h stands)

pub over_between : (h : History) (s t : ℕ) (p : TableNo) (a : Over h s t p) → entry_between h s p.number t ≡ Some a.entry
over_between h s t p a = subst (λ (x : TableNo). entry_between h s x.number t ≡ Some a.entry) a.parent (between_of h s t a.entry a.found)

of_none : (e : Entry) → IsOf [] e → ⊥
of_none e of = elim of [ inl above ↦ none_in e.parent.number above | inr below ↦ none_in e.child.number below ]

-- ---- what is asked of the call

module _ (laws : LeaveLaws) (stores : Stores) (caller : Caller) (by : TxId) (p : TableNo) (t : ℕ) (may : MayAttempt stores caller) (mine : IsOwn stores caller.session by) (locked : MayChange stores caller.session p) (partition : IsPartition stores caller.session p t) where
  pub over : (h : History) → TableStands stores.txs h → CatalogueStands stores.catalog h → Over h caller.session t p
  over h txs catalog = over_is h caller.session t p (partition h txs catalog)

  -- nobody has ended the entry
  pub not_ended : (h : History) (txs : TableStands stores.txs h) (catalog : CatalogueStands stores.catalog h) → counted_of (tx_events h) (entry_ends (catalogue_events h)) (over h txs catalog).entry.id.number ≡ None
  not_ended h txs catalog =
      let s = caller.session in
      let a = over h txs catalog in
      let g = may.sound.0 in
      let stands = may.sound.1 in
      let here = here_of stores caller g may stands in
      let at : Contains (entries_present g s) a.entry =
      subst (λ (es : List Entry). Contains es a.entry) (sym (same_entries stores.txs stores.catalog g h stands.all.txs txs stands.all.catalog catalog s)) (over_present h s t p a) in
      let has = (laws.listed g s here.0 a.entry here.1.legal here.1.permitted here.1.own at).0 in
      let there = over_present h s t p a in
      sym (subst (EndsAlike g h) there.2 (same_ended stores.txs stores.catalog g h stands.all.txs txs stands.all.catalog catalog s there.0 a.entry there.1))
      ∙ laws.ends g s here.0 a.entry here.1.legal here.1.permitted here.1.own has (over_guarded stores g s p a.entry stands locked a.parent)

  pub owner : (h : History) → TableStands stores.txs h → session_of (tx_events h) by.number ≡ caller.session
  owner h txs = open_own (tx_events h) caller.session by.number txs.sound (sym (mine h txs))

  pub standing : (h : History) → TableStands stores.txs h → CatalogueStands stores.catalog h → IsStanding h (session_of (tx_events h) by.number) p.number t
  standing h txs catalog =
      let a = over h txs catalog in
      subst (λ (n : ℕ). IsStanding h n p.number t) (sym (owner h txs)) (a.entry, over_between h caller.session t p a, not_ended h txs catalog)

  -- ---- the event may follow

  pub may_end : (h : History) → Stands stores h → IsAt h caller.session caller.cmd → (n : ℕ) → open_of (tx_events h) caller.session ≡ Some n → (e : Entry) → Contains (entries_present h caller.session) e → e.parent ≡ p
      → IsDrop h caller.session (stamp caller h) (e.id.number ∷ []) []
  may_end h stands at n its e present parent =
      let s = caller.session in
      let st = stamp caller h in
      let own_is_n : st.by.number ≡ n = own_number h s n its in
      let ours : open_of (tx_events h) s ≡ Some st.by.number = its ∙ ap Some (sym own_is_n) in
      let has = (laws.listed h s st.by.number e (legal_of h stands.good) (permitted_of h stands.good) ours present).0 in
      record {
        own = ours;
        command = commands_are_in_order h s st.by.number caller.cmd at ours;
        entries_there = λ k listed. (e, has, only_one e.id.number k listed, over_guarded stores h s p e stands locked parent);
        entries_once = pairs_one (λ a b. a ≢ b) e.id.number;
        tables_there = λ x listed. absurd (none_in x listed);
        tables_once = pairs_none (λ a b. a ≢ b);
        none_left = λ x there of. absurd (of_none x of);
      }

  -- what the call says of the catalogue
  abbrev Ends : KeptCatalogue → Type 0
  Ends catalog = (h : History) (e : Entry) → TableStands stores.txs h → CatalogueStands stores.catalog h → entry_between h (session_of (tx_events h) by.number) p.number t ≡ Some e
      → CatalogueStands catalog (CatalogueChange (EntryEnded e.id.number (record { by = by; cmd = caller.cmd })) ∷ h)

  end_deed : (catalog : KeptCatalogue) → Ends catalog → (h : History) (stands : Stands stores h) → IsAt h caller.session caller.cmd → (n : ℕ) → open_of (tx_events h) caller.session ≡ Some n
      → IsDeed stores.rows catalog n caller.cmd (place_ended caller.session (stamp caller h) h (table_of t)) h
  end_deed catalog ends h stands at n its =
      let s = caller.session in
      let st = stamp caller h in
      let a = over h stands.all.txs stands.all.catalog in
      let e = a.entry in
      let between : entry_between h (session_of (tx_events h) by.number) p.number t ≡ Some e = subst (λ (m : ℕ). entry_between h m p.number t ≡ Some e) (sym (owner h stands.all.txs)) (over_between h s t p a) in
      let rows = stands.all.rows in
      subst (λ (o : Option Entry). IsDeed stores.rows catalog n caller.cmd (ended st o) h) (sym a.found) (record {
        done = (ap (λ (m : ℕ). Some (m, caller.cmd)) (own_number h s n its), tt);
        may = laws.follow h s st (e.id.number ∷ []) [] (legal_of h stands.good) (permitted_of h stands.good) (may_end h stands at n its e (over_present h s t p a) a.parent);
        housed = (tt, tt);
        leaves = omega arith;
        catalogue = subst (λ (x : TxId). CatalogueStands catalog (CatalogueChange (EntryEnded e.id.number (record { by = x; cmd = caller.cmd })) ∷ h)) (own_is h s by (mine h stands.all.txs)) (ends h e stands.all.txs stands.all.catalog between);
        store = record { sound = rows.sound; births = rows.births; ends = rows.ends; leaves = rows.leaves; room = rows.room; lists = rows.lists };
      })

  -- ---- the part

  pub left_step : (catalog : KeptCatalogue) → Ends catalog → IsStep (λ (u : Unit {0}). u) (Ok tt) stores (record stores { catalog = catalog }) caller (caller.cmd + 1) (place_left caller t)
  left_step catalog ends =
      deed_step stores stores.rows catalog caller (λ h. place_ended caller.session (stamp caller h) h (table_of t)) may (λ h n stands at its. end_deed catalog ends h stands at n its)
