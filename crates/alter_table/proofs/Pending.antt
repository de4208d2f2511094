-- The pending partition of a table is a partition of it.
use Rattle.std.proofs.Common.{◌≡◌, ℕ, ◌<◌, ◌==◌, ◌&&◌, not, arith, true, false, List, [], ◌∷◌, inl, inr, refl, sym, ap, ◌∙◌, subst, Option, Some, None, Ok, length}
use Rattle.std.specs.List.{Contains}
use Rattle.std.proofs.lemmas.Bool.{and_parts, cases_Bool}
use Rattle.std.proofs.lemmas.Bool.Decides.{nat_tests}
use Rattle.pg_values.specs.declared.ids.TableNo.{TableNo}
use Rattle.history.specs.declared.catalogue.Entry.{Entry}
use Rattle.history.specs.declared.catalogue.Stamp.{Stamp}
use Rattle.history.specs.Transactions.{TxEvents, open_of, was_aborted}
use Rattle.history.specs.Catalogue.{CatalogueEvents, TableMade, TableDropped, EntryAdded, EntryEnded, EntryMarked, CheckKept, IsMark, entries_added, marks, counted_of}
use Rattle.history.specs.History.{History, tx_events, catalogue_events}
use Rattle.history.specs.Presence.{counts, stamp_counts, entries_present, is_present, is_pending}
use Rattle.history.specs.Legal.{IsLegal}
use Rattle.row_router.specs.Histories.{above}
use Rattle.tx_table.specs.Stands.{TableStands}
use Rattle.part_catalog.specs.Answers.{child_told, parent_told, marker_told, is_pending_below, pending_entry}
use Rattle.part_catalog.specs.Kept.{KeptCatalogue}
use Rattle.part_catalog.specs.Stands.{CatalogueStands}
use Rattle.part_ddl.specs.Placing.{level_at}
use Rattle.part_ddl.proofs.Making.{table_count}
use Rattle.part_ddl.proofs.Standing.{same_entries}
use Rattle.pg_values.specs.Refusals.{unless}
use Rattle.refusals.specs.Refusals.{not_the_pending_partition}
use Rattle.legal_statements.specs.Laws.{ListedIsThere}
use Rattle.legal_statements.proofs.Adding.{present_for}
use Rattle.bound_forms.specs.Accepts.{is_default}
use Rattle.soundness.specs.Laws.{LegalKeepsAll}
use Rattle.soundness.specs.Legal.{ArePermitted}
use Rattle.soundness.specs.Worlds.{Present, IsPending}
use Rattle.soundness.proofs.Sound.{sound_of}
use Rattle.soundness.proofs.Listed.{kept_in}
use Rattle.soundness.proofs.Looking.{counts_world}
use Rattle.soundness.proofs.Paths.{found_above}
use Rattle.stores.specs.declared.stores.Stores.{Stores}
use Rattle.statement_steps.specs.Attempts.{MayAttempt}
use Rattle.statement_steps.specs.declared.caller.Caller.{Caller}
use Rattle.statement_steps.specs.declared.rest.RestOfDetach.{RestOfDetach}
use Rattle.ddl_steps.specs.Refused.{unless_faults}
use Rattle.ddl_steps.proofs.Below.{found_in, entry_suits, here_of, same_number}
use Rattle.ddl_steps.proofs.Firsts.{both_told, none_told}
use Rattle.alter_table.specs.AskedOfDetached.{IsPartition, IsPendingPart}
use Rattle.alter_table.specs.Concurrent.{endable, is_by, is_marked_still}
use Rattle.alter_table.specs.Detached.{is_table}
use Rattle.alter_table.specs.Places.{name_at}
use Rattle.alter_table.specs.Finalized.{finalizable}
use Rattle.alter_table.proofs.Refusing.{none_against}

-- ---- what is known where nothing stands against it

pub finalizable_is : (h : History) (s p t : ℕ) → finalizable h s p t ≡ Ok tt → is_table (child_told (pending_entry h s p)) t ≡ true
finalizable_is h s p t e =
    let is = is_table (child_told (pending_entry h s p)) t in
    let f = not_the_pending_partition (name_at h t) (name_at h p) in
    let level = both_told (level_at h p) (λ l. unless_faults (unless is f) (Ok tt)) tt e in
    none_against is f (none_told (unless is f) (Ok tt) tt level.2).0

pub endable_is : (h : History) (s : ℕ) (d : RestOfDetach) → endable h s d ≡ Ok tt → is_table (child_told (pending_entry h s d.parent.number)) d.table.number ≡ true
endable_is h s d e =
    let is = is_table (child_told (pending_entry h s d.parent.number)) d.table.number in
    let f = not_the_pending_partition (name_at h d.table.number) (name_at h d.parent.number) in
    (and_parts is (is_by (marker_told h (pending_entry h s d.parent.number)) d.by) (none_against (is_marked_still h s d) f (none_told (unless (is_marked_still h s d) f) (Ok tt) tt e).0)).0

-- ---- the pending entry

pub record IsPendingOver (h : History) (s p t : ℕ) : Type 0 where
  pub entry : Entry
  pub present : Contains (entries_present h s) entry
  pub pending : is_pending h s entry ≡ true
  pub parent : entry.parent.number ≡ p
  pub child : entry.child.number ≡ t

over_found : (h : History) (s p t : ℕ) (e : Entry) → Contains (entries_added (catalogue_events h)) e × (is_pending_below h s p e ≡ true) → (e.child.number == t) ≡ true → IsPendingOver h s p t
over_found h s p t e found child =
    let marked = stamp_counts (tx_events h) s (counted_of (tx_events h) (marks (catalogue_events h)) e.id.number) in
    let below = and_parts (e.parent.number == p) (is_pending h s e) found.1 in
    let there = and_parts (is_present h s e) marked below.1 in
    record {
      entry = e;
      present = kept_in (is_present h s) (entries_added (catalogue_events h)) e found.0 there.0;
      pending = below.1;
      parent = same_number e.parent.number p below.0;
      child = same_number e.child.number t child;
    }

over_told : (h : History) (s p t : ℕ) (o : Option Entry) → pending_entry h s p ≡ o → is_table (child_told o) t ≡ true → IsPendingOver h s p t
over_told h s p t None is e = absurd (let c = e in cc)
over_told h s p t (Some e) is child = over_found h s p t e (found_in (is_pending_below h s p) (entries_added (catalogue_events h)) e is) child

itself : (n : ℕ) → (n == n) ≡ true
itself n = grind (arith, nat_tests)

-- its table is made
pub pending_made : (catalog : KeptCatalogue) (h : History) (s p : ℕ) (t : TableNo) → CatalogueStands catalog h → Some t ≡ child_told (pending_entry h s p) → t.number < length catalog.tables
pending_made catalog h s p t stands is =
    let o = over_told h s p t.number (pending_entry h s p) refl (ap (λ (x : Option TableNo). is_table x t.number) (sym is) ∙ itself t.number) in
    let made = (entry_suits h s o.entry stands.sound o.present).child in
    let count = table_count catalog h stands in
    subst (λ (n : ℕ). n < length catalog.tables) o.child (omega (arith, made, count))

-- ---- it is a partition of the table

pub pending_is_partition : LegalKeepsAll → ListedIsThere → (stores : Stores) (caller : Caller) (p : TableNo) (t : ℕ) → MayAttempt stores caller
    → ((g : History) → TableStands stores.txs g → CatalogueStands stores.catalog g → is_table (child_told (pending_entry g caller.session p.number)) t ≡ true) → IsPartition stores caller.session p t
pending_is_partition keeps listed stores caller p t may told = λ h txs catalog.
    let s = caller.session in
    let g = may.sound.0 in
    let stands = may.sound.1 in
    let here = here_of stores caller g may stands in
    let o = over_told g s p.number t (pending_entry g s p.number) refl (told g stands.all.txs stands.all.catalog) in
    let has = (listed g s here.0 o.entry here.1.legal here.1.permitted here.1.own o.present).0 in
    let present = present_for g s here.0 o.entry here.1.legal here.1.own has in
    let world = counts_world (tx_events g) s (sound_of g here.1.legal) in
    let siblings = (keeps g here.1.legal here.1.permitted).siblings (counts (tx_events g) s) world in
    let found : above (entries_present g s) t ≡ Some o.entry = found_above g s t o.entry here.1.legal siblings present o.child in
    let same = same_entries stores.txs stores.catalog g h stands.all.txs txs stands.all.catalog catalog s in
    ap parent_told (subst (λ (es : List Entry). above es t ≡ Some o.entry) same found) ∙ ap (λ (n : ℕ). Some (record { number = n })) o.parent

-- ---- and has a bound of its own

-- the stamp that counts is one of a mark
counted_is_mark : (txs : TxEvents) (cats : CatalogueEvents) (k : ℕ) (s : Stamp) → counted_of txs (marks cats) k ≡ Some s → IsMark cats k s.by.number
counted_is_mark txs [] k s e = absurd (let c = e in cc)
counted_is_mark txs (EntryMarked n x ∷ cats) k s e = elim (cases_Bool ((n == k) && not (was_aborted txs x.by.number))) [
  | inl here ↦
      let first : Some x ≡ Some s = rw here at e in
      let same : x ≡ s = cc in
      inl (same_number n k (and_parts (n == k) (not (was_aborted txs x.by.number)) here).0, ap (λ (y : Stamp). y.by.number) same)
  | inr past ↦ inr (counted_is_mark txs cats k s (rw past at e))
]
counted_is_mark txs (TableMade t ∷ cats) k s e = counted_is_mark txs cats k s e
counted_is_mark txs (TableDropped n x ∷ cats) k s e = counted_is_mark txs cats k s e
counted_is_mark txs (EntryAdded x ∷ cats) k s e = counted_is_mark txs cats k s e
counted_is_mark txs (EntryEnded n x ∷ cats) k s e = counted_is_mark txs cats k s e
counted_is_mark txs (CheckKept x ∷ cats) k s e = counted_is_mark txs cats k s e

marked_for : (h : History) (s : ℕ) (e : Entry) (o : Option Stamp) → counted_of (tx_events h) (marks (catalogue_events h)) e.id.number ≡ o → stamp_counts (tx_events h) s o ≡ true → IsPending (catalogue_events h) (counts (tx_events h) s) e
marked_for h s e None is counted = absurd (let c = counted in cc)
marked_for h s e (Some x) is counted = (x.by.number, counted_is_mark (tx_events h) (catalogue_events h) e.id.number x is, counted)

-- no default partition is pending, and a table is a partition once
pub pending_is_named : (h : History) (s tx p t : ℕ) (e : Entry) → LegalKeepsAll → ListedIsThere → IsLegal h → ArePermitted h → open_of (tx_events h) s ≡ Some tx → is_table (child_told (pending_entry h s p)) t ≡ true
    → Contains (entries_present h s) e → e.child.number ≡ t → is_default e.bound ≡ false
pending_is_named h s tx p t e keeps listed legal permitted own told at child =
    let o = over_told h s p t (pending_entry h s p) refl told in
    let there : (x : Entry) → Contains (entries_present h s) x → Present (catalogue_events h) (counts (tx_events h) s) x = λ x is. present_for h s tx x legal own (listed h s tx x legal permitted own is).0 in
    let siblings = (keeps h legal permitted).siblings (counts (tx_events h) s) (counts_world (tx_events h) s (sound_of h legal)) in
    let marked = (and_parts (is_present h s o.entry) (stamp_counts (tx_events h) s (counted_of (tx_events h) (marks (catalogue_events h)) o.entry.id.number)) o.pending).1 in
    let pending = marked_for h s o.entry (counted_of (tx_events h) (marks (catalogue_events h)) o.entry.id.number) refl marked in
    let here = there o.entry o.present in
    let same : o.entry ≡ e = siblings.one_parent o.entry e here (there e at) (o.child ∙ sym child) in
    subst (λ (x : Entry). is_default x.bound ≡ false) same (siblings.no_default o.entry o.entry here here refl pending)

-- further locks leave it so
pub still_pending : (old new : Stores) (s : ℕ) (p : TableNo) (t : ℕ) → new ≡ record old { locks = new.locks } → IsPendingPart old s p t → IsPendingPart new s p t
still_pending old new s p t rest is = λ h txs catalog. is h (subst (λ (x : Stores). TableStands x.txs h) rest txs) (subst (λ (x : Stores). CatalogueStands x.catalog h) rest catalog)

pub still_partition : (old new : Stores) (s : ℕ) (p : TableNo) (t : ℕ) → new ≡ record old { locks = new.locks } → IsPartition old s p t → IsPartition new s p t
still_partition old new s p t rest is = λ h txs catalog. is h (subst (λ (x : Stores). TableStands x.txs h) rest txs) (subst (λ (x : Stores). CatalogueStands x.catalog h) rest catalog)
