-- What lists and names tell is there for the transaction.
use Rattle.std.proofs.Common.{◌≡◌, ℕ, ◌<◌, not, true, false, [], ◌∷◌, inl, inr, ap, sym, subst, ◌∙◌, Option, Some, None, arith}
use Rattle.std.specs.List.{Contains}
use Rattle.std.specs.Str.{bytes_eq}
use Rattle.std.proofs.lemmas.Grind.{common_steps}
use Rattle.std.proofs.lemmas.Bool.{cases_Bool, and_parts}
use Rattle.history.specs.declared.catalogue.Entry.{Entry}
use Rattle.history.specs.declared.catalogue.Stamp.{Stamp}
use Rattle.history.specs.Transactions.{TxEvents, open_of, was_aborted}
use Rattle.history.specs.Catalogue.{TableMade, TableDropped, EntryAdded, EntryEnded, EntryMarked, CheckKept, drops, counted_of, IsDropped}
use Rattle.history.specs.History.{History, TxChange, SnapshotChange, RowChange, CatalogueChange, LockChange, tx_events, catalogue_events}
use Rattle.history.specs.Places.{AreCatalogueSound}
use Rattle.history.specs.Presence.{counts, stamp_counts, is_there, entries_present}
use Rattle.history.specs.Legal.{IsLegal}
use Rattle.history.proofs.Settled.{AbortsStay, aborts_before}
use Rattle.soundness.specs.Worlds.{Present, view}
use Rattle.soundness.specs.Legal.{Has, HasTable}
use Rattle.soundness.proofs.Worlds.{view_world}
use Rattle.soundness.proofs.Sound.{sound_of, catalogue_sound_of}
use Rattle.soundness.proofs.Looking.{alive_by, counts_world}
use Rattle.soundness.proofs.Presence.{all_present}
use Rattle.soundness.proofs.Paths.{agree}
use Rattle.soundness.proofs.All.{legal_keeps_all}
use Rattle.part_catalog.specs.Found.{made_at, table_number, is_meant}
use Rattle.part_catalog.proofs.Found.{last_is}
use Rattle.legal_statements.specs.Laws.{ListedIsThere, NamedIsThere}
use Rattle.legal_statements.proofs.Holding.{session_runs}
use Rattle.legal_statements.proofs.Marks.{CountsBy, none_later, counts_new, counts_old}
use Rattle.legal_statements.proofs.Names.{tables_numbered}

-- ---- entries

pub has_listed : (h : History) (session t : ℕ) (e : Entry) → IsLegal h → open_of (tx_events h) session ≡ Some t → Contains (entries_present h session) e → Has h t e
has_listed h session t e legal own at =
    let same = λ (k : ℕ). agree (tx_events h) session t k own (session_runs h session t legal own).runs in
    let p : Present (catalogue_events h) (counts (tx_events h) session) e = subst (Present (catalogue_events h) (counts (tx_events h) session)) at.2 (all_present h session (sound_of h legal) (catalogue_sound_of h legal) at.0 e at.1) in
    (p.0, sym (same e.by.number) ∙ p.1, λ u end. sym (same u) ∙ p.2 u end)

pub listed_is_there : ListedIsThere
listed_is_there h session t e legal permitted own at =
    let has = has_listed h session t e legal own at in
    let tables = ((legal_keeps_all h legal permitted).siblings (view (tx_events h) t) (view_world (tx_events h) t)).there e has in
    (has, tables.0, tables.1)

-- ---- tables

-- a drop that can count is the one that counts
drop_stands : (h : History) (txs : TxEvents) (k u : ℕ) → AbortsStay (tx_events h) txs → AreCatalogueSound h → IsDropped (catalogue_events h) k u → was_aborted txs u ≡ false → CountsBy txs (drops (catalogue_events h)) k u
drop_stands [] txs k u stay sound is alive = absurd is
drop_stands (TxChange e ∷ h) txs k u stay sound is alive = drop_stands h txs k u (aborts_before e (tx_events h) txs stay) sound is alive
drop_stands (CatalogueChange (TableDropped n s) ∷ h) txs k u stay sound (inl new) alive = counts_new txs (drops (catalogue_events h)) n s k u new.0 new.1 alive
drop_stands (CatalogueChange (TableDropped n s) ∷ h) txs k u stay sound (inr old) alive =
    counts_old txs (drops (catalogue_events h)) n s k u (none_later (tx_events h) txs (drops (catalogue_events h)) n stay sound.0.1) (drop_stands h txs k u stay sound.1 old alive)
drop_stands (CatalogueChange (TableMade t) ∷ h) txs k u stay sound is alive = drop_stands h txs k u stay sound.1 is alive
drop_stands (CatalogueChange (EntryAdded e) ∷ h) txs k u stay sound is alive = drop_stands h txs k u stay sound.1 is alive
drop_stands (CatalogueChange (EntryEnded n s) ∷ h) txs k u stay sound is alive = drop_stands h txs k u stay sound.1 is alive
drop_stands (CatalogueChange (EntryMarked n s) ∷ h) txs k u stay sound is alive = drop_stands h txs k u stay sound.1 is alive
drop_stands (CatalogueChange (CheckKept c) ∷ h) txs k u stay sound is alive = drop_stands h txs k u stay sound.1 is alive
drop_stands (SnapshotChange e ∷ h) txs k u stay sound is alive = drop_stands h txs k u stay sound is alive
drop_stands (RowChange e ∷ h) txs k u stay sound is alive = drop_stands h txs k u stay sound is alive
drop_stands (LockChange e ∷ h) txs k u stay sound is alive = drop_stands h txs k u stay sound is alive

no_stamp : (txs : TxEvents) (session u : ℕ) (o : Option Stamp) → stamp_counts txs session o ≡ false → (s : Stamp) → o ≡ Some s → s.by.number ≡ u → counts txs session u ≡ false
no_stamp txs session u None out s is by = absurd (cc)
no_stamp txs session u (Some x) out s is by = let e : x ≡ s = cc in ap (counts txs session) (sym (ap (λ (z : Stamp). z.by.number) e ∙ by)) ∙ out

table_there : (h : History) (session t x : ℕ) → IsLegal h → open_of (tx_events h) session ≡ Some t → x < table_number h → is_there h session (made_at h x) ≡ true → HasTable h t x
table_there h session t x legal own made there =
    let txs = tx_events h in
    let same = λ (k : ℕ). agree txs session t k own (session_runs h session t legal own).runs in
    let number = tables_numbered h (catalogue_sound_of h legal) x made in
    let dropped = stamp_counts txs session (counted_of txs (drops (catalogue_events h)) (made_at h x).id.number) in
    let parts = and_parts (counts txs session (made_at h x).by.number) (not dropped) there in
    let out : dropped ≡ false = grind (arith, common_steps, parts.1) in
    let out' : stamp_counts txs session (counted_of txs (drops (catalogue_events h)) x) ≡ false = subst (λ n. stamp_counts txs session (counted_of txs (drops (catalogue_events h)) n) ≡ false) number out in (
      made,
      sym (same (made_at h x).by.number) ∙ parts.0,
      λ u drop. sym (same u) ∙ elim (cases_Bool (counts txs session u)) [
        | inr n ↦ n
        | inl y ↦
            let alive = alive_by txs u (counts txs session u) ((counts_world txs session (sound_of h legal)).aborted u) y in
            let its = drop_stands h txs x u (λ z a. a) (catalogue_sound_of h legal) drop alive in
            no_stamp txs session u (counted_of txs (drops (catalogue_events h)) x) out' its.0 its.1 its.2
      ],
    )

pub named_is_there : NamedIsThere
named_is_there h session t x name legal own is =
    let found = last_is (is_meant h session name) (table_number h) x is in
    table_there h session t x legal own found.0 (and_parts (bytes_eq name (made_at h x).name) (is_there h session (made_at h x)) found.1).1
