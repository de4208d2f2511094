-- What did not change stands for a history with no event of its own.
use Rattle.std.proofs.Common.{◌≡◌, ℕ, ◌+◌, ◌||◌, ◌==◌, refl, sym, ap, subst, ◌∙◌, ◌∷◌, List, length, map, filter, get_or}
use Rattle.history.specs.Rows.{RowEvents, births, last_end, leaf_count}
use Rattle.history.specs.RowsSound.{AreRowsSound}
use Rattle.history.specs.declared.version.Version.{Version}
use Rattle.history.specs.Dead.{IsDead}
use Rattle.history.specs.Thinned as thinned
use Rattle.history.proofs.Thinned as thinned_laws
use Rattle.history.specs.Catalogue.{CatalogueEvents, tables_made, entries_added, checks_kept, drops, entry_ends, marks, newest_of}
use Rattle.history.specs.declared.catalogue.Entry.{Entry}
use Rattle.history.specs.Places.{AreCatalogueSound}
use Rattle.history.specs.History.{History, TxChange, tx_events, row_events, catalogue_events}
use Rattle.history.specs.Transactions.{TxEvent, TxEvents, IsSound, was_aborted}
use Rattle.row_store.specs.Kept.{KeptRows, version_of, listed_in}
use Rattle.row_store.specs.Limits.{versions_bytes}
use Rattle.row_store.specs.Stands.{StoreStands, born_in}
use Rattle.part_catalog.specs.Forgotten.{IsGone, Thins, is_gone, is_over}
use Rattle.part_catalog.specs.Kept.{KeptCatalogue, entry_in, no_entry}
use Rattle.part_catalog.specs.Stands.{CatalogueStands}
use Rattle.part_catalog.proofs.Forgotten.{gone_stay_gone, thin_weaker}
use Rattle.soundness.proofs.OneLeaf.{sessions_have_siblings}
use Rattle.part_catalog.specs.Answers.{AreTogether}
use Rattle.stores.specs.declared.stores.Stores.{Stores}
use Rattle.stores.specs.Stand.{Stands}
use Rattle.stores.proofs.Goodness.{legal_of, permitted_of}

-- with no event of rows, where what is dead stays dead
pub rows_stand : (k : KeptRows) (h g : History) → row_events g ≡ row_events h → AreRowsSound g → ((v : Version) → IsDead h v → IsDead g v) → StoreStands k h → StoreStands k g
rows_stand k h g same sound dead st = record {
  sound = sound;
  births = st.births ∙ sym (ap births same);
  ends = λ i. st.ends i ∙ sym (ap (λ (r : RowEvents). last_end r i) same);
  leaves = st.leaves ∙ sym (ap leaf_count same);
  room = ap (λ (r : RowEvents). k.room + versions_bytes (births r)) same ∙ st.room;
  lists = λ l lt.
      let list : List Version = map version_of (listed_in k.stored k.listed l) in
      subst (λ (r : RowEvents). thinned.Thins (IsDead g) (filter (λ (v : Version). v.leaf.number == l) (births r)) list) (sym same) (thinned_laws.thin_weaker (IsDead h) (IsDead g) dead (born_in h l) list (st.lists l lt));
}

-- with no event of the catalogue, where what is gone stays gone
stands_on : (k : KeptCatalogue) (h g : History) → catalogue_events g ≡ catalogue_events h → AreCatalogueSound g → ((e : Entry) → IsGone h e → IsGone g e) → CatalogueStands k h → CatalogueStands k g
stands_on k h g same sound gone st = record {
  sound = sound;
  tables = st.tables ∙ sym (ap tables_made same);
  drops = λ i. st.drops i ∙ sym (ap (λ (c : CatalogueEvents). newest_of (drops c) i) same);
  added = st.added ∙ sym (ap (λ (c : CatalogueEvents). length (entries_added c)) same);
  entries = subst (λ (c : CatalogueEvents). Thins (IsGone g) (entries_added c) (map entry_in k.entries)) (sym same) (thin_weaker (IsGone h) (IsGone g) gone (entries_added (catalogue_events h)) (map entry_in k.entries) st.entries);
  ends = λ i lt. st.ends i lt ∙ sym (ap (λ (c : CatalogueEvents). newest_of (entry_ends c) (get_or k.entries i no_entry).entry.id.number) same);
  marks = λ i lt. st.marks i lt ∙ sym (ap (λ (c : CatalogueEvents). newest_of (marks c) (get_or k.entries i no_entry).entry.id.number) same);
  checks = st.checks ∙ sym (ap checks_kept same);
}

gone_alike : (h g : History) (e : Entry) → tx_events g ≡ tx_events h → catalogue_events g ≡ catalogue_events h → is_gone g e ≡ is_gone h e
gone_alike h g e txs same =
    ap (λ (t : TxEvents). was_aborted t e.by.number || is_over t (newest_of (entry_ends (catalogue_events g)) e.id.number)) txs
    ∙ ap (λ (c : CatalogueEvents). was_aborted (tx_events h) e.by.number || is_over (tx_events h) (newest_of (entry_ends c) e.id.number)) same

pub catalogue_stands : (k : KeptCatalogue) (h g : History) → tx_events g ≡ tx_events h → catalogue_events g ≡ catalogue_events h → AreCatalogueSound g → CatalogueStands k h → CatalogueStands k g
catalogue_stands k h g txs same sound st = stands_on k h g same sound (λ e gone. gone_alike h g e txs same ∙ gone) st

-- an event of a transaction
pub catalogue_stays : (k : KeptCatalogue) (e : TxEvent) (h : History) → IsSound (e ∷ tx_events h) → CatalogueStands k h → CatalogueStands k (TxChange e ∷ h)
catalogue_stays k e h sound st = stands_on k h (TxChange e ∷ h) refl st.sound (λ x gone. gone_stay_gone (TxChange e) h x sound st.sound gone) st

pub trees_are_together : (stores : Stores) (h : History) (session : ℕ) → Stands stores h → AreTogether stores.txs stores.catalog session
trees_are_together stores h session st = record {
  h = h;
  txs = st.all.txs;
  catalogue = st.all.catalog;
  siblings = sessions_have_siblings h session (legal_of h st.good) (permitted_of h st.good);
}
