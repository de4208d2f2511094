-- Entries that are ended one after the other, and tables that are dropped.
use Rattle.std.proofs.Common.{◌≡◌, ◌≢◌, ℕ, suc, ◌<◌, ◌==◌, ◌++◌, append_assoc, arith, ap, refl, sym, subst, ◌∙◌, false, List, [], ◌∷◌, Option, Some, None, length, get_or}
use Rattle.std.specs.List.{All, AllPairs}
use Rattle.std.proofs.lemmas.Bool.Decides.{nat_tests}
use Rattle.std.proofs.lemmas.List.{length-map}
use Rattle.std.proofs.lemmas.List.Elements.{All-head, All-tail}
use Rattle.pg_values.specs.declared.ids.TableNo.{TableNo}
use Rattle.history.specs.declared.transaction.TxId.{TxId}
use Rattle.history.specs.declared.catalogue.Entry.{Entry}
use Rattle.history.specs.declared.catalogue.Stamp.{Stamp}
use Rattle.history.specs.declared.catalogue.Table.{Table}
use Rattle.history.specs.Transactions.{TxEvents, session_of, open_of, fate, next_tx, IsSound}
use Rattle.history.specs.Snapshots.{SnapshotEvents, held_by}
use Rattle.history.specs.Catalogue.{TableDropped, Stamps, tables_made, drops, counted_of}
use Rattle.history.specs.History.{History, CatalogueChange, tx_events, snapshot_events, catalogue_events}
use Rattle.history.specs.Presence.{entries_present}
use Rattle.row_router.specs.Histories.{above}
use Rattle.tx_table.specs.Kept.{KeptTable}
use Rattle.tx_table.specs.Stands.{TableStands, HeldStands, IsOpen}
use Rattle.part_catalog.specs.Kept.{KeptCatalogue, table_in}
use Rattle.part_catalog.specs.Stands.{CatalogueStands}
use Rattle.part_ddl.specs.Below.{tables_from}
use Rattle.part_ddl.specs.Dropped.{ended, place_ended, places_ended, tables_dropped, KeepsPlaces, IsNotDropped, AreTwo, MayDrop, MayDropAll, MayEnd, MayEndAll}
use Rattle.part_ddl.proofs.Ends.{keeps_after, own_of, IsOwn}
use Rattle.part_ddl.proofs.Numbers.{IsBelow, tables_are_made}
use Rattle.part_ddl.proofs.Standing.{same_dropped}

-- ---- what the end of an entry leaves as it is

pub record Leaves (g h : History) : Type 0 where
  pub txs : tx_events g ≡ tx_events h
  pub snapshots : snapshot_events g ≡ snapshot_events h
  pub tables : tables_made (catalogue_events g) ≡ tables_made (catalogue_events h)
  pub dropped : drops (catalogue_events g) ≡ drops (catalogue_events h)

place_leaves : (s : ℕ) (st : Stamp) (h : History) (t : TableNo) → Leaves (place_ended s st h t ++ h) h
place_leaves s st h t = elim (above (entries_present h s) t.number) as (λ (o : Option Entry). Leaves (ended st o ++ h) h) [
  | None ↦ record { txs = refl; snapshots = refl; tables = refl; dropped = refl }
  | Some e ↦ record { txs = refl; snapshots = refl; tables = refl; dropped = refl }
]

leaves_on : (f g h : History) → Leaves f g → Leaves g h → Leaves f h
leaves_on f g h a b = record { txs = a.txs ∙ b.txs; snapshots = a.snapshots ∙ b.snapshots; tables = a.tables ∙ b.tables; dropped = a.dropped ∙ b.dropped }

pub places_leave : (s : ℕ) (st : Stamp) (h : History) (ts : List TableNo) → Leaves (places_ended s st h ts ++ h) h
places_leave s st h [] = record { txs = refl; snapshots = refl; tables = refl; dropped = refl }
places_leave s st h (t ∷ ts) =
    let first = place_ended s st h t in
    let rest = places_ended s st (first ++ h) ts in
    let g : (rest ++ first) ++ h ≡ rest ++ (first ++ h) = append_assoc rest first h in
    subst (λ (x : History). Leaves x h) (sym g) (leaves_on (rest ++ (first ++ h)) (first ++ h) h (places_leave s st (first ++ h) ts) (place_leaves s st h t))

pub stands_on : (table : KeptTable) (g h : History) → Leaves g h → TableStands table h → TableStands table g
stands_on table g h l st = record {
  sound = subst IsSound (sym l.txs) st.sound;
  count = st.count ∙ ap next_tx (sym l.txs);
  owners = λ t. st.owners t ∙ ap (λ (x : TxEvents). session_of x t) (sym l.txs);
  fates = λ t. st.fates t ∙ ap (λ (x : TxEvents). fate x t) (sym l.txs);
  current = λ s. st.current s ∙ ap (λ (x : TxEvents). open_of x s) (sym l.txs);
  held = λ s. subst (λ (x : TxEvents). HeldStands (get_or table.held s None) (held_by (snapshot_events g) s) x) (sym l.txs) (subst (λ (x : SnapshotEvents). HeldStands (get_or table.held s None) (held_by x s) (tx_events h)) (sym l.snapshots) (st.held s));
}

-- ---- the ends, one after the other

-- what a call that ends the entry above a table says
abbrev pub EndsPlace : KeptTable → KeptCatalogue → KeptCatalogue → TxId → Stamp → TableNo → Type 0
EndsPlace table old new by st t = (h : History) → TableStands table h → CatalogueStands old h → CatalogueStands new (place_ended (session_of (tx_events h) by.number) st h t ++ h)

pub first_may : (table : KeptTable) (kept : KeptCatalogue) (by : TxId) (t : TableNo) (rest : List TableNo) → MayEndAll table kept by (t ∷ rest) → MayEnd table kept by t
first_may table kept by t rest m = record { h = m.h; txs = m.txs; catalogue = m.catalogue; places = All-head (KeepsPlaces m.h (session_of (tx_events m.h) by.number)) t rest m.places }

pub rest_may : (table : KeptTable) (old new : KeptCatalogue) (by : TxId) (st : Stamp) (t : TableNo) (rest : List TableNo) → st.by ≡ by → IsOpen table by.number → EndsPlace table old new by st t → MayEndAll table old by (t ∷ rest) → MayEndAll table new by rest
rest_may table old new by st t rest is opened ends m =
    let s = session_of (tx_events m.h) by.number in
    let g = place_ended s st m.h t ++ m.h in
    let left = place_leaves s st m.h t in
    let own : IsOwn m.h s st.by = subst (IsOwn m.h s) (sym is) (own_of table m.h by m.txs opened) in
    let tail = All-tail (KeepsPlaces m.h s) t rest m.places in
    let same : session_of (tx_events g) by.number ≡ s = ap (λ (x : TxEvents). session_of x by.number) left.txs in
    record {
      h = g;
      txs = stands_on table g m.h left m.txs;
      catalogue = ends m.h m.txs m.catalogue;
      places = λ k d lt. subst (λ n. KeepsPlaces g n (get_or rest k d)) (sym same) (keeps_after m.h s st t (get_or rest k d) own (tail k d lt));
    }

-- what was ended so far, and what is left to end
pub record Ending (table : KeptTable) (kept : KeptCatalogue) (s : ℕ) (st : Stamp) (h : History) (rest whole : List TableNo) : Type 0 where
  pub events : History
  pub txs : TableStands table (events ++ h)
  pub catalogue : CatalogueStands kept (events ++ h)
  pub owner : (t : ℕ) → session_of (tx_events (events ++ h)) t ≡ session_of (tx_events h) t
  pub told : places_ended s st (events ++ h) rest ++ events ≡ places_ended s st h whole

pub ending_next : (table : KeptTable) (old new : KeptCatalogue) (by : TxId) (st : Stamp) (h : History) (t : TableNo) (rest whole : List TableNo) → EndsPlace table old new by st t → Ending table old (session_of (tx_events h) by.number) st h (t ∷ rest) whole → Ending table new (session_of (tx_events h) by.number) st h rest whole
ending_next table old new by st h t rest whole ends e =
    let s = session_of (tx_events h) by.number in
    let g = e.events ++ h in
    let first = place_ended s st g t in
    let joined : (first ++ e.events) ++ h ≡ first ++ g = append_assoc first e.events h in
    let left = place_leaves s st g t in
    let cat : CatalogueStands new (first ++ g) = subst (λ n. CatalogueStands new (place_ended n st g t ++ g)) (e.owner by.number) (ends g e.txs e.catalogue) in
    record {
      events = first ++ e.events;
      txs = subst (TableStands table) (sym joined) (stands_on table (first ++ g) g left e.txs);
      catalogue = subst (CatalogueStands new) (sym joined) cat;
      owner = λ n. ap (λ (x : History). session_of (tx_events x) n) joined ∙ ap (λ (x : TxEvents). session_of x n) left.txs ∙ e.owner n;
      told =
          ap (λ (x : History). places_ended s st x rest ++ (first ++ e.events)) joined
          ∙ sym (append_assoc (places_ended s st (first ++ g) rest) first e.events)
          ∙ e.told;
    }

pub ending_last : (table : KeptTable) (kept : KeptCatalogue) (s : ℕ) (st : Stamp) (h : History) (whole : List TableNo) → Ending table kept s st h [] whole → CatalogueStands kept (places_ended s st h whole ++ h)
ending_last table kept s st h whole e = subst (λ (x : History). CatalogueStands kept (x ++ h)) e.told e.catalogue

-- ---- the drops, one after the other

abbrev pub DropsTable : KeptTable → KeptCatalogue → KeptCatalogue → Stamp → TableNo → Type 0
DropsTable table old new st t = (h : History) → TableStands table h → CatalogueStands old h → CatalogueStands new (CatalogueChange (TableDropped t.number st) ∷ h)

pub first_there : (table : KeptTable) (kept : KeptCatalogue) (t : TableNo) (rest : List TableNo) (h : History) → MayDropAll table kept (t ∷ rest) → TableStands table h → CatalogueStands kept h → counted_of (tx_events h) (drops (catalogue_events h)) t.number ≡ None
first_there table kept t rest h m txs cat = same_dropped table kept h m.h txs m.txs cat m.catalogue t.number ∙ All-head (IsNotDropped m.h) t rest m.there

dropped_other : (txs : TxEvents) (ds : Stamps) (k n : ℕ) (s : Stamp) → k ≢ n → counted_of txs ((k, s) ∷ ds) n ≡ counted_of txs ds n
dropped_other txs ds k n s two =
    let other : (k == n) ≡ false = grind (arith, nat_tests, two) in
    rw other refl

pub rest_droppable : (table : KeptTable) (old new : KeptCatalogue) (st : Stamp) (t : TableNo) (rest : List TableNo) → DropsTable table old new st t → MayDropAll table old (t ∷ rest) → MayDropAll table new rest
rest_droppable table old new st t rest drops_it m =
    let g = CatalogueChange (TableDropped t.number st) ∷ m.h in
    let tail = All-tail (IsNotDropped m.h) t rest m.there in
    record {
      h = g;
      txs = m.txs;
      catalogue = drops_it m.h m.txs m.catalogue;
      made = All-tail (IsBelow (length (tables_made (catalogue_events m.h)))) t rest m.made;
      once = λ i j d lt le. m.once (suc i) (suc j) d (omega arith) (omega arith);
      there = λ k d lt. dropped_other (tx_events m.h) (drops (catalogue_events m.h)) t.number (get_or rest k d).number st (m.once 0 (suc k) d (omega arith) (omega arith)) ∙ tail k d lt;
    }

pub record Dropping (table : KeptTable) (kept : KeptCatalogue) (st : Stamp) (h : History) (rest whole : List TableNo) : Type 0 where
  pub events : History
  pub txs : TableStands table (events ++ h)
  pub catalogue : CatalogueStands kept (events ++ h)
  pub told : tables_dropped st rest ++ events ≡ tables_dropped st whole

pub dropping_next : (table : KeptTable) (old new : KeptCatalogue) (st : Stamp) (h : History) (t : TableNo) (rest whole : List TableNo) → DropsTable table old new st t → Dropping table old st h (t ∷ rest) whole → Dropping table new st h rest whole
dropping_next table old new st h t rest whole drops_it d =
    let dropped = CatalogueChange (TableDropped t.number st) in
    record {
      events = dropped ∷ d.events;
      txs = d.txs;
      catalogue = drops_it (d.events ++ h) d.txs d.catalogue;
      told = sym (append_assoc (tables_dropped st rest) (dropped ∷ []) d.events) ∙ d.told;
    }

-- ---- both

pub may_drop_all : (table : KeptTable) (old new : KeptCatalogue) (t : ℕ) (by : TxId) (st : Stamp) (tables : List TableNo) → t < length old.tables → MayDrop table old t by → ((h : History) → TableStands table h → CatalogueStands old h → tables ≡ tables_from h (session_of (tx_events h) by.number) t)
    → ((h : History) → TableStands table h → CatalogueStands old h → CatalogueStands new (places_ended (session_of (tx_events h) by.number) st h tables ++ h)) → MayDropAll table new tables
may_drop_all table old new t by st tables known m told ends =
    let s = session_of (tx_events m.h) by.number in
    let g = places_ended s st m.h tables ++ m.h in
    let left = places_leave s st m.h tables in
    let is = told m.h m.txs m.catalogue in
    let count : length old.tables ≡ length (tables_made (catalogue_events m.h)) = sym (length-map old.tables table_in) ∙ ap length m.catalogue.tables in
    let made : All (IsBelow (length (tables_made (catalogue_events m.h)))) tables = subst (All (IsBelow (length (tables_made (catalogue_events m.h))))) (sym is) (tables_are_made m.h s t m.catalogue.sound (omega (arith, known, count))) in
    let there : All (IsNotDropped m.h) tables = subst (All (IsNotDropped m.h)) (sym is) m.there in
    record {
      h = g;
      txs = stands_on table g m.h left m.txs;
      catalogue = ends m.h m.txs m.catalogue;
      made = subst (λ (ts : List Table). All (IsBelow (length ts)) tables) (sym left.tables) made;
      once = subst (AllPairs AreTwo) (sym is) m.once;
      there = λ k d lt.
          ap (λ (x : TxEvents). counted_of x (drops (catalogue_events g)) (get_or tables k d).number) left.txs
          ∙ ap (λ (ds : Stamps). counted_of (tx_events m.h) ds (get_or tables k d).number) left.dropped
          ∙ there k d lt;
    }
