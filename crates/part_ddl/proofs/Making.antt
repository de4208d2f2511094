-- Tables and entries that are made.
use Rattle.std.proofs.Common.{◌≡◌, ◌<◌, ◌≤◌, ℕ, ◌+◌, ◌++◌, arith, ap, refl, sym, subst, ◌∙◌, Bool, true, false, List, [], ◌∷◌, Option, Some, None, filter, length, map, get_or, inl, inr}
use Rattle.std.specs.Prelude.{Ok, nat_lt}
use Rattle.std.specs.List.{All, find}
use Rattle.std.proofs.lemmas.Grind.{common_steps, elements}
use Rattle.std.proofs.lemmas.Bool.{cases_Bool}
use Rattle.std.proofs.lemmas.Bool.Decides.{nat_tests}
use Rattle.std.proofs.lemmas.List.{length-map, length-append}
use Rattle.std.proofs.lemmas.List.Elements.{All-head, All-tail}
use Rattle.pg_values.specs.declared.fault.Fault.{Fault}
use Rattle.pg_values.specs.declared.ids.TableNo.{TableNo}
use Rattle.pg_values.specs.declared.which.Which.{Which}
use Rattle.bound_forms.specs.declared.level.Level.{Level as OneLevel}
use Rattle.bound_forms.specs.declared.partition_bound.Bound.{Bound}
use Rattle.history.specs.declared.transaction.TxId.{TxId}
use Rattle.history.specs.declared.catalogue.Column.{Column}
use Rattle.history.specs.declared.catalogue.Table.{Table}
use Rattle.history.specs.declared.catalogue.TableShape.{TableShape}
use Rattle.history.specs.declared.catalogue.TableShape.TheVariants.{Leaf, Level}
use Rattle.history.specs.declared.catalogue.Entry.{Entry}
use Rattle.history.specs.Transactions.{session_of}
use Rattle.history.specs.Catalogue.{TableMade, EntryAdded, tables_made, entries_added}
use Rattle.history.specs.History.{History, CatalogueChange, tx_events, catalogue_events}
use Rattle.history.specs.Places.{table_at, HasColumnsOf, TakesBound, Suits}
use Rattle.history.specs.Presence.{is_present, entries_present}
use Rattle.row_router.specs.declared.node.Node.{Node}
use Rattle.row_router.specs.Trees.{TableTree, height}
use Rattle.row_router.specs.Histories.{table_of, above, is_under, children, all_placed, bound_of, child_of_entry, node_at, grown, tree_within, ddl_tree}
use Rattle.row_router.specs.Siblings.{AreSiblings}
use Rattle.row_router.proofs.Order.{all_kept}
use Rattle.row_router.proofs.Suited.{all_suit}
use Rattle.tx_table.specs.Kept.{KeptTable}
use Rattle.tx_table.specs.Stands.{TableStands}
use Rattle.row_store.specs.Kept.{KeptRows}
use Rattle.row_store.specs.Stands.{StoreStands}
use Rattle.part_catalog.specs.Answers.{AreTogether, child_told, pending_entry, is_pending_below}
use Rattle.part_catalog.specs.Found.{made_at, table_number}
use Rattle.part_catalog.specs.declared.TheConstants.{ENTRY_LIMIT}
use Rattle.part_catalog.specs.Full.{partitions, added, tables_above, levels, EntryRefused, MayAdd}
use Rattle.part_catalog.specs.declared.new_table.CatalogRefused.TheVariants.{Full}
use Rattle.part_catalog.specs.Kept.{KeptCatalogue, table_in, next_entry}
use Rattle.part_catalog.specs.Stands.{CatalogueStands}
use Rattle.part_ddl.specs.Made.{made_by, IsMade}
use Rattle.part_ddl.specs.Partitions.{MayMake, made_partition, new_entry, partition_events}
use Rattle.part_ddl.specs.Tables.{count_faults, next_table, shape_of, leaf_events, new_table, table_events, made_table}
use Rattle.part_ddl.proofs.Free.{room_of}

pub table_count : (kept : KeptCatalogue) (h : History) → CatalogueStands kept h → length kept.tables ≡ length (tables_made (catalogue_events h))
table_count kept h st = sym (length-map kept.tables table_in) ∙ ap length st.tables

found_suits : (P : Entry → Type 0) (p : Entry → Bool) (xs : List Entry) (x : Entry) → find p xs ≡ Some x → All P xs → P x
found_suits P p [] x is all = absurd (cc)
found_suits P p (y ∷ ys) x is all = elim (cases_Bool (p y)) [
  | inl t ↦ let same : y ≡ x = let e : Some y ≡ Some x = rw t at is in cc in subst P same (All-head P y ys all)
  | inr f ↦ found_suits P p ys x (rw f at is) (All-tail P y ys all)
]

told_child : (P : TableNo → Type 0) (o : Option Entry) (t : TableNo) → Some t ≡ child_told o → ((e : Entry) → o ≡ Some e → P e.child) → P t
told_child P None t is each = absurd (cc)
told_child P (Some e) t is each = let same : e.child ≡ t = cc in subst P same (each e refl)

-- the pending partition of a table is made
pub child_made : (table : KeptTable) (kept : KeptCatalogue) (s t : ℕ) (child : TableNo) → AreTogether table kept s → ((h : History) → TableStands table h → CatalogueStands kept h → Some child ≡ child_told (pending_entry h s t)) → child.number < length kept.tables
child_made table kept s t child both told =
    let h = both.h in
    let tables = tables_made (catalogue_events h) in
    let made : child.number < length tables =
    told_child (λ (x : TableNo). x.number < length tables) (pending_entry h s t) child (told h both.txs both.catalogue)
    (λ e is. (found_suits (Suits tables) (is_pending_below h s t) (entries_added (catalogue_events h)) e is (all_suit h both.catalogue.sound)).child) in
    omega (arith, made, table_count kept h both.catalogue)

-- ---- a table that is made as a partition

made_ok : (faults : List Fault) (t given : TableNo) (events : History) → (made_by faults t events).told ≡ Ok given → (t ≡ given) × ((made_by faults t events).events ≡ events)
made_ok [] t given events e = (cc, refl)
made_ok (f ∷ fs) t given events e = absurd (cc)

tables_with : (h : History) (name : List ℕ) (columns : List Column) (level : Option OneLevel) (by : TxId) (cmd : ℕ) → tables_made (catalogue_events (table_events h name columns level by cmd ++ h)) ≡ tables_made (catalogue_events h) ++ new_table h name columns level by cmd ∷ []
tables_with h name columns None by cmd = refl
tables_with h name columns (Some level) by cmd = refl

present_with : (h : History) (name : List ℕ) (columns : List Column) (level : Option OneLevel) (by : TxId) (cmd s : ℕ) → entries_present (table_events h name columns level by cmd ++ h) s ≡ entries_present h s
present_with h name columns None by cmd s = refl
present_with h name columns (Some level) by cmd s = refl

added_with : (h : History) (name : List ℕ) (columns : List Column) (level : Option OneLevel) (by : TxId) (cmd : ℕ) → added (table_events h name columns level by cmd ++ h) ≡ added h
added_with h name columns None by cmd = refl
added_with h name columns (Some level) by cmd = refl

owner_with : (h : History) (name : List ℕ) (columns : List Column) (level : Option OneLevel) (by : TxId) (cmd t : ℕ) → session_of (tx_events (table_events h name columns level by cmd ++ h)) t ≡ session_of (tx_events h) t
owner_with h name columns None by cmd t = refl
owner_with h name columns (Some level) by cmd t = refl

txs_with : (table : KeptTable) (h : History) (name : List ℕ) (columns : List Column) (level : Option OneLevel) (by : TxId) (cmd : ℕ) → TableStands table h → TableStands table (table_events h name columns level by cmd ++ h)
txs_with table h name columns None by cmd st = st
txs_with table h name columns (Some level) by cmd st = st

same_columns : (cs : List Column) → HasColumnsOf cs cs
same_columns [] = tt
same_columns (c ∷ cs) = ((refl, refl, λ e. e), same_columns cs)

suits_new : (tables : List Table) (new : Table) (e : Entry) → e.parent.number < length tables → e.child.number ≡ length tables → TakesBound (table_at tables e.parent.number).shape e.bound → new.columns ≡ (table_at tables e.parent.number).columns → Suits (tables ++ new ∷ []) e
suits_new tables new e parent child takes columns =
    let old : table_at tables e.parent.number ≡ table_at (tables ++ new ∷ []) e.parent.number = grind (arith, common_steps, elements) in
    let last : new ≡ table_at (tables ++ new ∷ []) e.child.number = grind (arith, common_steps, elements, child) in
    let n : length (tables ++ new ∷ []) ≡ length tables + 1 = omega (arith, length-append tables (new ∷ [])) in
    let cs = (table_at tables e.parent.number).columns in
    let own : HasColumnsOf cs new.columns = subst (HasColumnsOf cs) (sym columns) (same_columns cs) in
    record {
      parent = omega (arith, n, parent);
      child = omega (arith, n, child);
      bound = subst (λ (x : Table). TakesBound x.shape e.bound) old takes;
      columns = subst (λ (x : Table). HasColumnsOf x.columns (table_at (tables ++ new ∷ []) e.child.number).columns) old (subst (λ (x : Table). HasColumnsOf cs x.columns) last own);
    }

-- ---- the new table has no partition

none_under : (t : ℕ) (es : List Entry) → All (λ e. e.parent.number < t) es → filter (is_under t) es ≡ []
none_under t [] h = refl
none_under t (e ∷ es) h =
    let less = All-head (λ (x : Entry). x.parent.number < t) e es h in
    let other : is_under t e ≡ false = grind (arith, nat_tests, less) in
    rw other (none_under t es (All-tail (λ (x : Entry). x.parent.number < t) e es h))

bare_height : (shape : TableShape) (node : Node) → height (grown shape node [] []) ≡ 1
bare_height (Leaf leaf) node = refl
bare_height (Level level) node = refl

lone_height : (h : History) (s t : ℕ) → All (λ e. e.parent.number < t) (entries_present h s) → height (ddl_tree h s t) ≡ 1
unfolding Rattle.row_router.specs.Histories.ddl_tree
lone_height h s t below =
    let tables = tables_made (catalogue_events h) in
    let es = entries_present h s in
    let f : ℕ → TableTree = λ c. tree_within 6 tables es t c in
    let none : children es t ≡ [] = ap (all_placed []) (none_under t es below) in
    ap (λ (ks : List Entry). height (grown (table_at tables t).shape (node_at tables t t) (map bound_of ks) (map (λ (e : Entry). f (child_of_entry e)) ks))) none ∙ bare_height (table_at tables t).shape (node_at tables t t)

-- ---- the place of the new table

-- what a call that makes the table says
abbrev pub MakesTable : KeptCatalogue → KeptRows → KeptCatalogue → KeptRows → (name : List ℕ) → List Column → Option OneLevel → TxId → ℕ → TableNo → Type 0
MakesTable kept store kept2 store2 name columns level by cmd t = (h : History) → CatalogueStands kept h → StoreStands store h → IsMade (Ok t) kept2 store2 h (made_table h name columns level by cmd)

-- the stores after it
pub record IsThere (kept : KeptCatalogue) (store : KeptRows) (h : History) (name : List ℕ) (columns : List Column) (level : Option OneLevel) (by : TxId) (cmd : ℕ) (t : TableNo) : Type 0 where
  pub number : next_table h ≡ t
  pub faults : count_faults h ≡ []
  pub catalogue : CatalogueStands kept (table_events h name columns level by cmd ++ h)
  pub rows : StoreStands store (table_events h name columns level by cmd ++ h)

faults_none : (faults : List Fault) (t given : TableNo) (events : History) → (made_by faults t events).told ≡ Ok given → faults ≡ []
faults_none [] t given events e = refl
faults_none (f ∷ fs) t given events e = absurd (cc)

pub is_there : (kept : KeptCatalogue) (store : KeptRows) (h : History) (name : List ℕ) (columns : List Column) (level : Option OneLevel) (by : TxId) (cmd : ℕ) (t : TableNo) → IsMade (Ok t) kept store h (made_table h name columns level by cmd) → IsThere kept store h name columns level by cmd t
is_there kept store h name columns level by cmd t m =
    let is = made_ok (count_faults h) (next_table h) t (table_events h name columns level by cmd) m.0 in
    record {
      number = is.0;
      faults = faults_none (count_faults h) (next_table h) t (table_events h name columns level by cmd) m.0;
      catalogue = subst (λ (x : History). CatalogueStands kept (x ++ h)) is.1 m.1.catalogue;
      rows = subst (λ (x : History). StoreStands store (x ++ h)) is.1 m.1.rows;
    }

pub may_add : (table : KeptTable) (kept : KeptCatalogue) (store : KeptRows) (kept2 : KeptCatalogue) (store2 : KeptRows) (name : List ℕ) (columns : List Column) (parent : TableNo) (b : Bound) (level : Option OneLevel) (by : TxId) (cmd : ℕ) (t : TableNo) → (m : MayMake table kept store parent.number b level by) → columns ≡ (made_at m.h parent.number).columns → MakesTable kept store kept2 store2 name columns level by cmd t → MayAdd table kept2 (next_entry kept2 parent t b by cmd)
may_add table kept store kept2 store2 name columns parent b level by cmd t m is makes =
    let there = is_there kept2 store2 m.h name columns level by cmd t (makes m.h m.catalogue m.rows) in
    let g = table_events m.h name columns level by cmd ++ m.h in
    let tables = tables_made (catalogue_events m.h) in
    let new = new_table m.h name columns level by cmd in
    let child : t.number ≡ length tables = ap (λ (x : TableNo). x.number) (sym there.number) in
    let suits = suits_new tables new (next_entry kept2 parent t b by cmd) m.known child m.takes is in
    let owner = owner_with m.h name columns level by cmd by.number in
    let same : entries_present m.h (session_of (tx_events m.h) by.number) ≡ entries_present g (session_of (tx_events g) by.number) = sym (present_with m.h name columns level by cmd (session_of (tx_events m.h) by.number)) ∙ ap (entries_present g) (sym owner) in
    record {
      h = g;
      txs = txs_with table m.h name columns level by cmd m.txs;
      catalogue = there.catalogue;
      suits = subst (λ (ts : List Table). Suits ts (next_entry kept2 parent t b by cmd)) (sym (tables_with m.h name columns level by cmd)) suits;
      siblings = subst AreSiblings same m.siblings;
    }

-- there is room for it
refused_none : (h : History) (s p c : ℕ) (which : Which) → partitions h s p < 1024 → added h < ENTRY_LIMIT → levels h s p c ≤ 8 → EntryRefused h s p c (Full which) → ⊥
refused_none h s p c which few fit low (inl (is, inl many)) = omega (arith, many, few)
refused_none h s p c which few fit low (inl (is, inr full)) = omega (arith, full, fit)
refused_none h s p c which few fit low (inr r) = omega (arith, r.2, low)

pub never_full : (table : KeptTable) (kept : KeptCatalogue) (store : KeptRows) (kept2 : KeptCatalogue) (store2 : KeptRows) (name : List ℕ) (columns : List Column) (parent : TableNo) (b : Bound) (level : Option OneLevel) (by : TxId) (cmd : ℕ) (t : TableNo) (which : Which) → (m : MayMake table kept store parent.number b level by) → MakesTable kept store kept2 store2 name columns level by cmd t
    → ((h : History) → TableStands table h → CatalogueStands kept2 h → EntryRefused h (session_of (tx_events h) by.number) parent.number t.number (Full which)) → ⊥
never_full table kept store kept2 store2 name columns parent b level by cmd t which m makes refused =
    let there = is_there kept2 store2 m.h name columns level by cmd t (makes m.h m.catalogue m.rows) in
    let g = table_events m.h name columns level by cmd ++ m.h in
    let s = session_of (tx_events m.h) by.number in
    let tables = tables_made (catalogue_events m.h) in
    let room = room_of m.h s parent.number 1 b m.place in
    let present : entries_present g s ≡ entries_present m.h s = present_with m.h name columns level by cmd s in
    let child : t.number ≡ length tables = ap (λ (x : TableNo). x.number) (sym there.number) in
    let suits : All (Suits tables) (entries_present m.h s) = all_kept (Suits tables) (is_present m.h s) (entries_added (catalogue_events m.h)) (all_suit m.h m.catalogue.sound) in
    let below : All (λ (e : Entry). e.parent.number < t.number) (entries_present g s) = subst (All (λ (e : Entry). e.parent.number < t.number)) (sym present) (λ k d lt. subst (λ n. (get_or (entries_present m.h s) k d).parent.number < n) (sym child) (suits k d lt).parent) in
    let one = lone_height g s t.number below in
    let few : partitions g s parent.number < 1024 = subst (λ (es : List Entry). length (children es parent.number) < 1024) (sym present) room.partitions in
    let up : tables_above (above (entries_present g s)) parent.number ≡ tables_above (above (entries_present m.h s)) parent.number = ap (λ (es : List Entry). tables_above (above es) parent.number) present in
    let low : levels g s parent.number t.number ≤ 8 = omega (arith, up, one, room.levels) in
    let full = subst (λ n. EntryRefused g n parent.number t.number (Full which)) (owner_with m.h name columns level by cmd by.number) (refused g (txs_with table m.h name columns level by cmd m.txs) there.catalogue) in
    let fit : added g < ENTRY_LIMIT = omega (arith, added_with m.h name columns level by cmd, room.added) in
    refused_none g s parent.number t.number which few fit low full

-- ---- what a call answers that makes it

none_stops : (faults : List Fault) (t given : TableNo) (events : History) (kept : KeptCatalogue) (store : KeptRows) (h : History) → faults ≡ [] → t ≡ given → CatalogueStands kept (events ++ h) → StoreStands store (events ++ h) → IsMade (Ok given) kept store h (made_by faults t events)
none_stops [] t given events kept store h none is cat rows =
    let told : (made_by [] t events).told ≡ Ok given = ap (λ (x : TableNo). (made_by [] x events).told) is in
    (told, record { catalogue = cat; rows = rows })
none_stops (f ∷ fs) t given events kept store h none is cat rows = absurd (cc)

-- a leaf that is added changes nothing of the catalogue
leaf_stays : (kept : KeptCatalogue) (h : History) (level : Option OneLevel) → CatalogueStands kept h → CatalogueStands kept (leaf_events h level ++ h)
leaf_stays kept h None st = record { sound = st.sound; tables = st.tables; drops = st.drops; added = st.added; entries = st.entries; ends = st.ends; marks = st.marks; checks = st.checks }
leaf_stays kept h (Some level) st = st

-- a table of its own
pub table_is_made : (old new : KeptCatalogue) (store : KeptRows) (h : History) (name : List ℕ) (columns : List Column) (level : Option OneLevel) (by : TxId) (cmd : ℕ) (t : TableNo) (shape : TableShape) → CatalogueStands old h → t.number ≡ length old.tables → length old.tables < 4096 → shape ≡ shape_of h level → StoreStands store (leaf_events h level ++ h)
    → ((g : History) → CatalogueStands old g → CatalogueStands new (CatalogueChange (TableMade (record { id = t; name = name; columns = columns; shape = shape; by = by; cmd = cmd })) ∷ g))
    → IsMade (Ok t) new store h (made_table h name columns level by cmd)
table_is_made old new store h name columns level by cmd t shape st number few is rows added =
    let count : table_number h ≡ length old.tables = sym (table_count old h st) in
    let low : nat_lt (table_number h) 4096 ≡ true = grind (arith, nat_tests, count, few) in
    let none : count_faults h ≡ [] = rw low refl in
    let id : t ≡ next_table h = ap table_of (number ∙ sym count) in
    let g : History = leaf_events h level ++ h in
    let made : CatalogueStands new (CatalogueChange (TableMade (record { id = t; name = name; columns = columns; shape = shape; by = by; cmd = cmd })) ∷ g) = added g (leaf_stays old h level st) in
    let shaped : CatalogueStands new (CatalogueChange (TableMade (record { id = t; name = name; columns = columns; shape = shape_of h level; by = by; cmd = cmd })) ∷ g) =
    subst (λ (s : TableShape). CatalogueStands new (CatalogueChange (TableMade (record { id = t; name = name; columns = columns; shape = s; by = by; cmd = cmd })) ∷ g)) is made in
    let cat : CatalogueStands new (table_events h name columns level by cmd ++ h) =
    subst (λ (i : TableNo). CatalogueStands new (CatalogueChange (TableMade (record { id = i; name = name; columns = columns; shape = shape_of h level; by = by; cmd = cmd })) ∷ g)) id shaped in
    let there : StoreStands store (table_events h name columns level by cmd ++ h) = record { sound = rows.sound; births = rows.births; ends = rows.ends; leaves = rows.leaves; room = rows.room; lists = rows.lists } in
    none_stops (count_faults h) (next_table h) t (table_events h name columns level by cmd) new store h none (sym id) cat there

entries_with : (h : History) (name : List ℕ) (columns : List Column) (level : Option OneLevel) (by : TxId) (cmd : ℕ) → length (entries_added (catalogue_events (table_events h name columns level by cmd ++ h))) ≡ length (entries_added (catalogue_events h))
entries_with h name columns None by cmd = refl
entries_with h name columns (Some level) by cmd = refl

-- and one below a parent
pub partition_is_made : (table : KeptTable) (kept new : KeptCatalogue) (store : KeptRows) (h : History) (name : List ℕ) (columns : List Column) (parent : TableNo) (b : Bound) (level : Option OneLevel) (by : TxId) (cmd : ℕ) (t : TableNo) → TableStands table h → columns ≡ (made_at h parent.number).columns → IsMade (Ok t) kept store h (made_table h name columns level by cmd)
    → ((g : History) → TableStands table g → CatalogueStands kept g → CatalogueStands new (CatalogueChange (EntryAdded (next_entry kept parent t b by cmd)) ∷ g))
    → IsMade (Ok t) new store h (made_partition h name parent.number b level by cmd)
partition_is_made table kept new store h name columns parent b level by cmd t txs is made added =
    let there = is_there kept store h name columns level by cmd t made in
    let g : History = table_events h name columns level by cmd ++ h in
    let n : ℕ = length (entries_added (catalogue_events h)) in
    let count : kept.added ≡ n = there.catalogue.added ∙ entries_with h name columns level by cmd in
    let at : ℕ → TableNo → Entry = λ k c. record { id = record { number = k }; parent = parent; child = c; bound = b; by = by; cmd = cmd } in
    let same : next_entry kept parent t b by cmd ≡ new_entry h parent.number b by cmd = ap (λ (k : ℕ). at k t) count ∙ ap (λ (c : TableNo). at n c) (sym there.number) in
    let added_to : CatalogueStands new (CatalogueChange (EntryAdded (next_entry kept parent t b by cmd)) ∷ g) = added g (txs_with table h name columns level by cmd txs) there.catalogue in
    let placed : CatalogueStands new (CatalogueChange (EntryAdded (new_entry h parent.number b by cmd)) ∷ g) = subst (λ (e : Entry). CatalogueStands new (CatalogueChange (EntryAdded e) ∷ g)) same added_to in
    let rows : StoreStands store (CatalogueChange (EntryAdded (new_entry h parent.number b by cmd)) ∷ g) = record { sound = there.rows.sound; births = there.rows.births; ends = there.rows.ends; leaves = there.rows.leaves; room = there.rows.room; lists = there.rows.lists } in
    let events : List Column → History = λ cs. CatalogueChange (EntryAdded (new_entry h parent.number b by cmd)) ∷ table_events h name cs level by cmd in
    none_stops (count_faults h) (next_table h) t (partition_events h name parent.number b level by cmd) new store h there.faults there.number
    (subst (λ (cs : List Column). CatalogueStands new (events cs ++ h)) is placed)
    (subst (λ (cs : List Column). StoreStands store (events cs ++ h)) is rows)
