-- A table that is made as a partition.
use Rattle.std.proofs.Common.{◌≡◌, ℕ, ◌+◌, ◌<◌, true, false, List, [], ◌∷◌, ◌++◌, inl, inr, refl, sym, ap, ◌∙◌, subst, arith, Option, Some, None, Result, Ok, Err, All, filter, map, length, slice_index_or}
use Rattle.std.specs.List.{Contains}
use Rattle.std.proofs.lemmas.Grind.{common_steps, elements}
use Rattle.std.proofs.lemmas.Bool.Decides.{nat_tests}
use Rattle.std.proofs.lemmas.List.{length-append}
use Rattle.std.proofs.lemmas.List.Elements.{All-head, All-tail, All-contains, Contains-get_or}
use Rattle.pg_values.specs.declared.fault.Refusal.{Refusal}
use Rattle.pg_values.specs.declared.ids.TableNo.{TableNo}
use Rattle.pg_values.specs.declared.lock_mode.LockMode.TheVariants.{AccessExclusive}
use Rattle.bound_forms.specs.declared.level.Level.{Level as OneLevel}
use Rattle.bound_forms.specs.declared.partition_bound.Bound.{Bound}
use Rattle.pg_values.specs.declared.value.Value.{Value}
use Rattle.bound_forms.specs.Accepts.{accepts}
use Rattle.history.specs.declared.transaction.TxId.{TxId}
use Rattle.history.specs.declared.version.Version.{Version}
use Rattle.history.specs.declared.catalogue.Column.{Column}
use Rattle.history.specs.declared.catalogue.Entry.{Entry}
use Rattle.history.specs.declared.catalogue.Table.{Table}
use Rattle.history.specs.declared.catalogue.TableShape.{TableShape}
use Rattle.history.specs.declared.catalogue.TableShape.TheVariants.{Leaf, Level}
use Rattle.history.specs.Transactions.{open_of, session_of}
use Rattle.history.specs.Rows.{LeafAdded, leaf_count}
use Rattle.history.specs.Catalogue.{TableMade, TableDropped, EntryAdded, EntryEnded, EntryMarked, CheckKept, tables_made, IsDropped}
use Rattle.history.specs.Locks.{holds}
use Rattle.history.specs.History.{History, RowChange, CatalogueChange, TxChange, SnapshotChange, LockChange, tx_events, row_events, catalogue_events, lock_events}
use Rattle.history.specs.Legal.{IsInOrder, IsLegal}
use Rattle.history.specs.Places.{table_at, HasColumnsOf, TakesBound, Suits, AreCatalogueSound}
use Rattle.history.specs.Presence.{entries_present}
use Rattle.history.proofs.Open.{open_own}
use Rattle.row_router.specs.declared.node.Node.{Node}
use Rattle.row_router.specs.Siblings.{AreSiblings, CanStandTogether}
use Rattle.row_router.specs.Trees.{TableTree, height, leaves}
use Rattle.row_router.specs.Histories.{is_under, children, all_placed, bound_of, child_of_entry, node_at, grown, tree_within, ddl_tree, above}
use Rattle.tx_table.specs.Stands.{TableStands}
use Rattle.row_store.specs.Kept.{KeptRows}
use Rattle.row_store.specs.Stands.{StoreStands}
use Rattle.soundness.specs.Legal.{ArePermitted, HasTable}
use Rattle.soundness.specs.Laws.{SessionsHaveSiblings}
use Rattle.soundness.specs.Worlds.{view, table_in, key_at, IsMade}
use Rattle.soundness.proofs.Made.{made_more, same_table, same_key}
use Rattle.soundness.proofs.Sound.{catalogue_sound_of}
use Rattle.soundness.proofs.Worlds.{view_own}
use Rattle.part_catalog.specs.Found.{made_at, table_number}
use Rattle.part_catalog.specs.Kept.{KeptCatalogue}
use Rattle.part_catalog.specs.Stands.{CatalogueStands}
use Rattle.part_ddl.specs.Laws.{PassedHavePlaces, IsNoDefaultBeside}
use Rattle.part_ddl.specs.Made.{IsMade as IsMadeBy}
use Rattle.part_ddl.specs.Partitions.{new_entry, partition_events, made_partition, MayMake}
use Rattle.part_ddl.specs.Placing.{place_faults}
use Rattle.part_ddl.specs.Tables.{count_faults, next_table, new_table, table_events}
use Rattle.part_ddl.proofs.Making.{table_count}
use Rattle.legal_statements.specs.Below.{numbers_from, tables_in}
use Rattle.legal_statements.specs.Entries.{IsDefaultOf, IsScanned, IsNewPlace, IsNewPartition}
use Rattle.legal_statements.specs.Follows.{MayCome, MayFollow}
use Rattle.legal_statements.specs.Laws.{NamedIsThere, NewPartitionMayFollow, NoneBreaks}
use Rattle.legal_statements.proofs.Holding.{session_runs}
use Rattle.stores.specs.Events.{tx_in}
use Rattle.stores.specs.Numbers.{IsAt}
use Rattle.stores.specs.Stand.{Stands}
use Rattle.stores.specs.declared.stores.Stores.{Stores}
use Rattle.stores.proofs.Commands.{commands_are_in_order}
use Rattle.stores.proofs.Goodness.{legal_of, permitted_of}
use Rattle.statement_steps.specs.Attempts.{MayAttempt}
use Rattle.statement_steps.specs.declared.caller.Caller.{Caller}
use Rattle.statement_steps.specs.Faults.{stop_of}
use Rattle.statement_steps.specs.Steps.{IsStep}
use Rattle.statement_steps.specs.Owned.{own}
use Rattle.statement_steps.proofs.Owned.{own_number, own_is, IsOwn}
use Rattle.table_statements.specs.Asked.{HasDefaultClean, MayBeMade, MayBePlaced}
use Rattle.table_statements.specs.Partitions.{partition_made}
use Rattle.ddl_steps.proofs.Below.{entry_suits}
use Rattle.ddl_steps.proofs.Beside.{IsApart, tree_same, tree_with, stands_apart}
use Rattle.ddl_steps.proofs.Deeds.{Each, IsDone, IsDeed, deed_step, made_stands, not_made}
use Rattle.table_statements.proofs.Fresh.{TableLaws, is_new, table_may, table_done, table_housed, table_leaves}
use Rattle.ddl_steps.proofs.Locks.{held_at_history}
use Rattle.ddl_steps.specs.Locks.{IsLockedNamed, HasDefaultLocked}

-- ---- lists with one table more

same_columns : (cs : List Column) → HasColumnsOf cs cs
same_columns [] = tt
same_columns (c ∷ cs) = ((refl, refl, λ e. e), same_columns cs)

last_table : (tables : List Table) (new : Table) (k : ℕ) → k ≡ length tables → new ≡ table_at (tables ++ new ∷ []) k
last_table tables new k is = grind (arith, common_steps, elements, is)

old_table : (tables : List Table) (new : Table) (k : ℕ) → k < length tables → table_at tables k ≡ table_at (tables ++ new ∷ []) k
old_table tables new k lt = grind (arith, common_steps, elements)

suits_new : (tables : List Table) (new : Table) (e : Entry) → e.parent.number < length tables → e.child.number ≡ length tables → TakesBound (table_at tables e.parent.number).shape e.bound → new.columns ≡ (table_at tables e.parent.number).columns → Suits (tables ++ new ∷ []) e
suits_new tables new e parent child takes columns =
    let old = old_table tables new e.parent.number parent in
    let last = last_table tables new e.child.number child in
    let n : length (tables ++ new ∷ []) ≡ length tables + 1 = length-append tables (new ∷ []) in
    let cs = (table_at tables e.parent.number).columns in
    let mine : HasColumnsOf cs new.columns = subst (λ (x : List Column). HasColumnsOf cs x) (sym columns) (same_columns cs) in
    record {
      parent = omega (arith, n, parent);
      child = omega (arith, n, child);
      bound = subst (λ (x : Table). TakesBound x.shape e.bound) old takes;
      columns = subst (λ (x : Table). HasColumnsOf x.columns (table_at (tables ++ new ∷ []) e.child.number).columns) old (subst (λ (x : Table). HasColumnsOf cs x.columns) last mine);
    }

-- ---- the new table has no partition, and was not dropped

none_under : (t : ℕ) (es : List Entry) → All (λ e. e.parent.number < t) es → filter (is_under t) es ≡ []
none_under t [] h = refl
none_under t (e ∷ es) h =
    let less = All-head (λ (x : Entry). x.parent.number < t) e es h in
    let other : is_under t e ≡ false = grind (arith, nat_tests, less) in
    rw other (none_under t es (All-tail (λ (x : Entry). x.parent.number < t) e es h))

bare_height : (shape : TableShape) (node : Node) → height (grown shape node [] []) ≡ 1
bare_height (Leaf leaf) node = refl
bare_height (Level level) node = refl

lone_height : (h : History) (s t : ℕ) → All (λ e. e.parent.number < t) (entries_present h s) → height (ddl_tree h s t) ≡ 1
unfolding Rattle.row_router.specs.Histories.ddl_tree
lone_height h s t below =
    let tables = tables_made (catalogue_events h) in
    let es = entries_present h s in
    let f : ℕ → TableTree = λ c. tree_within 6 tables es t c in
    let none : children es t ≡ [] = ap (all_placed []) (none_under t es below) in
    ap (λ (ks : List Entry). height (grown (table_at tables t).shape (node_at tables t t) (map bound_of ks) (map (λ (e : Entry). f (child_of_entry e)) ks))) none ∙ bare_height (table_at tables t).shape (node_at tables t t)

dropped_made : (h : History) (k u : ℕ) → AreCatalogueSound h → IsDropped (catalogue_events h) k u → k < length (tables_made (catalogue_events h))
dropped_made [] k u sound drop = absurd drop
dropped_made (TxChange e ∷ h) k u sound drop = dropped_made h k u sound drop
dropped_made (SnapshotChange e ∷ h) k u sound drop = dropped_made h k u sound drop
dropped_made (RowChange e ∷ h) k u sound drop = dropped_made h k u sound drop
dropped_made (LockChange e ∷ h) k u sound drop = dropped_made h k u sound drop
dropped_made (CatalogueChange (TableMade t) ∷ h) k u sound drop =
    let lt = dropped_made h k u sound.1 drop in
    let n : length (tables_made (catalogue_events h) ++ t ∷ []) ≡ length (tables_made (catalogue_events h)) + 1 = length-append (tables_made (catalogue_events h)) (t ∷ []) in
    omega (arith, lt, n)
dropped_made (CatalogueChange (TableDropped n s) ∷ h) k u sound (inl new) = subst (λ (m : ℕ). m < length (tables_made (catalogue_events h))) new.0 sound.0.0
dropped_made (CatalogueChange (TableDropped n s) ∷ h) k u sound (inr old) = dropped_made h k u sound.1 old
dropped_made (CatalogueChange (EntryAdded e) ∷ h) k u sound drop = dropped_made h k u sound.1 drop
dropped_made (CatalogueChange (EntryEnded n s) ∷ h) k u sound drop = dropped_made h k u sound.1 drop
dropped_made (CatalogueChange (EntryMarked n s) ∷ h) k u sound drop = dropped_made h k u sound.1 drop
dropped_made (CatalogueChange (CheckKept c) ∷ h) k u sound drop = dropped_made h k u sound.1 drop

-- ---- the place, right before the table is made

abbrev numbers_in : TableTree → List ℕ
numbers_in t = map (λ y. y.number) (tables_in t)

pub record IsReady (m : History) (s t cmd parent : ℕ) (b : Bound) : Type 0 where
  pub legal : IsLegal m
  pub permitted : ArePermitted m
  pub own : open_of (tx_events m) s ≡ Some t
  pub command : IsInOrder (Some (t, cmd)) m
  pub takes : TakesBound (made_at m parent).shape b
  pub place : place_faults m s parent b 1 ≡ []
  pub beside : (d : Entry) → IsDefaultOf m s parent d → IsApart m s t parent b d
  pub there : HasTable m t parent
  pub locked : holds (lock_events m) s parent AccessExclusive ≡ true

-- the new table in that place
pub record IsChild (m : History) (by : TxId) (cmd parent : ℕ) (new : Table) : Type 0 where
  pub mine : new.by.number ≡ by.number
  pub number : new.cmd ≡ cmd
  pub columns : new.columns ≡ (made_at m parent).columns
  pub may : MayCome (CatalogueChange (TableMade new)) m

pub record PartitionLaws : Type 0 where
  pub tables : TableLaws
  pub partition : NewPartitionMayFollow
  pub passed : PassedHavePlaces
  pub named : NamedIsThere
  pub siblings : SessionsHaveSiblings
  pub none : NoneBreaks

module _ (laws : PartitionLaws) (m : History) (s cmd parent : ℕ) (b : Bound) (by : TxId) (new : Table) (ready : IsReady m s by.number cmd parent b) (child : IsChild m by cmd parent new) where
  sound : AreCatalogueSound m
  sound = catalogue_sound_of m ready.legal

  parent_below : parent < table_number m
  parent_below = ready.there.0

  entry_place : (x : Entry) → Contains (entries_present m s) x → Suits (tables_made (catalogue_events m)) x
  entry_place x at = entry_suits m s x sound at

  last_is : new ≡ table_in (TableMade new ∷ catalogue_events m) (table_number m)
  last_is = last_table (tables_made (catalogue_events m)) new (table_number m) refl

  child_made : IsMade (TableMade new ∷ catalogue_events m) (table_number m)
  child_made = let n : length (tables_made (catalogue_events m) ++ new ∷ []) ≡ table_number m + 1 = length-append (tables_made (catalogue_events m)) (new ∷ []) in omega (arith, n)

  parent_there : HasTable (CatalogueChange (TableMade new) ∷ m) by.number parent
  parent_there = (
    made_more new (catalogue_events m) parent ready.there.0,
    subst (λ (x : Table). view (tx_events m) by.number x.by.number ≡ true) (same_table new (catalogue_events m) parent ready.there.0) ready.there.1,
    ready.there.2,
  )

  child_there : HasTable (CatalogueChange (TableMade new) ∷ m) by.number (table_number m)
  child_there =
      let mine : view (tx_events m) by.number new.by.number ≡ true = ap (view (tx_events m) by.number) child.mine ∙ view_own (tx_events m) by.number (session_runs m s by.number ready.legal ready.own).runs in (
        child_made,
        subst (λ (x : Table). view (tx_events m) by.number x.by.number ≡ true) last_is mine,
        λ u drop. absurd (let low = dropped_made m (table_number m) u sound drop in omega (arith, low)),
      )

  made_below : All (λ (x : Entry). x.child.number < table_number m) (entries_present m s)
  made_below k d lt = (entry_place (slice_index_or (entries_present m s) k d) (Contains-get_or (entries_present m s) k d lt)).child

  -- the tree of the default partition is as it was
  same_tree : (d : Entry) → IsDefaultOf m s parent d → ddl_tree (CatalogueChange (TableMade new) ∷ m) s d.child.number ≡ ddl_tree m s d.child.number
  same_tree d is = tree_with (CatalogueChange (TableMade new) ∷ m) m new s d.child.number refl refl made_below (entry_place d is.present).child

  owned : (d : Entry) (x : ℕ) → IsDefaultOf m s parent d → Contains (numbers_from (CatalogueChange (TableMade new) ∷ m) s d.child.number) x → holds (lock_events m) s x AccessExclusive ≡ true
  owned d x is at = (ready.beside d is).owned x (subst (λ (t : TableTree). Contains (numbers_in t) x) (same_tree d is) at)

  scanned : (d : Entry) (v : Version) → IsDefaultOf m s parent d → IsScanned (CatalogueChange (TableMade new) ∷ m) s by.number d.child.number v → accepts (key_at (TableMade new ∷ catalogue_events m) parent v.row) b ≡ false
  scanned d v is its =
      let was : IsScanned m s by.number d.child.number v = record { version = its.version; leaf = subst (λ (t : TableTree). Contains (leaves t) v.leaf) (same_tree d is) its.leaf; judged = its.judged } in
      subst (λ (k : List Value). accepts k b ≡ false) (same_key new (catalogue_events m) parent v.row ready.there.0) ((ready.beside d is).scanned v was)

  new_place : IsNewPlace (CatalogueChange (TableMade new) ∷ m) s (new_entry m parent b by cmd)
  new_place =
      let e = new_entry m parent b by cmd in
      let law = laws.passed m s 1 e sound ready.takes ready.place in
      let below : All (λ (x : Entry). x.parent.number < table_number m) (entries_present m s) = λ k d lt. (entry_place (slice_index_or (entries_present m s) k d) (Contains-get_or (entries_present m s) k d lt)).parent in
      let one : height (ddl_tree (CatalogueChange (TableMade new) ∷ m) s (table_number m)) ≡ 1 = lone_height (CatalogueChange (TableMade new) ∷ m) s (table_number m) below in
      let levels = law.levels in
      record {
        own = ready.own;
        command = (λ same. let c = child.number in omega (arith, c), ready.command);
        number = refl;
        suits = suits_new (tables_made (catalogue_events m)) new e parent_below refl ready.takes child.columns;
        parent_there = parent_there;
        child_there = child_there;
        guarded = inr (inl ready.locked);
        room = record { partitions = law.partitions; added = law.added; levels = omega (arith, one, levels) };
        together = λ x at. All-contains (λ (y : Entry). CanStandTogether y e) (entries_present m s) x law.together at;
        no_pending = λ x at of pending. All-contains (IsNoDefaultBeside m s e) (entries_present m s) x law.no_pending at of pending;
        default_owned = λ d x is at. inl (owned d x (record { present = is.present; of = is.of; default = is.default }) at);
        default_scanned = λ d v is its. scanned d v (record { present = is.present; of = is.of; default = is.default }) its;
      }

  new_partition : IsNewPartition (CatalogueChange (TableMade new) ∷ m) s (new_entry m parent b by cmd)
  new_partition = record {
    place = new_place;
    made = (child_made, ready.own ∙ ap Some (sym (sym (ap (λ (x : Table). x.by.number) last_is) ∙ child.mine)));
    another = λ same. let low = parent_below in omega (arith, low, same);
    alone = λ x at. let its = entry_place x at in (
      λ same. let p = its.parent in omega (arith, p, same),
      λ same. let q = its.child in omega (arith, q, same),
    );
    empty = λ v is at. child.may.permitted.empty v is (ap (λ (x : Table). x.shape) last_is ∙ at.1);
  }

  pub entry_comes : MayCome (CatalogueChange (EntryAdded (new_entry m parent b by cmd))) (CatalogueChange (TableMade new) ∷ m)
  entry_comes =
      let may = child.may in
      (laws.partition (CatalogueChange (TableMade new) ∷ m) s (new_entry m parent b by cmd) (may.legal, may.in_order, ready.legal) (may.permitted, ready.permitted) new_partition).0

-- ---- the events

-- with the leaf before it, or without one
pub partition_may : PartitionLaws → (h : History) (s cmd parent : ℕ) (name : List ℕ) (b : Bound) (level : Option OneLevel) (by : TxId) → IsReady h s by.number cmd parent b → MayFollow (table_events h name (made_at h parent).columns level by cmd) h
    → MayFollow (partition_events h name parent b level by cmd) h
partition_may laws h s cmd parent name b None by ready may =
    let m : History = RowChange (LeafAdded (leaf_count (row_events h))) ∷ h in
    let new = new_table h name (made_at h parent).columns None by cmd in
    let leaf = may.1.0 in
    let there : IsReady m s by.number cmd parent b = record {
      legal = (leaf.legal, leaf.in_order, ready.legal);
      permitted = (leaf.permitted, ready.permitted);
      own = ready.own;
      command = (tt, ready.command);
      takes = ready.takes;
      place = ready.place;
      beside = λ d is.
          let its = ready.beside d (record { present = is.present; of = is.of; default = is.default }) in
          let tree = tree_same m h s d.child.number refl refl in
          record {
            owned = λ x at. its.owned x (subst (λ (t : TableTree). Contains (numbers_in t) x) tree at);
            scanned = λ v seen. its.scanned v (record { version = seen.version; leaf = subst (λ (t : TableTree). Contains (leaves t) v.leaf) tree seen.leaf; judged = seen.judged });
          };
      there = ready.there;
      locked = ready.locked;
    } in
    (entry_comes laws m s cmd parent b by new there (record { mine = refl; number = refl; columns = refl; may = may.0 }), may)
partition_may laws h s cmd parent name b (Some level) by ready may =
    let new = new_table h name (made_at h parent).columns (Some level) by cmd in
    (entry_comes laws h s cmd parent b by new ready (record { mine = refl; number = refl; columns = refl; may = may.0 }), may)

-- ---- what is asked of the call that makes it

pub may_make : SessionsHaveSiblings → (stores : Stores) (caller : Caller) (parent : ℕ) (b : Bound) (level : Option OneLevel) (by : TxId) → MayAttempt stores caller → IsOwn stores caller.session by → IsLockedNamed stores caller.session parent
    → ((h : History) → TableStands stores.txs h → CatalogueStands stores.catalog h → MayBePlaced h caller.session parent b level) → MayMake stores.txs stores.catalog stores.rows parent b level by
may_make siblings stores caller parent b level by may mine above placed =
    let h = may.sound.0 in
    let stands = may.sound.1 in
    let s = caller.session in
    let can = placed h stands.all.txs stands.all.catalog in
    let owner : session_of (tx_events h) by.number ≡ s = open_own (tx_events h) s by.number stands.all.txs.sound (sym (mine h stands.all.txs)) in
    let count = table_count stores.catalog h stands.all.catalog in
    let made = above.made in
    record {
      h = h;
      txs = stands.all.txs;
      catalogue = stands.all.catalog;
      rows = stands.all.rows;
      known = omega (arith, count, made);
      takes = can.takes;
      keys = can.keys;
      siblings = subst (λ (n : ℕ). AreSiblings (entries_present h n)) (sym owner) (siblings h s (legal_of h stands.good) (permitted_of h stands.good));
      place = subst (λ (n : ℕ). place_faults h n parent b 1 ≡ []) (sym owner) can.place;
      leaves = stands.leaves;
    }

-- ---- the part

ready_for : PartitionLaws → (stores : Stores) (h : History) (s t cmd parent : ℕ) (name : List ℕ) (b : Bound) (level : Option OneLevel) → Stands stores h → IsAt h s cmd → open_of (tx_events h) s ≡ Some t → tx_in h s ≡ t → IsLockedNamed stores s parent → HasDefaultLocked stores s parent
    → HasDefaultClean stores s parent b name → MayBePlaced h s parent b level → IsReady h s t cmd parent b
ready_for laws stores h s t cmd parent name b level stands at mine own above locked clean can = record {
  legal = legal_of h stands.good;
  permitted = permitted_of h stands.good;
  own = mine;
  command = commands_are_in_order h s t cmd at mine;
  takes = can.takes;
  place = can.place;
  beside = λ d is.
      stands_apart laws.none stores h s t parent b name d stands (laws.siblings h s (legal_of h stands.good) (permitted_of h stands.good)) own (locked h stands.all.txs stands.all.catalog)
      (clean h (record { txs = stands.all.txs; rows = stands.all.rows; catalog = stands.all.catalog })) is;
  there = laws.named h s t parent above.name (legal_of h stands.good) mine (above.named h stands.all.txs stands.all.catalog);
  locked = held_at_history stores h s parent stands above.locked;
}

partition_deed : PartitionLaws → (stores : Stores) (rows : KeptRows) (catalog : KeptCatalogue) (h : History) (s t cmd parent : ℕ) (name : List ℕ) (b : Bound) (level : Option OneLevel) → Stands stores h → IsAt h s cmd → open_of (tx_events h) s ≡ Some t → IsLockedNamed stores s parent → HasDefaultLocked stores s parent → HasDefaultClean stores s parent b name → MayBeMade h s name → MayBePlaced h s parent b level
    → CatalogueStands catalog (partition_events h name parent b level (own h s) cmd ++ h) × StoreStands rows (partition_events h name parent b level (own h s) cmd ++ h) → IsDeed rows catalog t cmd (partition_events h name parent b level (own h s) cmd) h
partition_deed laws stores rows catalog h s t cmd parent name b level stands at mine above locked clean free can stand =
    let by = own h s in
    let cols = (made_at h parent).columns in
    let is = own_number h s t mine in
    let ours : open_of (tx_events h) s ≡ Some by.number = mine ∙ ap Some (sym is) in
    let ready = ready_for laws stores h s by.number cmd parent name b level stands at ours refl above locked clean can in
    let tables = table_may laws.tables h s name cols level by cmd stands.good (is_new h s name cols level by cmd at ours can.keys free) in
    record {
      done = subst (λ (n : ℕ). Each (IsDone n cmd) (partition_events h name parent b level by cmd)) is (refl, table_done h name cols level by cmd);
      may = partition_may laws h s cmd parent name b level by ready tables;
      housed = (tt, table_housed h name cols level by cmd free.few);
      leaves = table_leaves h name cols level by cmd;
      catalogue = stand.0;
      store = stand.1;
    }

abbrev pub TellsPartition : Result TableNo Refusal → Stores → KeptRows → KeptCatalogue → (name : List ℕ) → (parent : ℕ) → Bound → Option OneLevel → TxId → (cmd : ℕ) → Type 0
TellsPartition r old rows catalog name parent b level by cmd = (h : History) → TableStands old.txs h → CatalogueStands old.catalog h → StoreStands old.rows h → IsMadeBy r catalog rows h (made_partition h name parent b level by cmd)

pub partition_step : PartitionLaws → (old : Stores) (rows : KeptRows) (catalog : KeptCatalogue) (caller : Caller) (name : List ℕ) (parent : ℕ) (b : Bound) (level : Option OneLevel) (by : TxId) (u : TableNo) → MayAttempt old caller → IsLockedNamed old caller.session parent → HasDefaultLocked old caller.session parent → HasDefaultClean old caller.session parent b name
    → ((h : History) → TableStands old.txs h → CatalogueStands old.catalog h → MayBeMade h caller.session name) → ((h : History) → TableStands old.txs h → CatalogueStands old.catalog h → MayBePlaced h caller.session parent b level)
    → IsOwn old caller.session by → TellsPartition (Ok u) old rows catalog name parent b level by caller.cmd
    → IsStep (λ (u : Unit {0}). u) (Ok tt) old (record old { rows = rows; catalog = catalog }) caller (caller.cmd + 1) (partition_made caller name parent (record { bound = b; level = level }))
partition_step laws old rows catalog caller name parent b level by u may above locked clean free placed mine tells =
    let s = caller.session in
    deed_step old rows catalog caller (λ h. partition_events h name parent b level (own h s) caller.cmd) may
    (λ h t stands at its.
    let can = free h stands.all.txs stands.all.catalog in
    let same = own_is h s by (mine h stands.all.txs) in
    let is = subst (λ (x : TxId). IsMadeBy (Ok u) catalog rows h (made_partition h name parent b level x caller.cmd)) same (tells h stands.all.txs stands.all.catalog stands.all.rows) in
    partition_deed laws old rows catalog h s t caller.cmd parent name b level stands at its above locked clean can (placed h stands.all.txs stands.all.catalog)
    (made_stands (count_faults h) (next_table h) u (partition_events h name parent b level (own h s) caller.cmd) catalog rows h can.few is))

pub partition_not_made : (old : Stores) (rows : KeptRows) (catalog : KeptCatalogue) (caller : Caller) (name : List ℕ) (parent : ℕ) (b : Bound) (level : Option OneLevel) (by : TxId) (r : Refusal) → MayAttempt old caller
    → ((h : History) → TableStands old.txs h → CatalogueStands old.catalog h → MayBeMade h caller.session name) → TellsPartition (Err r) old rows catalog name parent b level by caller.cmd
    → IsStep (λ (u : Unit {0}). u) (Err (stop_of r)) old (record old { rows = rows; catalog = catalog }) caller (caller.cmd + 1) (partition_made caller name parent (record { bound = b; level = level }))
partition_not_made old rows catalog caller name parent b level by r may free tells =
    let h = may.sound.0 in
    let stands = may.sound.1 in
    let can = free h stands.all.txs stands.all.catalog in
    not_made old rows catalog caller (partition_made caller name parent (record { bound = b; level = level })) r (count_faults h) (next_table h) (partition_events h name parent b level by caller.cmd) h can.few (tells h stands.all.txs stands.all.catalog stands.all.rows)
