-- The tree that is grown is that of the history.
use Rattle.std.proofs.Common.{◌≡◌, ℕ, ◌<◌, arith, ap, sym, subst, ◌∙◌, Bool, true, false, List, filter, map, length, get_or}
use Rattle.pg_values.specs.KeyKinds.{IsNotNull}
use Rattle.bound_forms.specs.Bounds.{BoundOfKind}
use Rattle.bound_forms.specs.declared.partition_bound.Bound.{Bound}
use Rattle.bound_forms.proofs.LevelLaws.{level_kind}
use Rattle.std.specs.List.{All}
use Rattle.std.proofs.lemmas.List.{get_or-map, length-map}
use Rattle.history.specs.declared.catalogue.TableShape.{TableShape}
use Rattle.history.specs.declared.catalogue.TableShape.TheVariants.{Leaf, Level}
use Rattle.history.specs.Snapshots.{TakenSnapshot}
use Rattle.history.specs.Transactions.{IsSound}
use Rattle.history.specs.Catalogue.{tables_made, entries_added}
use Rattle.history.specs.History.{History, tx_events, catalogue_events}
use Rattle.history.specs.Places.{table_at, TakesBound, Suits}
use Rattle.history.specs.Presence.{entries_present}
use Rattle.pg_values.specs.declared.ids.LeafId.{LeafId}
use Rattle.row_router.specs.Trees.{LeafTable}
use Rattle.row_router.specs.Histories.{node_at, tree_within, tree_of, ddl_tree}
use Rattle.row_router.proofs.Suited.{all_suit}
use Rattle.part_catalog.specs.declared.stored.StoredTable.{StoredTable}
use Rattle.part_catalog.specs.declared.stored.StoredEntry.{StoredEntry}
use Rattle.part_catalog.specs.Forgotten.{IsGone}
use Rattle.part_catalog.specs.Kept.{KeptCatalogue, AreListed, IsKept, table_in, entry_in, no_entry, by_place}
use Rattle.part_catalog.specs.Stands.{CatalogueStands, present_by, shown_by, is_flagged}
use Rattle.part_catalog.specs.Groves.{IsGrove}
use Rattle.part_catalog.specs.Answers.{AreTogether}
use Rattle.part_catalog.specs.declared.names.Names.{Names}
use Rattle.tx_table.specs.Kept.{KeptTable}
use Rattle.tx_table.specs.Stands.{TableStands}
use Rattle.row_router.specs.Siblings.{AreSiblings}
use Rattle.part_catalog.proofs.Forgotten.{thin_all}
use Rattle.part_catalog.proofs.Grown.{grown_leaf}
use Rattle.part_catalog.proofs.Places.{own_number}
use Rattle.part_catalog.proofs.Renumbered.{tree_anew}
use Rattle.part_catalog.proofs.Told.{present_flagged, shown_flagged, shown_siblings, present_siblings}

pub tree_is : (kept : KeptCatalogue) (h : History) (s t : ℕ) (snap : TakenSnapshot) (flags : List Bool) → IsSound (tx_events h) → CatalogueStands kept h → flags ≡ map (shown_by (tx_events h) s snap) kept.entries → tree_within 7 (map table_in kept.tables) (filter (is_flagged flags) (by_place kept.entries)) t t ≡ tree_of h s t snap
unfolding Rattle.row_router.specs.Histories.tree_of
tree_is kept h s t snap flags sound st are =
    ap (λ ts. tree_within 7 ts (filter (is_flagged flags) (by_place kept.entries)) t t) st.tables
    ∙ sym (tree_anew (own_number kept.entries) 7 (tables_made (catalogue_events h)) (filter (is_flagged flags) (by_place kept.entries)) t t)
    ∙ ap (λ es. tree_within 7 (tables_made (catalogue_events h)) es t t) (shown_flagged kept h s snap flags sound st are)

pub ddl_tree_is : (kept : KeptCatalogue) (h : History) (s t : ℕ) (flags : List Bool) → IsSound (tx_events h) → CatalogueStands kept h → flags ≡ map (present_by (tx_events h) s) kept.entries → tree_within 7 (map table_in kept.tables) (filter (is_flagged flags) (by_place kept.entries)) t t ≡ ddl_tree h s t
unfolding Rattle.row_router.specs.Histories.ddl_tree
ddl_tree_is kept h s t flags sound st are =
    ap (λ ts. tree_within 7 ts (filter (is_flagged flags) (by_place kept.entries)) t t) st.tables
    ∙ sym (tree_anew (own_number kept.entries) 7 (tables_made (catalogue_events h)) (filter (is_flagged flags) (by_place kept.entries)) t t)
    ∙ ap (λ es. tree_within 7 (tables_made (catalogue_events h)) es t t) (present_flagged kept h s flags sound st are)

-- a table that is not partitioned
pub leaf_told : (kept : KeptCatalogue) (h : History) (s t : ℕ) (tables : List StoredTable) (leaf : LeafId) → tables ≡ kept.tables → CatalogueStands kept h → (table_at (map table_in tables) t).shape ≡ Leaf leaf → LeafTable (node_at (map table_in tables) t t) leaf ≡ ddl_tree h s t
unfolding Rattle.row_router.specs.Histories.ddl_tree
leaf_told kept h s t tables leaf same st shape =
    grown_leaf 7 (map table_in tables) (entries_present h s) t t leaf shape
    ∙ ap (λ ts. tree_within 7 ts (entries_present h s) t t) (ap (map table_in) same ∙ st.tables)

kind_at : (shape : TableShape) (b : Bound) → TakesBound shape b → BoundOfKind IsNotNull b
kind_at (Leaf leaf) b h = absurd h
kind_at (Level level) b h = level_kind level b h

-- the bounds of all entries have a kind
pub kinds_of : (kept : KeptCatalogue) (h : History) → CatalogueStands kept h → (k : ℕ) → k < length kept.entries → BoundOfKind IsNotNull (get_or kept.entries k no_entry).entry.bound
kinds_of kept h st k lt =
    let suits : All (Suits (tables_made (catalogue_events h))) (map entry_in kept.entries) = thin_all (IsGone h) (Suits (tables_made (catalogue_events h))) (entries_added (catalogue_events h)) (map entry_in kept.entries) st.entries (all_suit h st.sound) in
    let at : get_or (map entry_in kept.entries) k no_entry.entry ≡ (get_or kept.entries k no_entry).entry = get_or-map entry_in kept.entries k no_entry no_entry.entry lt in
    let within : k < length (map entry_in kept.entries) = omega (arith, lt, length-map kept.entries entry_in) in
    let s : Suits (tables_made (catalogue_events h)) (get_or kept.entries k no_entry).entry = subst (Suits (tables_made (catalogue_events h))) at (suits k no_entry.entry within) in
    kind_at (table_at (tables_made (catalogue_events h)) (get_or kept.entries k no_entry).entry.parent.number).shape (get_or kept.entries k no_entry).entry.bound s.bound

-- ---- as a call finds them: what is inside the catalogue, what is lent of it, and what contracts see

pub record Lent (kept : KeptCatalogue) (tables : List StoredTable) (entries : List StoredEntry) (numbers : List (List ℕ)) : Type 0 where
  pub tables_are : tables ≡ kept.tables
  pub entries_are : entries ≡ kept.entries
  pub listed : AreListed tables entries numbers

pub lent : (kept : KeptCatalogue) (T tables : List StoredTable) (E entries : List StoredEntry) (N numbers : List (List ℕ)) (names : Names) → IsKept T E N names → T ≡ kept.tables → E ≡ kept.entries → tables ≡ T → entries ≡ E → numbers ≡ N → Lent kept tables entries numbers
lent kept T tables E entries N numbers names k t e ts es ns = record {
  tables_are = ts ∙ t;
  entries_are = es ∙ e;
  listed = subst (λ l. AreListed tables entries l) (sym ns) (subst (λ l. AreListed tables l N) (sym es) (subst (λ l. AreListed l E N) (sym ts) k.listed));
}

kinds_lent : (table : KeptTable) (kept : KeptCatalogue) (session : ℕ) (tables : List StoredTable) (entries : List StoredEntry) (numbers : List (List ℕ)) → Lent kept tables entries numbers → AreTogether table kept session → (k : ℕ) → k < length entries → BoundOfKind IsNotNull (get_or entries k no_entry).entry.bound
kinds_lent table kept session tables entries numbers l together =
    subst (λ es. (k : ℕ) → k < length es → BoundOfKind IsNotNull (get_or es k no_entry).entry.bound) (sym l.entries_are) (kinds_of kept together.h together.catalogue)

pub shown_grove : (table : KeptTable) (kept : KeptCatalogue) (session : ℕ) (tables : List StoredTable) (entries : List StoredEntry) (numbers : List (List ℕ)) (flags : List Bool) → Lent kept tables entries numbers → AreTogether table kept session → length flags ≡ length entries → ((h : History) → TableStands table h → (k : ℕ) → get_or flags k false ≡ true → present_by (tx_events h) session (get_or entries k no_entry) ≡ true) → IsGrove tables entries numbers flags
shown_grove table kept session tables entries numbers flags l together count part =
    let mine : (k : ℕ) → get_or flags k false ≡ true → present_by (tx_events together.h) session (get_or kept.entries k no_entry) ≡ true =
    subst (λ es. (k : ℕ) → get_or flags k false ≡ true → present_by (tx_events together.h) session (get_or es k no_entry) ≡ true) l.entries_are (part together.h together.txs) in
    record {
      listed = l.listed;
      flagged = count;
      siblings = subst (λ es. AreSiblings (filter (is_flagged flags) (by_place es))) (sym l.entries_are) (shown_siblings kept together.h session flags together.txs.sound together.catalogue together.siblings mine);
      kinds = kinds_lent table kept session tables entries numbers l together;
    }

pub present_grove : (table : KeptTable) (kept : KeptCatalogue) (session : ℕ) (tables : List StoredTable) (entries : List StoredEntry) (numbers : List (List ℕ)) (flags : List Bool) → Lent kept tables entries numbers → AreTogether table kept session → length flags ≡ length entries → ((h : History) → TableStands table h → flags ≡ map (present_by (tx_events h) session) entries) → IsGrove tables entries numbers flags
present_grove table kept session tables entries numbers flags l together count are =
    let mine : flags ≡ map (present_by (tx_events together.h) session) kept.entries = are together.h together.txs ∙ ap (map (present_by (tx_events together.h) session)) l.entries_are in
    record {
      listed = l.listed;
      flagged = count;
      siblings = subst (λ es. AreSiblings (filter (is_flagged flags) (by_place es))) (sym l.entries_are) (present_siblings kept together.h session flags together.txs.sound together.catalogue together.siblings mine);
      kinds = kinds_lent table kept session tables entries numbers l together;
    }

pub tree_told : (kept : KeptCatalogue) (h : History) (s t : ℕ) (snap : TakenSnapshot) (tables : List StoredTable) (entries : List StoredEntry) (numbers : List (List ℕ)) (flags : List Bool) → Lent kept tables entries numbers → IsSound (tx_events h) → CatalogueStands kept h → flags ≡ map (shown_by (tx_events h) s snap) entries → tree_within 7 (map table_in tables) (filter (is_flagged flags) (by_place entries)) t t ≡ tree_of h s t snap
tree_told kept h s t snap tables entries numbers flags l sound st are =
    ap (λ ts. tree_within 7 (map table_in ts) (filter (is_flagged flags) (by_place entries)) t t) l.tables_are
    ∙ ap (λ es. tree_within 7 (map table_in kept.tables) (filter (is_flagged flags) (by_place es)) t t) l.entries_are
    ∙ tree_is kept h s t snap flags sound st (are ∙ ap (map (shown_by (tx_events h) s snap)) l.entries_are)

pub ddl_tree_told : (kept : KeptCatalogue) (h : History) (s t : ℕ) (tables : List StoredTable) (entries : List StoredEntry) (numbers : List (List ℕ)) (flags : List Bool) → Lent kept tables entries numbers → IsSound (tx_events h) → CatalogueStands kept h → flags ≡ map (present_by (tx_events h) s) entries → tree_within 7 (map table_in tables) (filter (is_flagged flags) (by_place entries)) t t ≡ ddl_tree h s t
ddl_tree_told kept h s t tables entries numbers flags l sound st are =
    ap (λ ts. tree_within 7 (map table_in ts) (filter (is_flagged flags) (by_place entries)) t t) l.tables_are
    ∙ ap (λ es. tree_within 7 (map table_in kept.tables) (filter (is_flagged flags) (by_place es)) t t) l.entries_are
    ∙ ddl_tree_is kept h s t flags sound st (are ∙ ap (map (present_by (tx_events h) s)) l.entries_are)
