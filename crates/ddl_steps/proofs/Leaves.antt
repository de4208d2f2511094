-- Where the leaves of a table's tree are kept.
use Rattle.std.proofs.Common.{◌≡◌, ℕ, zero, suc, ◌<◌, Bool, List, [], ◌∷◌, inl, inr, refl, sym, ap, ◌∙◌, subst, arith, Some, option_map, find, All, map, length}
use Rattle.std.proofs.lemmas.Bool.{cases_Bool}
use Rattle.std.proofs.lemmas.List.{length-map}
use Rattle.std.proofs.lemmas.List.Elements.{All-nil, All-cons, All-head, All-tail, All-append}
use Rattle.pg_values.specs.declared.ids.LeafId.{LeafId}
use Rattle.pg_values.specs.declared.ids.TableNo.{TableNo}
use Rattle.history.specs.declared.catalogue.Entry.{Entry}
use Rattle.history.specs.declared.catalogue.TableShape.{TableShape}
use Rattle.history.specs.declared.catalogue.TableShape.TheVariants.{Leaf, Level}
use Rattle.history.specs.Catalogue.{CatalogueEvents, tables_made}
use Rattle.history.specs.History.{History, tx_events, catalogue_events}
use Rattle.history.specs.Places.{table_at}
use Rattle.history.specs.Presence.{counts, entries_present}
use Rattle.row_router.specs.declared.node.Node.{Node}
use Rattle.row_router.specs.Trees.{TableTree, trees_of, leaves, all_leaves}
use Rattle.row_router.specs.Histories.{ddl_tree, node_at, grown, tree_within, children, bound_of, child_of_entry}
use Rattle.row_router.proofs.Order.{all_children}
use Rattle.soundness.specs.Worlds.{IsMade, HasLeaf, Present}
use Rattle.soundness.proofs.All.{legal_keeps_all}
use Rattle.soundness.proofs.Looking.{counts_world}
use Rattle.soundness.proofs.Presence.{all_more, all_present}
use Rattle.soundness.proofs.Sound.{sound_of, catalogue_sound_of}
use Rattle.part_catalog.specs.Kept.{table_in as kept_table}
use Rattle.part_ddl.specs.Below.{default_of, has_default_bound}
use Rattle.part_ddl.specs.Placing.{partitions_of}
use Rattle.stores.specs.Laws.{LeavesAreHoused}
use Rattle.stores.specs.Stand.{Stands}
use Rattle.stores.specs.declared.stores.Stores.{Stores}
use Rattle.stores.proofs.Goodness.{legal_of, permitted_of}

-- what holds of the leaf of each table of a tree holds of its leaves
abbrev kids : (ℕ → TableTree) → List Entry → List TableTree
kids f es = map (λ (e : Entry). f (child_of_entry e)) es

abbrev LeavesOf : (LeafId → Type 0) → (ℕ → TableTree) → Entry → Type 0
LeavesOf P f e = All P (leaves (f e.child.number))

kids_leaves : (P : LeafId → Type 0) (f : ℕ → TableTree) (es : List Entry) → All (LeavesOf P f) es → All P (all_leaves (trees_of (kids f es)))
kids_leaves P f [] all = All-nil P
kids_leaves P f (e ∷ es) all = All-append P (leaves (f e.child.number)) (all_leaves (trees_of (kids f es))) (All-head (LeavesOf P f) e es all) (kids_leaves P f es (All-tail (LeavesOf P f) e es all))

leaves_grown : (P : LeafId → Type 0) (f : ℕ → TableTree) (shape : TableShape) (node : Node) (es : List Entry) → ((leaf : LeafId) → shape ≡ Leaf leaf → P leaf) → All (LeavesOf P f) es → All P (leaves (grown shape node (map bound_of es) (kids f es)))
leaves_grown P f (Leaf leaf) node es own all = All-cons P leaf [] (own leaf refl) (All-nil P)
leaves_grown P f (Level level) node es own all = kids_leaves P f es all

abbrev ChildIsMade : CatalogueEvents → Entry → Type 0
ChildIsMade cats e = IsMade cats e.child.number

leaves_within : (P : LeafId → Type 0) (cats : CatalogueEvents) (entries : List Entry) (named : ℕ) → ((x : ℕ) (leaf : LeafId) → HasLeaf cats x leaf → P leaf) → All (ChildIsMade cats) entries → (n t : ℕ) → IsMade cats t
    → All P (leaves (tree_within n (tables_made cats) entries named t))
leaves_within P cats entries named home all zero t made =
    leaves_grown P (λ c. tree_within zero (tables_made cats) entries named c) (table_at (tables_made cats) t).shape (node_at (tables_made cats) named t) [] (λ leaf is. home t leaf (made, is)) (All-nil (LeavesOf P (λ c. tree_within zero (tables_made cats) entries named c)))
leaves_within P cats entries named home all (suc n) t made =
    leaves_grown P (λ c. tree_within n (tables_made cats) entries named c) (table_at (tables_made cats) t).shape (node_at (tables_made cats) named t) (children entries t) (λ leaf is. home t leaf (made, is))
    (all_more (ChildIsMade cats) (LeavesOf P (λ c. tree_within n (tables_made cats) entries named c)) (children entries t) (λ e is. leaves_within P cats entries named home all n e.child.number is) (all_children (ChildIsMade cats) entries t all))

-- as many tables are kept as were made
pub tables_kept : (stores : Stores) (h : History) → Stands stores h → length stores.catalog.tables ≡ length (tables_made (catalogue_events h))
tables_kept stores h stands = sym (length-map stores.catalog.tables kept_table) ∙ ap length stands.all.catalog.tables

-- each leaf of a table's tree is kept
pub leaves_there : LeavesAreHoused → (stores : Stores) (h : History) (s t : ℕ) → Stands stores h → t < length stores.catalog.tables → All (λ (l : LeafId). l.number < stores.rows.leaves) (leaves (ddl_tree h s t))
unfolding ddl_tree
leaves_there housed stores h s t stands low =
    let cats = catalogue_events h in
    let legal = legal_of h stands.good in
    let sound = sound_of h legal in
    let siblings = (legal_keeps_all h legal (permitted_of h stands.good)).siblings (counts (tx_events h) s) (counts_world (tx_events h) s sound) in
    let entries = entries_present h s in
    let present : All (Present cats (counts (tx_events h) s)) entries = all_present h s sound (catalogue_sound_of h legal) in
    let count = tables_kept stores h stands in
    let made : IsMade cats t = omega (arith, count, low) in
    leaves_within (λ (l : LeafId). l.number < stores.rows.leaves) cats entries t
    (λ x leaf at. subst (λ n. leaf.number < n) (sym stands.all.rows.leaves) (housed h x leaf stands.good at))
    (all_more (Present cats (counts (tx_events h) s)) (λ (e : Entry). IsMade cats e.child.number) entries (λ e p. (siblings.there e p).1.0) present) 7 t made

-- ---- the default partition

pub found_all : (P : TableNo → Type 0) (q : Entry → Bool) (es : List Entry) (d : TableNo) → All (λ (e : Entry). P e.child) es → option_map (λ (e : Entry). e.child) (find q es) ≡ Some d → P d
found_all P q [] d all is = absurd (let c = is in cc)
found_all P q (e ∷ es) d all is = elim (cases_Bool (q e)) [
  | inl t ↦
      let here : option_map (λ (x : Entry). x.child) (find q (e ∷ es)) ≡ Some e.child = rw t refl in
      let same : Some e.child ≡ Some d = sym here ∙ is in
      subst P (let c = same in cc) (All-head (λ (x : Entry). P x.child) e es all)
  | inr f ↦
      let there : option_map (λ (x : Entry). x.child) (find q (e ∷ es)) ≡ option_map (λ (x : Entry). x.child) (find q es) = rw f refl in
      found_all P q es d (All-tail (λ (x : Entry). P x.child) e es all) (sym there ∙ is)
]

-- it is one of the tables that are kept
pub default_kept : (stores : Stores) (h : History) (s p : ℕ) (d : TableNo) → Stands stores h → default_of h s p ≡ Some d → d.number < length stores.catalog.tables
default_kept stores h s p d stands is =
    let cats = catalogue_events h in
    let legal = legal_of h stands.good in
    let sound = sound_of h legal in
    let siblings = (legal_keeps_all h legal (permitted_of h stands.good)).siblings (counts (tx_events h) s) (counts_world (tx_events h) s sound) in
    let entries = entries_present h s in
    let present : All (Present cats (counts (tx_events h) s)) entries = all_present h s sound (catalogue_sound_of h legal) in
    let made : All (λ (e : Entry). IsMade cats e.child.number) entries = all_more (Present cats (counts (tx_events h) s)) (λ (e : Entry). IsMade cats e.child.number) entries (λ e its. (siblings.there e its).1.0) present in
    let count = tables_kept stores h stands in
    let low : IsMade cats d.number = found_all (λ (t : TableNo). IsMade cats t.number) has_default_bound (partitions_of h s p) d (all_children (λ (e : Entry). IsMade cats e.child.number) entries p made) is in
    omega (arith, count, low)
