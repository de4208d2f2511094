-- Each tree of a history can be pruned: no table has more than 1,024 partitions.
use Rattle.std.proofs.Common.{◌≡◌, ℕ, zero, suc, ◌≤◌, arith, List, [], ◌∷◌, sym, ap, ◌∙◌, map, length, filter}
use Rattle.std.specs.List.{All, AllPairs}
use Rattle.std.proofs.lemmas.Bool.Decides.{nat_tests}
use Rattle.std.proofs.lemmas.List.{length-map}
use Rattle.std.proofs.lemmas.List.Elements.{All-filter, filter_passes}
use Rattle.std.proofs.lemmas.List.Kept.{AllPairs-filter}
use Rattle.std.proofs.lemmas.List.Sorted.{length_permutation}
use Rattle.bound_forms.proofs.PlainOrder.{order_keeps}
use Rattle.bound_forms.specs.Bounds.{in_plain_order}
use Rattle.history.specs.declared.catalogue.Column.{Column}
use Rattle.history.specs.declared.catalogue.Entry.{Entry}
use Rattle.history.specs.declared.catalogue.Table.{Table}
use Rattle.history.specs.declared.catalogue.TableShape.{TableShape}
use Rattle.history.specs.declared.catalogue.TableShape.TheVariants.{Leaf, Level}
use Rattle.history.specs.Snapshots.{TakenSnapshot}
use Rattle.history.specs.Catalogue.{tables_made, entries_added}
use Rattle.history.specs.History.{History, tx_events, catalogue_events}
use Rattle.history.specs.Places.{table_at}
use Rattle.history.specs.Presence.{counts, is_shown, entries_shown}
use Rattle.row_router.specs.declared.node.Node.{Node}
use Rattle.row_router.specs.Trees.{TableTree, LeafTable, LevelTable, Trees, End, More, trees_of, IsSound, AreSound}
use Rattle.row_router.specs.Histories.{grown, node_at, tree_within, tree_of, children, is_under, bound_of, child_of_entry}
use Rattle.row_router.proofs.Order.{children_bounds}
use Rattle.row_router.proofs.Sound.{tree_sound}
use Rattle.soundness.specs.Worlds.{Present}
use Rattle.soundness.specs.Parts.{AreChildren, InvariantOf}
use Rattle.soundness.proofs.All.{legal_keeps_all}
use Rattle.soundness.proofs.Looking.{counts_world}
use Rattle.soundness.proofs.OneLeaf.{sessions_have_siblings}
use Rattle.soundness.proofs.Presence.{all_shown}
use Rattle.soundness.proofs.Counted.{AreTwo}
use Rattle.soundness.proofs.Sound.{sound_of, catalogue_sound_of}
use Rattle.plan_tree.specs.Laws.{TreesCanBePruned, StandsInOrder, TreesStandInOrder}
use Rattle.plan_tree.specs.Prunable.{CanPrune, AllCanPrune}
use Rattle.plan_tree.proofs.Numbered.{all_two}

-- of partitions there are at most so many at each level
abbrev mutual
  AreFew : TableTree → Type 0
  AreFew (LeafTable node leaf) = Unit {0}
  AreFew (LevelTable node level bounds kids) = (length bounds ≤ 1024) × AllAreFew kids

  AllAreFew : Trees → Type 0
  AllAreFew End = Unit {0}
  AllAreFew (More k ks) = AreFew k × AllAreFew ks

mutual
  can_prune : (columns : List Column) (tree : TableTree) → IsSound columns tree → AreFew tree → CanPrune tree
  can_prune columns (LeafTable node leaf) sound few = tt
  can_prune columns (LevelTable node level bounds kids) sound few = (sound.0, few.0, sound.1, all_can_prune columns kids sound.4 few.1)

  all_can_prune : (columns : List Column) (kids : Trees) → AreSound columns kids → AllAreFew kids → AllCanPrune kids
  all_can_prune columns End sound few = tt
  all_can_prune columns (More k ks) sound few = (can_prune columns k sound.0 few.0, all_can_prune columns ks sound.1 few.1)

-- ---- trees of entries

few_kids : (f : ℕ → TableTree) (es : List Entry) → ((c : ℕ) → AreFew (f c)) → AllAreFew (trees_of (map (λ (e : Entry). f (child_of_entry e)) es))
few_kids f [] each = tt
few_kids f (e ∷ es) each = (each e.child.number, few_kids f es each)

few_grown : (f : ℕ → TableTree) (shape : TableShape) (node : Node) (es : List Entry) → length es ≤ 1024 → ((c : ℕ) → AreFew (f c)) → AreFew (grown shape node (map bound_of es) (map (λ (e : Entry). f (child_of_entry e)) es))
few_grown f (Leaf leaf) node es few each = tt
few_grown f (Level level) node es few each = let n = length-map es bound_of in (omega (arith, n, few), few_kids f es each)

few_bare : (shape : TableShape) (node : Node) → AreFew (grown shape node [] [])
few_bare (Leaf leaf) node = tt
few_bare (Level level) node = (omega arith, tt)

few_within : (tables : List Table) (entries : List Entry) (named : ℕ) → ((t : ℕ) → length (children entries t) ≤ 1024) → (n t : ℕ) → AreFew (tree_within n tables entries named t)
few_within tables entries named few zero t = few_bare (table_at tables t).shape (node_at tables named t)
few_within tables entries named few (suc n) t = few_grown (λ c. tree_within n tables entries named c) (table_at tables t).shape (node_at tables named t) (children entries t) (few t) (λ c. few_within tables entries named few n c)

-- ---- the entries of a history

children_count : (entries : List Entry) (t : ℕ) → length (children entries t) ≡ length (filter (is_under t) entries)
children_count entries t =
    let bounds = map bound_of (filter (is_under t) entries) in
    sym (length-map (children entries t) bound_of) ∙ ap length (children_bounds entries t) ∙ length_permutation bounds (in_plain_order bounds) (order_keeps bounds) ∙ length-map (filter (is_under t) entries) bound_of

under : (entries : List Entry) (t : ℕ) → All (λ e. e.parent.number ≡ t) (filter (is_under t) entries)
under entries t k d lt = let test = filter_passes (is_under t) entries k d lt in grind (arith, nat_tests, test)

few_children : (h : History) (session : ℕ) (s : TakenSnapshot) → InvariantOf h → All (Present (catalogue_events h) (counts (tx_events h) session)) (entries_shown h session s) → AllPairs AreTwo (entries_shown h session s)
    → ((es : List Entry) (t : ℕ) → AreChildren (catalogue_events h) (counts (tx_events h) session) t es → length es ≤ 1024) → (t : ℕ) → length (children (entries_shown h session s) t) ≤ 1024
few_children h session s i present two few t =
    let entries = entries_shown h session s in
    let here = few (filter (is_under t) entries) t (record {
      below = λ k d lt. (All-filter (is_under t) (Present (catalogue_events h) (counts (tx_events h) session)) entries present k d lt, under entries t k d lt);
      two = AllPairs-filter AreTwo (is_under t) entries two;
    }) in
    let n = children_count entries t in
    omega (arith, here, n)

pub trees_prunable : TreesCanBePruned
unfolding Rattle.row_router.specs.Histories.tree_of
trees_prunable h session table s legal permitted made =
    let sound = catalogue_sound_of h legal in
    let i = legal_keeps_all h legal permitted in
    let siblings = i.siblings (counts (tx_events h) session) (counts_world (tx_events h) session (sound_of h legal)) in
    let entries = entries_shown h session s in
    let few = few_children h session s i (all_shown h session s (sound_of h legal) sound) (AllPairs-filter AreTwo (is_shown h session s) (entries_added (catalogue_events h)) (all_two h sound)) (λ es t are. siblings.few t es are) in
    can_prune (table_at (tables_made (catalogue_events h)) table).columns (tree_of h session table s) (tree_sound h session table s sound (sessions_have_siblings h session legal permitted))
    (few_within (tables_made (catalogue_events h)) entries table few 7 table)

-- ---- plain order

stands_in_order : (columns : List Column) (tree : TableTree) → IsSound columns tree → StandsInOrder tree
stands_in_order columns (LeafTable node leaf) sound = tt
stands_in_order columns (LevelTable node level bounds kids) sound = sound.2

pub trees_ordered : TreesStandInOrder
unfolding Rattle.row_router.specs.Histories.tree_of
trees_ordered h session table s legal permitted made =
    stands_in_order (table_at (tables_made (catalogue_events h)) table).columns (tree_of h session table s)
    (tree_sound h session table s (catalogue_sound_of h legal) (sessions_have_siblings h session legal permitted))
