-- What was gathered holds still, whatever others have done since.
use Rattle.std.proofs.Common.{◌≡◌, ℕ, zero, suc, ◌+◌, ◌<◌, ◌≤◌, ◌==◌, ◌||◌, Bool, true, false, List, [], ◌∷◌, ◌++◌, ◌⊎◌, inl, inr, refl, ap, sym, ◌∙◌, subst, arith, Option, Some, None, Ok, All, length, map}
use Rattle.std.specs.List.{Contains, list_any}
use Rattle.std.proofs.lemmas.Bool.{or_parts}
use Rattle.std.proofs.lemmas.List.Elements.{All-contains, Contains-append_cases}
use Rattle.pg_values.specs.declared.value.Value.{Value}
use Rattle.pg_values.specs.declared.ids.LeafId.{LeafId}
use Rattle.pg_values.specs.declared.ids.TableNo.{TableNo}
use Rattle.history.specs.declared.catalogue.Table.{Table}
use Rattle.history.specs.declared.catalogue.TableShape.{TableShape}
use Rattle.history.specs.declared.catalogue.TableShape.TheVariants.{Leaf, Level}
use Rattle.history.specs.declared.catalogue.Entry.{Entry}
use Rattle.history.specs.Transactions.{open_of}
use Rattle.history.specs.Snapshots.{TakenSnapshot}
use Rattle.history.specs.Catalogue.{CatalogueEvents, TableMade, TableDropped, EntryAdded, EntryEnded, EntryMarked, CheckKept, tables_made}
use Rattle.history.specs.History.{History, TxChange, SnapshotChange, RowChange, LockChange, CatalogueChange, tx_events, catalogue_events}
use Rattle.history.specs.Places.{HasColumnsOf}
use Rattle.history.specs.Presence.{counts, entries_shown}
use Rattle.history.specs.Legal.{IsLegal}
use Rattle.history.proofs.Open.{open_runs}
use Rattle.row_router.specs.declared.node.Node.{Node}
use Rattle.row_router.specs.Trees.{TableTree, trees_of, leaves, all_leaves, routed}
use Rattle.row_router.specs.Histories.{tree_of, path_of, table_of, tree_within, grown, node_at, children, bound_of, child_of_entry}
use Rattle.row_router.proofs.Order.{all_children, under_children}
use Rattle.row_router.specs.declared.path.PathTest.TheVariants.{Bounds, Checks}
use Rattle.row_router.specs.Paths.{refused}
use Rattle.row_change.specs.Targets.{HasWay, holder, holder_faults}
use Rattle.row_change.specs.Placing.{tables_of}
use Rattle.cond_logic.specs.Asked.{SettingMeant}
use Rattle.soundness.specs.Kept.{PassAbove}
use Rattle.soundness.specs.Worlds.{World, table_in, IsMade, HasLeaf, Present, Under, key_at, key_in, AcceptsKey, Accepts, AcceptAbove, view}
use Rattle.soundness.specs.Parts.{Siblings, InvariantOf}
use Rattle.soundness.proofs.All.{legal_keeps_all}
use Rattle.soundness.proofs.CheckPath.{path_passes}
use Rattle.soundness.proofs.Columns.{leaves_have_columns}
use Rattle.soundness.proofs.Listed.{none_in, only_one, first_in, later_in}
use Rattle.soundness.proofs.Looking.{counts_world}
use Rattle.soundness.proofs.Made.{same_table, made_more}
use Rattle.soundness.proofs.OneLeaf.{sessions_have_siblings}
use Rattle.soundness.proofs.Paths.{agree, path_accepts}
use Rattle.soundness.proofs.Presence.{all_shown}
use Rattle.soundness.proofs.Routes.{routed_by_sight}
use Rattle.soundness.proofs.Sound.{sound_of, catalogue_sound_of}
use Rattle.soundness.proofs.Under.{under_map}
use Rattle.legal_statements.proofs.Storing.{sees_what_counts}
use Rattle.stores.specs.Good.{IsGood}
use Rattle.stores.proofs.Goodness.{legal_of, permitted_of}
use Rattle.stores.proofs.Housed.{leaves_are_housed}
use Rattle.statement_steps.specs.Gathered.{Found, MayWriteAt, IsGatheredIn, IsStill, is_set, sets_key, sets_key_of}
use Rattle.statement_steps.specs.Waiting.{Since}
use Rattle.statement_steps.proofs.Waiting.{Meanwhile, meanwhile}
use Rattle.statement_steps.proofs.Rights.{shown_made}
use Rattle.row_change.proofs.Trees.{Are, IsHome, tree_are}
use Rattle.row_change.proofs.Passing.{taken_passes, holder_has}
use Rattle.change_statement.specs.Running.{Agree}
use Rattle.change_statement.proofs.Homes.{Home, home_of}
use Rattle.change_statement.proofs.SameKeys.{same_picks}

-- ---- the earlier history was good, and its tables are there still

good_earlier : (events earlier : History) → IsGood (events ++ earlier) → IsGood earlier
good_earlier [] earlier good = good
good_earlier (e ∷ events) earlier good = good_earlier events earlier good.1

pub good_then : (h : History) (s : ℕ) (earlier : History) → IsGood h → Since s earlier h → IsGood earlier
good_then h s earlier good since = good_earlier since.events earlier (subst IsGood since.is good)

pub record StaysTable (earlier h : History) (x : ℕ) : Type 0 where
  pub made : IsMade (catalogue_events h) x
  pub same : table_in (catalogue_events h) x ≡ table_in (catalogue_events earlier) x

table_after : (events earlier : History) (x : ℕ) → IsMade (catalogue_events earlier) x → StaysTable earlier (events ++ earlier) x
table_after [] earlier x made = record { made = made; same = refl }
table_after (TxChange e ∷ events) earlier x made = let t = table_after events earlier x made in record { made = t.made; same = t.same }
table_after (SnapshotChange e ∷ events) earlier x made = let t = table_after events earlier x made in record { made = t.made; same = t.same }
table_after (RowChange e ∷ events) earlier x made = let t = table_after events earlier x made in record { made = t.made; same = t.same }
table_after (LockChange e ∷ events) earlier x made = let t = table_after events earlier x made in record { made = t.made; same = t.same }
table_after (CatalogueChange (TableMade y) ∷ events) earlier x made =
    let t = table_after events earlier x made in
    record { made = made_more y (catalogue_events (events ++ earlier)) x t.made; same = sym (same_table y (catalogue_events (events ++ earlier)) x t.made) ∙ t.same }
table_after (CatalogueChange (TableDropped k s) ∷ events) earlier x made = let t = table_after events earlier x made in record { made = t.made; same = t.same }
table_after (CatalogueChange (EntryAdded e) ∷ events) earlier x made = let t = table_after events earlier x made in record { made = t.made; same = t.same }
table_after (CatalogueChange (EntryEnded k s) ∷ events) earlier x made = let t = table_after events earlier x made in record { made = t.made; same = t.same }
table_after (CatalogueChange (EntryMarked k s) ∷ events) earlier x made = let t = table_after events earlier x made in record { made = t.made; same = t.same }
table_after (CatalogueChange (CheckKept c) ∷ events) earlier x made = let t = table_after events earlier x made in record { made = t.made; same = t.same }

pub table_stays : (h : History) (s : ℕ) (earlier : History) (x : ℕ) → Since s earlier h → IsMade (catalogue_events earlier) x → StaysTable earlier h x
table_stays h s earlier x since made = subst (λ k. StaysTable earlier k x) (sym since.is) (table_after since.events earlier x made)

-- ---- the leaves of the tree

pub homes_then : (h : History) (s : ℕ) (g : Found) → IsGood h → IsGatheredIn h s g → Are (λ t. IsMade (catalogue_events h) t.number) (IsHome (tables_made (catalogue_events h))) g.tree
homes_then h s g good its =
    subst (Are (λ t. IsMade (catalogue_events h) t.number) (IsHome (tables_made (catalogue_events h)))) (sym its.tree)
    (tree_are h s g.table.number its.look (λ t. IsMade (catalogue_events h) t.number) (shown_made h s its.look good) its.made)

-- each is that of a table
pub leaf_home : (h : History) (s : ℕ) (g : Found) (leaf : LeafId) → IsGood h → IsGatheredIn h s g → Contains (leaves g.tree) leaf → (x : ℕ) × HasLeaf (catalogue_events h) x leaf
leaf_home h s g leaf good its at =
    let are = homes_then h s g good its in
    let home = home_of (λ (t : TableNo). IsMade (catalogue_events h) t.number) (IsHome (tables_made (catalogue_events h))) g.tree leaf are.tables are.home at in
    (home.table.number, (home.is, home.has))

leaf_stays : (h : History) (s : ℕ) (earlier : History) (x : ℕ) (leaf : LeafId) → Since s earlier h → HasLeaf (catalogue_events earlier) x leaf → HasLeaf (catalogue_events h) x leaf
leaf_stays h s earlier x leaf since has = let t = table_stays h s earlier x since has.0 in (t.made, ap (λ y. y.shape) t.same ∙ has.1)

-- the same one as before
pub leaf_then : (h : History) (s : ℕ) (g : Found) (leaf : LeafId) (x : ℕ) → IsGood h → (still : IsStill h s g) → Contains (leaves g.tree) leaf → HasLeaf (catalogue_events h) x leaf → HasLeaf (catalogue_events still.earlier) x leaf
leaf_then h s g leaf x good still at has =
    let before = good_then h s still.earlier good still.since in
    let home = leaf_home still.earlier s g leaf before still.gathered at in
    let i = legal_keeps_all h (legal_of h good) (permitted_of h good) in
    let same : home.0 ≡ x = i.tables.one_home home.0 x leaf (leaf_stays h s still.earlier home.0 leaf still.since home.1) has in
    subst (λ y. HasLeaf (catalogue_events still.earlier) y leaf) same home.1

pub leaf_is_there : (h : History) (s : ℕ) (g : Found) (leaf : LeafId) → IsGood h → IsStill h s g → Contains (leaves g.tree) leaf → (x : ℕ) × HasLeaf (catalogue_events h) x leaf
leaf_is_there h s g leaf good still at =
    let home = leaf_home still.earlier s g leaf (good_then h s still.earlier good still.since) still.gathered at in
    (home.0, leaf_stays h s still.earlier home.0 leaf still.since home.1)

-- it has the columns of the named table
pub leaf_columns : (h : History) (s : ℕ) (g : Found) (leaf : LeafId) (x : ℕ) → IsGood h → IsStill h s g → Contains (leaves g.tree) leaf → HasLeaf (catalogue_events h) x leaf → HasColumnsOf (table_in (catalogue_events h) g.table.number).columns (table_in (catalogue_events h) x).columns
leaf_columns h s g leaf x good still at has =
    let earlier = still.earlier in
    let its = still.gathered in
    let before = good_then h s earlier good still.since in
    let cats = catalogue_events h in
    let house = leaves_have_columns earlier s g.table.number its.look leaf (legal_of earlier before) (permitted_of earlier before) its.made (inl (subst (λ t. Contains (leaves t) leaf) its.tree at)) in
    let top = table_stays h s earlier g.table.number still.since its.made in
    let low = table_stays h s earlier house.0 still.since house.1.0 in
    let i = legal_keeps_all h (legal_of h good) (permitted_of h good) in
    let same : house.0 ≡ x = i.tables.one_home house.0 x leaf (leaf_stays h s earlier house.0 leaf still.since house.1) has in
    subst (λ y. HasColumnsOf (table_in cats g.table.number).columns (table_in cats y).columns) same
    (subst (λ (t : Table). HasColumnsOf t.columns (table_in cats house.0).columns) (sym top.same) (subst (λ (t : Table). HasColumnsOf (table_in (catalogue_events earlier) g.table.number).columns t.columns) (sym low.same) house.2))

-- ---- a leaf that could be written then

pub record IsOpenLeaf (h : History) (s t : ℕ) (g : Found) (leaf : LeafId) (still : IsStill h s g) (x : ℕ) : Type 0 where
  pub has : HasLeaf (catalogue_events still.earlier) x leaf
  pub own : open_of (tx_events still.earlier) s ≡ Some t
  pub kept : Meanwhile still.earlier h s t x

pub open_leaf : (h : History) (s t : ℕ) (g : Found) (leaf : LeafId) (x : ℕ) → IsGood h → (still : IsStill h s g) → open_of (tx_events h) s ≡ Some t → Contains (leaves g.tree) leaf → MayWriteAt still.earlier s leaf → HasLeaf (catalogue_events h) x leaf → IsOpenLeaf h s t g leaf still x
open_leaf h s t g leaf x good still mine at may has =
    let there = leaf_then h s g leaf x good still at has in
    let own = sym still.since.same ∙ mine in
    record { has = there; own = own; kept = meanwhile still.earlier h s t x good still.since own (may x there) }

-- ---- the CHECKs along the path of the table that has the leaf

-- it is the one to which the tree leads
holder_stays : (h : History) (s : ℕ) (g : Found) (leaf : LeafId) → IsGood h → IsStill h s g → HasWay g.tree leaf → HasLeaf (catalogue_events h) (holder g.tree leaf).number leaf
holder_stays h s g leaf good still way =
    let earlier = still.earlier in
    let are = homes_then earlier s g (good_then h s earlier good still.since) still.gathered in
    let has = holder_has (λ t. IsMade (catalogue_events earlier) t.number) (IsHome (tables_made (catalogue_events earlier))) g.tree leaf are.tables are.home way in
    leaf_stays h s earlier (holder g.tree leaf).number leaf still.since (has.0, has.1)

pub taken_above : (h : History) (s t : ℕ) (g : Found) (leaf : LeafId) (row : List Value) → IsGood h → IsStill h s g → open_of (tx_events h) s ≡ Some t → HasWay g.tree leaf → holder_faults h s g.tree leaf row ≡ []
    → (x : ℕ) → HasLeaf (catalogue_events h) x leaf → PassAbove (catalogue_events h) (view (tx_events h) t) x row
taken_above h s t g leaf row good still mine way none x has =
    let legal = legal_of h good in
    let permitted = permitted_of h good in
    let i = legal_keeps_all h legal permitted in
    let top = holder g.tree leaf in
    let same : top.number ≡ x = i.tables.one_home top.number x leaf (holder_stays h s g leaf good still way) has in
    let passes : refused Checks row (path_of h s top.number) ≡ None = taken_passes (tables_of h) top (path_of h s top.number) false row none in
    path_passes h s t x row legal permitted mine (subst (λ k. refused Checks row (path_of h s k) ≡ None) same passes)

-- ---- where rows may move

pub routed_accepts : (h : History) (s t : ℕ) (g : Found) (leaf : LeafId) (x : ℕ) (row : List Value) → IsGood h → (still : IsStill h s g) → open_of (tx_events h) s ≡ Some t → Contains (leaves g.tree) leaf → MayWriteAt still.earlier s leaf → HasLeaf (catalogue_events h) x leaf
    → refused Bounds row g.path ≡ None → routed row g.tree ≡ Ok leaf → AcceptAbove (catalogue_events h) (view (tx_events h) t) x row
routed_accepts h s t g leaf x row good still mine at may has path way e n p low =
    let l = open_leaf h s t g leaf x good still mine at may has in
    let before = good_then h s still.earlier good still.since in
    let legal = legal_of still.earlier before in
    let its = still.gathered in
    let then = routed_by_sight still.earlier s t g.table.number x its.look leaf row legal (permitted_of still.earlier before) (sees_what_counts still.earlier s its.look legal its.own) l.own its.made
    (subst (λ pa. refused Bounds row pa ≡ None) its.path path) (subst (λ tr. routed row tr ≡ Ok leaf) its.tree way) l.has in
    let was = l.kept.stays e n p low in
    was.takes row (then e n was.there was.below)

-- ---- where no key is set: an entry above a leaf is one of the tree's levels, or stands above the named table

-- no key that the table asks of a row is set
abbrev Unset : CatalogueEvents → List SettingMeant → ℕ → Type 0
Unset cats settings p = (was row : List Value) → Agree settings was row → key_at cats p row ≡ key_at cats p was

abbrev Lies : CatalogueEvents → World → List SettingMeant → ℕ → ℕ → ℕ → Type 0
Lies cats w settings zero top x = top ≡ x
Lies cats w settings (suc n) top x = (e : Entry) × Present cats w e × (e.child.number ≡ x) × Unset cats settings e.parent.number × Lies cats w settings n top e.parent.number

lies_top : (cats : CatalogueEvents) (w : World) (settings : List SettingMeant) (e : Entry) → Present cats w e → Unset cats settings e.parent.number → (n x : ℕ) → Lies cats w settings n e.child.number x → Lies cats w settings (suc n) e.parent.number x
lies_top cats w settings e p unset zero x is = (e, p, is, unset, refl)
lies_top cats w settings e p unset (suc n) x (g, q, child, also, rest) = (g, q, child, also, lies_top cats w settings e p unset n g.parent.number rest)

split_above : (cats : CatalogueEvents) (w : World) (settings : List SettingMeant) → Siblings cats w → (m top x : ℕ) → Lies cats w settings m top x → (e : Entry) (n : ℕ) → Present cats w e → Under cats w n e.child.number x
    → Unset cats settings e.parent.number ⊎ ((k : ℕ) × Under cats w k e.child.number top)
split_above cats w settings siblings zero top x is e n p low = inr (n, subst (λ z. Under cats w n e.child.number z) (sym is) low)
split_above cats w settings siblings (suc m) top x (g, q, child, unset, rest) e zero p low =
    let same : g ≡ e = siblings.one_parent g e q p (child ∙ sym low) in
    inl (subst (λ (z : Entry). Unset cats settings z.parent.number) same unset)
split_above cats w settings siblings (suc m) top x (g, q, child, unset, rest) e (suc n) p (f, r, other, low) =
    let same : f ≡ g = siblings.one_parent f g r q (other ∙ sym child) in
    split_above cats w settings siblings m top g.parent.number rest e n p (subst (λ (z : Entry). Under cats w n e.child.number z.parent.number) same low)

-- the way to a leaf of a tree
abbrev IsLies : CatalogueEvents → World → List SettingMeant → LeafId → ℕ → Type 0
IsLies cats w settings leaf t = (x : ℕ) × (m : ℕ) × Lies cats w settings m t x × HasLeaf cats x leaf

abbrev IsKid : (ℕ → TableTree) → List SettingMeant → LeafId → List Entry → Type 0
IsKid f settings leaf es = (e : Entry) × Contains es e × Contains (leaves (f e.child.number)) leaf × (sets_key settings (f e.child.number) ≡ false)

kid_in : (f : ℕ → TableTree) (settings : List SettingMeant) (leaf : LeafId) (es : List Entry) → Contains (all_leaves (trees_of (map (λ (e : Entry). f (child_of_entry e)) es))) leaf → sets_key_of settings (trees_of (map (λ (e : Entry). f (child_of_entry e)) es)) ≡ false → IsKid f settings leaf es
kid_in f settings leaf [] at out = absurd (none_in leaf at)
kid_in f settings leaf (e ∷ es) at out =
    let rest = trees_of (map (λ (e : Entry). f (child_of_entry e)) es) in
    let parts = or_parts (sets_key settings (f e.child.number)) (sets_key_of settings rest) out in
    elim (Contains-append_cases (leaves (f e.child.number)) (all_leaves rest) leaf at) [
      | inl own ↦ (e, first_in e es, own, parts.0)
      | inr later ↦ let r = kid_in f settings leaf es later parts.1 in (r.0, later_in e es r.0 r.1, r.2, r.3)
    ]

lies_leaf : (cats : CatalogueEvents) (w : World) (settings : List SettingMeant) (leaf own : LeafId) (t : ℕ) → IsMade cats t → (table_in cats t).shape ≡ Leaf own → Contains (own ∷ []) leaf → IsLies cats w settings leaf t
lies_leaf cats w settings leaf own t made is at = let same = only_one own leaf at in (t, zero, refl, (made, is ∙ ap (λ (l : LeafId). Leaf l) same))

lies_in : (cats : CatalogueEvents) (w : World) (settings : List SettingMeant) (leaf : LeafId) (entries : List Entry) (t : ℕ) (node : Node) (f : ℕ → TableTree) (shape : TableShape) → (table_in cats t).shape ≡ shape → IsMade cats t → All (Present cats w) entries → ((e : Entry) → Present cats w e → IsMade cats e.child.number)
    → ((c : ℕ) → IsMade cats c → Contains (leaves (f c)) leaf → sets_key settings (f c) ≡ false → IsLies cats w settings leaf c)
    → Contains (leaves (grown shape node (map bound_of (children entries t)) (map (λ (e : Entry). f (child_of_entry e)) (children entries t)))) leaf
    → sets_key settings (grown shape node (map bound_of (children entries t)) (map (λ (e : Entry). f (child_of_entry e)) (children entries t))) ≡ false → IsLies cats w settings leaf t
lies_in cats w settings leaf entries t node f (Leaf own) is made present child each at out = lies_leaf cats w settings leaf own t made is at
lies_in cats w settings leaf entries t node f (Level level) is made present child each at out =
    let es : List Entry = children entries t in
    let parts = or_parts (list_any (is_set settings) level.columns) (sets_key_of settings (trees_of (map (λ (e : Entry). f (child_of_entry e)) es))) out in
    let kid = kid_in f settings leaf es at parts.1 in
    let e : Entry = kid.0 in
    let there : Present cats w e = All-contains (Present cats w) es e (all_children (Present cats w) entries t present) kid.1 in
    let under : e.parent.number ≡ t = All-contains (λ (z : Entry). z.parent.number ≡ t) es e (under_children entries t) kid.1 in
    let here : (row : List Value) → key_at cats t row ≡ key_in (Level level) row = λ row. ap (λ s. key_in s row) is in
    let unset : Unset cats settings t = λ was row same. here row ∙ (same_picks settings was row level.columns same parts.0 ∙ sym (here was)) in
    let led = each e.child.number (child e there) kid.2 kid.3 in
    (led.0, suc led.1, subst (λ p. Lies cats w settings (suc led.1) p led.0) under (lies_top cats w settings e there (subst (Unset cats settings) (sym under) unset) led.1 led.0 led.2), led.3)

lies_bare : (cats : CatalogueEvents) (w : World) (settings : List SettingMeant) (leaf : LeafId) (t : ℕ) (node : Node) (shape : TableShape) → (table_in cats t).shape ≡ shape → IsMade cats t → Contains (leaves (grown shape node [] [])) leaf → IsLies cats w settings leaf t
lies_bare cats w settings leaf t node (Leaf own) is made at = lies_leaf cats w settings leaf own t made is at
lies_bare cats w settings leaf t node (Level level) is made at = absurd (none_in leaf at)

lies_within : (n : ℕ) (cats : CatalogueEvents) (w : World) (settings : List SettingMeant) (leaf : LeafId) (entries : List Entry) (named t : ℕ) → All (Present cats w) entries → ((e : Entry) → Present cats w e → IsMade cats e.child.number) → IsMade cats t
    → Contains (leaves (tree_within n (tables_made cats) entries named t)) leaf → sets_key settings (tree_within n (tables_made cats) entries named t) ≡ false → IsLies cats w settings leaf t
lies_within zero cats w settings leaf entries named t present child made at out = lies_bare cats w settings leaf t (node_at (tables_made cats) named t) (table_in cats t).shape refl made at
lies_within (suc n) cats w settings leaf entries named t present child made at out =
    lies_in cats w settings leaf entries t (node_at (tables_made cats) named t) (λ c. tree_within n (tables_made cats) entries named c) (table_in cats t).shape refl made present child
    (λ c made_c at_c out_c. lies_within n cats w settings leaf entries named c present child made_c at_c out_c) at out

lies_then : (h : History) (s table : ℕ) (look : TakenSnapshot) (settings : List SettingMeant) (leaf : LeafId) → IsGood h → IsMade (catalogue_events h) table → Contains (leaves (tree_of h s table look)) leaf → sets_key settings (tree_of h s table look) ≡ false
    → IsLies (catalogue_events h) (counts (tx_events h) s) settings leaf table
unfolding tree_of
lies_then h s table look settings leaf good made at out =
    let legal = legal_of h good in
    let i = legal_keeps_all h legal (permitted_of h good) in
    lies_within 7 (catalogue_events h) (counts (tx_events h) s) settings leaf (entries_shown h s look) table table (all_shown h s look (sound_of h legal) (catalogue_sound_of h legal)) (λ e p. (i.entries.suited e p.0).child) made at out

-- ---- so a row stays in its leaf whose keys are not set, and that no place on the path refuses

pub kept_accepts : (h : History) (s t : ℕ) (g : Found) (leaf : LeafId) (x : ℕ) (was row : List Value) → IsGood h → (still : IsStill h s g) → open_of (tx_events h) s ≡ Some t → Contains (leaves g.tree) leaf → MayWriteAt still.earlier s leaf → HasLeaf (catalogue_events h) x leaf
    → sets_key g.asked.settings g.tree ≡ false → Agree g.asked.settings was row → refused Bounds row g.path ≡ None → AcceptAbove (catalogue_events h) (view (tx_events h) t) x was → AcceptAbove (catalogue_events h) (view (tx_events h) t) x row
kept_accepts h s t g leaf x was row good still mine at may has out same path accept e n p low =
    let earlier = still.earlier in
    let cats = catalogue_events earlier in
    let before = good_then h s earlier good still.since in
    let legal = legal_of earlier before in
    let permitted = permitted_of earlier before in
    let its = still.gathered in
    let settings = g.asked.settings in
    let l = open_leaf h s t g leaf x good still mine at may has in
    let above = l.kept.stays e n p low in
    let w : World = counts (tx_events earlier) s in
    let i = legal_keeps_all earlier legal permitted in
    let siblings = i.siblings w (counts_world (tx_events earlier) s (sound_of earlier legal)) in
    let runs = (open_runs (tx_events earlier) s t (sound_of earlier legal) l.own).runs in
    let to : (f : Entry) → Present cats (view (tx_events earlier) t) f → Present cats w f = λ f q. (q.0, agree (tx_events earlier) s t f.by.number l.own runs ∙ q.1, λ u end. agree (tx_events earlier) s t u l.own runs ∙ q.2 u end) in
    let back : (f : Entry) → Present cats w f → Present cats (view (tx_events earlier) t) f = λ f q. (q.0, sym (agree (tx_events earlier) s t f.by.number l.own runs) ∙ q.1, λ u end. sym (agree (tx_events earlier) s t u l.own runs) ∙ q.2 u end) in
    let lies = lies_then earlier s g.table.number its.look settings leaf before its.made (subst (λ tr. Contains (leaves tr) leaf) its.tree at) (subst (λ tr. sets_key settings tr ≡ false) its.tree out) in
    let here : lies.0 ≡ x = i.tables.one_home lies.0 x leaf lies.3 l.has in
    let way : Lies cats w settings lies.1 g.table.number x = subst (Lies cats w settings lies.1 g.table.number) here lies.2 in
    elim (split_above cats w settings siblings lies.1 g.table.number x way e n (to e above.there) (under_map cats cats (view (tx_events earlier) t) w to n e.child.number x above.below)) [
      | inl unset ↦
          let keys : key_at (catalogue_events h) e.parent.number was ≡ key_at (catalogue_events h) e.parent.number row = sym (above.keys was) ∙ (sym (unset was row same) ∙ above.keys row) in
          subst (λ k. AcceptsKey (catalogue_events h) (view (tx_events h) t) e.parent.number e.bound k) keys (accept e n p low)
      | inr up ↦
          let top = path_accepts earlier s t g.table.number row legal permitted l.own (subst (λ pa. refused Bounds row pa ≡ None) its.path path) in
          above.takes row (top e up.0 above.there (under_map cats cats w (view (tx_events earlier) t) back up.0 e.child.number g.table.number up.1))
    ]
