-- Each row that a snapshot is shown in a leaf of a tree is accepted at each level on the way to the leaf.
use Rattle.std.proofs.Common.{◌≡◌, ℕ, zero, suc, ◌==◌, ◌&&◌, arith, Bool, true, false, List, [], ◌∷◌, inl, inr, refl, ap, sym, subst, ◌∙◌, map, get_or}
use Rattle.std.specs.List.{All, Contains, list_any}
use Rattle.std.proofs.lemmas.Bool.{and_parts}
use Rattle.std.proofs.lemmas.Bool.Decides.{nat_tests}
use Rattle.std.proofs.lemmas.Grind.{common_steps}
use Rattle.std.proofs.lemmas.List.Elements.{All-cons, All-nil, All-head, All-tail, All-append, All-map, All-filter, filter_passes, Contains-append_cases}
use Rattle.std.proofs.lemmas.List.Folds.{list_any_none}
use Rattle.pg_values.specs.declared.value.Value.{Value}
use Rattle.pg_values.specs.declared.ids.LeafId.{LeafId}
use Rattle.bound_forms.specs.declared.partition_bound.Bound.{Bound}
use Rattle.bound_forms.specs.Accepts.{accepts, accepts_among}
use Rattle.history.specs.declared.catalogue.TableShape.{TableShape}
use Rattle.history.specs.declared.catalogue.TableShape.TheVariants.{Leaf, Level}
use Rattle.history.specs.declared.catalogue.Entry.{Entry}
use Rattle.history.specs.declared.version.Version.{Version}
use Rattle.history.specs.Catalogue.{CatalogueEvents, tables_made}
use Rattle.history.specs.Rows.{RowEvents, LeafAdded, RowBorn, RowEnded, births}
use Rattle.history.specs.Snapshots.{TakenSnapshot}
use Rattle.history.specs.History.{History, tx_events, row_events, catalogue_events, versions, is_seen, seen}
use Rattle.history.specs.Legal.{IsLegal}
use Rattle.history.specs.Presence.{counts, entries_shown}
use Rattle.row_router.specs.declared.node.Node.{Node}
use Rattle.row_router.specs.Trees.{TableTree, trees_of, key_of, leaves, all_leaves}
use Rattle.row_router.specs.Histories.{tree_within, grown, node_at, children, bound_of, child_of_entry}
use Rattle.row_router.proofs.Order.{all_children, under_children}
use Rattle.soundness.specs.Laws.{IsLooking}
use Rattle.soundness.specs.Parts.{InvariantOf}
use Rattle.soundness.specs.Versions.{IsVersion}
use Rattle.soundness.specs.Worlds.{World, table_in, IsMade, HasLeaf, Present, Under, key_in, key_at, AcceptsKey, AcceptAbove}
use Rattle.soundness.proofs.All.{legal_keeps_all}
use Rattle.soundness.proofs.Listed.{none_in, only_one}
use Rattle.soundness.proofs.Looking.{counts_world, looking_shows}
use Rattle.soundness.proofs.Presence.{all_more, all_shown}
use Rattle.soundness.proofs.Sound.{sound_of, catalogue_sound_of}
use Rattle.soundness.proofs.Under.{under_top}
use Rattle.plan_tree.specs.Laws.{Rows, LieRight, AllLieRight, ShownLieRight, row_of, shown}

-- ---- where the leaves of a tree are at home

-- the leaf is that of a table below
abbrev IsHome : CatalogueEvents → World → LeafId → ℕ → Type 0
IsHome cats w leaf t = (x : ℕ) × (m : ℕ) × Under cats w m t x × HasLeaf cats x leaf

-- what an entry is like that stands below the table
record IsBelow (cats : CatalogueEvents) (w : World) (t : ℕ) (e : Entry) : Type 0 where
  present : Present cats w e
  under : e.parent.number ≡ t

all_below : (cats : CatalogueEvents) (w : World) (entries : List Entry) (t : ℕ) → All (Present cats w) entries → All (IsBelow cats w t) (children entries t)
all_below cats w entries t present k d lt = record { present = all_children (Present cats w) entries t present k d lt; under = under_children entries t k d lt }

kid_of : (P : Entry → Type 0) (f : ℕ → TableTree) (leaf : LeafId) (es : List Entry) → All P es → Contains (all_leaves (trees_of (map (λ (e : Entry). f (child_of_entry e)) es))) leaf → (e : Entry) × P e × Contains (leaves (f e.child.number)) leaf
kid_of P f leaf [] all at = absurd (none_in leaf at)
kid_of P f leaf (e ∷ es) all at = elim (Contains-append_cases (leaves (f e.child.number)) (all_leaves (trees_of (map (λ (e : Entry). f (child_of_entry e)) es))) leaf at) [
  | inl here ↦ (e, All-head P e es all, here)
  | inr later ↦ kid_of P f leaf es (All-tail P e es all) later
]

home_of : (cats : CatalogueEvents) (w : World) (leaf own : LeafId) (t : ℕ) → IsMade cats t → (table_in cats t).shape ≡ Leaf own → Contains (own ∷ []) leaf → IsHome cats w leaf t
home_of cats w leaf own t made is at = (t, zero, refl, (made, is ∙ ap (λ (l : LeafId). Leaf l) (only_one own leaf at)))

home_in : (cats : CatalogueEvents) (w : World) (leaf : LeafId) (es : List Entry) (t : ℕ) (node : Node) (f : ℕ → TableTree) (shape : TableShape) → (table_in cats t).shape ≡ shape → IsMade cats t → All (IsBelow cats w t) es
    → ((e : Entry) → IsBelow cats w t e → Contains (leaves (f e.child.number)) leaf → IsHome cats w leaf e.child.number)
    → Contains (leaves (grown shape node (map bound_of es) (map (λ (e : Entry). f (child_of_entry e)) es))) leaf → IsHome cats w leaf t
home_in cats w leaf es t node f (Leaf own) is made below each at = home_of cats w leaf own t made is at
home_in cats w leaf es t node f (Level level) is made below each at =
    let kid = kid_of (IsBelow cats w t) f leaf es below at in
    let e : Entry = kid.0 in
    let found = each e kid.1 kid.2 in
    (found.0, suc found.1, subst (λ p. Under cats w (suc found.1) p found.0) kid.1.under (under_top cats w e kid.1.present found.1 found.0 found.2), found.3)

home_bare : (cats : CatalogueEvents) (w : World) (leaf : LeafId) (t : ℕ) (node : Node) (shape : TableShape) → (table_in cats t).shape ≡ shape → IsMade cats t → Contains (leaves (grown shape node [] [])) leaf → IsHome cats w leaf t
home_bare cats w leaf t node (Leaf own) is made at = home_of cats w leaf own t made is at
home_bare cats w leaf t node (Level level) is made at = absurd (none_in leaf at)

home_within : (n : ℕ) (cats : CatalogueEvents) (w : World) (leaf : LeafId) (entries : List Entry) (named t : ℕ) → All (Present cats w) entries → ((e : Entry) → Present cats w e → IsMade cats e.child.number) → IsMade cats t
    → Contains (leaves (tree_within n (tables_made cats) entries named t)) leaf → IsHome cats w leaf t
home_within zero cats w leaf entries named t present kids made at = home_bare cats w leaf t (node_at (tables_made cats) named t) (table_in cats t).shape refl made at
home_within (suc n) cats w leaf entries named t present kids made at =
    home_in cats w leaf (children entries t) t (node_at (tables_made cats) named t) (λ c. tree_within n (tables_made cats) entries named c) (table_in cats t).shape refl made (all_below cats w entries t present)
    (λ e below in_e. home_within n cats w leaf entries named e.child.number present kids (kids e below.present) in_e) at

-- ---- the test of a level

refuse_all : (key : List Value) (es : List Entry) → All (λ e. accepts key e.bound ≡ false) es → All (λ b. accepts key b ≡ false) (map bound_of es)
refuse_all key [] all = All-nil (λ b. accepts key b ≡ false)
refuse_all key (e ∷ es) all = All-cons (λ b. accepts key b ≡ false) e.bound (map bound_of es) (All-head (λ (x : Entry). accepts key x.bound ≡ false) e es all) (refuse_all key es (All-tail (λ (x : Entry). accepts key x.bound ≡ false) e es all))

others_refuse : (cats : CatalogueEvents) (w : World) (t : ℕ) (key : List Value) (es : List Entry) → All (IsBelow cats w t) es → ((f : Entry) → Present cats w f → f.parent.number ≡ t → accepts key f.bound ≡ false) → list_any (accepts key) (map bound_of es) ≡ false
others_refuse cats w t key es below none = list_any_none (accepts key) (map bound_of es) (refuse_all key es (λ k d lt. none (get_or es k d) (below k d lt).present (below k d lt).under))

picked_by : (cats : CatalogueEvents) (w : World) (t : ℕ) (key : List Value) (es : List Entry) (b : Bound) → All (IsBelow cats w t) es → AcceptsKey cats w t b key → accepts_among (map bound_of es) key b ≡ true
picked_by cats w t key es b below (inl is) = rw is refl
picked_by cats w t key es b below (inr (by_default, none)) =
    let out = others_refuse cats w t key es below none in
    rw (by_default, out) (grind (arith, common_steps))

-- ---- trees

-- each row of a leaf is accepted above the leaf's table
abbrev AreAccepted : CatalogueEvents → World → Rows → Type 0
AreAccepted cats w rows = (x : ℕ) (leaf : LeafId) → HasLeaf cats x leaf → All (AcceptAbove cats w x) (rows leaf.number)

kids_right : (rows : Rows) (test : List Value → Bound → Bool) (f : ℕ → TableTree) (P : Entry → Type 0) (es : List Entry) → All P es
    → ((e : Entry) → P e → (leaf : LeafId) → Contains (leaves (f e.child.number)) leaf → All (λ row. test row e.bound ≡ true) (rows leaf.number)) → ((e : Entry) → P e → LieRight rows (f e.child.number))
    → AllLieRight rows test (map bound_of es) (trees_of (map (λ (e : Entry). f (child_of_entry e)) es))
kids_right rows test f P [] all each own = tt
kids_right rows test f P (e ∷ es) all each own = (each e (All-head P e es all), own e (All-head P e es all), kids_right rows test f P es (All-tail P e es all) each own)

child_right : (cats : CatalogueEvents) (w : World) (rows : Rows) (level_key : List Value → List Value) (es : List Entry) (t : ℕ) → ((row : List Value) → key_at cats t row ≡ level_key row) → All (IsBelow cats w t) es → AreAccepted cats w rows
    → (e : Entry) → IsBelow cats w t e → (leaf : LeafId) → IsHome cats w leaf e.child.number → All (λ row. accepts_among (map bound_of es) (level_key row) e.bound ≡ true) (rows leaf.number)
child_right cats w rows level_key es t same below accepted e its leaf home k d lt =
    let row = get_or (rows leaf.number) k d in
    let accepts_e = accepted home.0 leaf home.3 k d lt e home.1 its.present home.2 in
    let here : AcceptsKey cats w t e.bound (key_at cats t row) = subst (λ p. AcceptsKey cats w p e.bound (key_at cats p row)) its.under accepts_e in
    picked_by cats w t (level_key row) es e.bound below (subst (λ key. AcceptsKey cats w t e.bound key) (same row) here)

right_in : (cats : CatalogueEvents) (w : World) (rows : Rows) (es : List Entry) (t : ℕ) (node : Node) (f : ℕ → TableTree) (shape : TableShape) → (table_in cats t).shape ≡ shape → All (IsBelow cats w t) es → AreAccepted cats w rows
    → ((e : Entry) → IsBelow cats w t e → (leaf : LeafId) → Contains (leaves (f e.child.number)) leaf → IsHome cats w leaf e.child.number) → ((e : Entry) → IsBelow cats w t e → LieRight rows (f e.child.number))
    → LieRight rows (grown shape node (map bound_of es) (map (λ (e : Entry). f (child_of_entry e)) es))
right_in cats w rows es t node f (Leaf own) is below accepted home own_right = tt
right_in cats w rows es t node f (Level level) is below accepted home own_right =
    kids_right rows (λ row. accepts_among (map bound_of es) (key_of level row)) f (IsBelow cats w t) es below
    (λ e its leaf at. child_right cats w rows (key_of level) es t (λ row. ap (λ s. key_in s row) is) below accepted e its leaf (home e its leaf at)) own_right

right_bare : (rows : Rows) (node : Node) (shape : TableShape) → LieRight rows (grown shape node [] [])
right_bare rows node (Leaf own) = tt
right_bare rows node (Level level) = tt

right_within : (n : ℕ) (cats : CatalogueEvents) (w : World) (rows : Rows) (entries : List Entry) (named t : ℕ) → All (Present cats w) entries → ((e : Entry) → Present cats w e → IsMade cats e.child.number) → AreAccepted cats w rows
    → LieRight rows (tree_within n (tables_made cats) entries named t)
right_within zero cats w rows entries named t present kids accepted = right_bare rows (node_at (tables_made cats) named t) (table_in cats t).shape
right_within (suc n) cats w rows entries named t present kids accepted =
    right_in cats w rows (children entries t) t (node_at (tables_made cats) named t) (λ c. tree_within n (tables_made cats) entries named c) (table_in cats t).shape refl (all_below cats w entries t present) accepted
    (λ e its leaf at. home_within n cats w leaf entries named e.child.number present kids (kids e its.present) at) (λ e its. right_within n cats w rows entries named e.child.number present kids accepted)

-- ---- histories

all_versions : (rows : RowEvents) → All (IsVersion rows) (births rows)
all_versions [] = All-nil (IsVersion [])
all_versions (LeafAdded l ∷ rows) = all_versions rows
all_versions (RowEnded k e ∷ rows) = all_versions rows
all_versions (RowBorn v ∷ rows) = All-append (IsVersion (RowBorn v ∷ rows)) (births rows) (v ∷ []) (all_more (IsVersion rows) (IsVersion (RowBorn v ∷ rows)) (births rows) (λ x is. inr is) (all_versions rows)) (All-cons (IsVersion (RowBorn v ∷ rows)) v [] (inl refl) (All-nil (IsVersion (RowBorn v ∷ rows))))

same_leaf : (a b : LeafId) → a.number ≡ b.number → a ≡ b
same_leaf a b is = ap (λ n. record { number = n }) is

shown_accepted : (h : History) (session : ℕ) (s : TakenSnapshot) → IsLegal h → InvariantOf h → IsLooking h session s → AreAccepted (catalogue_events h) (counts (tx_events h) session) (shown h s)
shown_accepted h session s legal i looking x leaf own =
    let cats = catalogue_events h in
    let w = counts (tx_events h) session in
    let world = counts_world (tx_events h) session (sound_of h legal) in
    All-map (AcceptAbove cats w x) row_of (seen h leaf.number s) (λ k d lt.
    let v : Version = get_or (seen h leaf.number s) k d in
    let test = filter_passes (λ (v : Version). (v.leaf.number == leaf.number) && is_seen h s v) (versions h) k d lt in
    let is = All-filter (λ (v : Version). (v.leaf.number == leaf.number) && is_seen h s v) (IsVersion (row_events h)) (versions h) (all_versions (row_events h)) k d lt in
    let parts = and_parts (v.leaf.number == leaf.number) (is_seen h s v) test in
    let same : v.leaf.number ≡ leaf.number = grind (arith, nat_tests, parts.0) in
    i.fit w v world is (looking_shows h session s v legal i looking is parts.1) x (subst (λ (l : LeafId). HasLeaf cats x l) (sym (same_leaf v.leaf leaf same)) own))

pub shown_right : ShownLieRight
unfolding Rattle.row_router.specs.Histories.tree_of
shown_right h session table s legal permitted looking made =
    let i = legal_keeps_all h legal permitted in
    right_within 7 (catalogue_events h) (counts (tx_events h) session) (shown h s) (entries_shown h session s) table table (all_shown h session s (sound_of h legal) (catalogue_sound_of h legal)) (λ e p. (i.entries.suited e p.0).child)
    (shown_accepted h session s legal i looking)
