-- A row that is routed to a leaf is accepted by each entry above it, where the path of the named table accepts it.
use Rattle.std.proofs.Common.{◌≡◌, ℕ, zero, suc, Bool, true, List, [], ◌∷◌, ◌++◌, Some, None, inl, inr, refl, ap, sym, subst, ◌∙◌, Result, Ok, map}
use Rattle.std.specs.List.{All, Contains, list_any}
use Rattle.std.proofs.lemmas.Bool.{cases_Bool}
use Rattle.std.proofs.lemmas.List.Elements.{All-contains, Contains-append_cases}
use Rattle.pg_values.specs.declared.value.Value.{Value}
use Rattle.pg_values.specs.declared.ids.LeafId.{LeafId}
use Rattle.bound_forms.specs.declared.partition_bound.Bound.{Bound}
use Rattle.bound_forms.specs.Accepts.{accepts, is_default, accepts_among}
use Rattle.history.specs.declared.catalogue.TableShape.{TableShape}
use Rattle.history.specs.declared.catalogue.TableShape.TheVariants.{Leaf, Level}
use Rattle.history.specs.declared.catalogue.Entry.{Entry}
use Rattle.history.specs.Transactions.{open_of}
use Rattle.history.specs.Snapshots.{TakenSnapshot, sees}
use Rattle.history.specs.Catalogue.{CatalogueEvents, tables_made}
use Rattle.history.specs.History.{History, tx_events, catalogue_events}
use Rattle.history.specs.Places.{table_at}
use Rattle.history.specs.Presence.{counts, entries_shown}
use Rattle.history.specs.Legal.{IsLegal}
use Rattle.history.proofs.Open.{open_runs}
use Rattle.row_router.specs.declared.node.Node.{Node}
use Rattle.row_router.specs.declared.tree.NoPartition.{NoPartition}
use Rattle.row_router.specs.Trees.{TableTree, trees_of, key_of, accepting, accepting_in, routed, found_leaf}
use Rattle.row_router.specs.Histories.{tree_of, path_of, tree_within, grown, node_at, children, bound_of, child_of_entry}
use Rattle.row_router.proofs.OneLeaf.{one_leaf}
use Rattle.row_router.proofs.Sound.{tree_sound}
use Rattle.row_router.proofs.Order.{all_children, under_children}
use Rattle.row_router.specs.declared.path.PathTest.TheVariants.{Bounds}
use Rattle.row_router.specs.Paths.{refused}
use Rattle.soundness.specs.Legal.{ArePermitted}
use Rattle.soundness.specs.Worlds.{World, table_in, IsMade, HasLeaf, Present, Under, key_in, key_at, AcceptsKey, Accepts, AcceptAbove, view}
use Rattle.soundness.specs.Parts.{Siblings, InvariantOf}
use Rattle.soundness.specs.Laws.{RoutedAccepts}
use Rattle.soundness.proofs.Worlds.{both_ways}
use Rattle.soundness.proofs.Sound.{sound_of, catalogue_sound_of}
use Rattle.soundness.proofs.Looking.{counts_world, looking_counts}
use Rattle.soundness.proofs.Presence.{all_shown}
use Rattle.soundness.proofs.OneLeaf.{sessions_have_siblings}
use Rattle.soundness.proofs.Listed.{none_in, only_one, first_in, later_in, shown_listed, child_listed}
use Rattle.soundness.proofs.Paths.{none_among, among_cases, path_accepts_in, agree, same_above}
use Rattle.soundness.proofs.All.{legal_keeps_all}

-- ---- a way down on which each entry accepts the row

abbrev Leads : CatalogueEvents → World → List Value → ℕ → ℕ → ℕ → Type 0
Leads cats w row zero top x = top ≡ x
Leads cats w row (suc n) top x = (e : Entry) × Present cats w e × (e.child.number ≡ x) × Accepts cats w e row × Leads cats w row n top e.parent.number

leads_top : (cats : CatalogueEvents) (w : World) (row : List Value) (e : Entry) → Present cats w e → Accepts cats w e row → (n x : ℕ) → Leads cats w row n e.child.number x → Leads cats w row (suc n) e.parent.number x
leads_top cats w row e p accept zero x is = (e, p, is, accept, refl)
leads_top cats w row e p accept (suc n) x (g, q, child, also, rest) = (g, q, child, also, leads_top cats w row e p accept n g.parent.number rest)

-- each entry above its end accepts the row, where each above its top does
on_way : (cats : CatalogueEvents) (w : World) (row : List Value) → Siblings cats w → (m top x : ℕ) → Leads cats w row m top x → AcceptAbove cats w top row → AcceptAbove cats w x row
on_way cats w row siblings zero top x is accept e n p low = subst (λ z. AcceptAbove cats w z row) is accept e n p low
on_way cats w row siblings (suc m) top x (g, q, child, own, rest) accept e zero p low =
    let same : g ≡ e = siblings.one_parent g e q p (child ∙ sym low) in
    subst (λ (z : Entry). Accepts cats w z row) same own
on_way cats w row siblings (suc m) top x (g, q, child, own, rest) accept e (suc n) p (f, r, other, low) =
    let same : f ≡ g = siblings.one_parent f g r q (other ∙ sym child) in
    on_way cats w row siblings m top g.parent.number rest accept e n p (subst (λ (z : Entry). Under cats w n e.child.number z.parent.number) same low)

-- ---- one level

-- the child whose tree accepts the row at the leaf, and which the test picks
abbrev IsPicked : (ℕ → TableTree) → List Value → (Bound → Bool) → LeafId → List Entry → Type 0
IsPicked f row test leaf es = (e : Entry) × Contains es e × (test e.bound ≡ true) × Contains (accepting row (f e.child.number)) leaf

picked_in : (f : ℕ → TableTree) (row : List Value) (test : Bound → Bool) (leaf : LeafId) (es : List Entry) → Contains (accepting_in row test (map bound_of es) (trees_of (map (λ (e : Entry). f (child_of_entry e)) es))) leaf → IsPicked f row test leaf es
picked_in f row test leaf [] at = absurd (none_in leaf at)
picked_in f row test leaf (e ∷ es) at =
    let rest : List LeafId = accepting_in row test (map bound_of es) (trees_of (map (λ (e : Entry). f (child_of_entry e)) es)) in
    elim (cases_Bool (test e.bound)) [
      | inl y ↦
          let here : Contains (accepting row (f e.child.number) ++ rest) leaf = rw y at at in
          elim (Contains-append_cases (accepting row (f e.child.number)) rest leaf here) [
            | inl own ↦ (e, first_in e es, y, own)
            | inr later ↦ let r = picked_in f row test leaf es later in (r.0, later_in e es r.0 r.1, r.2, r.3)
          ]
      | inr n ↦
          let later : Contains rest leaf = rw n at at in
          let r = picked_in f row test leaf es later in (r.0, later_in e es r.0 r.1, r.2, r.3)
    ]

-- ---- the whole tree

-- what a tree that is shown is grown from: a default stands beside no present entry that it leaves out
record IsShown (cats : CatalogueEvents) (w : World) (entries : List Entry) : Type 0 where
  present : All (Present cats w) entries
  made : (e : Entry) → Present cats w e → IsMade cats e.child.number
  beside : (e f : Entry) → Present cats w e → Present cats w f → f.parent.number ≡ e.parent.number → is_default e.bound ≡ true → Contains entries f

abbrev IsLed : CatalogueEvents → World → List Value → LeafId → ℕ → Type 0
IsLed cats w row leaf t = (x : ℕ) × (m : ℕ) × Leads cats w row m t x × HasLeaf cats x leaf

led_leaf : (cats : CatalogueEvents) (w : World) (row : List Value) (leaf own : LeafId) (t : ℕ) → IsMade cats t → (table_in cats t).shape ≡ Leaf own → Contains (own ∷ []) leaf → IsLed cats w row leaf t
led_leaf cats w row leaf own t made is at = let same = only_one own leaf at in (t, zero, refl, (made, is ∙ ap (λ (l : LeafId). Leaf l) same))

entry_accepts : (cats : CatalogueEvents) (w : World) (row : List Value) (entries : List Entry) (t : ℕ) (key : List Value) (e : Entry) → IsShown cats w entries → Present cats w e → e.parent.number ≡ t → accepts_among (map bound_of (children entries t)) key e.bound ≡ true
    → AcceptsKey cats w t e.bound key
entry_accepts cats w row entries t key e shown p under is = elim (among_cases (accepts key e.bound) (is_default e.bound) (list_any (accepts key) (map bound_of (children entries t))) is) [
  | inl own ↦ inl own
  | inr (by_default, none) ↦ inr (by_default, λ f q also. none_among key (children entries t) f (child_listed entries t f (shown.beside e f p q (also ∙ sym under) by_default) also) none)
]

led_in : (cats : CatalogueEvents) (w : World) (row : List Value) (leaf : LeafId) (entries : List Entry) (t : ℕ) (node : Node) (f : ℕ → TableTree) (shape : TableShape) → (table_in cats t).shape ≡ shape → IsMade cats t → IsShown cats w entries
    → ((c : ℕ) → IsMade cats c → Contains (accepting row (f c)) leaf → IsLed cats w row leaf c)
    → Contains (accepting row (grown shape node (map bound_of (children entries t)) (map (λ (e : Entry). f (child_of_entry e)) (children entries t)))) leaf → IsLed cats w row leaf t
led_in cats w row leaf entries t node f (Leaf own) is made shown each at = led_leaf cats w row leaf own t made is at
led_in cats w row leaf entries t node f (Level level) is made shown each at =
    let es : List Entry = children entries t in
    let kid = picked_in f row (accepts_among (map bound_of es) (key_of level row)) leaf es at in
    let e : Entry = kid.0 in
    let present : Present cats w e = All-contains (Present cats w) es e (all_children (Present cats w) entries t shown.present) kid.1 in
    let under : e.parent.number ≡ t = All-contains (λ (z : Entry). z.parent.number ≡ t) es e (under_children entries t) kid.1 in
    let its : AcceptsKey cats w t e.bound (key_of level row) = entry_accepts cats w row entries t (key_of level row) e shown present under kid.2 in
    let same_key : key_of level row ≡ key_at cats e.parent.number row = sym (ap (λ p. key_at cats p row) under ∙ ap (λ s. key_in s row) is) in
    let accept : Accepts cats w e row = subst (λ k. AcceptsKey cats w e.parent.number e.bound k) same_key (subst (λ p. AcceptsKey cats w p e.bound (key_of level row)) (sym under) its) in
    let led = each e.child.number (shown.made e present) kid.3 in
    (led.0, suc led.1, subst (λ p. Leads cats w row (suc led.1) p led.0) under (leads_top cats w row e present accept led.1 led.0 led.2), led.3)

led_bare : (cats : CatalogueEvents) (w : World) (row : List Value) (leaf : LeafId) (t : ℕ) (node : Node) (shape : TableShape) → (table_in cats t).shape ≡ shape → IsMade cats t → Contains (accepting row (grown shape node [] [])) leaf → IsLed cats w row leaf t
led_bare cats w row leaf t node (Leaf own) is made at = led_leaf cats w row leaf own t made is at
led_bare cats w row leaf t node (Level level) is made at = absurd (none_in leaf at)

led_within : (n : ℕ) (cats : CatalogueEvents) (w : World) (row : List Value) (leaf : LeafId) (entries : List Entry) (named t : ℕ) → IsShown cats w entries → IsMade cats t → Contains (accepting row (tree_within n (tables_made cats) entries named t)) leaf → IsLed cats w row leaf t
led_within zero cats w row leaf entries named t shown made at = led_bare cats w row leaf t (node_at (tables_made cats) named t) (table_in cats t).shape refl made at
led_within (suc n) cats w row leaf entries named t shown made at =
    led_in cats w row leaf entries t (node_at (tables_made cats) named t) (λ c. tree_within n (tables_made cats) entries named c) (table_in cats t).shape refl made shown (λ c made_c at_c. led_within n cats w row leaf entries named c shown made_c at_c) at

-- ---- the law

-- whatever the snapshot sees counts for the session
abbrev pub SeesWhatCounts : History → ℕ → TakenSnapshot → Type 0
SeesWhatCounts h session s = (t c : ℕ) → sees (tx_events h) s t c ≡ true → counts (tx_events h) session t ≡ true

are_shown : (h : History) (session : ℕ) (s : TakenSnapshot) → IsLegal h → InvariantOf h → SeesWhatCounts h session s → IsShown (catalogue_events h) (counts (tx_events h) session) (entries_shown h session s)
are_shown h session s legal i sight =
    let siblings = i.siblings (counts (tx_events h) session) (counts_world (tx_events h) session (sound_of h legal)) in
    record {
      present = all_shown h session s (sound_of h legal) (catalogue_sound_of h legal);
      made = λ e p. (i.entries.suited e p.0).child;
      beside = λ e f p q same by_default. shown_listed h session s f sight (λ pending. both_ways (is_default e.bound) by_default (siblings.no_default f e q p same pending)) q;
    }

routed_leads : (h : History) (session table : ℕ) (s : TakenSnapshot) (leaf : LeafId) (row : List Value) → IsLegal h → InvariantOf h → SeesWhatCounts h session s → IsMade (catalogue_events h) table → Contains (accepting row (tree_of h session table s)) leaf
    → IsLed (catalogue_events h) (counts (tx_events h) session) row leaf table
unfolding Rattle.row_router.specs.Histories.tree_of
routed_leads h session table s leaf row legal i sight made at = led_within 7 (catalogue_events h) (counts (tx_events h) session) row leaf (entries_shown h session s) table table (are_shown h session s legal i sight) made at

found_there : (leaf : LeafId) (r : Result LeafId NoPartition) → r ≡ Ok leaf → Contains (found_leaf r) leaf
found_there leaf r is = subst (λ (o : Result LeafId NoPartition). Contains (found_leaf o) leaf) (sym is) (first_in leaf [])

-- where the snapshot sees what counts, whether the session could hold it or not
pub routed_by_sight : (h : History) (session t table x : ℕ) (s : TakenSnapshot) (leaf : LeafId) (row : List Value) → IsLegal h → ArePermitted h → SeesWhatCounts h session s → open_of (tx_events h) session ≡ Some t
    → IsMade (catalogue_events h) table → refused Bounds row (path_of h session table) ≡ None → routed row (tree_of h session table s) ≡ Ok leaf → HasLeaf (catalogue_events h) x leaf → AcceptAbove (catalogue_events h) (view (tx_events h) t) x row
routed_by_sight h session t table x s leaf row legal permitted sight opened made path way at =
    let i = legal_keeps_all h legal permitted in
    let siblings = i.siblings (counts (tx_events h) session) (counts_world (tx_events h) session (sound_of h legal)) in
    let sound = tree_sound h session table s (catalogue_sound_of h legal) (sessions_have_siblings h session legal permitted) in
    let one = one_leaf (table_at (tables_made (catalogue_events h)) table).columns row (tree_of h session table s) sound in
    let there : Contains (accepting row (tree_of h session table s)) leaf = subst (λ l. Contains l leaf) (sym one) (found_there leaf (routed row (tree_of h session table s)) way) in
    let led = routed_leads h session table s leaf row legal i sight made there in
    let above = on_way (catalogue_events h) (counts (tx_events h) session) row siblings led.1 table led.0 led.2 (path_accepts_in h session table row legal i path) in
    let here : AcceptAbove (catalogue_events h) (counts (tx_events h) session) x row = subst (λ z. AcceptAbove (catalogue_events h) (counts (tx_events h) session) z row) (i.tables.one_home led.0 x leaf led.3 at) above in
    same_above (catalogue_events h) (counts (tx_events h) session) (view (tx_events h) t) x row (λ k. agree (tx_events h) session t k opened (open_runs (tx_events h) session t (sound_of h legal) opened).runs) here

pub routed_accepts : RoutedAccepts
routed_accepts h session t table x s leaf row legal permitted looking opened made path way at = routed_by_sight h session t table x s leaf row legal permitted (λ u c seen. looking_counts h session s u c legal looking seen) opened made path way at
