-- Ways down to the leaves of a tree.
use Rattle.std.proofs.Common.{◌≡◌, ℕ, zero, suc, List, [], ◌∷◌, inl, inr, refl, ap, ◌∙◌, map}
use Rattle.std.specs.List.{All, Contains}
use Rattle.std.proofs.lemmas.List.Elements.{All-head, All-tail, Contains-append_cases}
use Rattle.pg_values.specs.declared.ids.LeafId.{LeafId}
use Rattle.bound_forms.specs.declared.partition_bound.Bound.{Bound}
use Rattle.history.specs.declared.catalogue.Entry.{Entry}
use Rattle.history.specs.declared.catalogue.TableShape.{TableShape}
use Rattle.history.specs.declared.catalogue.TableShape.TheVariants.{Leaf, Level}
use Rattle.history.specs.Catalogue.{tables_made}
use Rattle.history.specs.History.{History, catalogue_events}
use Rattle.history.specs.Presence.{entries_shown}
use Rattle.history.specs.Snapshots.{TakenSnapshot}
use Rattle.row_router.specs.declared.node.Node.{Node}
use Rattle.row_router.specs.Trees.{TableTree, trees_of, leaves, all_leaves}
use Rattle.row_router.specs.Histories.{tree_of, tree_within, grown, node_at, children, bound_of, child_of_entry}
use Rattle.row_router.proofs.Order.{all_children, under_children}
use Rattle.soundness.specs.Worlds.{table_in, IsMade}
use Rattle.soundness.proofs.Listed.{none_in, only_one}
use Rattle.soundness.proofs.Sound.{sound_of, catalogue_sound_of}
use Rattle.soundness.proofs.All.{legal_keeps_all}
use Rattle.legal_statements.specs.ShownPartitions.{IsShownAttached, IsShownBelow, TreesShowWhatIsAttached}
use Rattle.legal_statements.proofs.ShownMarks.{all_attached}

-- ---- one level

record IsBelow (h : History) (session : ℕ) (s : TakenSnapshot) (t : ℕ) (e : Entry) : Type 0 where
  attached : IsShownAttached h session s e
  under : e.parent.number ≡ t

all_below : (h : History) (session : ℕ) (s : TakenSnapshot) (entries : List Entry) (t : ℕ) → All (IsShownAttached h session s) entries → All (IsBelow h session s t) (children entries t)
all_below h session s entries t attached k d lt = record { attached = all_children (IsShownAttached h session s) entries t attached k d lt; under = under_children entries t k d lt }

-- the leaf is one of a child
record IsOfKid (P : Entry → Type 0) (f : ℕ → TableTree) (leaf : LeafId) : Type 0 where
  kid : Entry
  is : P kid
  at : Contains (leaves (f kid.child.number)) leaf

kid_of : (P : Entry → Type 0) (f : ℕ → TableTree) (leaf : LeafId) (es : List Entry) → All P es → Contains (all_leaves (trees_of (map (λ (e : Entry). f (child_of_entry e)) es))) leaf → IsOfKid P f leaf
kid_of P f leaf [] all at = absurd (none_in leaf at)
kid_of P f leaf (e ∷ es) all at = elim (Contains-append_cases (leaves (f e.child.number)) (all_leaves (trees_of (map (λ (e : Entry). f (child_of_entry e)) es))) leaf at) [
  | inl here ↦ record { kid = e; is = All-head P e es all; at = here }
  | inr later ↦ kid_of P f leaf es (All-tail P e es all) later
]

-- ---- the whole tree

own_leaf : (h : History) (session : ℕ) (s : TakenSnapshot) (leaf own : LeafId) (t : ℕ) → IsMade (catalogue_events h) t → (table_in (catalogue_events h) t).shape ≡ Leaf own → Contains (own ∷ []) leaf → IsShownBelow h session s t leaf
own_leaf h session s leaf own t made is at = record { steps = zero; table = t; led = refl; home = (made, is ∙ ap (λ (l : LeafId). Leaf l) (only_one own leaf at)) }

below_kid : (h : History) (session : ℕ) (s : TakenSnapshot) (leaf : LeafId) (t : ℕ) (e : Entry) → IsBelow h session s t e → IsShownBelow h session s e.child.number leaf → IsShownBelow h session s t leaf
below_kid h session s leaf t e below shown = record { steps = suc shown.steps; table = shown.table; led = (e, below.attached, below.under, shown.led); home = shown.home }

led_in : (h : History) (session : ℕ) (s : TakenSnapshot) (leaf : LeafId) (entries : List Entry) (t : ℕ) (node : Node) (f : ℕ → TableTree) (shape : TableShape) → (table_in (catalogue_events h) t).shape ≡ shape → IsMade (catalogue_events h) t → All (IsShownAttached h session s) entries
    → ((e : Entry) → IsShownAttached h session s e → IsMade (catalogue_events h) e.child.number) → ((c : ℕ) → IsMade (catalogue_events h) c → Contains (leaves (f c)) leaf → IsShownBelow h session s c leaf)
    → Contains (leaves (grown shape node (map bound_of (children entries t)) (map (λ (e : Entry). f (child_of_entry e)) (children entries t)))) leaf → IsShownBelow h session s t leaf
led_in h session s leaf entries t node f (Leaf own) is made all makes each at = own_leaf h session s leaf own t made is at
led_in h session s leaf entries t node f (Level level) is made all makes each at =
    let k = kid_of (IsBelow h session s t) f leaf (children entries t) (all_below h session s entries t all) at in
    below_kid h session s leaf t k.kid k.is (each k.kid.child.number (makes k.kid k.is.attached) k.at)

led_bare : (h : History) (session : ℕ) (s : TakenSnapshot) (leaf : LeafId) (t : ℕ) (node : Node) (shape : TableShape) → (table_in (catalogue_events h) t).shape ≡ shape → IsMade (catalogue_events h) t → Contains (leaves (grown shape node [] [])) leaf → IsShownBelow h session s t leaf
led_bare h session s leaf t node (Leaf own) is made at = own_leaf h session s leaf own t made is at
led_bare h session s leaf t node (Level level) is made at = absurd (none_in leaf at)

led_within : (n : ℕ) (h : History) (session : ℕ) (s : TakenSnapshot) (leaf : LeafId) (entries : List Entry) (named t : ℕ) → IsMade (catalogue_events h) t → All (IsShownAttached h session s) entries → ((e : Entry) → IsShownAttached h session s e → IsMade (catalogue_events h) e.child.number)
    → Contains (leaves (tree_within n (tables_made (catalogue_events h)) entries named t)) leaf → IsShownBelow h session s t leaf
led_within zero h session s leaf entries named t made all makes at = led_bare h session s leaf t (node_at (tables_made (catalogue_events h)) named t) (table_in (catalogue_events h) t).shape refl made at
led_within (suc n) h session s leaf entries named t made all makes at =
    led_in h session s leaf entries t (node_at (tables_made (catalogue_events h)) named t) (λ c. tree_within n (tables_made (catalogue_events h)) entries named c) (table_in (catalogue_events h) t).shape refl made all makes
    (λ c made_c at_c. led_within n h session s leaf entries named c made_c all makes at_c) at

pub trees_show_what_is_attached : TreesShowWhatIsAttached
unfolding Rattle.row_router.specs.Histories.tree_of
trees_show_what_is_attached h legal permitted session top s leaf made at =
    let i = legal_keeps_all h legal permitted in
    led_within 7 h session s leaf (entries_shown h session s) top top made (all_attached h session s (sound_of h legal) (catalogue_sound_of h legal)) (λ e a. (i.entries.suited e a.present.0).child) at
