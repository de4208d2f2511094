-- Each leaf below a table, by the entries that a session has, is one of its tree's.
use Rattle.std.proofs.Common.{◌≡◌, ℕ, zero, suc, ◌≤◌, arith, List, [], ◌∷◌, inl, inr, refl, ap, sym, subst, ◌∙◌, map}
use Rattle.std.specs.List.{Contains}
use Rattle.std.proofs.lemmas.List.Elements.{Contains-append_left, Contains-append_right}
use Rattle.pg_values.specs.declared.ids.LeafId.{LeafId}
use Rattle.history.specs.declared.catalogue.TableShape.{TableShape}
use Rattle.history.specs.declared.catalogue.TableShape.TheVariants.{Leaf, Level}
use Rattle.history.specs.declared.catalogue.Entry.{Entry}
use Rattle.history.specs.Catalogue.{CatalogueEvents, tables_made}
use Rattle.history.specs.History.{History, tx_events, catalogue_events}
use Rattle.history.specs.Places.{TakesBound}
use Rattle.history.specs.Presence.{counts, entries_present}
use Rattle.history.proofs.Open.{open_runs}
use Rattle.row_router.specs.declared.node.Node.{Node}
use Rattle.row_router.specs.Trees.{TableTree, trees_of, leaves, all_leaves}
use Rattle.row_router.specs.Histories.{ddl_tree, tree_within, grown, node_at, children, bound_of, child_of_entry}
use Rattle.soundness.specs.Worlds.{World, table_in, HasLeaf, Present, Under, view}
use Rattle.soundness.specs.Parts.{AreEntries, Siblings, InvariantOf}
use Rattle.soundness.specs.Laws.{TreeHasAllBelow}
use Rattle.soundness.proofs.Under.{under_map}
use Rattle.soundness.proofs.Sound.{sound_of}
use Rattle.soundness.proofs.Looking.{counts_world}
use Rattle.soundness.proofs.Listed.{none_in, cases_in, first_in, present_listed, child_listed}
use Rattle.soundness.proofs.Paths.{few_steps, agree}
use Rattle.soundness.proofs.All.{legal_keeps_all}

-- ---- the same way from the top down

abbrev pub Down : CatalogueEvents → World → ℕ → ℕ → ℕ → Type 0
Down cats w zero top x = top ≡ x
Down cats w (suc n) top x = (e : Entry) × Present cats w e × (e.parent.number ≡ top) × Down cats w n e.child.number x

down_last : (cats : CatalogueEvents) (w : World) (e : Entry) → Present cats w e → (n top : ℕ) → Down cats w n top e.parent.number → Down cats w (suc n) top e.child.number
down_last cats w e p zero top is = (e, p, sym is, refl)
down_last cats w e p (suc n) top (g, q, parent, rest) = (g, q, parent, down_last cats w e p n g.child.number rest)

pub down_of : (cats : CatalogueEvents) (w : World) (n top x : ℕ) → Under cats w n top x → Down cats w n top x
down_of cats w zero top x is = is
down_of cats w (suc n) top x (e, p, child, rest) = subst (λ z. Down cats w (suc n) top z) child (down_last cats w e p n top (down_of cats w n top e.parent.number rest))

-- ---- the tree

kid_in : (f : ℕ → TableTree) (leaf : LeafId) (es : List Entry) (e : Entry) → Contains es e → Contains (leaves (f e.child.number)) leaf → Contains (all_leaves (trees_of (map (λ (e : Entry). f (child_of_entry e)) es))) leaf
kid_in f leaf [] e at is = absurd (none_in e at)
kid_in f leaf (x ∷ es) e at is =
    let rest : List LeafId = all_leaves (trees_of (map (λ (e : Entry). f (child_of_entry e)) es)) in
    elim (cases_in x es e at) [
      | inl here ↦ Contains-append_left (leaves (f x.child.number)) rest leaf (subst (λ (z : Entry). Contains (leaves (f z.child.number)) leaf) (sym here) is)
      | inr later ↦ Contains-append_right (leaves (f x.child.number)) rest leaf (kid_in f leaf es e later is)
    ]

level_in : (entries : List Entry) (node : Node) (f : ℕ → TableTree) (leaf : LeafId) (top : ℕ) (e : Entry) (shape : TableShape) → TakesBound shape e.bound → Contains (children entries top) e → Contains (leaves (f e.child.number)) leaf
    → Contains (leaves (grown shape node (map bound_of (children entries top)) (map (λ (e : Entry). f (child_of_entry e)) (children entries top)))) leaf
level_in entries node f leaf top e (Leaf own) takes at is = absurd takes
level_in entries node f leaf top e (Level level) takes at is = kid_in f leaf (children entries top) e at is

own_leaf : (shape : TableShape) (node : Node) (leaf : LeafId) (entries kids : List Entry) (f : Entry → TableTree) → shape ≡ Leaf leaf → Contains (leaves (grown shape node (map bound_of entries) (map f kids))) leaf
own_leaf shape node leaf entries kids f is = subst (λ s. Contains (leaves (grown s node (map bound_of entries) (map f kids))) leaf) (sym is) (first_in leaf [])

leaf_in : (cats : CatalogueEvents) (w : World) (entries : List Entry) (named : ℕ) (leaf : LeafId) → AreEntries cats → ((e : Entry) → Present cats w e → Contains entries e)
    → (n fuel top x : ℕ) → n ≤ fuel → Down cats w n top x → HasLeaf cats x leaf → Contains (leaves (tree_within fuel (tables_made cats) entries named top)) leaf
leaf_in cats w entries named leaf are listed zero zero top x le is at = own_leaf (table_in cats top).shape (node_at (tables_made cats) named top) leaf [] [] (λ e. tree_within zero (tables_made cats) entries named (child_of_entry e)) (ap (λ z. (table_in cats z).shape) is ∙ at.1)
leaf_in cats w entries named leaf are listed zero (suc fuel) top x le is at =
    own_leaf (table_in cats top).shape (node_at (tables_made cats) named top) leaf (children entries top) (children entries top) (λ e. tree_within fuel (tables_made cats) entries named (child_of_entry e)) (ap (λ z. (table_in cats z).shape) is ∙ at.1)
leaf_in cats w entries named leaf are listed (suc n) zero top x le is at = absurd (omega (arith, le))
leaf_in cats w entries named leaf are listed (suc n) (suc fuel) top x le (e, p, parent, rest) at =
    let takes : TakesBound (table_in cats top).shape e.bound = subst (λ z. TakesBound (table_in cats z).shape e.bound) parent (are.suited e p.0).bound in
    level_in entries (node_at (tables_made cats) named top) (λ c. tree_within fuel (tables_made cats) entries named c) leaf top e (table_in cats top).shape takes (child_listed entries top e (listed e p) parent)
    (leaf_in cats w entries named leaf are listed n fuel e.child.number x (omega (arith, le)) rest at)

all_below : (h : History) (session top n x : ℕ) (leaf : LeafId) → InvariantOf h → Siblings (catalogue_events h) (counts (tx_events h) session) → Under (catalogue_events h) (counts (tx_events h) session) n top x → HasLeaf (catalogue_events h) x leaf → Contains (leaves (ddl_tree h session top)) leaf
unfolding Rattle.row_router.specs.Histories.ddl_tree
all_below h session top n x leaf i siblings low at =
    let lt = few_steps (catalogue_events h) (counts (tx_events h) session) n top x siblings low in
    leaf_in (catalogue_events h) (counts (tx_events h) session) (entries_present h session) top leaf i.entries (λ e p. present_listed h session e p) n 7 top x (omega (arith, lt)) (down_of (catalogue_events h) (counts (tx_events h) session) n top x low) at

pub tree_has_all_below : TreeHasAllBelow
tree_has_all_below h session t top n x leaf legal permitted opened low at =
    let i = legal_keeps_all h legal permitted in
    let runs = (open_runs (tx_events h) session t (sound_of h legal) opened).runs in
    let same = λ (k : ℕ). agree (tx_events h) session t k opened runs in
    let to : (e : Entry) → Present (catalogue_events h) (view (tx_events h) t) e → Present (catalogue_events h) (counts (tx_events h) session) e = λ e p. (p.0, same e.by.number ∙ p.1, λ u end. same u ∙ p.2 u end) in
    let here = under_map (catalogue_events h) (catalogue_events h) (view (tx_events h) t) (counts (tx_events h) session) to n top x low in
    all_below h session top n x leaf i (i.siblings (counts (tx_events h) session) (counts_world (tx_events h) session (sound_of h legal))) here at
