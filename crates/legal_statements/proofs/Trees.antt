-- A tree has each table below its topmost one, once.
use Rattle.std.proofs.Common.{◌≡◌, ◌≢◌, ℕ, zero, suc, ◌≤◌, List, [], ◌∷◌, inl, inr, refl, ap, sym, subst, ◌∙◌, map, arith}
use Rattle.std.specs.List.{All, AllPairs, Contains}
use Rattle.std.proofs.lemmas.List.Elements.{All-head, All-tail, Contains-append_left, Contains-append_right, Contains-append_cases}
use Rattle.std.proofs.lemmas.List.Kept.{AllPairs-cons}
use Rattle.bound_forms.proofs.PlainOrder.{pairs-head, pairs-tail}
use Rattle.pg_values.specs.declared.ids.TableNo.{TableNo}
use Rattle.history.specs.declared.catalogue.TableShape.{TableShape}
use Rattle.history.specs.declared.catalogue.TableShape.TheVariants.{Leaf, Level}
use Rattle.history.specs.declared.catalogue.Entry.{Entry}
use Rattle.history.specs.Catalogue.{CatalogueEvents, tables_made}
use Rattle.history.specs.History.{tx_events, catalogue_events}
use Rattle.history.specs.Places.{TakesBound}
use Rattle.history.specs.Presence.{counts, entries_present}
use Rattle.row_router.specs.declared.node.Node.{Node}
use Rattle.row_router.specs.Trees.{TableTree, trees_of}
use Rattle.row_router.specs.Histories.{ddl_tree, tree_within, grown, node_at, children, bound_of, child_of_entry, table_of}
use Rattle.row_router.proofs.Order.{all_children, under_children}
use Rattle.soundness.specs.Worlds.{World, table_in, Present, Under, view}
use Rattle.soundness.specs.Parts.{AreEntries, Siblings}
use Rattle.soundness.proofs.Under.{under_map, under_top}
use Rattle.soundness.proofs.Listed.{none_in, first_in, later_in, cases_in, only_one, present_listed, child_listed}
use Rattle.soundness.proofs.Leaves.{Down, down_of}
use Rattle.soundness.proofs.Looking.{counts_world}
use Rattle.soundness.proofs.Paths.{agree, few_steps}
use Rattle.soundness.proofs.Presence.{all_present}
use Rattle.soundness.proofs.Sound.{sound_of, catalogue_sound_of}
use Rattle.soundness.proofs.All.{legal_keeps_all}
use Rattle.legal_statements.specs.Below.{tables_in, all_tables}
use Rattle.legal_statements.specs.Laws.{TreeIsWhole}
use Rattle.legal_statements.proofs.Holding.{session_runs}
use Rattle.legal_statements.proofs.Pairs.{each_in, all_in, pairs_append, pairs_none, pairs_one, AreTwo, children_two, present_two}

-- the tables of the trees of some entries
abbrev kid_tables : (ℕ → TableTree) → List Entry → List TableNo
kid_tables f es = all_tables (trees_of (map (λ (e : Entry). f (child_of_entry e)) es))

abbrev level_tree : (ℕ → TableTree) → TableShape → Node → List Entry → TableTree
level_tree f shape node es = grown shape node (map bound_of es) (map (λ (e : Entry). f (child_of_entry e)) es)

-- ---- all tables below are in the tree

kid_in : (f : ℕ → TableTree) (y : TableNo) (es : List Entry) (e : Entry) → Contains es e → Contains (tables_in (f e.child.number)) y → Contains (kid_tables f es) y
kid_in f y [] e at is = absurd (none_in e at)
kid_in f y (x ∷ es) e at is = elim (cases_in x es e at) [
  | inl here ↦ Contains-append_left (tables_in (f x.child.number)) (kid_tables f es) y (subst (λ (z : Entry). Contains (tables_in (f z.child.number)) y) (sym here) is)
  | inr later ↦ Contains-append_right (tables_in (f x.child.number)) (kid_tables f es) y (kid_in f y es e later is)
]

own_in : (f : ℕ → TableTree) (shape : TableShape) (node : Node) (es : List Entry) → Contains (tables_in (level_tree f shape node es)) node.table
own_in f (Leaf leaf) node es = first_in node.table []
own_in f (Level level) node es = first_in node.table (kid_tables f es)

level_in : (f : ℕ → TableTree) (node : Node) (y : TableNo) (es : List Entry) (e : Entry) (shape : TableShape) → TakesBound shape e.bound → Contains es e → Contains (tables_in (f e.child.number)) y → Contains (tables_in (level_tree f shape node es)) y
level_in f node y es e (Leaf own) takes at is = absurd takes
level_in f node y es e (Level level) takes at is = later_in node.table (kid_tables f es) y (kid_in f y es e at is)

all_within : (cats : CatalogueEvents) (w : World) (entries : List Entry) (named : ℕ) → AreEntries cats → ((e : Entry) → Present cats w e → Contains entries e)
    → (n fuel top x : ℕ) → n ≤ fuel → Down cats w n top x → Contains (tables_in (tree_within fuel (tables_made cats) entries named top)) (table_of x)
all_within cats w entries named are listed zero zero top x le is =
    subst (λ z. Contains (tables_in (tree_within zero (tables_made cats) entries named top)) (table_of z)) is (own_in (λ c. tree_within zero (tables_made cats) entries named c) (table_in cats top).shape (node_at (tables_made cats) named top) [])
all_within cats w entries named are listed zero (suc fuel) top x le is =
    subst (λ z. Contains (tables_in (tree_within (suc fuel) (tables_made cats) entries named top)) (table_of z)) is (own_in (λ c. tree_within fuel (tables_made cats) entries named c) (table_in cats top).shape (node_at (tables_made cats) named top) (children entries top))
all_within cats w entries named are listed (suc n) zero top x le is = absurd (omega (arith, le))
all_within cats w entries named are listed (suc n) (suc fuel) top x le (e, p, parent, rest) =
    let takes : TakesBound (table_in cats top).shape e.bound = subst (λ z. TakesBound (table_in cats z).shape e.bound) parent (are.suited e p.0).bound in
    level_in (λ c. tree_within fuel (tables_made cats) entries named c) (node_at (tables_made cats) named top) (table_of x) (children entries top) e (table_in cats top).shape takes (child_listed entries top e (listed e p) parent)
    (all_within cats w entries named are listed n fuel e.child.number x (omega (arith, le)) rest)

-- ---- and no others are

-- so many steps below the top
abbrev IsUnder : CatalogueEvents → World → ℕ → TableNo → Type 0
IsUnder cats w top y = (n : ℕ) × Under cats w n top y.number

-- what an entry is like that stands below the table
record IsKid (cats : CatalogueEvents) (w : World) (t : ℕ) (e : Entry) : Type 0 where
  present : Present cats w e
  under : e.parent.number ≡ t

kids_of : (cats : CatalogueEvents) (w : World) (entries : List Entry) (t : ℕ) → All (Present cats w) entries → All (IsKid cats w t) (children entries t)
kids_of cats w entries t present k d lt = record { present = all_children (Present cats w) entries t present k d lt; under = under_children entries t k d lt }

-- a table in the tree of one of the entries
record IsOfKid (cats : CatalogueEvents) (w : World) (t : ℕ) (es : List Entry) (f : ℕ → TableTree) (y : TableNo) : Type 0 where
  entry : Entry
  kid : IsKid cats w t entry
  among : Contains es entry
  here : Contains (tables_in (f entry.child.number)) y

kid_was : (cats : CatalogueEvents) (w : World) (t : ℕ) (f : ℕ → TableTree) (es : List Entry) (y : TableNo) → All (IsKid cats w t) es → Contains (kid_tables f es) y → IsOfKid cats w t es f y
kid_was cats w t f [] y all at = absurd (none_in y at)
kid_was cats w t f (e ∷ es) y all at = elim (Contains-append_cases (tables_in (f e.child.number)) (kid_tables f es) y at) [
  | inl first ↦ record { entry = e; kid = All-head (IsKid cats w t) e es all; among = first_in e es; here = first }
  | inr later ↦
      let its = kid_was cats w t f es y (All-tail (IsKid cats w t) e es all) later in
      record { entry = its.entry; kid = its.kid; among = later_in e es its.entry its.among; here = its.here }
]

-- one step more from the top
step_down : (cats : CatalogueEvents) (w : World) (t : ℕ) (e : Entry) (n x : ℕ) → IsKid cats w t e → Under cats w n e.child.number x → Under cats w (suc n) t x
step_down cats w t e n x kid low = subst (λ z. Under cats w (suc n) z x) kid.under (under_top cats w e kid.present n x low)

level_only : (cats : CatalogueEvents) (w : World) (t : ℕ) (f : ℕ → TableTree) (node : Node) (es : List Entry) (shape : TableShape) (y : TableNo) → node.table ≡ table_of t → All (IsKid cats w t) es
    → ((c : ℕ) (z : TableNo) → Contains (tables_in (f c)) z → IsUnder cats w c z) → Contains (tables_in (level_tree f shape node es)) y → IsUnder cats w t y
level_only cats w t f node es (Leaf leaf) y is all each at = (zero, ap (λ (z : TableNo). z.number) (sym is ∙ only_one node.table y at))
level_only cats w t f node es (Level level) y is all each at = elim (cases_in node.table (kid_tables f es) y at) [
  | inl here ↦ (zero, ap (λ (z : TableNo). z.number) (sym is ∙ here))
  | inr later ↦
      let its = kid_was cats w t f es y all later in
      let low = each its.entry.child.number y its.here in
      (suc low.0, step_down cats w t its.entry low.0 y.number its.kid low.1)
]

-- a table without the trees below it
bare_only : (cats : CatalogueEvents) (w : World) (t : ℕ) (node : Node) (shape : TableShape) (y : TableNo) → node.table ≡ table_of t → Contains (tables_in (grown shape node [] [])) y → IsUnder cats w t y
bare_only cats w t node (Leaf leaf) y is at = (zero, ap (λ (z : TableNo). z.number) (sym is ∙ only_one node.table y at))
bare_only cats w t node (Level level) y is at = (zero, ap (λ (z : TableNo). z.number) (sym is ∙ only_one node.table y at))

pub only_within : (fuel : ℕ) (cats : CatalogueEvents) (w : World) (entries : List Entry) (named top : ℕ) (y : TableNo) → All (Present cats w) entries → Contains (tables_in (tree_within fuel (tables_made cats) entries named top)) y → IsUnder cats w top y
only_within zero cats w entries named top y present at = bare_only cats w top (node_at (tables_made cats) named top) (table_in cats top).shape y refl at
only_within (suc fuel) cats w entries named top y present at =
    level_only cats w top (λ c. tree_within fuel (tables_made cats) entries named c) (node_at (tables_made cats) named top) (children entries top) (table_in cats top).shape y refl (kids_of cats w entries top present)
    (λ c z at_c. only_within fuel cats w entries named c z present at_c) at

-- ---- and each of them is there once

-- two entries below one table have nothing below them in common
apart : (cats : CatalogueEvents) (w : World) (t : ℕ) (a b : Entry) → Siblings cats w → IsKid cats w t a → IsKid cats w t b → AreTwo a b → (n m x : ℕ) → Under cats w n a.child.number x → Under cats w m b.child.number x → ⊥
apart cats w t a b s ka kb two zero zero x low far = two (ap (λ (z : Entry). z.id.number) (s.one_parent a b ka.present kb.present (low ∙ sym far)))
apart cats w t a b s ka kb two zero (suc m) x low (e, p, child, far) =
    let same : e ≡ a = s.one_parent e a p ka.present (child ∙ sym low) in
    let up : Under cats w m b.child.number b.parent.number = subst (λ z. Under cats w m b.child.number z) (ap (λ (z : Entry). z.parent.number) same ∙ ka.under ∙ sym kb.under) far in
    s.no_cycle m b.child.number (b, kb.present, refl, up)
apart cats w t a b s ka kb two (suc n) zero x (e, p, child, low) far =
    let same : e ≡ b = s.one_parent e b p kb.present (child ∙ sym far) in
    let up : Under cats w n a.child.number a.parent.number = subst (λ z. Under cats w n a.child.number z) (ap (λ (z : Entry). z.parent.number) same ∙ kb.under ∙ sym ka.under) low in
    s.no_cycle n a.child.number (a, ka.present, refl, up)
apart cats w t a b s ka kb two (suc n) (suc m) x (e, p, child, low) (f, q, child', far) =
    let same : f ≡ e = s.one_parent f e q p (child' ∙ sym child) in
    apart cats w t a b s ka kb two n m e.parent.number low (subst (λ (z : Entry). Under cats w m b.child.number z.parent.number) same far)

abbrev Differ : TableNo → TableNo → Type 0
Differ a b = a.number ≢ b.number

kids_once : (cats : CatalogueEvents) (w : World) (t : ℕ) (f : ℕ → TableTree) (es : List Entry) → Siblings cats w → All (IsKid cats w t) es → AllPairs AreTwo es → ((c : ℕ) (z : TableNo) → Contains (tables_in (f c)) z → IsUnder cats w c z)
    → ((c : ℕ) → AllPairs Differ (tables_in (f c))) → AllPairs Differ (kid_tables f es)
kids_once cats w t f [] s all two each once = pairs_none Differ
kids_once cats w t f (e ∷ es) s all two each once =
    pairs_append Differ (tables_in (f e.child.number)) (kid_tables f es) (once e.child.number)
    (kids_once cats w t f es s (All-tail (IsKid cats w t) e es all) (pairs-tail AreTwo e es two) each once)
    (λ y z at later same.
    let its = kid_was cats w t f es z (All-tail (IsKid cats w t) e es all) later in
    let low = each e.child.number y at in
    let far = each its.entry.child.number z its.here in
    apart cats w t e its.entry s (All-head (IsKid cats w t) e es all) its.kid (each_in (AreTwo e) es its.entry (pairs-head AreTwo e es two) its.among) low.0 far.0 y.number low.1
    (subst (λ k. Under cats w far.0 its.entry.child.number k) (sym same) far.1))

level_once : (cats : CatalogueEvents) (w : World) (t : ℕ) (f : ℕ → TableTree) (node : Node) (es : List Entry) (shape : TableShape) → node.table ≡ table_of t → Siblings cats w → All (IsKid cats w t) es → AllPairs AreTwo es
    → ((c : ℕ) (z : TableNo) → Contains (tables_in (f c)) z → IsUnder cats w c z) → ((c : ℕ) → AllPairs Differ (tables_in (f c))) → AllPairs Differ (tables_in (level_tree f shape node es))
level_once cats w t f node es (Leaf leaf) is s all two each once = pairs_one Differ node.table
level_once cats w t f node es (Level level) is s all two each once =
    AllPairs-cons Differ node.table (kid_tables f es)
    (all_in (Differ node.table) (kid_tables f es) (λ y at same.
    let its = kid_was cats w t f es y all at in
    let low = each its.entry.child.number y its.here in
    let down = step_down cats w t its.entry low.0 y.number its.kid low.1 in
    let here : y.number ≡ t = sym same ∙ ap (λ (z : TableNo). z.number) is in
    s.no_cycle low.0 t (subst (λ k. Under cats w (suc low.0) t k) here down)))
    (kids_once cats w t f es s all two each once)

bare_once : (node : Node) (shape : TableShape) → AllPairs Differ (tables_in (grown shape node [] []))
bare_once node (Leaf leaf) = pairs_one Differ node.table
bare_once node (Level level) = pairs_one Differ node.table

pub once_within : (fuel : ℕ) (cats : CatalogueEvents) (w : World) (entries : List Entry) (named top : ℕ) → Siblings cats w → All (Present cats w) entries → AllPairs AreTwo entries → AllPairs Differ (tables_in (tree_within fuel (tables_made cats) entries named top))
once_within zero cats w entries named top s present two = bare_once (node_at (tables_made cats) named top) (table_in cats top).shape
once_within (suc fuel) cats w entries named top s present two =
    level_once cats w top (λ c. tree_within fuel (tables_made cats) entries named c) (node_at (tables_made cats) named top) (children entries top) (table_in cats top).shape refl s (kids_of cats w entries top present) (children_two entries top two)
    (λ c z at. only_within fuel cats w entries named c z present at) (λ c. once_within fuel cats w entries named c s present two)

-- ---- by numbers

number_in : (ys : List TableNo) (y : TableNo) → Contains ys y → Contains (map (λ (y : TableNo). y.number) ys) y.number
number_in [] y at = absurd (none_in y at)
number_in (z ∷ ys) y at = elim (cases_in z ys y at) [
  | inl here ↦ subst (λ (v : TableNo). Contains (map (λ (y : TableNo). y.number) (z ∷ ys)) v.number) here (first_in z.number (map (λ (y : TableNo). y.number) ys))
  | inr later ↦ later_in z.number (map (λ (y : TableNo). y.number) ys) y.number (number_in ys y later)
]

number_was : (ys : List TableNo) (x : ℕ) → Contains (map (λ (y : TableNo). y.number) ys) x → (y : TableNo) × Contains ys y × (y.number ≡ x)
number_was [] x at = absurd (none_in x at)
number_was (z ∷ ys) x at = elim (cases_in z.number (map (λ (y : TableNo). y.number) ys) x at) [
  | inl here ↦ (z, first_in z ys, here)
  | inr later ↦ let its = number_was ys x later in (its.0, later_in z ys its.0 its.1, its.2)
]

pub numbers_differ : (ys : List TableNo) → AllPairs Differ ys → AllPairs (λ a b. a ≢ b) (map (λ (y : TableNo). y.number) ys)
numbers_differ [] two = pairs_none (λ a b. a ≢ b)
numbers_differ (y ∷ ys) two =
    AllPairs-cons (λ a b. a ≢ b) y.number (map (λ (y : TableNo). y.number) ys)
    (all_in (λ b. y.number ≢ b) (map (λ (y : TableNo). y.number) ys) (λ x at same. let its = number_was ys x at in each_in (Differ y) ys its.0 (pairs-head Differ y ys two) its.1 (same ∙ sym its.2)))
    (numbers_differ ys (pairs-tail Differ y ys two))

pub tree_is_whole : TreeIsWhole
unfolding ddl_tree
tree_is_whole h session t top legal permitted own =
    let txs = tx_events h in
    let cats = catalogue_events h in
    let i = legal_keeps_all h legal permitted in
    let same = λ (k : ℕ). agree txs session t k own (session_runs h session t legal own).runs in
    let s = i.siblings (counts txs session) (counts_world txs session (sound_of h legal)) in
    let present = all_present h session (sound_of h legal) (catalogue_sound_of h legal) in
    let tables = tables_in (tree_within 7 (tables_made cats) (entries_present h session) top top) in
    record {
      only = λ x at.
          let its = number_was tables x at in
          let low = only_within 7 cats (counts txs session) (entries_present h session) top top its.0 present its.1 in
          let far = subst (λ k. Under cats (counts txs session) low.0 top k) its.2 low.1 in
          (low.0, under_map cats cats (counts txs session) (view txs t) (λ e p. (p.0, sym (same e.by.number) ∙ p.1, λ u end. sym (same u) ∙ p.2 u end)) low.0 top x far);
      all = λ n x low.
          let far = under_map cats cats (view txs t) (counts txs session) (λ e p. (p.0, same e.by.number ∙ p.1, λ u end. same u ∙ p.2 u end)) n top x low in
          let lt = few_steps cats (counts txs session) n top x s far in
          number_in tables (table_of x) (all_within cats (counts txs session) (entries_present h session) top i.entries (λ e p. present_listed h session e p) n 7 top x (omega (arith, lt)) (down_of cats (counts txs session) n top x far));
      once = numbers_differ tables (once_within 7 cats (counts txs session) (entries_present h session) top top s present (present_two h session (catalogue_sound_of h legal)));
    }
