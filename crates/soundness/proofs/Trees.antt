-- A leaf of a tree that holds a row which each entry above the leaf accepts, is among the leaves that accept it.
use Rattle.std.proofs.Common.{◌≡◌, ℕ, zero, suc, arith, Bool, true, false, if◌then◌else◌, List, [], ◌∷◌, inl, inr, refl, ap, sym, subst, ◌∙◌, map, get_or}
use Rattle.std.specs.List.{All, Contains, list_any}
use Rattle.std.proofs.lemmas.Grind.{common_steps}
use Rattle.std.proofs.lemmas.List.Elements.{All-cons, All-nil, All-head, All-tail, Contains-append_left, Contains-append_right, Contains-append_cases}
use Rattle.std.proofs.lemmas.List.Folds.{list_any_none}
use Rattle.pg_values.specs.declared.value.Value.{Value}
use Rattle.pg_values.specs.declared.ids.LeafId.{LeafId}
use Rattle.bound_forms.specs.declared.partition_bound.Bound.{Bound}
use Rattle.bound_forms.specs.Accepts.{accepts, accepts_among}
use Rattle.history.specs.declared.catalogue.TableShape.{TableShape}
use Rattle.history.specs.declared.catalogue.TableShape.TheVariants.{Leaf, Level}
use Rattle.history.specs.declared.catalogue.Entry.{Entry}
use Rattle.history.specs.Catalogue.{CatalogueEvents, tables_made}
use Rattle.row_router.specs.declared.node.Node.{Node}
use Rattle.row_router.specs.Trees.{TableTree, trees_of, key_of, leaves, all_leaves, accepting, accepting_in}
use Rattle.row_router.specs.Histories.{tree_within, grown, node_at, children, bound_of, child_of_entry}
use Rattle.row_router.proofs.Order.{all_children, under_children}
use Rattle.soundness.specs.Worlds.{World, table_in, IsMade, HasLeaf, Present, Under, key_in, key_at, AcceptsKey, AcceptAbove}
use Rattle.soundness.proofs.Under.{under_top}
use Rattle.soundness.proofs.Listed.{none_in, only_one}

-- ---- one level

-- the leaf is one of a child
abbrev pub IsOfChild : (ℕ → TableTree) → LeafId → Entry → Type 0
IsOfChild f leaf e = Contains (leaves (f e.child.number)) leaf

pub kid_of : (P : Entry → Type 0) (f : ℕ → TableTree) (leaf : LeafId) (es : List Entry) → All P es → Contains (all_leaves (trees_of (map (λ (e : Entry). f (child_of_entry e)) es))) leaf → (e : Entry) × P e × Contains es e × IsOfChild f leaf e
kid_of P f leaf [] all at = absurd (none_in leaf at)
kid_of P f leaf (e ∷ es) all at = elim (Contains-append_cases (leaves (f e.child.number)) (all_leaves (trees_of (map (λ (e : Entry). f (child_of_entry e)) es))) leaf at) [
  | inl here ↦ (e, All-head P e es all, (zero, omega arith, refl), here)
  | inr later ↦
      let its = kid_of P f leaf es (All-tail P e es all) later in
      (its.0, its.1, Contains-append_right (e ∷ []) es its.0 its.2, its.3)
]

-- and among those that accept the row, where the child is the one that the test picks
kid_accepts : (row : List Value) (test : Bound → Bool) (f : ℕ → TableTree) (leaf : LeafId) (es : List Entry) (e : Entry) → Contains es e → test e.bound ≡ true → Contains (accepting row (f e.child.number)) leaf
    → Contains (accepting_in row test (map bound_of es) (trees_of (map (λ (e : Entry). f (child_of_entry e)) es))) leaf
kid_accepts row test f leaf [] e at picks is = absurd (none_in e at)
kid_accepts row test f leaf (x ∷ es) e (zero, lt, at) picks is =
    let rest = accepting_in row test (map bound_of es) (trees_of (map (λ (e : Entry). f (child_of_entry e)) es)) in
    let picks_x : test x.bound ≡ true = ap (λ (z : Entry). test z.bound) at ∙ picks in
    let here : Contains (accepting row (f x.child.number)) leaf = subst (λ (z : Entry). Contains (accepting row (f z.child.number)) leaf) (sym at) is in
    rw picks_x (Contains-append_left (accepting row (f x.child.number)) rest leaf here)
kid_accepts row test f leaf (x ∷ es) e (suc k, lt, at) picks is =
    let rest = accepting_in row test (map bound_of es) (trees_of (map (λ (e : Entry). f (child_of_entry e)) es)) in
    Contains-append_right (if test x.bound then accepting row (f x.child.number) else []) rest leaf (kid_accepts row test f leaf es e (k, omega (arith, lt), at) picks is)

-- ---- the test of a level

refuse_all : (key : List Value) (es : List Entry) → All (λ e. accepts key e.bound ≡ false) es → All (λ b. accepts key b ≡ false) (map bound_of es)
refuse_all key [] all = All-nil (λ b. accepts key b ≡ false)
refuse_all key (e ∷ es) all = All-cons (λ b. accepts key b ≡ false) e.bound (map bound_of es) (All-head (λ (x : Entry). accepts key x.bound ≡ false) e es all) (refuse_all key es (All-tail (λ (x : Entry). accepts key x.bound ≡ false) e es all))

-- what an entry is like that stands below the table
record IsBelow (cats : CatalogueEvents) (w : World) (t : ℕ) (e : Entry) : Type 0 where
  present : Present cats w e
  under : e.parent.number ≡ t

all_below : (cats : CatalogueEvents) (w : World) (entries : List Entry) (t : ℕ) → All (Present cats w) entries → All (IsBelow cats w t) (children entries t)
all_below cats w entries t present k d lt = record { present = all_children (Present cats w) entries t present k d lt; under = under_children entries t k d lt }

others_refuse : (cats : CatalogueEvents) (w : World) (t : ℕ) (key : List Value) (es : List Entry) → All (IsBelow cats w t) es → ((f : Entry) → Present cats w f → f.parent.number ≡ t → accepts key f.bound ≡ false) → list_any (accepts key) (map bound_of es) ≡ false
others_refuse cats w t key es below none = list_any_none (accepts key) (map bound_of es) (refuse_all key es (λ k d lt. none (get_or es k d) (below k d lt).present (below k d lt).under))

picked_by : (cats : CatalogueEvents) (w : World) (t : ℕ) (key : List Value) (es : List Entry) (b : Bound) → All (IsBelow cats w t) es → AcceptsKey cats w t b key → accepts_among (map bound_of es) key b ≡ true
picked_by cats w t key es b below (inl is) = rw is refl
picked_by cats w t key es b below (inr (by_default, none)) =
    let out = others_refuse cats w t key es below none in
    rw (by_default, out) (grind (arith, common_steps))

-- ---- the whole tree

-- the leaf is that of a table below, and accepts the row
abbrev IsFound : CatalogueEvents → World → List Value → LeafId → TableTree → ℕ → Type 0
IsFound cats w row leaf tree t = (x : ℕ) × (m : ℕ) × Under cats w m t x × HasLeaf cats x leaf × Contains (accepting row tree) leaf

-- all that is asked of the entries of a tree
record AreGood (cats : CatalogueEvents) (w : World) (row : List Value) (leaf : LeafId) (entries : List Entry) : Type 0 where
  present : All (Present cats w) entries
  made : (e : Entry) → Present cats w e → IsMade cats e.child.number
  accept : (x : ℕ) → HasLeaf cats x leaf → AcceptAbove cats w x row

found_leaf : (cats : CatalogueEvents) (w : World) (row : List Value) (leaf own : LeafId) (node : Node) (t : ℕ) (bounds : List Bound) (kids : List TableTree) → IsMade cats t → (table_in cats t).shape ≡ Leaf own → Contains (own ∷ []) leaf → IsFound cats w row leaf (grown (Leaf own) node bounds kids) t
found_leaf cats w row leaf own node t bounds kids made is at =
    let same = only_one own leaf at in
    (t, zero, refl, (made, is ∙ ap (λ (l : LeafId). Leaf l) same), at)

found_in : (cats : CatalogueEvents) (w : World) (row : List Value) (leaf : LeafId) (entries : List Entry) (t : ℕ) (node : Node) (f : ℕ → TableTree) (shape : TableShape) → (table_in cats t).shape ≡ shape → IsMade cats t → AreGood cats w row leaf entries
    → ((c : ℕ) → IsMade cats c → Contains (leaves (f c)) leaf → IsFound cats w row leaf (f c) c)
    → Contains (leaves (grown shape node (map bound_of (children entries t)) (map (λ (e : Entry). f (child_of_entry e)) (children entries t)))) leaf
    → IsFound cats w row leaf (grown shape node (map bound_of (children entries t)) (map (λ (e : Entry). f (child_of_entry e)) (children entries t))) t
found_in cats w row leaf entries t node f (Leaf own) is made good each at = found_leaf cats w row leaf own node t (map bound_of (children entries t)) (map (λ (e : Entry). f (child_of_entry e)) (children entries t)) made is at
found_in cats w row leaf entries t node f (Level level) is made good each at =
    let es = children entries t in
    let below = all_below cats w entries t good.present in
    let kid = kid_of (IsBelow cats w t) f leaf es below at in
    let e : Entry = kid.0 in
    let found = each e.child.number (good.made e kid.1.present) kid.3 in
    let accepts_e = good.accept found.0 found.3 e found.1 kid.1.present found.2 in
    let same_key : key_at cats e.parent.number row ≡ key_of level row = ap (λ p. key_at cats p row) kid.1.under ∙ ap (λ s. key_in s row) is in
    let here : AcceptsKey cats w t e.bound (key_of level row) = subst (λ k. AcceptsKey cats w t e.bound k) same_key (subst (λ p. AcceptsKey cats w p e.bound (key_at cats e.parent.number row)) kid.1.under accepts_e) in
    let picks = picked_by cats w t (key_of level row) es e.bound below here in (
      found.0,
      suc found.1,
      subst (λ p. Under cats w (suc found.1) p found.0) kid.1.under (under_top cats w e kid.1.present found.1 found.0 found.2),
      found.3,
      kid_accepts row (accepts_among (map bound_of es) (key_of level row)) f leaf es e kid.2 picks found.4,
    )

found_bare : (cats : CatalogueEvents) (w : World) (row : List Value) (leaf : LeafId) (t : ℕ) (node : Node) (shape : TableShape) → (table_in cats t).shape ≡ shape → IsMade cats t → Contains (leaves (grown shape node [] [])) leaf → IsFound cats w row leaf (grown shape node [] []) t
found_bare cats w row leaf t node (Leaf own) is made at = found_leaf cats w row leaf own node t [] [] made is at
found_bare cats w row leaf t node (Level level) is made at = absurd (none_in leaf at)

found_within : (n : ℕ) (cats : CatalogueEvents) (w : World) (row : List Value) (leaf : LeafId) (entries : List Entry) (named t : ℕ) → AreGood cats w row leaf entries → IsMade cats t → Contains (leaves (tree_within n (tables_made cats) entries named t)) leaf
    → IsFound cats w row leaf (tree_within n (tables_made cats) entries named t) t
found_within zero cats w row leaf entries named t good made at = found_bare cats w row leaf t (node_at (tables_made cats) named t) (table_in cats t).shape refl made at
found_within (suc n) cats w row leaf entries named t good made at =
    found_in cats w row leaf entries t (node_at (tables_made cats) named t) (λ c. tree_within n (tables_made cats) entries named c) (table_in cats t).shape refl made good
    (λ c made_c at_c. found_within n cats w row leaf entries named c good made_c at_c) at

pub accepts_there : (cats : CatalogueEvents) (w : World) (row : List Value) (leaf : LeafId) (entries : List Entry) (table : ℕ) → All (Present cats w) entries → ((e : Entry) → Present cats w e → IsMade cats e.child.number) → ((x : ℕ) → HasLeaf cats x leaf → AcceptAbove cats w x row)
    → IsMade cats table → Contains (leaves (tree_within 7 (tables_made cats) entries table table)) leaf → Contains (accepting row (tree_within 7 (tables_made cats) entries table table)) leaf
accepts_there cats w row leaf entries table present made accept is at = (found_within 7 cats w row leaf entries table table (record { present = present; made = made; accept = accept }) is at).4
