-- Each table of a tree but its top is a partition of another table of the tree.
use Rattle.std.proofs.Common.{◌≡◌, ℕ, zero, suc, ◌⊎◌, arith, refl, sym, subst, List, [], ◌∷◌, map, get_or, inl, inr}
use Rattle.std.specs.List.{All, Contains}
use Rattle.std.proofs.lemmas.List.Elements.{All-append, All-cons, All-head, All-tail, All-nil, All-contains_itself, Contains-append_left, Contains-append_right}
use Rattle.pg_values.specs.declared.ids.TableNo.{TableNo}
use Rattle.bound_forms.specs.declared.partition_bound.Bound.{Bound}
use Rattle.history.specs.declared.catalogue.Entry.{Entry}
use Rattle.history.specs.declared.catalogue.Table.{Table}
use Rattle.history.specs.declared.catalogue.TableShape.{TableShape}
use Rattle.history.specs.declared.catalogue.TableShape.TheVariants.{Leaf, Level}
use Rattle.history.specs.Catalogue.{tables_made}
use Rattle.history.specs.History.{History, catalogue_events}
use Rattle.history.specs.Places.{table_at}
use Rattle.history.specs.Presence.{entries_present}
use Rattle.row_router.specs.declared.node.Node.{Node}
use Rattle.row_router.specs.Trees.{TableTree, trees_of}
use Rattle.row_router.specs.Histories.{ddl_tree, tree_within, grown, node_at, children, bound_of, child_of_entry}
use Rattle.row_router.proofs.Order.{all_children, under_children}
use Rattle.part_ddl.specs.Below.{tables_in, all_tables, tables_from}

-- a table of that number is in the list
abbrev pub IsIn : List TableNo → ℕ → Type 0
IsIn ts n = (y : TableNo) × Contains ts y × (y.number ≡ n)

-- it is the top, or an entry leads to it from a table in the list
abbrev pub IsLed : List Entry → List TableNo → ℕ → TableNo → Type 0
IsLed entries ts top x = (x.number ≡ top) ⊎ ((e : Entry) × Contains entries e × (e.child.number ≡ x.number) × IsIn ts e.parent.number)

record IsKid (entries : List Entry) (t : ℕ) (e : Entry) : Type 0 where
  there : Contains entries e
  under : e.parent.number ≡ t

are_kids : (entries : List Entry) (t : ℕ) → All (IsKid entries t) (children entries t)
are_kids entries t k d lt = record { there = all_children (Contains entries) entries t (All-contains_itself entries) k d lt; under = under_children entries t k d lt }

-- what is led to within a part is led to within the whole
led_from : (entries : List Entry) (t : ℕ) (e : Entry) (x : TableNo) (part whole : List TableNo) → IsKid entries t e → IsIn whole t → ((y : TableNo) → Contains part y → Contains whole y) → IsLed entries part e.child.number x → IsLed entries whole t x
led_from entries t e x part whole kid top more (inl is) = inr (e, kid.there, sym is, subst (IsIn whole) (sym kid.under) top)
led_from entries t e x part whole kid top more (inr (g, there, child, (y, inside, number))) = inr (g, there, child, (y, more y inside, number))

kids_led : (entries : List Entry) (t : ℕ) (f : ℕ → TableTree) (es : List Entry) (whole : List TableNo) → ((c : ℕ) → All (IsLed entries (tables_in (f c)) c) (tables_in (f c))) → All (IsKid entries t) es → IsIn whole t → ((y : TableNo) → Contains (all_tables (trees_of (map (λ (e : Entry). f (child_of_entry e)) es))) y → Contains whole y)
    → All (IsLed entries whole t) (all_tables (trees_of (map (λ (e : Entry). f (child_of_entry e)) es)))
kids_led entries t f [] whole each kids top more = All-nil (IsLed entries whole t)
kids_led entries t f (e ∷ es) whole each kids top more =
    let part = tables_in (f (child_of_entry e)) in
    let rest = all_tables (trees_of (map (λ (x : Entry). f (child_of_entry x)) es)) in
    let own = All-head (IsKid entries t) e es kids in
    All-append (IsLed entries whole t) part rest
    (λ k d lt. led_from entries t e (get_or part k d) part whole own top (λ y inside. more y (Contains-append_left part rest y inside)) (each (child_of_entry e) k d lt))
    (kids_led entries t f es whole each (All-tail (IsKid entries t) e es kids) top (λ y inside. more y (Contains-append_right part rest y inside)))

grown_led : (entries : List Entry) (t : ℕ) (f : ℕ → TableTree) (es : List Entry) (shape : TableShape) (node : Node) (bounds : List Bound) → node.table.number ≡ t → ((c : ℕ) → All (IsLed entries (tables_in (f c)) c) (tables_in (f c))) → All (IsKid entries t) es
    → All (IsLed entries (tables_in (grown shape node bounds (map (λ (e : Entry). f (child_of_entry e)) es))) t) (tables_in (grown shape node bounds (map (λ (e : Entry). f (child_of_entry e)) es)))
grown_led entries t f es (Leaf leaf) node bounds is each kids = All-cons (IsLed entries (node.table ∷ []) t) node.table [] (inl is) (All-nil (IsLed entries (node.table ∷ []) t))
grown_led entries t f es (Level level) node bounds is each kids =
    let below = all_tables (trees_of (map (λ (e : Entry). f (child_of_entry e)) es)) in
    let whole = node.table ∷ below in
    let first : Contains whole node.table = (0, omega arith, refl) in
    All-cons (IsLed entries whole t) node.table below (inl is) (kids_led entries t f es whole each kids (node.table, first, is) (λ y inside. Contains-append_right (node.table ∷ []) below y inside))

bare_led : (entries : List Entry) (t : ℕ) (shape : TableShape) (node : Node) → node.table.number ≡ t → All (IsLed entries (tables_in (grown shape node [] [])) t) (tables_in (grown shape node [] []))
bare_led entries t (Leaf leaf) node is = All-cons (IsLed entries (node.table ∷ []) t) node.table [] (inl is) (All-nil (IsLed entries (node.table ∷ []) t))
bare_led entries t (Level level) node is = All-cons (IsLed entries (node.table ∷ []) t) node.table [] (inl is) (All-nil (IsLed entries (node.table ∷ []) t))

led : (n : ℕ) (tables : List Table) (entries : List Entry) (named t : ℕ) → All (IsLed entries (tables_in (tree_within n tables entries named t)) t) (tables_in (tree_within n tables entries named t))
led zero tables entries named t = bare_led entries t (table_at tables t).shape (node_at tables named t) refl
led (suc n) tables entries named t =
    grown_led entries t (λ c. tree_within n tables entries named c) (children entries t) (table_at tables t).shape (node_at tables named t) (map bound_of (children entries t)) refl (λ c. led n tables entries named c) (are_kids entries t)

pub all_led : (h : History) (s t : ℕ) → All (IsLed (entries_present h s) (tables_from h s t) t) (tables_from h s t)
unfolding Rattle.row_router.specs.Histories.ddl_tree
all_led h s t = led 7 (tables_made (catalogue_events h)) (entries_present h s) t t
