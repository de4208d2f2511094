-- In a forest each table stands in a tree once.
use Rattle.std.proofs.Common.{◌≡◌, ◌≢◌, ℕ, zero, suc, ◌<◌, ◌++◌, arith, ap, refl, sym, subst, ◌∙◌, List, [], ◌∷◌, filter, map, length, get_or, inl, inr}
use Rattle.std.specs.List.{All, AllPairs, Contains}
use Rattle.std.proofs.lemmas.Grind.{common_steps, elements}
use Rattle.std.proofs.lemmas.Bool.{cases_Bool, cases_lt}
use Rattle.std.proofs.lemmas.List.Elements.{All-append, All-cons, All-head, All-tail, All-nil, All-contains_itself}
use Rattle.std.proofs.lemmas.List.Kept.{AllPairs-cons, AllPairs-filter}
use Rattle.pg_values.specs.declared.ids.TableNo.{TableNo}
use Rattle.bound_forms.specs.declared.partition_bound.Bound.{Bound}
use Rattle.bound_forms.specs.Bounds.{comes_after}
use Rattle.history.specs.declared.catalogue.Entry.{Entry}
use Rattle.history.specs.declared.catalogue.Table.{Table}
use Rattle.history.specs.declared.catalogue.TableShape.{TableShape}
use Rattle.history.specs.declared.catalogue.TableShape.TheVariants.{Leaf, Level}
use Rattle.history.specs.Catalogue.{tables_made}
use Rattle.history.specs.History.{catalogue_events}
use Rattle.history.specs.Places.{table_at}
use Rattle.history.specs.Presence.{entries_present}
use Rattle.row_router.specs.declared.node.Node.{Node}
use Rattle.row_router.specs.Trees.{TableTree, trees_of}
use Rattle.row_router.specs.Histories.{ddl_tree, tree_within, grown, node_at, placed, all_placed, children, is_under, bound_of, child_of_entry}
use Rattle.row_router.proofs.Order.{all_children, under_children}
use Rattle.part_ddl.specs.Below.{tables_in, all_tables}
use Rattle.part_ddl.specs.Dropped.{AreTwo}
use Rattle.part_ddl.specs.Laws.{IsWay, IsForest, HaveTwoChildren, TablesStandOnce}

-- ---- ways

-- a step more at the top
way_from : (entries : List Entry) (e : Entry) (n x : ℕ) → Contains entries e → IsWay entries n e.child.number x → IsWay entries (suc n) e.parent.number x
way_from entries e zero x there way = (e, there, way, refl)
way_from entries e (suc n) x there way = (way.0, way.1, way.2, way_from entries e n way.0.parent.number there way.3)

get_or_any : (xs : List Entry) (i : ℕ) (d e : Entry) → i < length xs → get_or xs i d ≡ get_or xs i e
get_or_any xs i d e lt = grind (arith, common_steps, elements)

one_entry : (entries : List Entry) (e f : Entry) → AllPairs HaveTwoChildren entries → Contains entries e → Contains entries f → e.child.number ≡ f.child.number → e ≡ f
one_entry entries e f one a b same = elim (cases_lt a.0 b.0) [
  | inl before ↦
      let first : get_or entries a.0 e ≡ e = a.2 in
      let second : get_or entries b.0 e ≡ f = get_or_any entries b.0 e f b.1 ∙ b.2 in
      let equal : (get_or entries a.0 e).child.number ≡ (get_or entries b.0 e).child.number = ap (λ (x : Entry). x.child.number) first ∙ same ∙ sym (ap (λ (x : Entry). x.child.number) second) in
      absurd (one a.0 b.0 e before b.1 equal)
  | inr after ↦ elim (cases_lt b.0 a.0) [
    | inl before ↦
        let first : get_or entries b.0 f ≡ f = b.2 in
        let second : get_or entries a.0 f ≡ e = get_or_any entries a.0 f e a.1 ∙ a.2 in
        let equal : (get_or entries b.0 f).child.number ≡ (get_or entries a.0 f).child.number = ap (λ (x : Entry). x.child.number) first ∙ sym same ∙ sym (ap (λ (x : Entry). x.child.number) second) in
        absurd (one b.0 a.0 f before a.1 equal)
    | inr late ↦
        let at : a.0 ≡ b.0 = omega (arith, after, late) in
        sym a.2 ∙ ap (λ n. get_or entries n e) at ∙ get_or_any entries b.0 e f b.1 ∙ b.2
  ]
]

-- two ways down from one table through two of its partitions do not meet
never_meet : (entries : List Entry) (e f : Entry) (m n x : ℕ) → IsForest entries → Contains entries e → Contains entries f → e.parent.number ≡ f.parent.number → e.child.number ≢ f.child.number → IsWay entries m e.child.number x → IsWay entries n f.child.number x → ⊥
never_meet entries e f zero zero x forest a b parent two way other = two (way ∙ sym other)
never_meet entries e f zero (suc n) x forest a b parent two way other =
    let same : e ≡ other.0 = one_entry entries e other.0 forest.one_parent a other.1 (way ∙ sym other.2) in
    let up : IsWay entries n f.child.number f.parent.number = subst (IsWay entries n f.child.number) (ap (λ (z : Entry). z.parent.number) (sym same) ∙ parent) other.3 in
    forest.no_cycle n f.parent.number (way_from entries f n f.parent.number b up)
never_meet entries e f (suc m) zero x forest a b parent two way other =
    let same : f ≡ way.0 = one_entry entries f way.0 forest.one_parent b way.1 (other ∙ sym way.2) in
    let up : IsWay entries m e.child.number e.parent.number = subst (IsWay entries m e.child.number) (ap (λ (z : Entry). z.parent.number) (sym same) ∙ sym parent) way.3 in
    forest.no_cycle m e.parent.number (way_from entries e m e.parent.number a up)
never_meet entries e f (suc m) (suc n) x forest a b parent two way other =
    let same : way.0 ≡ other.0 = one_entry entries way.0 other.0 forest.one_parent way.1 other.1 (way.2 ∙ sym other.2) in
    let up : IsWay entries n f.child.number way.0.parent.number = subst (IsWay entries n f.child.number) (ap (λ (z : Entry). z.parent.number) (sym same)) other.3 in
    never_meet entries e f m n way.0.parent.number forest a b parent two way.3 up

-- ---- the entries below a table in plain order have two children, too

turn_two : (a b : Entry) → HaveTwoChildren a b → HaveTwoChildren b a
turn_two a b two same = two (sym same)

all_placed_one : (P : Entry → Type 0) (e : Entry) (xs : List Entry) → P e → All P xs → All P (placed e xs)
all_placed_one P e [] h all = All-cons P e [] h all
all_placed_one P e (x ∷ xs) h all = elim (cases_Bool (comes_after x.bound e.bound)) [
  | inl y ↦ rw y (All-cons P e (x ∷ xs) h all)
  | inr n ↦ rw n (All-cons P x (placed e xs) (All-head P x xs all) (all_placed_one P e xs h (All-tail P x xs all)))
]

pairs_head : (x : Entry) (xs : List Entry) → AllPairs HaveTwoChildren (x ∷ xs) → All (HaveTwoChildren x) xs
pairs_head x xs h i d lt = h 0 (suc i) d (omega arith) (omega arith)

pairs_tail : (x : Entry) (xs : List Entry) → AllPairs HaveTwoChildren (x ∷ xs) → AllPairs HaveTwoChildren xs
pairs_tail x xs h i j d lt le = h (suc i) (suc j) d (omega arith) (omega arith)

pairs_placed : (e : Entry) (xs : List Entry) → All (HaveTwoChildren e) xs → AllPairs HaveTwoChildren xs → AllPairs HaveTwoChildren (placed e xs)
pairs_placed e [] h pairs = AllPairs-cons HaveTwoChildren e [] h pairs
pairs_placed e (x ∷ xs) h pairs = elim (cases_Bool (comes_after x.bound e.bound)) [
  | inl y ↦ rw y (AllPairs-cons HaveTwoChildren e (x ∷ xs) h pairs)
  | inr n ↦
      let first : All (HaveTwoChildren x) (placed e xs) = all_placed_one (HaveTwoChildren x) e xs (turn_two e x (All-head (HaveTwoChildren e) x xs h)) (pairs_head x xs pairs) in
      rw n (AllPairs-cons HaveTwoChildren x (placed e xs) first (pairs_placed e xs (All-tail (HaveTwoChildren e) x xs h) (pairs_tail x xs pairs)))
]

abbrev Across : List Entry → List Entry → Type 0
Across more done = All (λ e. All (HaveTwoChildren e) done) more

across_more : (e : Entry) (more done : List Entry) → All (HaveTwoChildren e) more → Across more done → Across more (placed e done)
across_more e [] done h across = All-nil (λ x. All (HaveTwoChildren x) (placed e done))
across_more e (x ∷ more) done h across =
    All-cons (λ y. All (HaveTwoChildren y) (placed e done)) x more
    (all_placed_one (HaveTwoChildren x) e done (turn_two e x (All-head (HaveTwoChildren e) x more h)) (All-head (λ y. All (HaveTwoChildren y) done) x more across))
    (across_more e more done (All-tail (HaveTwoChildren e) x more h) (All-tail (λ y. All (HaveTwoChildren y) done) x more across))

pairs_all_placed : (done es : List Entry) → AllPairs HaveTwoChildren done → AllPairs HaveTwoChildren es → Across es done → AllPairs HaveTwoChildren (all_placed done es)
pairs_all_placed done [] d h across = d
pairs_all_placed done (e ∷ es) d h across =
    pairs_all_placed (placed e done) es (pairs_placed e done (All-head (λ y. All (HaveTwoChildren y) done) e es across) d) (pairs_tail e es h)
    (across_more e es done (pairs_head e es h) (All-tail (λ y. All (HaveTwoChildren y) done) e es across))

across_none : (es : List Entry) → Across es []
across_none [] = All-nil (λ y. All (HaveTwoChildren y) [])
across_none (e ∷ es) = All-cons (λ y. All (HaveTwoChildren y) []) e es (All-nil (HaveTwoChildren e)) (across_none es)

children_two : (entries : List Entry) (t : ℕ) → AllPairs HaveTwoChildren entries → AllPairs HaveTwoChildren (children entries t)
children_two entries t h =
    let under = filter (is_under t) entries in
    pairs_all_placed [] under (λ i j d lt le. absurd (omega arith)) (AllPairs-filter HaveTwoChildren (is_under t) entries h) (across_none under)

-- ---- each table of a tree has a way from its top

abbrev HasWay : List Entry → ℕ → TableNo → Type 0
HasWay entries t x = (n : ℕ) × IsWay entries n t x.number

record IsKid (entries : List Entry) (t : ℕ) (e : Entry) : Type 0 where
  there : Contains entries e
  under : e.parent.number ≡ t

are_kids : (entries : List Entry) (t : ℕ) → All (IsKid entries t) (children entries t)
are_kids entries t k d lt = record { there = all_children (Contains entries) entries t (All-contains_itself entries) k d lt; under = under_children entries t k d lt }

ways_on : (entries : List Entry) (t : ℕ) (e : Entry) (ts : List TableNo) → IsKid entries t e → All (HasWay entries e.child.number) ts → All (HasWay entries t) ts
ways_on entries t e ts kid h k d lt =
    let w = h k d lt in
    (suc w.0, subst (λ p. IsWay entries (suc w.0) p (get_or ts k d).number) kid.under (way_from entries e w.0 (get_or ts k d).number kid.there w.1))

kids_ways : (entries : List Entry) (t : ℕ) (f : ℕ → TableTree) (es : List Entry) → ((c : ℕ) → All (HasWay entries c) (tables_in (f c))) → All (IsKid entries t) es → All (HasWay entries t) (all_tables (trees_of (map (λ (e : Entry). f (child_of_entry e)) es)))
kids_ways entries t f [] each kids = All-nil (HasWay entries t)
kids_ways entries t f (e ∷ es) each kids =
    All-append (HasWay entries t) (tables_in (f (child_of_entry e))) (all_tables (trees_of (map (λ (x : Entry). f (child_of_entry x)) es)))
    (ways_on entries t e (tables_in (f (child_of_entry e))) (All-head (IsKid entries t) e es kids) (each (child_of_entry e)))
    (kids_ways entries t f es each (All-tail (IsKid entries t) e es kids))

grown_ways : (entries : List Entry) (t : ℕ) (shape : TableShape) (node : Node) (bounds : List Bound) (kids : List TableTree) → node.table.number ≡ t → All (HasWay entries t) (all_tables (trees_of kids)) → All (HasWay entries t) (tables_in (grown shape node bounds kids))
grown_ways entries t (Leaf leaf) node bounds kids is h = All-cons (HasWay entries t) node.table [] (0, sym is) (All-nil (HasWay entries t))
grown_ways entries t (Level level) node bounds kids is h = All-cons (HasWay entries t) node.table (all_tables (trees_of kids)) (0, sym is) h

ways : (n : ℕ) (tables : List Table) (entries : List Entry) (named t : ℕ) → All (HasWay entries t) (tables_in (tree_within n tables entries named t))
ways zero tables entries named t = grown_ways entries t (table_at tables t).shape (node_at tables named t) [] [] refl (All-nil (HasWay entries t))
ways (suc n) tables entries named t =
    grown_ways entries t (table_at tables t).shape (node_at tables named t) (map bound_of (children entries t)) (map (λ (e : Entry). tree_within n tables entries named (child_of_entry e)) (children entries t)) refl
    (kids_ways entries t (λ c. tree_within n tables entries named c) (children entries t) (λ c. ways n tables entries named c) (are_kids entries t))

-- ---- no table twice

joined : (xs ys : List TableNo) → AllPairs AreTwo xs → AllPairs AreTwo ys → All (λ x. All (AreTwo x) ys) xs → AllPairs AreTwo (xs ++ ys)
joined [] ys a b across = b
joined (x ∷ xs) ys a b across =
    AllPairs-cons AreTwo x (xs ++ ys)
    (All-append (AreTwo x) xs ys (λ i d lt. a 0 (suc i) d (omega arith) (omega arith)) (All-head (λ z. All (AreTwo z) ys) x xs across))
    (joined xs ys (λ i j d lt le. a (suc i) (suc j) d (omega arith) (omega arith)) b (All-tail (λ z. All (AreTwo z) ys) x xs across))

-- what is below one partition is not below another
apart : (entries : List Entry) (t : ℕ) (e : Entry) (x : TableNo) (f : ℕ → TableTree) (es : List Entry) → IsForest entries → IsKid entries t e → HasWay entries e.child.number x → ((c : ℕ) → All (HasWay entries c) (tables_in (f c))) → All (IsKid entries t) es → All (HaveTwoChildren e) es → All (AreTwo x) (all_tables (trees_of (map (λ (y : Entry). f (child_of_entry y)) es)))
apart entries t e x f [] forest kid way each kids two = All-nil (AreTwo x)
apart entries t e x f (g ∷ es) forest kid way each kids two =
    let own = All-head (IsKid entries t) g es kids in
    let here : All (AreTwo x) (tables_in (f (child_of_entry g))) = λ k d lt same.
    let other = each (child_of_entry g) k d lt in
    never_meet entries e g way.0 other.0 x.number forest kid.there own.there (kid.under ∙ sym own.under) (All-head (HaveTwoChildren e) g es two) way.1 (subst (IsWay entries other.0 g.child.number) (sym same) other.1) in
    All-append (AreTwo x) (tables_in (f (child_of_entry g))) (all_tables (trees_of (map (λ (y : Entry). f (child_of_entry y)) es))) here
    (apart entries t e x f es forest kid way each (All-tail (IsKid entries t) g es kids) (All-tail (HaveTwoChildren e) g es two))

kids_once : (entries : List Entry) (t : ℕ) (f : ℕ → TableTree) (es : List Entry) → IsForest entries → ((c : ℕ) → AllPairs AreTwo (tables_in (f c))) → ((c : ℕ) → All (HasWay entries c) (tables_in (f c))) → All (IsKid entries t) es → AllPairs HaveTwoChildren es → AllPairs AreTwo (all_tables (trees_of (map (λ (e : Entry). f (child_of_entry e)) es)))
kids_once entries t f [] forest once each kids two = λ i j d lt le. absurd (omega arith)
kids_once entries t f (e ∷ es) forest once each kids two =
    let own = All-head (IsKid entries t) e es kids in
    let others = All-tail (IsKid entries t) e es kids in
    joined (tables_in (f (child_of_entry e))) (all_tables (trees_of (map (λ (x : Entry). f (child_of_entry x)) es))) (once (child_of_entry e)) (kids_once entries t f es forest once each others (pairs_tail e es two))
    (λ k d lt. apart entries t e (get_or (tables_in (f (child_of_entry e))) k d) f es forest own (each (child_of_entry e) k d lt) each others (pairs_head e es two))

-- nor is the table itself below one of its partitions
below_itself : (entries : List Entry) (t : ℕ) (f : ℕ → TableTree) (es : List Entry) (top : TableNo) → IsForest entries → top.number ≡ t → ((c : ℕ) → All (HasWay entries c) (tables_in (f c))) → All (IsKid entries t) es → All (AreTwo top) (all_tables (trees_of (map (λ (e : Entry). f (child_of_entry e)) es)))
below_itself entries t f [] top forest is each kids = All-nil (AreTwo top)
below_itself entries t f (e ∷ es) top forest is each kids =
    let own = All-head (IsKid entries t) e es kids in
    let here : All (AreTwo top) (tables_in (f (child_of_entry e))) = λ k d lt same.
    let way = each (child_of_entry e) k d lt in
    let down : IsWay entries way.0 e.child.number e.parent.number = subst (IsWay entries way.0 e.child.number) (sym same ∙ is ∙ sym own.under) way.1 in
    forest.no_cycle way.0 e.parent.number (way_from entries e way.0 e.parent.number own.there down) in
    All-append (AreTwo top) (tables_in (f (child_of_entry e))) (all_tables (trees_of (map (λ (x : Entry). f (child_of_entry x)) es))) here
    (below_itself entries t f es top forest is each (All-tail (IsKid entries t) e es kids))

grown_once : (shape : TableShape) (node : Node) (bounds : List Bound) (kids : List TableTree) → All (AreTwo node.table) (all_tables (trees_of kids)) → AllPairs AreTwo (all_tables (trees_of kids)) → AllPairs AreTwo (tables_in (grown shape node bounds kids))
grown_once (Leaf leaf) node bounds kids first rest = AllPairs-cons AreTwo node.table [] (All-nil (AreTwo node.table)) (λ i j d lt le. absurd (omega arith))
grown_once (Level level) node bounds kids first rest = AllPairs-cons AreTwo node.table (all_tables (trees_of kids)) first rest

once : (n : ℕ) (tables : List Table) (entries : List Entry) (named t : ℕ) → IsForest entries → AllPairs AreTwo (tables_in (tree_within n tables entries named t))
once zero tables entries named t forest = grown_once (table_at tables t).shape (node_at tables named t) [] [] (All-nil (AreTwo (node_at tables named t).table)) (λ i j d lt le. absurd (omega arith))
once (suc n) tables entries named t forest =
    let es = children entries t in
    let f : ℕ → TableTree = λ c. tree_within n tables entries named c in
    grown_once (table_at tables t).shape (node_at tables named t) (map bound_of es) (map (λ (e : Entry). f (child_of_entry e)) es)
    (below_itself entries t f es (node_at tables named t).table forest refl (λ c. ways n tables entries named c) (are_kids entries t))
    (kids_once entries t f es forest (λ c. once n tables entries named c forest) (λ c. ways n tables entries named c) (are_kids entries t) (children_two entries t forest.one_parent))

pub tables_stand_once : TablesStandOnce
unfolding Rattle.row_router.specs.Histories.ddl_tree
tables_stand_once h session table forest = once 7 (tables_made (catalogue_events h)) (entries_present h session) table table forest
