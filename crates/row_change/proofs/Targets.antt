-- A row may be asked of the path of each target.
use Rattle.std.proofs.Common.{◌≡◌, ℕ, zero, suc, ◌+◌, ◌<◌, ◌==◌, ◌||◌, arith, ap, refl, Bool, true, false, List, [], ◌∷◌, ◌++◌, Option, Some, None, Ok, get_or, sym, subst, ◌∙◌, length, inl, inr}
use Rattle.std.specs.Prelude.{is_some}
use Rattle.std.specs.List.{All, list_any}
use Rattle.std.proofs.lemmas.Bool.{cases_lt}
use Rattle.std.proofs.lemmas.Bool.Decides.{nat_tests}
use Rattle.std.proofs.lemmas.List.{get_or_default}
use Rattle.std.proofs.lemmas.List.Folds.{list_any-append}
use Rattle.std.proofs.lemmas.List.Elements.{All-cons, All-head, All-tail}
use Rattle.pg_values.specs.declared.value.Value.{Value}
use Rattle.pg_values.specs.declared.ids.LeafId.{LeafId}
use Rattle.pg_values.specs.declared.ids.TableNo.{TableNo}
use Rattle.history.specs.Catalogue.{tables_made}
use Rattle.history.specs.History.{catalogue_events}
use Rattle.row_router.specs.Histories.{tree_of}
use Rattle.row_router.specs.Trees.{TableTree, LeafTable, LevelTable, Trees, End, More, child_of, routed, routed_in}
use Rattle.row_change.specs.Laws.{IsRowIn}
use Rattle.row_change.specs.Placing.{IsNumbered}
use Rattle.row_change.specs.declared.target.Target.{Target}
use Rattle.row_change.specs.Storing.{is_into}
use Rattle.row_change.specs.Targets.{last_table, HasWay, HasTarget, RoutedHaveWays, TargetsFit}
use Rattle.row_change.specs.Ways.{AllTables, root, way_to, way_to_one, first_way}
use Rattle.row_change.proofs.Fit.{paths_fit}
use Rattle.row_change.proofs.Made.{row_links, tree_all, paths_are_made}
use Rattle.row_change.proofs.Ways.{all_root, all_to}

last_of : (P : TableNo → Type 0) (t : TableNo) (tables : List TableNo) → P t → All P tables → P (last_table t tables)
last_of P t [] here all = here
last_of P t (x ∷ xs) here all = last_of P x xs (All-head P x xs all) (All-tail P x xs all)

-- what holds of all tables of a tree holds of the last on a way
pub last_in_tree : (P : TableNo → Type 0) (tree : TableTree) (tables : List TableNo) → AllTables P tree → All P tables → P (last_table (root tree) tables)
last_in_tree P tree tables all on = last_of P (root tree) tables (all_root P tree all) on

pub targets_fit : TargetsFit
targets_fit h session t snap row target sound siblings is of =
    let tree = tree_of h session t.number snap in
    let all : AllTables (IsRowIn h row) tree = tree_all h session t snap (IsRowIn h row) (row_links h row) sound is in
    let on : All (IsRowIn h row) of.tables = all_to (IsRowIn h row) target.leaf tree of.tables all of.way in
    let at : IsRowIn h row target.table = subst (IsRowIn h row) (sym of.table) (last_in_tree (IsRowIn h row) tree of.tables all on) in
    let made = length (tables_made (catalogue_events h)) in (
      of.path.fits row (paths_fit h session target.table row sound siblings at),
      (at.0, of.path.numbered made (paths_are_made h session target.table sound at.0)),
    )

-- ---- the leaf of a row has a way

abbrev IsWay : Option (List TableNo) → Type 0
IsWay way = is_some way ≡ true

way_first : (t : TableNo) (way others : Option (List TableNo)) → IsWay way → IsWay (first_way t way others)
way_first t None others is = absurd (cc)
way_first t (Some tables) others is = refl

way_later : (t : TableNo) (way others : Option (List TableNo)) → IsWay others → IsWay (first_way t way others)
way_later t None others is = is
way_later t (Some tables) others is = refl

mutual
  way_is : (row : List Value) (t : TableTree) (leaf : LeafId) → routed row t ≡ Ok leaf → IsWay (way_to leaf t)
  way_is row (LeafTable node own) leaf is =
      let same : own ≡ leaf = cc in
      let number : own.number ≡ leaf.number = ap (λ (l : LeafId). l.number) same in
      let test : (own.number == leaf.number) ≡ true = grind (arith, nat_tests, number) in
      rw test refl
  way_is row (LevelTable node level bounds kids) leaf is = way_is_in row node.table (child_of level bounds row) kids leaf is

  way_is_in : (row : List Value) (table : TableNo) (at : Option ℕ) (kids : Trees) (leaf : LeafId) → routed_in row table at kids ≡ Ok leaf → IsWay (way_to_one leaf kids)
  way_is_in row table None kids leaf is = absurd (cc)
  way_is_in row table (Some i) End leaf is = absurd (cc)
  way_is_in row table (Some zero) (More k ks) leaf is = way_first (root k) (way_to leaf k) (way_to_one leaf ks) (way_is row k leaf is)
  way_is_in row table (Some (suc i)) (More k ks) leaf is = way_later (root k) (way_to leaf k) (way_to_one leaf ks) (way_is_in row table (Some i) ks leaf is)

pub way_of_routed : (row : List Value) (tree : TableTree) (leaf : LeafId) → Ok leaf ≡ routed row tree → HasWay tree leaf
way_of_routed row tree leaf is = way_is row tree leaf (sym is)

pub routed_have_ways : RoutedHaveWays
routed_have_ways row tree leaf is = way_is row tree leaf is

-- ---- targets so far

-- the first of the leaves, so many, have targets
abbrev pub HaveTargets : TableTree → List Target → List LeafId → ℕ → Type 0
HaveTargets tree targets leaves n = (k : ℕ) (d : LeafId) → k < n → k < length leaves → HasWay tree (get_or leaves k d) → HasTarget targets (get_or leaves k d)

left_or : (a b : Bool) → a ≡ true → (a || b) ≡ true
left_or true b is = refl
left_or false b is = absurd (cc)

right_or : (a b : Bool) → b ≡ true → (a || b) ≡ true
right_or true b is = refl
right_or false b is = is

-- another target takes none away
pub still_has : (targets : List Target) (t : Target) (leaf : LeafId) → HasTarget targets leaf → HasTarget (targets ++ t ∷ []) leaf
still_has targets t leaf is = list_any-append (is_into leaf) targets (t ∷ []) ∙ left_or (list_any (is_into leaf) targets) (list_any (is_into leaf) (t ∷ [])) is

pub now_has : (targets : List Target) (t : Target) (leaf : LeafId) → t.leaf ≡ leaf → HasTarget (targets ++ t ∷ []) leaf
now_has targets t leaf is =
    let number : t.leaf.number ≡ leaf.number = ap (λ (l : LeafId). l.number) is in
    let test : (t.leaf.number == leaf.number) ≡ true = grind (arith, nat_tests, number) in
    list_any-append (is_into leaf) targets (t ∷ []) ∙ right_or (list_any (is_into leaf) targets) (list_any (is_into leaf) (t ∷ [])) (left_or (t.leaf.number == leaf.number) false test)

-- and then one leaf more
one_more_has : (tree : TableTree) (old new : List Target) (leaves : List LeafId) (i : ℕ) (leaf : LeafId) → ((l : LeafId) → HasTarget old l → HasTarget new l) → i < length leaves → leaf ≡ get_or leaves i leaf → (HasWay tree leaf → HasTarget new leaf) → HaveTargets tree old leaves i → HaveTargets tree new leaves (i + 1)
one_more_has tree old new leaves i leaf keeps within is here have k d lt inside way = elim (cases_lt k i) [
  | inl before ↦ keeps (get_or leaves k d) (have k d before inside way)
  | inr last ↦
      let same : k ≡ i = omega (arith, lt, last) in
      let at : leaf ≡ get_or leaves k d = is ∙ (get_or_default leaves i leaf d within ∙ ap (λ n. get_or leaves n d) (sym same)) in
      subst (HasTarget new) at (here (subst (HasWay tree) (sym at) way))
]

-- and one more of which it holds
pub one_more_of : {X : Type 0} (P : X → Type 0) (targets : List X) (t : X) → P t → All P targets → All P (targets ++ t ∷ [])
one_more_of P [] t is all = All-cons P t [] is all
one_more_of P (x ∷ targets) t is all = All-cons P x (targets ++ t ∷ []) (All-head P x targets all) (one_more_of P targets t is (All-tail P x targets all))

-- the last table on a way is made
pub last_is_made : (n : ℕ) (tree : TableTree) (leaf : LeafId) (tables : List TableNo) (t : TableNo) → IsNumbered n tree → way_to leaf tree ≡ Some tables → t ≡ last_table (root tree) tables → t.number < n
last_is_made n tree leaf tables t known way is =
    subst (λ (x : TableNo). x.number < n) (sym is) (last_in_tree (λ x. x.number < n) tree tables known (all_to (λ x. x.number < n) leaf tree tables known way))

pub one_more_read : (tree : TableTree) (old new : List Target) (leaves : List LeafId) (i : ℕ) (d : LeafId) → ((l : LeafId) → HasTarget old l → HasTarget new l) → i < length leaves → (HasWay tree (get_or leaves i d) → HasTarget new (get_or leaves i d)) → HaveTargets tree old leaves i → HaveTargets tree new leaves (i + 1)
one_more_read tree old new leaves i d keeps within here have = one_more_has tree old new leaves i (get_or leaves i d) keeps within (get_or_default leaves i d (get_or leaves i d) within) here have
