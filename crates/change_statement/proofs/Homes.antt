-- The tables of a tree, and which of them has a leaf.
use Rattle.std.proofs.Common.{◌≡◌, Bool, true, false, if◌then◌else◌, List, [], ◌∷◌, ◌++◌, refl, subst, inl, inr, All, map}
use Rattle.std.specs.List.{Contains}
use Rattle.std.proofs.lemmas.List.{map-append}
use Rattle.std.proofs.lemmas.List.Elements.{All-nil, All-cons, All-append, Contains-append_left, Contains-append_right, Contains-append_cases}
use Rattle.pg_values.specs.declared.ids.LeafId.{LeafId}
use Rattle.pg_values.specs.declared.ids.TableNo.{TableNo}
use Rattle.bound_forms.specs.declared.partition_bound.Bound.{Bound}
use Rattle.row_router.specs.Trees.{TableTree, LeafTable, LevelTable, Trees, End, More, leaves, all_leaves}
use Rattle.legal_statements.specs.Below.{tables_in, all_tables}
use Rattle.row_change.specs.Ways.{AllTables, AllTablesOf, root}
use Rattle.cond_logic.specs.Tables.{Leaf}
use Rattle.plan_tree.specs.Kept.{Keeps, id_of, leaf_of, keeps_plain, leaves_below, leaves_among, kept_leaves, node_of, led, kept_tables, tables_among}
use Rattle.statement_steps.specs.Below.{below}
use Rattle.soundness.proofs.Listed.{none_in, first_in, only_one}
use Rattle.row_change.proofs.Trees.{AtHome, AllAtHome}

-- ---- the tables as a list

mutual
  pub all_in : (P : TableNo → Type 0) (tree : TableTree) → AllTables P tree → All P (tables_in tree)
  all_in P (LeafTable node leaf) all = All-cons P node.table [] all (All-nil P)
  all_in P (LevelTable node level bounds kids) all = All-cons P node.table (all_tables kids) all.0 (all_of P kids all.1)

  all_of : (P : TableNo → Type 0) (kids : Trees) → AllTablesOf P kids → All P (all_tables kids)
  all_of P End all = All-nil P
  all_of P (More k ks) all = All-append P (tables_in k) (all_tables ks) (all_in P k all.0) (all_of P ks all.1)

pub all_under : (P : TableNo → Type 0) (tree : TableTree) → AllTables P tree → All P (below tree)
all_under P (LeafTable node leaf) all = All-nil P
all_under P (LevelTable node level bounds kids) all = all_of P kids all.1

-- the tree's own, and those below it
pub root_and_below : (P : TableNo → Type 0) (tree : TableTree) → P (root tree) → All P (below tree) → All P (tables_in tree)
root_and_below P (LeafTable node leaf) top under = All-cons P node.table [] top (All-nil P)
root_and_below P (LevelTable node level bounds kids) top under = All-cons P node.table (all_tables kids) top under

-- ---- which of them has a leaf

pub record Home (P : TableNo → Type 0) (Q : TableNo → LeafId → Type 0) (tables : List TableNo) (leaf : LeafId) : Type 0 where
  pub table : TableNo
  pub among : Contains tables table
  pub is : P table
  pub has : Q table leaf

sooner : (P : TableNo → Type 0) (Q : TableNo → LeafId → Type 0) (xs ys : List TableNo) (leaf : LeafId) → Home P Q xs leaf → Home P Q (xs ++ ys) leaf
sooner P Q xs ys leaf home = record { table = home.table; among = Contains-append_left xs ys home.table home.among; is = home.is; has = home.has }

later : (P : TableNo → Type 0) (Q : TableNo → LeafId → Type 0) (xs ys : List TableNo) (leaf : LeafId) → Home P Q ys leaf → Home P Q (xs ++ ys) leaf
later P Q xs ys leaf home = record { table = home.table; among = Contains-append_right xs ys home.table home.among; is = home.is; has = home.has }

mutual
  pub home_of : (P : TableNo → Type 0) (Q : TableNo → LeafId → Type 0) (tree : TableTree) (leaf : LeafId) → AllTables P tree → AtHome Q tree → Contains (leaves tree) leaf → Home P Q (tables_in tree) leaf
  home_of P Q (LeafTable node own) leaf all home at = record { table = node.table; among = first_in node.table []; is = all; has = subst (Q node.table) (only_one own leaf at) home }
  home_of P Q (LevelTable node level bounds kids) leaf all home at = later P Q (node.table ∷ []) (all_tables kids) leaf (home_among P Q kids leaf all.1 home at)

  home_among : (P : TableNo → Type 0) (Q : TableNo → LeafId → Type 0) (kids : Trees) (leaf : LeafId) → AllTablesOf P kids → AllAtHome Q kids → Contains (all_leaves kids) leaf → Home P Q (all_tables kids) leaf
  home_among P Q End leaf all home at = absurd (none_in leaf at)
  home_among P Q (More k ks) leaf all home at =
      elim (Contains-append_cases (leaves k) (all_leaves ks) leaf at) [
        | inl first ↦ sooner P Q (tables_in k) (all_tables ks) leaf (home_of P Q k leaf all.0 home.0 first)
        | inr rest ↦ later P Q (tables_in k) (all_tables ks) leaf (home_among P Q ks leaf all.1 home.1 rest)
      ]

-- ---- which of those that lead to kept leaves has one of these

same_root : (tree : TableTree) → root tree ≡ (node_of tree).table
same_root (LeafTable node leaf) = refl
same_root (LevelTable node level bounds kids) = refl

-- where there is a leaf, the table stands before those below it
led_home : (P : TableNo → Type 0) (Q : TableNo → LeafId → Type 0) (xs : List Leaf) (t : TableNo) (ts : List TableNo) (leaf : LeafId) → Contains (map id_of xs) leaf → Home P Q (t ∷ ts) leaf → Home P Q (led xs t ts) leaf
led_home P Q [] t ts leaf at home = absurd (none_in leaf at)
led_home P Q (x ∷ xs) t ts leaf at home = home

module _ (P : TableNo → Type 0) (Q : TableNo → LeafId → Type 0) (keeps : Keeps) where
  -- of one child
  child_home : (v : Bool) (k : TableTree) (leaf : LeafId) → (Contains (map id_of (leaves_below keeps k)) leaf → Home P Q (root k ∷ kept_tables keeps k) leaf)
      → Contains (map id_of (if v then leaves_below keeps k else [])) leaf → Home P Q (if v then led (leaves_below keeps k) (node_of k).table (kept_tables keeps k) else []) leaf
  child_home true k leaf go at = led_home P Q (leaves_below keeps k) (node_of k).table (kept_tables keeps k) leaf at (subst (λ t. Home P Q (t ∷ kept_tables keeps k) leaf) (same_root k) (go at))
  child_home false k leaf go at = absurd (none_in leaf at)

  mutual
    below_home : (tree : TableTree) (leaf : LeafId) → AllTables P tree → AtHome Q tree → Contains (map id_of (leaves_below keeps tree)) leaf → Home P Q (root tree ∷ kept_tables keeps tree) leaf
    below_home (LeafTable node own) leaf all home at = record { table = node.table; among = first_in node.table []; is = all; has = subst (Q node.table) (only_one own leaf at) home }
    below_home (LevelTable node level bounds kids) leaf all home at =
        later P Q (node.table ∷ []) (tables_among keeps (keeps level bounds) bounds kids) leaf (among_home (keeps level bounds) bounds kids leaf all.1 home at)

    among_home : (test : Bound → Bool) (bs : List Bound) (kids : Trees) (leaf : LeafId) → AllTablesOf P kids → AllAtHome Q kids → Contains (map id_of (leaves_among keeps test bs kids)) leaf → Home P Q (tables_among keeps test bs kids) leaf
    among_home test bs End leaf all home at = absurd (none_in leaf at)
    among_home test [] (More k ks) leaf all home at = absurd (none_in leaf at)
    among_home test (b ∷ bs) (More k ks) leaf all home at =
        let here = if test b then leaves_below keeps k else [] in
        let tables = if test b then led (leaves_below keeps k) (node_of k).table (kept_tables keeps k) else [] in
        let others = leaves_among keeps test bs ks in
        elim (Contains-append_cases (map id_of here) (map id_of others) leaf (subst (λ ls. Contains ls leaf) (map-append id_of here others) at)) [
          | inl first ↦ sooner P Q tables (tables_among keeps test bs ks) leaf (child_home (test b) k leaf (λ x. below_home k leaf all.0 home.0 x) first)
          | inr rest ↦ later P Q tables (tables_among keeps test bs ks) leaf (among_home test bs ks leaf all.1 home.1 rest)
        ]

  plain_home : (v : Bool) (own : Leaf) (t : TableNo) (leaf : LeafId) → (Contains (own.id ∷ []) leaf → Home P Q (t ∷ []) leaf) → Contains (map id_of (if v then own ∷ [] else [])) leaf → Home P Q (t ∷ []) leaf
  plain_home true own t leaf go at = go at
  plain_home false own t leaf go at = absurd (none_in leaf at)

  pub kept_home : (tree : TableTree) (leaf : LeafId) → AllTables P tree → AtHome Q tree → Contains (map id_of (kept_leaves keeps tree)) leaf → Home P Q (root tree ∷ kept_tables keeps tree) leaf
  kept_home (LeafTable node own) leaf all home at = plain_home (keeps_plain keeps) (leaf_of node own) node.table leaf (λ x. below_home (LeafTable node own) leaf all home x) at
  kept_home (LevelTable node level bounds kids) leaf all home at = below_home (LevelTable node level bounds kids) leaf all home at

-- ---- what holds of all tables, and of all leaves, holds of those that are kept

own_table : (P : TableNo → Type 0) (tree : TableTree) → AllTables P tree → P (node_of tree).table
own_table P (LeafTable node leaf) all = all
own_table P (LevelTable node level bounds kids) all = all.0

all_led : {X : Type 0} (P : TableNo → Type 0) (v : Bool) (xs : List X) (t : TableNo) (ts : List TableNo) → P t → All P ts → All P (if v then led xs t ts else [])
all_led P false xs t ts own all = All-nil P
all_led P true [] t ts own all = All-nil P
all_led P true (x ∷ xs) t ts own all = All-cons P t ts own all

module _ (P : TableNo → Type 0) (keeps : Keeps) where
  mutual
    pub all_kept : (tree : TableTree) → AllTables P tree → All P (kept_tables keeps tree)
    all_kept (LeafTable node leaf) all = All-nil P
    all_kept (LevelTable node level bounds kids) all = among_kept (keeps level bounds) bounds kids all.1

    among_kept : (test : Bound → Bool) (bs : List Bound) (kids : Trees) → AllTablesOf P kids → All P (tables_among keeps test bs kids)
    among_kept test bs End all = All-nil P
    among_kept test [] (More k ks) all = All-nil P
    among_kept test (b ∷ bs) (More k ks) all =
        All-append P (if test b then led (leaves_below keeps k) (node_of k).table (kept_tables keeps k) else []) (tables_among keeps test bs ks)
        (all_led P (test b) (leaves_below keeps k) (node_of k).table (kept_tables keeps k) (own_table P k all.0) (all_kept k all.0)) (among_kept test bs ks all.1)

one_in : (v : Bool) (xs : List Leaf) (ls : List LeafId) (leaf : LeafId) → (Contains (map id_of xs) leaf → Contains ls leaf) → Contains (map id_of (if v then xs else [])) leaf → Contains ls leaf
one_in true xs ls leaf go at = go at
one_in false xs ls leaf go at = absurd (none_in leaf at)

module _ (keeps : Keeps) where
  mutual
    below_in : (tree : TableTree) (leaf : LeafId) → Contains (map id_of (leaves_below keeps tree)) leaf → Contains (leaves tree) leaf
    below_in (LeafTable node own) leaf at = at
    below_in (LevelTable node level bounds kids) leaf at = among_in (keeps level bounds) bounds kids leaf at

    among_in : (test : Bound → Bool) (bs : List Bound) (kids : Trees) (leaf : LeafId) → Contains (map id_of (leaves_among keeps test bs kids)) leaf → Contains (all_leaves kids) leaf
    among_in test bs End leaf at = absurd (none_in leaf at)
    among_in test [] (More k ks) leaf at = absurd (none_in leaf at)
    among_in test (b ∷ bs) (More k ks) leaf at =
        let here = if test b then leaves_below keeps k else [] in
        let others = leaves_among keeps test bs ks in
        elim (Contains-append_cases (map id_of here) (map id_of others) leaf (subst (λ ls. Contains ls leaf) (map-append id_of here others) at)) [
          | inl first ↦ Contains-append_left (leaves k) (all_leaves ks) leaf (one_in (test b) (leaves_below keeps k) (leaves k) leaf (λ x. below_in k leaf x) first)
          | inr rest ↦ Contains-append_right (leaves k) (all_leaves ks) leaf (among_in test bs ks leaf rest)
        ]

  pub kept_in : (tree : TableTree) (leaf : LeafId) → Contains (map id_of (kept_leaves keeps tree)) leaf → Contains (leaves tree) leaf
  kept_in (LeafTable node own) leaf at = one_in (keeps_plain keeps) (leaf_of node own ∷ []) (own ∷ []) leaf (λ x. x) at
  kept_in (LevelTable node level bounds kids) leaf at = below_in (LevelTable node level bounds kids) leaf at
