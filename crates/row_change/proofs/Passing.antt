-- Rows against which nothing stands pass the CHECKs along the path of the table that takes them, and its bounds.
use Rattle.std.proofs.Common.{◌≡◌, ◌==◌, Bool, true, false, if◌then◌else◌, List, [], ◌∷◌, ◌++◌, refl, sym, subst, Option, Some, None, is_some, unwrap_or, find}
use Rattle.pg_values.specs.declared.value.Value.{Value}
use Rattle.pg_values.specs.declared.fault.Fault.{Fault}
use Rattle.pg_values.specs.declared.ids.LeafId.{LeafId}
use Rattle.pg_values.specs.declared.ids.TableNo.{TableNo}
use Rattle.history.specs.declared.catalogue.Table.{Table}
use Rattle.row_router.specs.declared.path_part.PathPart.{PathPart}
use Rattle.row_router.specs.Trees.{TableTree, LeafTable, LevelTable, Trees, End, More}
use Rattle.row_router.specs.declared.path.PathTest.TheVariants.{Checks, Bounds}
use Rattle.row_router.specs.Paths.{refused, refuses}
use Rattle.row_change.specs.Storing.{own_null_faults, check_faults, check_told, table_faults}
use Rattle.row_change.specs.Targets.{HasWay, holder, last_table}
use Rattle.row_change.specs.Ways.{AllTables, AllTablesOf, root, first_way, way_to, way_to_one}
use Rattle.row_change.proofs.Trees.{AtHome, AllAtHome}
use Rattle.row_change.proofs.Told.{same_leaf}
use Rattle.row_change.specs.Placing.{bounds_faults, refused_by}

pub nothing_behind : (xs ys : List Fault) → (xs ++ ys) ≡ [] → ys ≡ []
nothing_behind [] ys e = e
nothing_behind (x ∷ xs) ys e = absurd (let c = e in cc)

pub nothing_before : (xs ys : List Fault) → (xs ++ ys) ≡ [] → xs ≡ []
nothing_before [] ys e = refl
nothing_before (x ∷ xs) ys e = absurd (let c = e in cc)

none_told : (tables : List Table) (row : List Value) (o : Option TableNo) → check_told tables row o ≡ [] → o ≡ None
none_told tables row None e = refl
none_told tables row (Some t) e = absurd (let c = e in cc)

-- where a table takes the row
pub taken_passes : (tables : List Table) (t : TableNo) (path : List PathPart) (is_named : Bool) (row : List Value) → table_faults tables t path is_named row ≡ [] → refused Checks row path ≡ None
taken_passes tables t path is_named row none =
    let behind = nothing_behind (own_null_faults tables t row) _ none in
    none_told tables row (refused Checks row path) (nothing_before (check_faults tables path row) _ behind)

own_end : (P : TableNo → Type 0) (Q : TableNo → LeafId → Type 0) (t : TableNo) (own leaf : LeafId) (ts : List TableNo) (b : Bool) → (own.number == leaf.number) ≡ b → P t → Q t own → (if b then Some [] else None) ≡ Some ts → P (last_table t ts) × Q (last_table t ts) leaf
own_end P Q t own leaf ts true is here home e =
    let none : [] ≡ ts = (let c = e in cc) in
    subst (λ xs. P (last_table t xs) × Q (last_table t xs) leaf) none (here, subst (Q t) (same_leaf own leaf is) home)
own_end P Q t own leaf ts false is here home e = absurd (let c = e in cc)

first_end : (R : List TableNo → Type 0) (k : TableNo) (ts : List TableNo) (own others : Option (List TableNo)) → ((xs : List TableNo) → own ≡ Some xs → R (k ∷ xs)) → (others ≡ Some ts → R ts) → first_way k own others ≡ Some ts → R ts
first_end R k ts None others here later e = later e
first_end R k ts (Some xs) others here later e = let same : k ∷ xs ≡ ts = (let c = e in cc) in subst R same (here xs refl)

mutual
  way_end : (P : TableNo → Type 0) (Q : TableNo → LeafId → Type 0) (tree : TableTree) (leaf : LeafId) (ts : List TableNo) → AllTables P tree → AtHome Q tree → way_to leaf tree ≡ Some ts → P (last_table (root tree) ts) × Q (last_table (root tree) ts) leaf
  way_end P Q (LeafTable node own) leaf ts all home e = own_end P Q node.table own leaf ts (own.number == leaf.number) refl all home e
  way_end P Q (LevelTable node level bounds kids) leaf ts all home e = way_among P Q node.table kids leaf ts all.1 home e

  way_among : (P : TableNo → Type 0) (Q : TableNo → LeafId → Type 0) (t : TableNo) (kids : Trees) (leaf : LeafId) (ts : List TableNo) → AllTablesOf P kids → AllAtHome Q kids → way_to_one leaf kids ≡ Some ts → P (last_table t ts) × Q (last_table t ts) leaf
  way_among P Q t End leaf ts all home e = absurd (let c = e in cc)
  way_among P Q t (More k ks) leaf ts all home e =
      first_end (λ xs. P (last_table t xs) × Q (last_table t xs) leaf) (root k) ts (way_to leaf k) (way_to_one leaf ks)
      (λ xs is. way_end P Q k leaf xs all.0 home.0 is) (λ is. way_among P Q t ks leaf ts all.1 home.1 is) e

pub holder_has : (P : TableNo → Type 0) (Q : TableNo → LeafId → Type 0) (tree : TableTree) (leaf : LeafId) → AllTables P tree → AtHome Q tree → HasWay tree leaf → P (holder tree leaf) × Q (holder tree leaf) leaf
holder_has P Q tree leaf all home way = by (way_to leaf tree) refl way
  where
    by : (o : Option (List TableNo)) → way_to leaf tree ≡ o → is_some o ≡ true → P (last_table (root tree) (unwrap_or (way_to leaf tree) [])) × Q (last_table (root tree) (unwrap_or (way_to leaf tree) [])) leaf
    by None is some = absurd (let c = some in cc)
    by (Some ts) is some = subst (λ o. P (last_table (root tree) (unwrap_or o [])) × Q (last_table (root tree) (unwrap_or o [])) leaf) (sym is) (way_end P Q tree leaf ts all home is)

-- ---- nothing above refuses the row

passed_on : (tables : List Table) (row : List Value) (p : PathPart) (ps : List PathPart) (b : Bool) → (refused_by tables row (find (refuses Bounds row) ps) ≡ [] → refused Bounds row ps ≡ None)
    → refused_by tables row (if b then Some p else find (refuses Bounds row) ps) ≡ [] → (if b then Some p.table else refused Bounds row ps) ≡ None
passed_on tables row p ps true rest e = absurd (let c = e in cc)
passed_on tables row p ps false rest e = rest e

pub none_refuses : (tables : List Table) (row : List Value) (path : List PathPart) → bounds_faults tables path row ≡ [] → refused Bounds row path ≡ None
none_refuses tables row [] e = refl
none_refuses tables row (p ∷ ps) e = passed_on tables row p ps (refuses Bounds row p) (none_refuses tables row ps) e
