-- The tables of trees and of paths.
use Rattle.std.proofs.Common.{◌≡◌, ℕ, zero, suc, ◌<◌, ◌==◌, if◌then◌else◌, Bool, true, false, List, [], ◌∷◌, Option, Some, None, Result, Ok, Err, subst, inl, inr}
use Rattle.std.specs.List.{All}
use Rattle.std.proofs.lemmas.Bool.{cases_Bool}
use Rattle.std.proofs.lemmas.List.Elements.{All-cons, All-head, All-tail, All-nil}
use Rattle.pg_values.specs.declared.value.Value.{Value}
use Rattle.pg_values.specs.declared.ids.TableNo.{TableNo}
use Rattle.pg_values.specs.declared.ids.LeafId.{LeafId}
use Rattle.row_router.specs.declared.tree.NoPartition.{NoPartition}
use Rattle.row_router.specs.declared.path_part.PathPart.{PathPart}
use Rattle.row_router.specs.Trees.{TableTree, LeafTable, LevelTable, Trees, End, More, child_of, routed, routed_in}
use Rattle.row_router.specs.declared.path.PathTest.{PathTest}
use Rattle.row_router.specs.Paths.{refuses, refused}
use Rattle.row_change.specs.Placing.{IsNumbered, IsPartNumbered}
use Rattle.row_change.specs.Ways.{AllTables, AllTablesOf, root, way_below, way_among, way_to, way_to_one, first_way}

-- ---- where a row is lost

-- an answer's table is among the first n, if it tells one
abbrev IsLostBelow : ℕ → Result LeafId NoPartition → Type 0
IsLostBelow n (Ok leaf) = Unit {0}
IsLostBelow n (Err e) = e.table.number < n

abbrev AreNumbered : ℕ → Trees → Type 0
AreNumbered n ks = AllTablesOf (λ t. t.number < n) ks

mutual
  lost_below : (n : ℕ) (row : List Value) (t : TableTree) → IsNumbered n t → IsLostBelow n (routed row t)
  lost_below n row (LeafTable node leaf) k = tt
  lost_below n row (LevelTable node level bounds kids) k = lost_in n row node.table (child_of level bounds row) kids k.0 k.1

  lost_in : (n : ℕ) (row : List Value) (table : TableNo) (at : Option ℕ) (kids : Trees) → table.number < n → AreNumbered n kids → IsLostBelow n (routed_in row table at kids)
  lost_in n row table None kids t k = t
  lost_in n row table (Some i) End t k = t
  lost_in n row table (Some zero) (More kid kids) t k = lost_below n row kid k.0
  lost_in n row table (Some (suc i)) (More kid kids) t k = lost_in n row table (Some i) kids t k.1

-- the table at which a row is lost is one of the tree
pub lost_is_numbered : (n : ℕ) (row : List Value) (t : TableTree) (e : NoPartition) → IsNumbered n t → routed row t ≡ Err e → e.table.number < n
lost_is_numbered n row t e k is = subst (IsLostBelow n) is (lost_below n row t k)

-- ---- which table of a path refuses

refused_first : (n : ℕ) (b : Bool) (first t : TableNo) (others : Option TableNo) → first.number < n → (others ≡ Some t → t.number < n) → (if b then Some first else others) ≡ Some t → t.number < n
refused_first n true first t others here rest is = let same : first ≡ t = cc in subst (λ (x : TableNo). x.number < n) same here
refused_first n false first t others here rest is = rest is

-- the table that refuses is one of the path
pub refused_is_numbered : (n : ℕ) (what : PathTest) (row : List Value) (path : List PathPart) (t : TableNo) → All (IsPartNumbered n) path → refused what row path ≡ Some t → t.number < n
refused_is_numbered n what row [] t known is = absurd (cc)
refused_is_numbered n what row (p ∷ ps) t known is =
    refused_first n (refuses what row p) p.table t (refused what row ps) (All-head (IsPartNumbered n) p ps known)
    (refused_is_numbered n what row ps t (All-tail (IsPartNumbered n) p ps known)) is

-- ---- what holds of all tables of a tree holds of those on a way

pub all_root : (P : TableNo → Type 0) (t : TableTree) → AllTables P t → P (root t)
all_root P (LeafTable node leaf) all = all
all_root P (LevelTable node level bounds kids) all = all.0

mutual
  pub all_below : (P : TableNo → Type 0) (row : List Value) (t : TableTree) → AllTables P t → All P (way_below row t)
  all_below P row (LeafTable node leaf) all = All-nil P
  all_below P row (LevelTable node level bounds kids) all = all_among P row (child_of level bounds row) kids all.1

  all_among : (P : TableNo → Type 0) (row : List Value) (at : Option ℕ) (kids : Trees) → AllTablesOf P kids → All P (way_among row at kids)
  all_among P row None kids all = All-nil P
  all_among P row (Some i) End all = All-nil P
  all_among P row (Some zero) (More k ks) all = All-cons P (root k) (way_below row k) (all_root P k all.0) (all_below P row k all.0)
  all_among P row (Some (suc i)) (More k ks) all = all_among P row (Some i) ks all.1

-- of a way, if there is one
abbrev OnWay : (TableNo → Type 0) → Option (List TableNo) → Type 0
OnWay P None = Unit {0}
OnWay P (Some tables) = All P tables

first_of_two : (P : TableNo → Type 0) (t : TableNo) (way others : Option (List TableNo)) → P t → OnWay P way → OnWay P others → OnWay P (first_way t way others)
first_of_two P t None others here way rest = rest
first_of_two P t (Some tables) others here way rest = All-cons P t tables here way

mutual
  on_way : (P : TableNo → Type 0) (leaf : LeafId) (t : TableTree) → AllTables P t → OnWay P (way_to leaf t)
  on_way P leaf (LeafTable node own) all = elim (cases_Bool (own.number == leaf.number)) [ inl y ↦ rw y (All-nil P) | inr n ↦ rw n tt ]
  on_way P leaf (LevelTable node level bounds kids) all = on_one P leaf kids all.1

  on_one : (P : TableNo → Type 0) (leaf : LeafId) (kids : Trees) → AllTablesOf P kids → OnWay P (way_to_one leaf kids)
  on_one P leaf End all = tt
  on_one P leaf (More k ks) all = first_of_two P (root k) (way_to leaf k) (way_to_one leaf ks) (all_root P k all.0) (on_way P leaf k all.0) (on_one P leaf ks all.1)

pub all_to : (P : TableNo → Type 0) (leaf : LeafId) (t : TableTree) (tables : List TableNo) → AllTables P t → way_to leaf t ≡ Some tables → All P tables
all_to P leaf t tables all is = subst (OnWay P) is (on_way P leaf t all)
