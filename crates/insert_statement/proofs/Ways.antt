-- The leaf of a row is that of a table on its way.
use Rattle.std.proofs.Common.{◌≡◌, ℕ, zero, suc, ◌<◌, List, [], ◌∷◌, ◌⊎◌, inl, inr, refl, sym, ◌∙◌, subst, arith, Option, Some, None, Result, Ok, Err, All, map}
use Rattle.std.specs.List.{Contains}
use Rattle.std.proofs.lemmas.List.Elements.{All-nil, All-append, Contains-append_left, Contains-append_right}
use Rattle.pg_values.specs.declared.value.Value.{Value}
use Rattle.pg_values.specs.declared.fault.Fault.{Fault}
use Rattle.pg_values.specs.declared.ids.LeafId.{LeafId}
use Rattle.pg_values.specs.declared.ids.TableNo.{TableNo}
use Rattle.bound_forms.specs.declared.level.Level.{Level as OneLevel}
use Rattle.pg_values.specs.Refusals.{faults_in, read_in, or_first}
use Rattle.history.specs.declared.catalogue.Table.{Table}
use Rattle.history.specs.declared.catalogue.TableShape.TheVariants.{Leaf, Level}
use Rattle.history.specs.Places.{table_at}
use Rattle.row_router.specs.Trees.{TableTree, LeafTable, LevelTable, Trees, End, More, child_of, routed, routed_in}
use Rattle.row_change.specs.Ways.{AllTables, root, way_below, way_among, ways_below}
use Rattle.row_change.proofs.Ways.{all_below}
use Rattle.soundness.proofs.Listed.{none_in, first_in, later_in}
use Rattle.soundness.proofs.Presence.{all_more}
use Rattle.stores.specs.declared.stores.Stores.{Stores}
use Rattle.statement_steps.specs.Known.{IsKnownTo}
use Rattle.statement_steps.specs.Rights.{MayLock}
use Rattle.insert_statement.specs.Asked.{Each}
use Rattle.row_change.proofs.Trees.{AtHome, AllAtHome, IsHome}

-- ---- the end of a way

abbrev IsOnWay : TableNo → List Value → TableTree → Type 0
IsOnWay t row tree = (root tree ≡ t) ⊎ Contains (way_below row tree) t

at_first : (k : TableNo) (ts : List TableNo) (t : TableNo) → (k ≡ t) ⊎ Contains ts t → Contains (k ∷ ts) t
at_first k ts t (inl same) = subst (Contains (k ∷ ts)) same (first_in k ts)
at_first k ts t (inr later) = later_in k ts t later

mutual
  way_end : (P : TableNo → LeafId → Type 0) (row : List Value) (tree : TableTree) (leaf : LeafId) → AtHome P tree → routed row tree ≡ Ok leaf → (t : TableNo) × P t leaf × IsOnWay t row tree
  way_end P row (LeafTable node own) leaf home e = (node.table, subst (P node.table) (let c = e in cc) home, inl refl)
  way_end P row (LevelTable node level bounds kids) leaf home e =
      let found = among_end P row node.table (child_of level bounds row) kids leaf home e in
      (found.0, found.1, inr found.2)

  among_end : (P : TableNo → LeafId → Type 0) (row : List Value) (table : TableNo) (o : Option ℕ) (kids : Trees) (leaf : LeafId) → AllAtHome P kids → routed_in row table o kids ≡ Ok leaf → (t : TableNo) × P t leaf × Contains (way_among row o kids) t
  among_end P row table None kids leaf home e = absurd (let c = e in cc)
  among_end P row table (Some i) End leaf home e = absurd (let c = e in cc)
  among_end P row table (Some zero) (More k ks) leaf home e =
      let found = way_end P row k leaf home.0 e in
      (found.0, found.1, at_first (root k) (way_below row k) found.0 found.2)
  among_end P row table (Some (suc i)) (More k ks) leaf home e = among_end P row table (Some i) ks leaf home.1 e

-- where the table itself is no leaf, it is a table below it
pub way_ends_below : (tables : List Table) (row : List Value) (tree : TableTree) (leaf : LeafId) (level : OneLevel) → AtHome (IsHome tables) tree → (table_at tables (root tree).number).shape ≡ Level level → routed row tree ≡ Ok leaf
    → (t : TableNo) × IsHome tables t leaf × Contains (way_below row tree) t
way_ends_below tables row tree leaf level home shape e =
    let found = way_end (IsHome tables) row tree leaf home e in
    elim found.2 [
      | inl top ↦ absurd (let leaf_shape = subst (λ (t : TableNo). (table_at tables t.number).shape ≡ Leaf leaf) (sym top) found.1 in let c = sym shape ∙ leaf_shape in cc)
      | inr below ↦ (found.0, found.1, below)
    ]

pub in_ways : (tree : TableTree) (rows : List (List Value)) (row : List Value) (t : TableNo) → Contains rows row → Contains (way_below row tree) t → Contains (ways_below tree rows) t
in_ways tree [] row t at on = absurd (none_in row at)
in_ways tree (r ∷ rs) row t (zero, lt, same) on = Contains-append_left (way_below r tree) (ways_below tree rs) t (subst (λ x. Contains (way_below x tree) t) (sym same) on)
in_ways tree (r ∷ rs) row t (suc k, lt, same) on = Contains-append_right (way_below r tree) (ways_below tree rs) t (in_ways tree rs row t (k, omega (arith, lt), same) on)

-- what holds of all tables of a tree holds of those on the ways
pub all_on_ways : (P : TableNo → Type 0) (tree : TableTree) (rows : List (List Value)) → AllTables P tree → All P (ways_below tree rows)
all_on_ways P tree [] all = All-nil P
all_on_ways P tree (r ∷ rs) all = All-append P (way_below r tree) (ways_below tree rs) (all_below P r tree all) (all_on_ways P tree rs all)

-- the tables on the ways may be locked, where all of the tree may be
ways_lock : (stores : Stores) (s : ℕ) (tree : TableTree) (rows : List (List Value)) (ways : List TableNo) → ways ≡ ways_below tree rows → AllTables (MayLock stores s) tree → All (MayLock stores s) ways
ways_lock stores s tree rows ways is all = subst (All (MayLock stores s)) (sym is) (all_on_ways (MayLock stores s) tree rows all)

pub ways_low : (stores : Stores) (s : ℕ) (tree : TableTree) (rows : List (List Value)) (ways : List TableNo) → ways ≡ ways_below tree rows → AllTables (MayLock stores s) tree → All (λ t. t.number < 4096) ways
ways_low stores s tree rows ways is all = all_more (MayLock stores s) (λ (t : TableNo). t.number < 4096) ways (λ t may. may.0) (ways_lock stores s tree rows ways is all)

pub ways_known : (stores : Stores) (s : ℕ) (tree : TableTree) (rows : List (List Value)) (ways : List TableNo) → ways ≡ ways_below tree rows → AllTables (MayLock stores s) tree → All (λ t. IsKnownTo stores s t.number) ways
ways_known stores s tree rows ways is all = all_more (MayLock stores s) (λ (t : TableNo). IsKnownTo stores s t.number) ways (λ t may. may.1) (ways_lock stores s tree rows ways is all)

-- ---- each row with its leaf

by_faults : (fs : List Fault) (read : List LeafId) (own : LeafId) (leaves : List LeafId) → or_first fs (own ∷ read) ≡ Ok leaves → (ls : List LeafId) × (leaves ≡ own ∷ ls) × (or_first fs read ≡ Ok ls)
by_faults [] read own leaves e = (read, (let c = e in cc), refl)
by_faults (f ∷ fs) read own leaves e = absurd (let c = e in cc)

first_found : (rest : List (Result LeafId Fault)) (own : LeafId) (leaves : List LeafId) → or_first (faults_in (Ok own ∷ rest)) (read_in (Ok own ∷ rest)) ≡ Ok leaves → (ls : List LeafId) × (leaves ≡ own ∷ ls) × (or_first (faults_in rest) (read_in rest) ≡ Ok ls)
first_found rest own leaves e = by_faults (faults_in rest) (read_in rest) own leaves e

each_found : (place : List Value → Result LeafId Fault) (P : LeafId → List Value → Type 0) (r : List Value) (rs : List (List Value)) (leaves : List LeafId) (answer : Result LeafId Fault) → place r ≡ answer → ((l : LeafId) → place r ≡ Ok l → P l r)
    → ((ls : List LeafId) → or_first (faults_in (map place rs)) (read_in (map place rs)) ≡ Ok ls → Each P ls rs) → or_first (faults_in (answer ∷ map place rs)) (read_in (answer ∷ map place rs)) ≡ Ok leaves → Each P leaves (r ∷ rs)
each_found place P r rs leaves (Ok own) is one rest e =
    let found = first_found (map place rs) own leaves e in
    subst (λ ls. Each P ls (r ∷ rs)) (sym found.1) (one own is, rest found.0 found.2)
each_found place P r rs leaves (Err f) is one rest e = absurd (let c = e in cc)

pub each_placed : (place : List Value → Result LeafId Fault) (P : LeafId → List Value → Type 0) (rows : List (List Value)) (leaves : List LeafId) → ((l : LeafId) (r : List Value) → Contains rows r → place r ≡ Ok l → P l r)
    → or_first (faults_in (map place rows)) (read_in (map place rows)) ≡ Ok leaves → Each P leaves rows
each_placed place P [] leaves one e = let none : [] ≡ leaves = (let c = e in cc) in subst (λ ls. Each P ls []) none tt
each_placed place P (r ∷ rs) leaves one e =
    each_found place P r rs leaves (place r) refl (λ l is. one l r (first_in r rs) is) (λ ls is. each_placed place P rs ls (λ l x at. one l x (later_in r rs x at)) is) e
