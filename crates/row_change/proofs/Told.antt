-- What a target says of a row is what the table says that has its leaf.
use Rattle.std.proofs.Common.{◌≡◌, ℕ, ◌==◌, ◌||◌, Bool, true, false, if◌then◌else◌, List, [], ◌∷◌, ◌++◌, refl, ap, sym, ◌∙◌, arith, Option, Some, All, find, unwrap_or, ◌<◌, subst, length}
use Rattle.std.specs.List.{list_any}
use Rattle.std.proofs.lemmas.Bool.Decides.{nat_tests}
use Rattle.std.proofs.lemmas.List.Elements.{All-head, All-tail}
use Rattle.pg_values.specs.declared.value.Value.{Value}
use Rattle.pg_values.specs.declared.ids.LeafId.{LeafId}
use Rattle.pg_values.specs.declared.ids.TableNo.{TableNo}
use Rattle.history.specs.declared.catalogue.Table.{Table}
use Rattle.history.specs.History.{History, catalogue_events}
use Rattle.history.specs.Catalogue.{tables_made}
use Rattle.history.specs.Places.{AreCatalogueSound}
use Rattle.row_router.specs.Histories.{path_of}
use Rattle.row_router.specs.Trees.{TableTree}
use Rattle.row_router.specs.declared.path.PathTest.TheVariants.{Checks}
use Rattle.row_router.specs.Paths.{refused}
use Rattle.row_change.specs.declared.target.Target.{Target}
use Rattle.row_change.specs.Storing.{is_into, leaf_faults, own_null_faults, check_told, table_faults, IsTargetNumbered}
use Rattle.row_change.specs.Targets.{HasTarget, IsTargetOf, last_table, holder, holder_faults}
use Rattle.row_change.specs.Ways.{root}
use Rattle.row_change.specs.Placing.{tables_of, IsNumbered, IsPartNumbered}
use Rattle.row_change.proofs.Made.{paths_are_made}
use Rattle.row_change.proofs.Targets.{last_is_made}

-- the same of a table that is not named: of the path only its CHECKs are asked
told_from_above : (tables : List Table) (h : History) (s : ℕ) (t : TableNo) (target : Target) (row : List Value) → target.table ≡ t → refused Checks row target.path ≡ refused Checks row (path_of h s t.number) → target.is_named ≡ false
    → leaf_faults tables (Some target) row ≡ table_faults tables t (path_of h s t.number) false row
told_from_above tables h s t target row table refuses is =
    ap (λ n. table_faults tables target.table target.path n row) is
    ∙ (ap (λ r. own_null_faults tables target.table row ++ (check_told tables row r ++ [])) refuses ∙ ap (λ x. table_faults tables x (path_of h s t.number) false row) table)

pub record IsFound (P : Target → Type 0) (leaf : LeafId) (found : Option Target) : Type 0 where
  pub target : Target
  pub is : found ≡ Some target
  pub holds : P target
  pub same : target.leaf ≡ leaf

pub same_leaf : (a b : LeafId) → (a.number == b.number) ≡ true → a ≡ b
same_leaf a b e =
    let n : a.number ≡ b.number = grind (arith, nat_tests, e) in
    let leaf : ℕ → LeafId = λ k. record { number = k } in
    ap leaf n

found_first : (P : Target → Type 0) (leaf : LeafId) (x : Target) (xs : List Target) (b : Bool) → is_into leaf x ≡ b → P x → (list_any (is_into leaf) xs ≡ true → IsFound P leaf (find (is_into leaf) xs)) → (b || list_any (is_into leaf) xs) ≡ true → IsFound P leaf (if b then Some x else find (is_into leaf) xs)
found_first P leaf x xs true here p later any = record { target = x; is = refl; holds = p; same = same_leaf x.leaf leaf here }
found_first P leaf x xs false here p later any = later any

pub found_target : (P : Target → Type 0) (leaf : LeafId) (targets : List Target) → All P targets → HasTarget targets leaf → IsFound P leaf (find (is_into leaf) targets)
found_target P leaf [] all any = absurd (cc)
found_target P leaf (x ∷ xs) all any = found_first P leaf x xs (is_into leaf x) refl (All-head P x xs all) (found_target P leaf xs (All-tail P x xs all)) any

holder_is : (h : History) (s : ℕ) (tree : TableTree) (target : Target) → IsTargetOf h s tree target → target.table ≡ holder tree target.leaf
holder_is h s tree target is = is.table ∙ ap (λ o. last_table (root tree) (unwrap_or o [])) (sym is.way)

pub one_told : (h : History) (s : ℕ) (tree : TableTree) (leaf : LeafId) (targets : List Target) (row : List Value) → IsFound (IsTargetOf h s tree) leaf (find (is_into leaf) targets)
    → leaf_faults (tables_of h) (find (is_into leaf) targets) row ≡ holder_faults h s tree leaf row
one_told h s tree leaf targets row found =
    let t = found.target in
    let table = holder_is h s tree t found.holds in
    let refuses : refused Checks row t.path ≡ refused Checks row (path_of h s (holder tree t.leaf).number) = found.holds.path.refuses row ∙ ap (λ (x : TableNo). refused Checks row (path_of h s x.number)) table in
    let told = told_from_above (tables_of h) h s (holder tree t.leaf) t row table refuses found.holds.is_named in
    ap (λ o. leaf_faults (tables_of h) o row) found.is ∙ (told ∙ ap (λ l. holder_faults h s tree l row) found.same)

pub one_numbered : (h : History) (s n : ℕ) (tree : TableTree) (target : Target) → n ≡ length (tables_made (catalogue_events h)) → AreCatalogueSound h → IsNumbered n tree → IsTargetOf h s tree target → IsTargetNumbered n target
one_numbered h s n tree target same sound known is =
    let low = last_is_made n tree target.leaf is.tables target.table known is.way is.table in
    let made : target.table.number < length (tables_made (catalogue_events h)) = omega (arith, same, low) in
    (low, is.path.numbered n (subst (λ k. All (IsPartNumbered k) (path_of h s target.table.number)) (sym same) (paths_are_made h s target.table sound made)))
