-- The new row of an UPDATE, its leaf, and what stands against it there.
use Rattle.std.proofs.Common.{◌≡◌, ℕ, ◌<◌, ◌==◌, ◌||◌, Bool, true, false, if◌then◌else◌, List, [], ◌∷◌, inl, inr, refl, ap, sym, ◌∙◌, subst, arith, Option, Some, None, is_some, Result, Ok, Err, All, IfOk, OnOk, MatchResult, find, length, slice_index_or}
use Rattle.std.proofs.lemmas.List.Elements.{All-cons, All-nil}
use Rattle.pg_values.specs.declared.value.Value.{Value}
use Rattle.pg_values.specs.declared.fault.Fault.{Fault}
use Rattle.pg_values.specs.declared.fault.Refusal.{Refusal}
use Rattle.pg_values.specs.declared.fault.Refusal.TheVariants.{Sql, NoMemory}
use Rattle.pg_values.specs.Refusals.{IsAnswer, or_first, faults_in, read_in}
use Rattle.pg_values.specs.declared.ids.LeafId.{LeafId}
use Rattle.pg_values.specs.declared.ids.RowId.{RowId}
use Rattle.pg_values.specs.declared.ids.TableNo.{TableNo}
use Rattle.history.specs.declared.catalogue.Column.{Column}
use Rattle.history.specs.Catalogue.{tables_made}
use Rattle.history.specs.History.{History, row_events, catalogue_events}
use Rattle.history.specs.Places.{table_at}
use Rattle.row_router.specs.Histories.{tree_of, path_of}
use Rattle.row_router.specs.Trees.{IsRowOf, TableTree, LeafTable, LevelTable, Trees, End, More, leaves, all_leaves}
use Rattle.std.specs.List.{Contains}
use Rattle.std.proofs.lemmas.List.Elements.{Contains-append_cases}
use Rattle.std.proofs.lemmas.Bool.Decides.{nat_tests}
use Rattle.history.specs.declared.catalogue.Table.{Table}
use Rattle.part_catalog.specs.Found.{made_at}
use Rattle.part_catalog.specs.Stands.{CatalogueStands}
use Rattle.part_catalog.specs.Kept.{KeptCatalogue}
use Rattle.row_store.specs.Kept.{blank, stored_at}
use Rattle.row_change.specs.declared.target.Target.{Target}
use Rattle.row_change.specs.Laws.{IsRowIn, AreRowsOf}
use Rattle.row_change.specs.Placing.{first_or, placed, all_placed, CanBePlaced, IsNumbered, IsPartNumbered, tables_of}
use Rattle.row_change.specs.Ways.{AllTables, root, way_to, way_to_one, first_way}
use Rattle.row_change.specs.Storing.{FitsTargets, IsTargetNumbered, is_into, leaf_faults}
use Rattle.row_change.specs.Targets.{HasTarget, HasWay, IsTargetOf, holder_faults}
use Rattle.row_change.proofs.Fit.{paths_fit, rows_can_be_placed}
use Rattle.row_change.proofs.Made.{paths_are_made, row_links, tree_all, trees_are_made}
use Rattle.row_change.proofs.Ways.{all_to}
use Rattle.row_change.proofs.Targets.{last_in_tree}
use Rattle.row_change.proofs.Told.{found_target, one_told, one_numbered}
use Rattle.change_statement.specs.NewRows.{new_row}
use Rattle.soundness.proofs.OneLeaf.{all_versions, sessions_have_siblings}
use Rattle.stores.specs.Stand.{Stands}
use Rattle.stores.specs.declared.stores.Stores.{Stores}
use Rattle.stores.proofs.Goodness.{legal_of, permitted_of}
use Rattle.statement_steps.specs.declared.caller.Caller.{Caller}
use Rattle.statement_steps.specs.declared.stop.Stop.{Stop}
use Rattle.statement_steps.specs.Faults.{stop_of}
use Rattle.statement_steps.proofs.Parts.{stays}
use Rattle.statement_steps.specs.Gathered.{Found}
use Rattle.change_statement.specs.Housed.{IsHousing}
use Rattle.change_statement.specs.declared.housing.Housing.{Housing}
use Rattle.change_statement.specs.Running.{IsRun, MayEndIn, MayRun, Takes}
use Rattle.change_statement.specs.Updated.{renewed, stored, updating}
use Rattle.statement_steps.specs.Waiting.{Since}
use Rattle.statement_steps.proofs.Rights.{tables_kept}
use Rattle.statement_steps.specs.Made.{answered}
use Rattle.soundness.specs.Versions.{IsVersion}
use Rattle.soundness.specs.Worlds.{IsMade}
use Rattle.soundness.proofs.Columns.{legal_keeps_columns, row_up}
use Rattle.soundness.proofs.Listed.{none_in, only_one}
use Rattle.soundness.proofs.Presence.{all_more}
use Rattle.soundness.proofs.Sound.{catalogue_sound_of}
use Rattle.change_statement.proofs.EachRow.{all_low}
use Rattle.change_statement.proofs.Kept.{one_of}
use Rattle.change_statement.proofs.Still.{good_then, leaf_columns, leaf_is_there, table_stays}
use Rattle.change_statement.proofs.Targets.{version_numbered}
use Rattle.change_statement.proofs.Runs.{then_run, stop_run, nothing_run, refused_run, no_memory_run}

-- ---- what is answered

pub answer_run : {T : Type 0} (g : Found) (x : T) (stores : Stores) (caller : Caller) (f : History → Result T Fault) → MayRun g stores caller → ((h : History) → Stands stores h → f h ≡ Ok x) → IsRun g (λ (y : T). y) (Ok x) stores stores caller (λ h. answered (f h))
answer_run {T} g x stores caller f may is = nothing_run g (λ (y : T). y) x stores caller (λ h. answered (f h)) may (λ h stands. ap answered (is h stands))

pub refusal_run : {T : Type 0} (g : Found) (r : Refusal) (stores : Stores) (caller : Caller) (f : History → Result T Fault) → MayRun g stores caller → ((h : History) → Stands stores h → IsAnswer (Err r) (f h)) → IsRun g (λ (y : T). y) (Err (stop_of r)) stores stores caller (λ h. answered (f h))
refusal_run {T} g (Sql fault) stores caller f may is = refused_run g (λ (y : T). y) fault stores caller (λ h. answered (f h)) may (λ h stands. ap answered (is h stands))
refusal_run {T} g NoMemory stores caller f may is = no_memory_run g (λ (y : T). y) stores stores caller (λ h. answered (f h)) (stays stores caller.session)

-- ---- the row

-- the new one is computed, or its first fault is told
abbrev pub IsNew : Result (List Value) Refusal → Stores → Found → List Value → Type 0
IsNew r stores g row = (h : History) → CatalogueStands stores.catalog h → IsAnswer r (new_row (made_at h g.table.number).columns g.asked.settings row)

-- what is made of a row of the table's columns is one of them
pub renewed_of : (r : Result (List Value) Refusal) (catalog : KeptCatalogue) (t : TableNo) (columns : List Column) (row : List Value) → ((h : History) → CatalogueStands catalog h → columns ≡ (made_at h t.number).columns) → AreRowsOf catalog t (row ∷ [])
    → IfOk r (λ new. IsRowOf columns row → IsRowOf columns new) → IfOk r (λ new. AreRowsOf catalog t (new ∷ []))
renewed_of (Ok new) catalog t columns row are of to = λ h stands.
    let old = of h stands 0 row (omega arith) in
    let P = λ (x : List Value). IsRowIn h x t in
    All-cons P new [] (old.0, subst (λ cs. IsRowOf cs new) (are h stands) (to (subst (λ cs. IsRowOf cs row) (sym (are h stands)) old.1))) (All-nil P)
renewed_of (Err e) catalog t columns row are of to = tt

-- a version in a leaf that is read is one of the named table's columns
pub read_of : (stores : Stores) (caller : Caller) (g : Found) (id : RowId) (row : List Value) → MayRun g stores caller → MayEndIn g stores caller id → row ≡ (stored_at stores.rows.stored id).version.row → AreRowsOf stores.catalog g.table (row ∷ [])
read_of stores caller g id row may version is = λ k catalog.
    let h = may.sound.0 in
    let stands = may.sound.1 in
    let s = caller.session in
    let still = may.sound.2.still in
    let v = (stored_at stores.rows.stored id).version in
    let among = one_of (Contains (leaves g.tree)) g.leaves v.leaf version.among still.gathered.among in
    let home = leaf_is_there h s g v.leaf stands.good still among in
    let about = version_numbered stores.rows h id version.known stands.all.rows in
    let there : IsVersion (row_events h) v = subst (IsVersion (row_events h)) about.there (all_versions (row_events h) id.number blank.version about.within) in
    let low = legal_keeps_columns h (legal_of h stands.good) (permitted_of h stands.good) v home.0 there home.1 in
    let columns = leaf_columns h s g v.leaf home.0 stands.good still among home.1 in
    let of = row_up (made_at h g.table.number).columns (made_at h home.0).columns v.row columns low in
    let top = table_stays h s still.earlier g.table.number still.since still.gathered.made in
    let tables : tables_made (catalogue_events h) ≡ tables_made (catalogue_events k) = sym stands.all.catalog.tables ∙ catalog.tables in
    let P = λ (x : List Value). IsRowIn k x g.table in
    All-cons P row [] (subst (λ (x : List Value). IsRowIn k x g.table) (sym is) (subst (λ (ts : List Table). (g.table.number < length ts) × IsRowOf (table_at ts g.table.number).columns v.row) tables (top.made, of))) (All-nil P)

pub updated_run : (new : List Value) (r : Result (Unit {0}) Stop) (old mid : Stores) (caller : Caller) (g : Found) (leaf : LeafId) (id : RowId) (row : List Value) → MayRun g old caller → IsNew (Ok new) old g row → IsRun g (λ (u : Unit {0}). u) r old mid caller (stored caller g leaf id new)
    → IsRun g (λ (u : Unit {0}). u) r old mid caller (updating caller g leaf id row)
updated_run new r old mid caller g leaf id row may is run =
    then_run (renewed g row) (stored caller g leaf id)
    (answer_run g new old caller (λ h. new_row (made_at h g.table.number).columns g.asked.settings row) may (λ h stands. is h stands.all.catalog)) run

pub faulty_run : (r : Refusal) (stores : Stores) (caller : Caller) (g : Found) (leaf : LeafId) (id : RowId) (row : List Value) → MayRun g stores caller → IsNew (Err r) stores g row → IsRun g (λ (u : Unit {0}). u) (Err (stop_of r)) stores stores caller (updating caller g leaf id row)
faulty_run r stores caller g leaf id row may is =
    stop_run (renewed g row) (stored caller g leaf id)
    (refusal_run g r stores caller (λ h. new_row (made_at h g.table.number).columns g.asked.settings row) may (λ h stands. is h stands.all.catalog))

-- ---- the leaf

one_leaf : (p : Result LeafId Fault) (leaf : LeafId) (leaves : List LeafId) → or_first (faults_in (p ∷ [])) (read_in (p ∷ [])) ≡ Ok (leaf ∷ leaves) → p ≡ Ok leaf
one_leaf (Ok own) leaf leaves e = let c = e in cc
one_leaf (Err f) leaf leaves e = absurd (let c = e in cc)

-- a row that is placed has a leaf
no_leaf : (p : Result LeafId Fault) → or_first (faults_in (p ∷ [])) (read_in (p ∷ [])) ≡ Ok [] → ⊥
no_leaf (Ok own) e = let c = e in cc
no_leaf (Err f) e = let c = e in cc

pub is_somewhere : (g : Found) (row : List Value) (h : History) (leaves : List LeafId) → length leaves ≡ 0 → all_placed (tables_of h) g.tree g.path (row ∷ []) ≡ Ok leaves → ⊥
is_somewhere g row h [] none e = no_leaf (placed (tables_of h) g.tree g.path row) e
is_somewhere g row h (l ∷ ls) none e = omega (arith, none)

one_fault : (p : Result LeafId Fault) (f : Fault) → or_first (faults_in (p ∷ [])) (read_in (p ∷ [])) ≡ Err f → p ≡ Err f
one_fault (Ok own) f e = absurd (let c = e in cc)
one_fault (Err other) f e = let same : other ≡ f = (let c = e in cc) in ap Err same

pub is_one : (g : Found) (row : List Value) (h : History) (leaf : LeafId) (leaves : List LeafId) → all_placed (tables_of h) g.tree g.path (row ∷ []) ≡ Ok (leaf ∷ leaves) → placed (tables_of h) g.tree g.path row ≡ Ok leaf
is_one g row h leaf leaves e = one_leaf (placed (tables_of h) g.tree g.path row) leaf leaves e

pub is_none : (r : Refusal) (g : Found) (row : List Value) (h : History) → IsAnswer (Err r) (all_placed (tables_of h) g.tree g.path (row ∷ [])) → IsAnswer (Err r) (placed (tables_of h) g.tree g.path row)
is_none (Sql f) g row h e = one_fault (placed (tables_of h) g.tree g.path row) f e
is_none NoMemory g row h e = tt

-- ---- what may be asked of the row

-- it is one of the table's columns as it was then
row_then : (h earlier : History) (s : ℕ) (t : TableNo) (row : List Value) → Since s earlier h → IsMade (catalogue_events earlier) t.number → IsRowIn h row t → IsRowIn earlier row t
row_then h earlier s t row since made (there, of) = let same = table_stays h s earlier t.number since made in (made, subst (λ (x : Table). IsRowOf x.columns row) same.same of)

row_now : (h earlier : History) (s : ℕ) (t : TableNo) (row : List Value) → Since s earlier h → IsRowIn earlier row t → IsRowIn h row t
row_now h earlier s t row since (made, of) = let same = table_stays h s earlier t.number since made in (same.made, subst (λ (x : Table). IsRowOf x.columns row) (sym same.same) of)

pub takes : (stores : Stores) (caller : Caller) (g : Found) (row : List Value) → MayRun g stores caller → AreRowsOf stores.catalog g.table (row ∷ []) → Takes (length stores.catalog.tables) g row
takes stores caller g row may of =
    let h = may.sound.0 in
    let stands = may.sound.1 in
    let s = caller.session in
    let still = may.sound.2.still in
    let earlier = still.earlier in
    let its = still.gathered in
    let before = good_then h s earlier stands.good still.since in
    let legal = legal_of earlier before in
    let sound = catalogue_sound_of earlier legal in
    let siblings = sessions_have_siblings earlier s legal (permitted_of earlier before) in
    let count = tables_kept stores.catalog h stands.all.catalog in
    let mine = row_then h earlier s g.table row still.since its.made (of h stands.all.catalog 0 row (omega arith)) in
    let n = length stores.catalog.tables in
    let low = λ (t : TableNo) (made : IsMade (catalogue_events earlier) t.number). (let lt = (table_stays h s earlier t.number still.since made).made in let now : t.number < n = omega (arith, count, lt) in now) in
    record {
      fits = subst (λ tr. CanBePlaced tr g.path row) (sym its.tree) (subst (λ pa. CanBePlaced (tree_of earlier s g.table.number its.look) pa row) (sym its.path) (rows_can_be_placed earlier s g.table its.look row sound siblings mine));
      above = subst (All (IsPartNumbered n)) (sym its.path) (all_more (IsPartNumbered (length (tables_made (catalogue_events earlier)))) (IsPartNumbered n) (path_of earlier s g.table.number) (λ p made. low p.table made) (paths_are_made earlier s g.table sound its.made));
      known = subst (IsNumbered n) (sym its.tree) (all_low (λ (t : TableNo). t.number < length (tables_made (catalogue_events earlier))) (λ (t : TableNo). t.number < n) (tree_of earlier s g.table.number its.look) low (trees_are_made earlier s g.table its.look sound its.made).0);
    }

pub targets_numbered : (stores : Stores) (caller : Caller) (g : Found) (row : List Value) (targets : List Target) (h : History) → Stands stores h → MayRun g stores caller → AreRowsOf stores.catalog g.table (row ∷ []) → All (IsTargetOf h caller.session g.tree) targets
    → All (IsTargetNumbered (length stores.catalog.tables)) targets
targets_numbered stores caller g row targets h stands may of are j e within =
    one_numbered h caller.session (length stores.catalog.tables) g.tree (slice_index_or targets j e) (tables_kept stores.catalog h stands.all.catalog) stands.all.catalog.sound (takes stores caller g row may of).known (are j e within)

-- the path of each such target may be asked of it
pub targets_take : (stores : Stores) (caller : Caller) (g : Found) (row : List Value) (targets : List Target) → (may : MayRun g stores caller) → AreRowsOf stores.catalog g.table (row ∷ []) → All (IsTargetOf may.sound.0 caller.session g.tree) targets → FitsTargets targets row
targets_take stores caller g row targets may of are j e within =
    let h = may.sound.0 in
    let stands = may.sound.1 in
    let s = caller.session in
    let still = may.sound.2.still in
    let earlier = still.earlier in
    let its = still.gathered in
    let before = good_then h s earlier stands.good still.since in
    let siblings = sessions_have_siblings h s (legal_of h stands.good) (permitted_of h stands.good) in
    let mine = row_then h earlier s g.table row still.since its.made (of h stands.all.catalog 0 row (omega arith)) in
    let target = slice_index_or targets j e in
    let at = are j e within in
    let P = IsRowIn h row in
    let all : AllTables P g.tree = subst (AllTables P) (sym its.tree) (all_low (IsRowIn earlier row) P (tree_of earlier s g.table.number its.look) (λ t is. row_now h earlier s t row still.since is)
    (tree_all earlier s g.table its.look (IsRowIn earlier row) (row_links earlier row) (catalogue_sound_of earlier (legal_of earlier before)) mine)) in
    let on : All P at.tables = all_to P target.leaf g.tree at.tables all at.way in
    let own : P target.table = subst P (sym at.table) (last_in_tree P g.tree at.tables all on) in
    at.path.fits row (paths_fit h s target.table row stands.all.catalog.sound siblings own)

-- ---- a leaf of the tree has a way

first_some : (t : TableNo) (a b : Option (List TableNo)) → (is_some a || is_some b) ≡ true → is_some (first_way t a b) ≡ true
first_some t None b is = is
first_some t (Some ts) b is = refl

or_left : (a b : Bool) → a ≡ true → (a || b) ≡ true
or_left true b is = refl
or_left false b is = absurd (let c = is in cc)

or_right : (a b : Bool) → b ≡ true → (a || b) ≡ true
or_right true b is = refl
or_right false b is = is

abbrev way_if : Bool → Option (List TableNo)
way_if here = if here then Some [] else None

own_way : (own leaf : LeafId) → own ≡ leaf → is_some (way_if (own.number == leaf.number)) ≡ true
own_way own leaf same =
    let number : own.number ≡ leaf.number = ap (λ (l : LeafId). l.number) same in
    let here : (own.number == leaf.number) ≡ true = grind (arith, nat_tests, number) in
    ap (λ b. is_some (way_if b)) here

mutual
  pub has_way : (tree : TableTree) (leaf : LeafId) → Contains (leaves tree) leaf → HasWay tree leaf
  has_way (LeafTable node own) leaf at = own_way own leaf (only_one own leaf at)
  has_way (LevelTable node level bounds kids) leaf at = has_way_in kids leaf at

  has_way_in : (kids : Trees) (leaf : LeafId) → Contains (all_leaves kids) leaf → is_some (way_to_one leaf kids) ≡ true
  has_way_in End leaf at = absurd (none_in leaf at)
  has_way_in (More k ks) leaf at = first_some (root k) (way_to leaf k) (way_to_one leaf ks) (elim (Contains-append_cases (leaves k) (all_leaves ks) leaf at) [
    | inl own ↦ or_left (is_some (way_to leaf k)) (is_some (way_to_one leaf ks)) (has_way k leaf own)
    | inr later ↦ or_right (is_some (way_to leaf k)) (is_some (way_to_one leaf ks)) (has_way_in ks leaf later)
  ])

abbrev kept_in : Result (Unit {0}) Refusal → LeafId → Result LeafId Refusal
kept_in (Ok u) old = Ok old
kept_in (Err r) old = Err r

-- what is answered where no row may move
pub stays_told : (r : Result (Unit {0}) Refusal) (fs : List Fault) (old : LeafId) → IsAnswer r (or_first fs tt) → IsAnswer (kept_in r old) (first_or fs (Ok old))
stays_told (Ok u) [] old is = refl
stays_told (Ok u) (f ∷ fs) old is = absurd (let c = is in cc)
stays_told (Err (Sql f)) [] old is = absurd (let c = is in cc)
stays_told (Err (Sql f)) (x ∷ xs) old is = let same : x ≡ f = (let c = is in cc) in ap Err same
stays_told (Err NoMemory) fs old is = tt

-- ---- what stands against it

-- a target of the leaf
pub into_own : (t : Target) (leaf : LeafId) → t.leaf ≡ leaf → is_into leaf t ≡ true
into_own t leaf is =
    let number : t.leaf.number ≡ leaf.number = ap (λ (l : LeafId). l.number) is in
    let test : (t.leaf.number == leaf.number) ≡ true = grind (arith, nat_tests, number) in
    test

pub one_has : (t : Target) (leaf : LeafId) → is_into leaf t ≡ true → HasTarget (t ∷ []) leaf
one_has t leaf is = or_left (is_into leaf t) false is

-- what is so is so where it is answered
pub on_ok : {X E : Type 0} (P : Type 0) (r : Result X E) → P → OnOk r P
on_ok P (Ok x) p = p
on_ok P (Err e) p = tt

-- what is known of the leaves holds as long as rows alone change
pub housing_stays : (old new : Stores) (s : ℕ) (tree : TableTree) (housing : Housing) → new ≡ record old { rows = new.rows } → IsHousing old s tree housing → IsHousing new s tree housing
housing_stays old new s tree housing same is = subst (λ (x : Stores). IsHousing x s tree housing) (sym same) (record { holders = is.holders; last = is.last })

pub one_target : (h : History) (s : ℕ) (g : Found) (t : Target) → IsTargetOf h s g.tree t → All (IsTargetOf h s g.tree) (t ∷ [])
one_target h s g t is = let P = IsTargetOf h s g.tree in All-cons P t [] is (All-nil P)

pub told_of : (r : Result (Unit {0}) Refusal) (h : History) (s : ℕ) (g : Found) (leaf : LeafId) (targets : List Target) (row : List Value) → All (IsTargetOf h s g.tree) targets → HasTarget targets leaf
    → IsAnswer r (or_first (leaf_faults (tables_of h) (find (is_into leaf) targets) row) tt) → IsAnswer r (or_first (holder_faults h s g.tree leaf row) tt)
told_of r h s g leaf targets row are has is =
    subst (λ fs. IsAnswer r (or_first fs tt)) (one_told h s g.tree leaf targets row (found_target (IsTargetOf h s g.tree) leaf targets are has)) is

-- ---- the named table is one of those that were made

pub known_table : (stores : Stores) (caller : Caller) (g : Found) → MayRun g stores caller → g.table.number < length stores.catalog.tables
known_table stores caller g may =
    let h = may.sound.0 in
    let still = may.sound.2.still in
    let count = tables_kept stores.catalog h may.sound.1.all.catalog in
    let made = (table_stays h caller.session still.earlier g.table.number still.since still.gathered.made).made in
    omega (arith, count, made)
