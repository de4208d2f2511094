-- What it says that the rows of the table need not be judged.
use Rattle.std.proofs.Common.{◌≡◌, ℕ, ◌<◌, ◌==◌, ◌&&◌, ◌||◌, not, Bool, true, false, List, [], ◌∷◌, ◌++◌, inl, inr, refl, sym, ap, ◌∙◌, subst, arith, Option, Some, None, Result, Ok, Err, length, map, slice_index_or}
use Rattle.std.specs.Prelude.{IfOk, IsSome, is_some, is_none}
use Rattle.std.specs.List.{Contains, list_any}
use Rattle.std.proofs.lemmas.Bool.{and_parts, cases_Bool}
use Rattle.std.proofs.lemmas.List.Elements.{All-contains}
use Rattle.pg_values.specs.declared.value.Value.{Value}
use Rattle.pg_values.specs.declared.fault.Fault.{Fault}
use Rattle.pg_values.specs.declared.fault.Refusal.{Refusal}
use Rattle.pg_values.specs.declared.fault.Refusal.TheVariants.{Sql}
use Rattle.pg_values.specs.declared.lock_mode.LockMode.TheVariants.{AccessExclusive}
use Rattle.pg_values.specs.Refusals.{IsAnswer, or_first}
use Rattle.pg_values.specs.Sets.{has}
use Rattle.pg_values.specs.declared.ids.TableNo.{TableNo}
use Rattle.pg_values.specs.declared.session_set.SessionSet.{SessionSet}
use Rattle.bound_forms.specs.Accepts.{accepts, accepts_among, is_default}
use Rattle.bound_forms.specs.declared.level.Level.{Level as OneLevel}
use Rattle.bound_forms.specs.declared.partition_bound.Bound.{Bound}
use Rattle.bound_forms.specs.Within.{within}
use Rattle.history.specs.declared.catalogue.Check.{Check}
use Rattle.history.specs.declared.catalogue.Entry.{Entry}
use Rattle.history.specs.declared.catalogue.KeptCheck.{KeptCheck}
use Rattle.history.specs.declared.catalogue.TableShape.TheVariants.{Level}
use Rattle.history.specs.declared.version.Version.{Version}
use Rattle.history.specs.Transactions.{open_of}
use Rattle.history.specs.Catalogue.{tables_made}
use Rattle.history.specs.Locks.{holds}
use Rattle.history.specs.History.{History, tx_events, lock_events, catalogue_events}
use Rattle.history.specs.Presence.{counts, entries_present, checks_of}
use Rattle.row_router.specs.declared.path.PathTest.TheVariants.{Bounds, Checks}
use Rattle.row_router.specs.declared.path_part.PathPart.{PathPart}
use Rattle.row_router.specs.Histories.{above, ddl_tree, kept_of, part_of, parent_in as parent_of, path_of, place_of as part_place, table_of, upwards}
use Rattle.row_router.specs.Paths.{refused}
use Rattle.row_router.specs.Trees.{leaves}
use Rattle.tx_table.specs.Stands.{TableStands}
use Rattle.row_store.specs.Judged.{refusing}
use Rattle.row_store.specs.Stands.{StoreStands}
use Rattle.part_catalog.specs.Answers.{parent_told}
use Rattle.part_catalog.specs.Found.{made_at}
use Rattle.part_catalog.specs.Stands.{CatalogueStands}
use Rattle.part_ddl.specs.Below.{tables_from}
use Rattle.part_ddl.specs.Placing.{IsFault, bounds_below, level_at}
use Rattle.part_ddl.proofs.Making.{table_count}
use Rattle.ddl_steps.specs.Data.{DataStand}
use Rattle.ddl_steps.specs.Places.{breaks_place, is_refused_above, place_scan}
use Rattle.ddl_steps.specs.Scans.{Scan, IsClean, fault_told, judged, refusals, watches}
use Rattle.ddl_steps.specs.Sessions.{those}
use Rattle.ddl_steps.proofs.Cleaning.{NoneWatch, no_faults, own_watches}
use Rattle.ddl_steps.specs.Families.{parent_in}
use Rattle.ddl_steps.specs.Locks.{IsLocked}
use Rattle.ddl_steps.specs.Checks.{same_strategy, same_columns, same_level, implies}
use Rattle.soundness.specs.Worlds.{IsMade, Present, key_at, view}
use Rattle.soundness.proofs.All.{legal_keeps_all, legal_keeps_checks}
use Rattle.soundness.proofs.CheckSkip.{implied_accepts}
use Rattle.soundness.proofs.Columns.{house_present}
use Rattle.soundness.proofs.Listed.{first_in, later_in}
use Rattle.soundness.proofs.Paths.{agree}
use Rattle.soundness.proofs.Under.{under_map}
use Rattle.legal_statements.specs.Below.{numbers_from}
use Rattle.legal_statements.specs.Entries.{IsScanned}
use Rattle.legal_statements.specs.Locked.{IsOwned}
use Rattle.legal_statements.proofs.Adding.{check_for}
use Rattle.legal_statements.proofs.Finding.{nothing_is_found}
use Rattle.legal_statements.proofs.Holding.{owns_of, session_runs}
use Rattle.legal_statements.proofs.Trees.{tree_is_whole}
use Rattle.stores.specs.Events.{tx_in}
use Rattle.stores.specs.Good.{IsGood}
use Rattle.stores.specs.Stand.{Stands}
use Rattle.stores.specs.declared.stores.Stores.{Stores}
use Rattle.stores.proofs.Goodness.{held_own, legal_of, permitted_of}
use Rattle.statement_steps.specs.Attempts.{MayAttempt}
use Rattle.statement_steps.specs.declared.caller.Caller.{Caller}
use Rattle.statement_steps.proofs.Owned.{own_number}
use Rattle.ddl_steps.proofs.Below.{from_numbers, unmapped_in, same_number}
use Rattle.ddl_steps.proofs.Locks.{held_at_history}
use Rattle.ddl_steps.proofs.Levels.{columns_are}
use Rattle.ddl_steps.proofs.Sets.{are_those}
use Rattle.ddl_steps.proofs.Shapes.{shape_at}
use Rattle.alter_table.specs.AskedOfAttached.{HasFamilyLocked, IsJudgedIn}
use Rattle.alter_table.specs.Skipped.{SkippedIsClean, asks_nothing, is_implied, is_skipped, kept_for}

-- ---- it is told

pub partly : (o : Option TableNo) (b : Bool) → is_some o ≡ true → false ≡ (is_none o && b)
partly None b e = absurd (let c = e in cc)
partly (Some t) b e = refl

pub wholly : (o : Option TableNo) (a b : Bool) → is_some o ≡ false → a ≡ b → a ≡ (is_none o && b)
wholly None a b e same = same
wholly (Some t) a b e same = absurd (let c = e in cc)

-- at the level of the parent
pub said_at : (told : Result OneLevel Fault) (level : OneLevel) (b : Bound) (kept : List KeptCheck) (is : Bool) → told ≡ Ok level → is ≡ list_any (implies level b) kept → is ≡ is_implied told b kept
said_at told level b kept is at same = same ∙ sym (ap (λ (r : Result OneLevel Fault). is_implied r b kept) at)

pub none_said : (e : Refusal) (f : Fault) (told : Result OneLevel Fault) (b : Bound) (kept : List KeptCheck) → e ≡ Sql f → IsFault e told → false ≡ is_implied told b kept
none_said e f told b kept is fault = let none : told ≡ Err f = subst (λ x. IsFault x told) is fault in sym (ap (λ (r : Result OneLevel Fault). is_implied r b kept) none)

pub skipped_told : (a b x y : Bool) → a ≡ true → a ≡ x → b ≡ y → b ≡ (x && y)
skipped_told a b true y t same is = is
skipped_told a b false y t same is = absurd (let c = sym t ∙ same in cc)

pub not_skipped : (a x y : Bool) → a ≡ false → a ≡ x → false ≡ (x && y)
not_skipped a true y f same = absurd (let c = sym f ∙ same in cc)
not_skipped a false y f same = refl

-- ---- what it says

no_parent : (o : Option Entry) → is_none (parent_told o) ≡ true → o ≡ None
no_parent None e = refl
no_parent (Some x) e = absurd (let c = e in cc)

no_kept : (ks : List KeptCheck) → (length ks == 0) ≡ true → ks ≡ []
no_kept [] e = refl
no_kept (k ∷ ks) e = absurd (omega (arith, same_number (length (k ∷ ks)) 0 e))

none_mapped : (cs : List Check) → map kept_of cs ≡ [] → cs ≡ []
none_mapped [] e = refl
none_mapped (c ∷ cs) e = absurd (let d = e in cc)

none_kept : (cs : List Check) → (length (map kept_of cs) == 0) ≡ true → cs ≡ []
none_kept cs e = none_mapped cs (no_kept (map kept_of cs) e)

pub record IsSaid (h : History) (s p t : ℕ) (b : Bound) : Type 0 where
  pub check : Check
  pub kept : Contains (checks_of h s t) check
  pub level : OneLevel
  pub shape : (made_at h p).shape ≡ Level level
  pub columns : level.columns ≡ check.kept.level.columns
  pub inside : within check.kept.bound b ≡ true

record Implying (level : OneLevel) (b : Bound) (cs : List Check) : Type 0 where
  check : Check
  there : Contains cs check
  says : implies level b (kept_of check) ≡ true

one_implies : (level : OneLevel) (b : Bound) (cs : List Check) → list_any (implies level b) (map kept_of cs) ≡ true → Implying level b cs
one_implies level b [] e = absurd (let c = e in cc)
one_implies level b (c ∷ cs) e = elim (cases_Bool (implies level b (kept_of c))) [
  | inl here ↦ record { check = c; there = first_in c cs; says = here }
  | inr past ↦ let rest = one_implies level b cs (rw past at e) in record { check = rest.check; there = later_in c cs rest.check rest.there; says = rest.says }
]

said_by : (h : History) (s p t : ℕ) (b : Bound) (told : Result OneLevel Fault) → level_at h p ≡ told → is_implied told b (kept_for h s t) ≡ true → IsSaid h s p t b
said_by h s p t b (Err f) at e = absurd (let c = e in cc)
said_by h s p t b (Ok level) at e =
    let one = one_implies level b (checks_of h s t) e in
    let k = one.check.kept in
    let parts = and_parts (same_level level k.level) (within k.bound b) one.says in
    let same = and_parts (same_strategy level.strategy k.level.strategy) (same_columns level.columns k.level.columns) parts.0 in
    record {
      check = one.check;
      kept = one.there;
      level = level;
      shape = shape_at (made_at h p).name (made_at h p).shape level at;
      columns = columns_are level.columns k.level.columns same.1;
      inside = parts.1;
    }

pub record IsLeftOut (h : History) (s p t : ℕ) (b : Bound) : Type 0 where
  pub alone : above (entries_present h s) p ≡ None
  pub unchecked : checks_of h s p ≡ []
  pub said : IsSaid h s p t b

pub left_out : (h : History) (s p t : ℕ) (b : Bound) → is_skipped h s p t b ≡ true → IsLeftOut h s p t b
left_out h s p t b is =
    let parts = and_parts (asks_nothing h s p) (is_implied (level_at h p) b (kept_for h s t)) is in
    let free = and_parts (is_none (parent_in h s p)) (length (kept_for h s p) == 0) parts.0 in
    record {
      alone = no_parent (above (entries_present h s) p) free.0;
      unchecked = none_kept (checks_of h s p) free.1;
      said = said_by h s p t b (level_at h p) refl parts.1;
    }

-- ---- a scan finds nothing

-- nothing above the parent refuses a row
path_alone : (h : History) (s p : ℕ) → above (entries_present h s) p ≡ None → checks_of h s p ≡ [] → path_of h s p ≡ record { table = table_of p; checks = []; place = None } ∷ []
unfolding path_of
path_alone h s p alone unchecked =
    let tables = tables_made (catalogue_events h) in
    let entries = entries_present h s in
    let path : Option Entry → List Check → List PathPart = λ o cs. record { table = table_of p; checks = map kept_of cs; place = part_place tables entries o } ∷ upwards 7 (part_of tables entries (checks_of h s)) (above entries) (parent_of o) in
    ap (λ o. path o (checks_of h s p)) alone ∙ ap (λ cs. path None cs) unchecked

none_above : (h : History) (s p : ℕ) (row : List Value) → above (entries_present h s) p ≡ None → checks_of h s p ≡ [] → is_refused_above h s p row ≡ false
none_above h s p row alone unchecked = ap (λ path. is_some (refused Bounds row path) || is_some (refused Checks row path)) (path_alone h s p alone unchecked)

among_of : (a b : Bool) → a ≡ true → (a || b) ≡ true
among_of true b is = refl
among_of false b is = absurd (let c = is in cc)

not_broken : (a b : Bool) → a ≡ true → b ≡ false → (not a || b) ≡ false
not_broken true b is out = out
not_broken false b is out = absurd (let c = is in cc)

-- the entry that is to come
abbrev entry_to : (p t tx : ℕ) → Bound → Entry
entry_to p t tx b = record { id = record { number = 0 }; parent = table_of p; child = table_of t; bound = b; by = record { number = tx }; cmd = 0 }

module _ (h : History) (s p t tx : ℕ) (b : Bound) (good : IsGood h) (own : open_of (tx_events h) s ≡ Some tx) (made : IsMade (catalogue_events h) t) (owned : (x : ℕ) → Contains (numbers_from h s t) x → IsOwned h s x) (out : IsLeftOut h s p t b) where
  accepts_row : (v : Version) → IsScanned h s tx t v → accepts (key_at (catalogue_events h) p v.row) b ≡ true
  accepts_row v is =
      let legal = legal_of h good in
      let permitted = permitted_of h good in
      let runs = session_runs h s tx legal own in
      let house = house_present h s t v.leaf legal (legal_keeps_all h legal permitted) made is.leaf in
      let to : (e : Entry) → Present (catalogue_events h) (counts (tx_events h) s) e → Present (catalogue_events h) (view (tx_events h) tx) e =
      λ e there. (there.0, sym (agree (tx_events h) s tx e.by.number own runs.runs) ∙ there.1, λ u end. sym (agree (tx_events h) s tx u own runs.runs) ∙ there.2 u end) in
      let low = under_map (catalogue_events h) (catalogue_events h) (counts (tx_events h) s) (view (tx_events h) tx) to house.steps t house.table house.under in
      let mine = owns_of h s tx house.table legal own (owned house.table ((tree_is_whole h s tx t legal permitted own).all house.steps house.table low)) in
      let said = out.said in
      let kept = check_for h s tx t said.check legal own said.kept in
      implied_accepts h (entry_to p t tx b) v house.steps house.table legal (legal_keeps_all h legal permitted) (legal_keeps_checks h legal permitted) runs (λ r look held. (session_runs h r look.tx legal (held_own h r look good held)).runs)
      said.check (record { kept = kept.0; child = kept.1; level = said.level; shape = said.shape; columns = said.columns; inside = said.inside }) mine is.version house.has low is.judged

  breaks_none : (v : Version) → IsScanned h s tx t v → breaks_place h s p b v.row ≡ false
  breaks_none v is =
      let key = key_at (catalogue_events h) p v.row in
      not_broken (accepts_among (bounds_below h s p) key b) (is_refused_above h s p v.row) (among_of (accepts key b) (is_default b && not (list_any (accepts key) (bounds_below h s p))) (accepts_row v is)) (none_above h s p v.row out.alone out.unchecked)

  finds_nothing : IsClean h s (place_scan h s p t b ∷ [])
  finds_nothing =
      let none = nothing_is_found h s tx t (breaks_place h s p b) (legal_of h good) own breaks_none in
      let first : refusing h s (tx_in h s) (leaves (ddl_tree h s t)) (breaks_place h s p b) ≡ None = subst (λ n. refusing h s n (leaves (ddl_tree h s t)) (breaks_place h s p b) ≡ None) (sym (own_number h s tx own)) none.0 in (
        ap (λ (o : Option Version). fault_told (place_scan h s p t b).fault o ++ []) first,
        λ r. ap (λ (w : Bool). w || false) (none.1 r),
      )

pub skipped_is_clean : SkippedIsClean
skipped_is_clean h s p t tx b good own made owned is = finds_nothing h s p t tx b good own made owned (left_out h s p t b is)

-- ---- what is told where it is not made

clean_judged : (h : History) (s : ℕ) (xs : List Scan) (set : SessionSet) → IsClean h s xs → ((k : ℕ) → has set k ≡ false) → judged h s xs ≡ Ok set
clean_judged h s xs set clean none = ap (λ fs. or_first fs (those (watches h s xs))) clean.0 ∙ ap Ok (are_those set (watches h s xs) (λ r. none r ∙ sym (clean.1 r)) (λ k le. none k))

some_of : (o : Option ℕ) → IsSome o → (n : ℕ) × (o ≡ Some n)
some_of None is = absurd (let c = is in cc)
some_of (Some n) is = (n, refl)

pub clean_in : SkippedIsClean → (stores : Stores) (caller : Caller) (p t : ℕ) (b : Bound) (h : History) → MayAttempt stores caller → t < length stores.catalog.tables → IsJudgedIn stores caller.session t h → is_skipped h caller.session p t b ≡ true → IsClean h caller.session (place_scan h caller.session p t b ∷ [])
clean_in law stores caller p t b h may low it is =
    let tx = some_of (slice_index_or stores.txs.current caller.session None) may.transaction in
    let count = table_count stores.catalog h it.tells.catalog in
    law h caller.session p t tx.0 b it.good (sym (it.tells.txs.current caller.session) ∙ tx.1) (omega (arith, count, low)) it.owned is

pub nobody_judged : (h : History) (s p t : ℕ) (b : Bound) (set : SessionSet) → IsClean h s (place_scan h s p t b ∷ []) → ((k : ℕ) → has set k ≡ false) → IsAnswer {T = SessionSet} (Ok set) (judged h s (place_scan h s p t b ∷ []))
nobody_judged h s p t b set clean none = clean_judged h s (place_scan h s p t b ∷ []) set clean none

pub nobody_watches : (h : History) (s p t : ℕ) (b : Bound) (set : SessionSet) → IsClean h s (place_scan h s p t b ∷ []) → ((k : ℕ) → has set k ≡ false) → (r : ℕ) → has set r ≡ watches h s (place_scan h s p t b ∷ []) r
nobody_watches h s p t b set clean none r = none r ∙ sym (clean.1 r)

-- ---- in each history in which the rows are judged

pub judged_now : (stores : Stores) (s t : ℕ) (h : History) → Stands stores h → HasFamilyLocked stores s t → IsJudgedIn stores s t h
judged_now stores s t h stands family = record {
  tells = record { txs = stands.all.txs; rows = stands.all.rows; catalog = stands.all.catalog };
  good = stands.good;
  owned = λ x listed.
      let found = unmapped_in (tables_from h s t) x (subst (λ (ns : List ℕ). Contains ns x) (sym (from_numbers h s t)) listed) in
      let held = All-contains (λ (y : TableNo). IsLocked stores s y.number) (tables_from h s t) found.0 (family h stands.all.txs stands.all.catalog) found.1 in
      inl (subst (λ (k : ℕ). holds (lock_events h) s k AccessExclusive ≡ true) found.2 (held_at_history stores h s found.0.number stands held));
}

-- those who watch
abbrev pub AreWatching : Stores → (session table : ℕ) → (History → List Scan) → SessionSet → Type 0
AreWatching stores s t rows set = (h : History) → IsJudgedIn stores s t h → (r : ℕ) → has set r ≡ watches h s (rows h) r

-- what is told of all in which the data stand
pub each_data : (stores : Stores) (s t : ℕ) (rows : History → List Scan) (judgement : Result SessionSet Refusal) → IfOk judgement (λ set. (h : History) → DataStand stores h → (r : ℕ) → has set r ≡ watches h s (rows h) r) → IfOk judgement (AreWatching stores s t rows)
each_data stores s t rows (Ok set) all = λ h it. all h it.tells
each_data stores s t rows (Err e) all = tt

pub own_never : (s t : ℕ) (judgement : Result SessionSet Refusal) (stores : Stores) (caller : Caller) → MayAttempt stores caller → HasFamilyLocked stores s t → (rows : History → List Scan) → IfOk judgement (AreWatching stores s t rows) → IfOk judgement (λ set. has set s ≡ false)
own_never s t (Ok set) stores caller may family rows all =
    let h = may.sound.0 in
    all h (judged_now stores s t h may.sound.1 family) s ∙ own_watches h s (rows h)
own_never s t (Err e) stores caller may family rows all = tt

pub found_clean : (s t : ℕ) (judgement : Result SessionSet Refusal) (old new : Stores) → new ≡ record old { locks = new.locks } → (rows : History → List Scan)
    → ((h : History) → IsJudgedIn old s t h → IsAnswer judgement (judged h s (rows h))) → IfOk judgement (AreWatching old s t rows) → NoneWatch judgement → (h : History) → IsJudgedIn new s t h → IsClean h s (rows h)
found_clean s t judgement old new rest rows answer all (set, is, nobody) h it =
    let told : (g : History) → IsJudgedIn old s t g → judged g s (rows g) ≡ Ok set = subst (λ (j : Result SessionSet Refusal). (g : History) → IsJudgedIn old s t g → IsAnswer j (judged g s (rows g))) is answer in
    let watching : AreWatching old s t rows set = subst (λ (j : Result SessionSet Refusal). IfOk j (AreWatching old s t rows)) is all in
    let was : IsJudgedIn old s t h = record {
      tells = record {
        txs = subst (λ (x : Stores). TableStands x.txs h) rest it.tells.txs;
        rows = subst (λ (x : Stores). StoreStands x.rows h) rest it.tells.rows;
        catalog = subst (λ (x : Stores). CatalogueStands x.catalog h) rest it.tells.catalog;
      };
      good = it.good;
      owned = it.owned;
    } in
    (no_faults (refusals h s (rows h)) (those (watches h s (rows h))) set (told h was), λ r. sym (watching h was r) ∙ nobody r)
