-- Tables that are still to be locked, and those that are still to go, one after another.
use Rattle.std.proofs.Common.{◌≡◌, ℕ, ◌+◌, ◌<◌, ◌&&◌, Bool, true, false, List, [], ◌∷◌, ◌++◌, refl, sym, ap, ◌∙◌, subst, arith, append_assoc, append-nil, Option, Some, None, Result, Ok, Err, All, map, length, slice_index_or}
use Rattle.std.specs.Prelude.{is_none, Vec, ◌≤◌}
use Rattle.std.specs.List.{Contains}
use Rattle.std.specs.Option.{option_to_list}
use Rattle.std.proofs.lemmas.List.{map-append}
use Rattle.std.proofs.lemmas.List.Elements.{All-nil, All-cons, All-head, All-tail, All-append, All-contains, Contains-append_left, Contains-append_right}
use Rattle.pg_values.specs.declared.ids.TableNo.{TableNo}
use Rattle.pg_values.specs.declared.lock_mode.LockMode.TheVariants.{AccessExclusive}
use Rattle.history.specs.declared.transaction.TxId.{TxId}
use Rattle.history.specs.declared.catalogue.Entry.{Entry}
use Rattle.history.specs.Transactions.{open_of}
use Rattle.history.specs.History.{Event, History, tx_events}
use Rattle.history.specs.Presence.{entries_present}
use Rattle.row_router.specs.Histories.{is_over}
use Rattle.tx_table.specs.Stands.{TableStands}
use Rattle.lock_table.specs.Kept.{KeptLocks}
use Rattle.lock_table.specs.Stands.{IsIdle}
use Rattle.soundness.specs.Worlds.{view}
use Rattle.soundness.proofs.Listed.{first_in}
use Rattle.soundness.proofs.Worlds.{view_world}
use Rattle.part_catalog.specs.Answers.{parent_told}
use Rattle.part_catalog.specs.Found.{resolved}
use Rattle.part_catalog.specs.Stands.{CatalogueStands}
use Rattle.part_ddl.specs.Below.{tables_from}
use Rattle.part_ddl.proofs.Standing.{same_entries}
use Rattle.legal_statements.specs.Laws.{TreeIsWhole}
use Rattle.stores.specs.Numbers.{IsAt}
use Rattle.stores.specs.Stand.{Stands}
use Rattle.stores.specs.declared.stores.Stores.{Stores}
use Rattle.statement_steps.specs.Made.{Made, Halt, made, behind, and_then}
use Rattle.statement_steps.specs.Attempts.{MayAttempt, GoesOn, LocksStay}
use Rattle.statement_steps.specs.declared.caller.Caller.{Caller}
use Rattle.statement_steps.specs.declared.stop.Stop.{Stop}
use Rattle.statement_steps.specs.declared.stop.Stop.TheVariants as stop
use Rattle.statement_steps.specs.Asks.{all_locked, found, meant_or_none}
use Rattle.statement_steps.specs.Steps.{IsTold, IsStep, follow}
use Rattle.statement_steps.proofs.Parts.{stays, nothing_done, locks_same, no_memory}
use Rattle.statement_steps.proofs.Steps.{goes_on, then_step, stop_step, may_go_on, halted_same, same_step}
use Rattle.statement_steps.proofs.Owned.{IsOwn}
use Rattle.table_statements.specs.Asked.{MayDropTable, IsGoing, MayGo, to_lock, one_or_none, numbers}
use Rattle.table_statements.specs.Drops.{one_number, default_beside, tables_to_lock, drop_locked, locked_one, found_one, found_all, dropped_all}
use Rattle.ddl_steps.proofs.Below.{number, here_of, TreeLaws, from_numbers, unmapped_in, found_some, is_same, same_number}
use Rattle.ddl_steps.proofs.Deeds.{Each, IsDone, each_append, went}
use Rattle.table_statements.proofs.Dropping.{IsEnding, going_events, going_ends, going_done, going_on, going_first}
use Rattle.ddl_steps.specs.Families.{parent_in}
use Rattle.ddl_steps.specs.Locks.{IsLocked}

-- ---- what a drop locks

one_is : (o : Option TableNo) → one_number o ≡ map (λ (t : TableNo). t.number) (option_to_list o)
one_is None = refl
one_is (Some t) = refl

to_lock_numbers : (h : History) (s t : ℕ) → tables_to_lock h s t ≡ map number (to_lock h s t)
to_lock_numbers h s t =
    let up = parent_in h s t in
    let beside = default_beside h s up in
    let ts = tables_from h s t in
    ap (λ (ns : List ℕ). ns ++ (map number ts ++ one_number beside)) (one_is up)
    ∙ (ap (λ (ns : List ℕ). map number (option_to_list up) ++ (map number ts ++ ns)) (one_is beside)
    ∙ (ap (λ (ns : List ℕ). map number (option_to_list up) ++ ns) (sym (map-append number ts (option_to_list beside)))
    ∙ sym (map-append number (option_to_list up) (ts ++ option_to_list beside))))

pub drop_step : (names : List (List ℕ)) (r : Result (Unit {0}) Stop) (old new : Stores) (caller : Caller) (t : ℕ) (tables : List TableNo) → ((h : History) → TableStands old.txs h → CatalogueStands old.catalog h → tables ≡ to_lock h caller.session t)
    → IsStep (λ (u : Unit {0}). u) r old new caller caller.cmd (all_locked names caller.session AccessExclusive (map (λ t. t.number) tables)) → IsStep (λ (u : Unit {0}). u) r old new caller caller.cmd (drop_locked names caller.session t)
drop_step names r old new caller t tables are step =
    let s = caller.session in
    same_step (λ (u : Unit {0}). u) r old new caller caller.cmd (drop_locked names s t) (all_locked names s AccessExclusive (map number tables))
    (λ h stands. ap (λ (ns : List ℕ). all_locked names s AccessExclusive ns h) (to_lock_numbers h s t ∙ ap (map number) (sym (are h stands.all.txs stands.all.catalog)))) step

-- ---- what is locked then

in_option : (o : Option TableNo) (x : TableNo) → o ≡ Some x → Contains (option_to_list o) x
in_option None x e = absurd (let c = e in cc)
in_option (Some y) x e = let same : y ≡ x = (let c = e in cc) in subst (λ (z : TableNo). Contains (y ∷ []) z) same (first_in y [])

pub locked_to_drop : TreeLaws → (old new : Stores) (caller : Caller) (t : TableNo) (tables : List TableNo) → MayAttempt old caller → new ≡ record old { locks = new.locks } → t.number < length old.catalog.tables
    → ((h : History) → TableStands old.txs h → CatalogueStands old.catalog h → tables ≡ to_lock h caller.session t.number) → All (λ x. IsLocked new caller.session x.number) tables → MayDropTable new caller.session t
locked_to_drop laws old new caller t tables may rest made are locked =
    let s = caller.session in
    let g = may.sound.0 in
    let stands = may.sound.1 in
    let here = here_of old caller g may stands in
    record {
      made = subst (λ (x : Stores). t.number < length x.catalog.tables) (sym rest) made;
      owned = λ h x txs catalog at.
          let a : TableStands old.txs h = subst (λ (y : Stores). TableStands y.txs h) rest txs in
          let c : CatalogueStands old.catalog h = subst (λ (y : Stores). CatalogueStands y.catalog h) rest catalog in
          let up = parent_in h s t.number in
          let ts = tables_from h s t.number in
          let its = unmapped_in ts x (subst (λ (ns : List ℕ). Contains ns x) (sym (from_numbers h s t.number)) at) in
          let listed : Contains (to_lock h s t.number) its.0 =
          Contains-append_right (option_to_list up) (ts ++ option_to_list (default_beside h s up)) its.0 (Contains-append_left ts (option_to_list (default_beside h s up)) its.0 its.1) in
          subst (IsLocked new s) its.2 (All-contains (λ (y : TableNo). IsLocked new s y.number) tables its.0 locked (subst (λ (ys : List TableNo). Contains ys its.0) (sym (are h a c)) listed));
      guarded = λ h e txs catalog at child.
          let a : TableStands old.txs h = subst (λ (y : Stores). TableStands y.txs h) rest txs in
          let c : CatalogueStands old.catalog h = subst (λ (y : Stores). CatalogueStands y.catalog h) rest catalog in
          let es = entries_present g s in
          let there : Contains es e = subst (λ (xs : List Entry). Contains xs e) (same_entries old.txs old.catalog h g a stands.all.txs c stands.all.catalog s) at in
          let over : is_over t.number e ≡ true = is_same e.child.number t.number child in
          let top = found_some (is_over t.number) es e there over in
          let has = λ (x : Entry) (listed : Contains es x). (laws.listed g s here.0 x here.1.legal here.1.permitted here.1.own listed).0 in
          let siblings = (laws.all g here.1.legal here.1.permitted).siblings (view (tx_events g) here.0) (view_world (tx_events g) here.0) in
          let one : top.0 ≡ e = siblings.one_parent top.0 e (has top.0 top.2) (has e there) (same_number top.0.child.number t.number top.3 ∙ sym child) in
          let told : parent_in g s t.number ≡ Some top.0.parent = ap parent_told top.1 in
          let listed : Contains (to_lock g s t.number) top.0.parent =
          Contains-append_left (option_to_list (parent_in g s t.number)) (tables_from g s t.number ++ option_to_list (default_beside g s (parent_in g s t.number))) top.0.parent (in_option (parent_in g s t.number) top.0.parent told) in
          subst (λ (x : Entry). IsLocked new s x.parent.number) one
          (All-contains (λ (y : TableNo). IsLocked new s y.number) tables top.0.parent locked (subst (λ (ys : List TableNo). Contains ys top.0.parent) (sym (are g stands.all.txs stands.all.catalog)) listed));
    }

pub still_droppable : (old new : Stores) (s : ℕ) (t : TableNo) → new ≡ record old { locks = new.locks } → LocksStay old new → MayDropTable old s t → MayDropTable new s t
still_droppable old new s t rest stay its = record {
  made = subst (λ (x : Stores). t.number < length x.catalog.tables) (sym rest) its.made;
  owned = λ h x txs catalog at. stay s x AccessExclusive (its.owned h x (subst (λ (y : Stores). TableStands y.txs h) rest txs) (subst (λ (y : Stores). CatalogueStands y.catalog h) rest catalog) at);
  guarded = λ h e txs catalog at child. stay s e.parent.number AccessExclusive (its.guarded h e (subst (λ (y : Stores). TableStands y.txs h) rest txs) (subst (λ (y : Stores). CatalogueStands y.catalog h) rest catalog) at child);
}

all_still : (old new : Stores) (s : ℕ) (ts : List TableNo) → new ≡ record old { locks = new.locks } → LocksStay old new → All (MayDropTable old s) ts → All (MayDropTable new s) ts
all_still old new s ts rest stay all k d lt = still_droppable old new s (slice_index_or ts k d) rest stay (all k d lt)

-- ---- one named table

-- the table is locked, and is the one
abbrev locks_then : List (List ℕ) → (s x : ℕ) → History → Made (List ℕ)
locks_then names s x = follow (drop_locked names s x) (λ u h. made [] (x ∷ []))

behind_none : {T : Type 0} (m : Made T) → behind [] m ≡ m
behind_none m = ap (λ (es : History). record { events = es; told = m.told }) (append-nil m.events)

found_by : (names : List (List ℕ)) (s : ℕ) (name : List ℕ) (h : History) (o : Option ℕ) → locked_one names s false name o h ≡ and_then (meant_or_none name o) (λ x. locks_then names s x ((meant_or_none name o).events ++ h))
found_by names s name h None = refl
found_by names s name h (Some x) = sym (behind_none (locks_then names s x h))

as_found : (names : List (List ℕ)) (r : Result (Option TableNo) Stop) (old new : Stores) (caller : Caller) (name : List ℕ) → IsStep one_or_none r old new caller caller.cmd (follow (found caller.session name) (locks_then names caller.session))
    → IsStep one_or_none r old new caller caller.cmd (found_one names caller.session false name)
as_found names r old new caller name step =
    same_step one_or_none r old new caller caller.cmd (found_one names caller.session false name) (follow (found caller.session name) (locks_then names caller.session)) (λ h stands. found_by names caller.session name h (resolved h caller.session name)) step

pub none_found : (names : List (List ℕ)) (e : Stop) (stores : Stores) (caller : Caller) (name : List ℕ) → IsStep (λ (t : TableNo). t.number) (Err e) stores stores caller caller.cmd (found caller.session name)
    → IsStep one_or_none (Err e) stores stores caller caller.cmd (found_one names caller.session false name)
none_found names e stores caller name first =
    as_found names (Err e) stores stores caller name (stop_step (λ (t : TableNo). t.number) one_or_none e stores stores caller caller.cmd caller.cmd (found caller.session name) (locks_then names caller.session) first)

pub not_locked : (names : List (List ℕ)) (t : TableNo) (e : Stop) (old new : Stores) (caller : Caller) (name : List ℕ) → IsStep (λ (t : TableNo). t.number) (Ok t) old old caller caller.cmd (found caller.session name)
    → IsStep (λ (u : Unit {0}). u) (Err e) old new caller caller.cmd (drop_locked names caller.session t.number) → IsStep one_or_none (Err e) old new caller caller.cmd (found_one names caller.session false name)
not_locked names t e old new caller name first second =
    as_found names (Err e) old new caller name
    (then_step (λ (t : TableNo). t.number) one_or_none t (Err e) old old new caller caller.cmd (found caller.session name) (locks_then names caller.session) first
    (stop_step (λ (u : Unit {0}). u) one_or_none e old new caller caller.cmd caller.cmd (drop_locked names caller.session t.number) (λ u h. made [] (t.number ∷ [])) second))

pub one_locked : (names : List (List ℕ)) (t : TableNo) (old new : Stores) (caller : Caller) (name : List ℕ) → MayAttempt old caller → IsStep (λ (t : TableNo). t.number) (Ok t) old old caller caller.cmd (found caller.session name)
    → IsStep (λ (u : Unit {0}). u) (Ok tt) old new caller caller.cmd (drop_locked names caller.session t.number) → IsStep one_or_none (Ok (Some t)) old new caller caller.cmd (found_one names caller.session false name)
one_locked names t old new caller name may first second =
    let then_may = may_go_on (λ (u : Unit {0}). u) tt old new caller (drop_locked names caller.session t.number) may second in
    as_found names (Ok (Some t)) old new caller name
    (then_step (λ (t : TableNo). t.number) one_or_none t (Ok (Some t)) old old new caller caller.cmd (found caller.session name) (locks_then names caller.session) first
    (then_step (λ (u : Unit {0}). u) one_or_none tt (Ok (Some t)) old new new caller caller.cmd (drop_locked names caller.session t.number) (λ u h. made [] (t.number ∷ [])) second
    (nothing_done one_or_none (Some t) new caller (λ h. made [] (t.number ∷ [])) then_may (λ h stands. refl))))

-- an absent one is passed over
passed : (names : List (List ℕ)) (s : ℕ) (if_there : Bool) (name : List ℕ) (h : History) (o : Option ℕ) → (if_there && is_none o) ≡ true → locked_one names s if_there name o h ≡ made [] []
passed names s true name h None is = refl
passed names s true name h (Some t) is = absurd (let c = is in cc)
passed names s false name h o is = absurd (let c = is in cc)

pub passed_over : (names : List (List ℕ)) (stores : Stores) (caller : Caller) (if_there : Bool) (name : List ℕ) (b : Bool) → MayAttempt stores caller → ((h : History) → TableStands stores.txs h → CatalogueStands stores.catalog h → b ≡ (if_there && is_none (resolved h caller.session name))) → b ≡ true
    → IsStep one_or_none (Ok None) stores stores caller caller.cmd (found_one names caller.session if_there name)
passed_over names stores caller if_there name b may test passes =
    nothing_done one_or_none None stores caller (found_one names caller.session if_there name) may
    (λ h stands. passed names caller.session if_there name h (resolved h caller.session name) (sym (test h stands.all.txs stands.all.catalog) ∙ passes))

not_passed : (names : List (List ℕ)) (s : ℕ) (if_there : Bool) (name : List ℕ) (h : History) (o : Option ℕ) → (if_there && is_none o) ≡ false → locked_one names s if_there name o h ≡ locked_one names s false name o h
not_passed names s true name h None is = absurd (let c = is in cc)
not_passed names s true name h (Some t) is = refl
not_passed names s false name h o is = refl

pub as_wanted : (names : List (List ℕ)) (r : Result (Option TableNo) Stop) (old new : Stores) (caller : Caller) (if_there : Bool) (name : List ℕ) (b : Bool) → ((h : History) → TableStands old.txs h → CatalogueStands old.catalog h → b ≡ (if_there && is_none (resolved h caller.session name))) → b ≡ false
    → IsStep one_or_none r old new caller caller.cmd (found_one names caller.session false name) → IsStep one_or_none r old new caller caller.cmd (found_one names caller.session if_there name)
as_wanted names r old new caller if_there name b test fails step =
    same_step one_or_none r old new caller caller.cmd (found_one names caller.session if_there name) (found_one names caller.session false name)
    (λ h stands. not_passed names caller.session if_there name h (resolved h caller.session name) (sym (test h stands.all.txs stands.all.catalog) ∙ fails)) step

-- ---- all named tables

-- what is left to be found makes the whole, behind what was found so far
pub record IsLeft (start mid : Stores) (caller : Caller) (names : List (List ℕ)) (if_there : Bool) (tables left : List (List ℕ)) (done : List TableNo) : Type 0 where
  pub ok : (new : Stores) (xs : List ℕ) → IsStep (λ (ns : List ℕ). ns) (Ok xs) mid new caller caller.cmd (found_all names caller.session if_there left)
      → IsStep (λ (ns : List ℕ). ns) (Ok (map (λ t. t.number) done ++ xs)) start new caller caller.cmd (found_all names caller.session if_there tables)
  pub err : (new : Stores) (e : Stop) → IsStep {X = List ℕ} (λ ns. ns) (Err e) mid new caller caller.cmd (found_all names caller.session if_there left)
      → IsStep {X = List ℕ} (λ ns. ns) (Err e) start new caller caller.cmd (found_all names caller.session if_there tables)
  pub keeps : GoesOn start mid caller.session
  pub may : MayAttempt mid caller
  pub few : length mid.catalog.tables ≤ 4096
  pub drop : All (MayDropTable mid caller.session) done

pub all_left : (start : Stores) (caller : Caller) (names : List (List ℕ)) (if_there : Bool) (tables : List (List ℕ)) → MayAttempt start caller → length start.catalog.tables ≤ 4096 → IsLeft start start caller names if_there tables tables []
all_left start caller names if_there tables may few = record {
  ok = λ new xs step. step;
  err = λ new e step. step;
  keeps = stays start caller.session;
  may = may;
  few = few;
  drop = All-nil (MayDropTable start caller.session);
}

with_more : (names : List (List ℕ)) (caller : Caller) (if_there : Bool) (ns : List (List ℕ)) (mid new : Stores) (first xs : List ℕ) → MayAttempt mid caller → IsStep (λ (ns : List ℕ). ns) (Ok xs) mid new caller caller.cmd (found_all names caller.session if_there ns)
    → IsStep (λ (ns : List ℕ). ns) (Ok (first ++ xs)) mid new caller caller.cmd (follow (found_all names caller.session if_there ns) (λ others h. made [] (first ++ others)))
with_more names caller if_there ns mid new first xs may step =
    then_step (λ (ns : List ℕ). ns) (λ (ns : List ℕ). ns) xs (Ok (first ++ xs)) mid new new caller caller.cmd (found_all names caller.session if_there ns) (λ others h. made [] (first ++ others)) step
    (nothing_done (λ (ns : List ℕ). ns) (first ++ xs) new caller (λ h. made [] (first ++ xs)) (may_go_on (λ (ns : List ℕ). ns) xs mid new caller (found_all names caller.session if_there ns) may step) (λ h stands. refl))

behind_found : (done : List TableNo) (o : Option TableNo) (xs : List ℕ) → map number done ++ (one_or_none o ++ xs) ≡ map number (done ++ option_to_list o) ++ xs
behind_found done None xs = ap (λ (ts : List TableNo). map number ts ++ xs) (sym (append-nil done))
behind_found done (Some t) xs = sym (append_assoc (map number done) (t.number ∷ []) xs) ∙ ap (λ (ns : List ℕ). ns ++ xs) (sym (map-append number done (t ∷ [])))

found_droppable : (stores : Stores) (s : ℕ) (o : Option TableNo) → ((t : TableNo) → o ≡ Some t → MayDropTable stores s t) → All (MayDropTable stores s) (option_to_list o)
found_droppable stores s None each = All-nil (MayDropTable stores s)
found_droppable stores s (Some t) each = All-cons (MayDropTable stores s) t [] (each t refl) (All-nil (MayDropTable stores s))

pub one_less : (start mid new : Stores) (caller : Caller) (names : List (List ℕ)) (if_there : Bool) (tables : List (List ℕ)) (n : List ℕ) (ns : List (List ℕ)) (done : List TableNo) (o : Option TableNo)
    → IsLeft start mid caller names if_there tables (n ∷ ns) done → IsStep one_or_none (Ok o) mid new caller caller.cmd (found_one names caller.session if_there n) → new ≡ record mid { locks = new.locks }
    → ((t : TableNo) → o ≡ Some t → MayDropTable new caller.session t) → IsLeft start new caller names if_there tables ns (done ++ option_to_list o)
one_less start mid new caller names if_there tables n ns done o left step rest droppable =
    let s = caller.session in
    let may = may_go_on one_or_none o mid new caller (found_one names s if_there n) left.may step in
    let next : List ℕ → History → Made (List ℕ) = λ first. follow (found_all names s if_there ns) (λ others h. made [] (first ++ others)) in
    record {
      ok = λ k xs later.
          let whole = then_step one_or_none (λ (ns : List ℕ). ns) o (Ok (one_or_none o ++ xs)) mid new k caller caller.cmd (found_one names s if_there n) next step (with_more names caller if_there ns new k (one_or_none o) xs may later) in
          subst (λ (ys : List ℕ). IsStep (λ (ns : List ℕ). ns) (Ok ys) start k caller caller.cmd (found_all names s if_there tables)) (behind_found done o xs) (left.ok k (one_or_none o ++ xs) whole);
      err = λ k e later.
          left.err k e (then_step {Y = List ℕ} one_or_none (λ (ns : List ℕ). ns) o (Err e) mid new k caller caller.cmd (found_one names s if_there n) next step
          (stop_step {X = List ℕ} {Y = List ℕ} (λ (ns : List ℕ). ns) (λ (ns : List ℕ). ns) e new k caller caller.cmd caller.cmd (found_all names s if_there ns) (λ others h. made [] (one_or_none o ++ others)) later));
      keeps = goes_on start mid new s left.keeps step.keeps;
      may = may;
      few = subst (λ (x : Stores). length x.catalog.tables ≤ 4096) (sym rest) left.few;
      drop = All-append (MayDropTable new s) done (option_to_list o) (all_still mid new s done rest step.keeps.locks left.drop) (found_droppable new s o droppable);
    }

-- the same for whatever is answered
seen_told : {X Y T : Type 0} (see : X → T) (view : Y → T) (e : Stop) (new : Stores) (caller : Caller) (n : ℕ) (h : History) (m : Made T) → IsTold see (Err e) new caller n h m → IsTold view (Err e) new caller n h m
seen_told see view (stop.Waits rest) new caller n h m told = told
seen_told see view (stop.Refused f) new caller n h m told = told
seen_told see view stop.NoMemory new caller n h m told = tt

pub stops_there : {A : Type 0} (start mid new : Stores) (caller : Caller) (names : List (List ℕ)) (if_there : Bool) (tables : List (List ℕ)) (n : List ℕ) (ns : List (List ℕ)) (done : List TableNo) (e : Stop)
    → IsLeft start mid caller names if_there tables (n ∷ ns) done → IsStep one_or_none (Err e) mid new caller caller.cmd (found_one names caller.session if_there n)
    → IsStep {X = Vec TableNo A} numbers (Err e) start new caller caller.cmd (found_all names caller.session if_there tables)
stops_there {A} start mid new caller names if_there tables n ns done e left step =
    let s = caller.session in
    let next : List ℕ → History → Made (List ℕ) = λ first. follow (found_all names s if_there ns) (λ others h. made [] (first ++ others)) in
    let whole = left.err new e (stop_step {Y = List ℕ} one_or_none (λ (ns : List ℕ). ns) e mid new caller caller.cmd caller.cmd (found_one names s if_there n) next step) in
    record {
      is = λ h stands at. seen_told {X = List ℕ} {Y = Vec TableNo A} (λ (ns : List ℕ). ns) numbers e new caller caller.cmd h (found_all names s if_there tables h) (whole.is h stands at);
      keeps = whole.keeps;
      waits = halted_same (List ℕ) (Vec TableNo A) e new s whole.waits;
    }

pub all_found : {A : Type 0} (start mid : Stores) (caller : Caller) (names : List (List ℕ)) (if_there : Bool) (tables : List (List ℕ)) (found : Vec TableNo A) → IsLeft start mid caller names if_there tables [] found.items
    → IsStep numbers (Ok found) start mid caller caller.cmd (found_all names caller.session if_there tables)
all_found start mid caller names if_there tables found left =
    let none = nothing_done (λ (ns : List ℕ). ns) [] mid caller (λ h. made [] []) left.may (λ h stands. refl) in
    let whole = subst (λ (ys : List ℕ). IsStep (λ (ns : List ℕ). ns) (Ok ys) start mid caller caller.cmd (found_all names caller.session if_there tables)) (append-nil (map number found.items)) (left.ok mid [] none) in
    record { is = λ h stands at. whole.is h stands at; keeps = whole.keeps; waits = whole.waits }

pub no_names : (xs : List (List ℕ)) → length xs ≡ 0 → xs ≡ []
no_names [] e = refl
no_names (x ∷ xs) e = absurd (omega (arith, e))

-- ---- the drops

-- what has gone so far, in a history, and what is left to go
pub record Gone (mid : Stores) (caller : Caller) (by : TxId) (tables left : List TableNo) (h : History) : Type 0 where
  pub events : List Event
  pub stands : Stands mid (events ++ h)
  pub own : open_of (tx_events h) caller.session ≡ Some by.number
  pub ends : Each IsEnding events
  pub done : Each (IsDone by.number caller.cmd) events
  pub told : dropped_all caller (map (λ t. t.number) tables) h ≡ behind events (dropped_all caller (map (λ t. t.number) left) (events ++ h))
  pub going : All (λ t. IsGoing (events ++ h) caller by t.number) left

pub record IsGoneSoFar (start mid : Stores) (caller : Caller) (by : TxId) (tables left : List TableNo) : Type 0 where
  pub may : MayAttempt start caller
  pub rest : mid ≡ record start { catalog = mid.catalog }
  pub at : (h : History) → Stands start h → IsAt h caller.session caller.cmd → Gone mid caller by tables left h

pub none_gone : (start : Stores) (caller : Caller) (by : TxId) (tables : List TableNo) → MayAttempt start caller → IsOwn start caller.session by → All (MayDropTable start caller.session) tables → IsGoneSoFar start start caller by tables tables
none_gone start caller by tables may mine droppable = record {
  may = may;
  rest = refl;
  at = λ h stands at. record {
    events = [];
    stands = stands;
    own = sym (mine h stands.all.txs);
    ends = tt;
    done = tt;
    told = sym (behind_none (dropped_all caller (map number tables) h));
    going = λ k d lt. going_first start caller by h (slice_index_or tables k d) stands at (sym (mine h stands.all.txs)) (droppable k d lt);
  };
}

-- the next table may go
pub may_go : (start mid : Stores) (caller : Caller) (by : TxId) (tables : List TableNo) (t : TableNo) (ts : List TableNo) → IsGoneSoFar start mid caller by tables (t ∷ ts) → MayGo mid caller by t.number
may_go start mid caller by tables t ts so_far =
    let sound = so_far.may.sound in
    let gone = so_far.at sound.0 sound.1 sound.2 in
    record { h = gone.events ++ sound.0; stands = gone.stands; going = All-head (λ x. IsGoing (gone.events ++ sound.0) caller by x.number) t ts gone.going }

abbrev as_made : Result (Unit {0}) Halt → History → Made (Unit {0})
as_made told events = record { events = events; told = told }

-- one drop more
told_more : (caller : Caller) (t : ℕ) (ts : List ℕ) (events h : History) → behind events (dropped_all caller (t ∷ ts) (events ++ h))
    ≡ behind (going_events caller t (events ++ h) ++ events) (dropped_all caller ts ((going_events caller t (events ++ h) ++ events) ++ h))
told_more caller t ts events h =
    let es = going_events caller t (events ++ h) in
    let rest = dropped_all caller ts (es ++ (events ++ h)) in
    ap (as_made rest.told) (append_assoc rest.events es events)
    ∙ ap (λ (g : History). behind (es ++ events) (dropped_all caller ts g)) (sym (append_assoc es events h))

pub one_gone : TreeIsWhole → (start mid new : Stores) (caller : Caller) (by : TxId) (tables : List TableNo) (t : TableNo) (ts : List TableNo) → IsGoneSoFar start mid caller by tables (t ∷ ts) → new ≡ record mid { catalog = new.catalog }
    → ((h : History) → Stands mid h → IsGoing h caller by t.number → Stands new (going_events caller t.number h ++ h)) → IsGoneSoFar start new caller by tables ts
one_gone whole start mid new caller by tables t ts so_far rest goes = record {
  may = so_far.may;
  rest = let f : Stores → Stores = λ s. record s { catalog = new.catalog } in rest ∙ ap f so_far.rest;
  at = λ h stands at.
      let gone = so_far.at h stands at in
      let g = gone.events ++ h in
      let es = going_events caller t.number g in
      let first = All-head (λ x. IsGoing g caller by x.number) t ts gone.going in
      let others = All-tail (λ x. IsGoing g caller by x.number) t ts gone.going in
      let joined : (es ++ gone.events) ++ h ≡ es ++ g = append_assoc es gone.events h in
      let after : Stands new (es ++ g) = goes g gone.stands first in
      let ends = going_ends caller t.number g in
      let done = going_done caller t.number g by first.own in
      record {
        events = es ++ gone.events;
        stands = subst (Stands new) (sym joined) after;
        own = gone.own;
        ends = each_append IsEnding es gone.events ends gone.ends;
        done = each_append (IsDone by.number caller.cmd) es gone.events done gone.done;
        told = gone.told ∙ told_more caller t.number (map number ts) gone.events h;
        going = λ k d lt. subst (λ (x : History). IsGoing x caller by (slice_index_or ts k d).number) (sym joined) (going_on whole caller by es g (slice_index_or ts k d).number ends done gone.stands.good after.good (others k d lt));
      };
}

-- memory ran out on the way
pub gone_out : (start mid new : Stores) (caller : Caller) (by : TxId) (tables left : List TableNo) → IsGoneSoFar start mid caller by tables left → new ≡ record mid { catalog = new.catalog }
    → IsStep (λ (u : Unit {0}). u) (Err stop.NoMemory) start new caller (caller.cmd + 1) (dropped_all caller (map (λ t. t.number) tables))
gone_out start mid new caller by tables left so_far rest =
    no_memory (λ (u : Unit {0}). u) start new caller (caller.cmd + 1) (dropped_all caller (map number tables))
    (locks_same start new caller.session (ap (λ (x : Stores). x.txs.current) rest ∙ ap (λ (x : Stores). x.txs.current) so_far.rest) (ap (λ (x : Stores). x.locks) rest ∙ ap (λ (x : Stores). x.locks) so_far.rest))

-- all have gone
pub all_gone : (start mid : Stores) (caller : Caller) (by : TxId) (tables : List TableNo) → IsGoneSoFar start mid caller by tables []
    → IsStep (λ (u : Unit {0}). u) (Ok tt) start mid caller (caller.cmd + 1) (dropped_all caller (map (λ t. t.number) tables))
all_gone start mid caller by tables so_far =
    let s = caller.session in
    let locks = ap (λ (x : Stores). x.locks) so_far.rest in
    record {
      is = λ h stands at.
          let gone = so_far.at h stands at in
          subst (IsTold (λ (u : Unit {0}). u) (Ok tt) mid caller (caller.cmd + 1) h) (sym gone.told)
          (refl, went mid s by.number caller.cmd gone.events h stands.all.txs.sound gone.own at gone.done gone.stands);
      keeps = locks_same start mid s (ap (λ (x : Stores). x.txs.current) so_far.rest) locks;
      waits = subst (λ (l : KeptLocks). IsIdle l s) (sym locks) so_far.may.idle;
    }

pub no_tables : (xs : List TableNo) → length xs ≡ 0 → xs ≡ []
no_tables [] e = refl
no_tables (x ∷ xs) e = absurd (omega (arith, e))
