-- Named tables that are still to be found and locked, one after the other.
use Rattle.std.proofs.Common.{◌≡◌, ℕ, ◌≤◌, List, [], ◌∷◌, ◌++◌, refl, sym, ap, ◌∙◌, subst, append_assoc, append-nil, Option, Some, None, Ok, Err, IfSome, All, map, length}
use Rattle.std.specs.Prelude.{Vec}
use Rattle.std.specs.Option.{option_to_list}
use Rattle.std.proofs.lemmas.List.{map-append}
use Rattle.std.proofs.lemmas.List.Elements.{All-nil, All-cons, All-append}
use Rattle.pg_values.specs.declared.ids.TableNo.{TableNo}
use Rattle.pg_values.specs.declared.lock_mode.LockMode.{LockMode}
use Rattle.history.specs.History.{History}
use Rattle.sql_ast.specs.declared.locked_table.LockedTable.{LockedTable}
use Rattle.stores.specs.declared.stores.Stores.{Stores}
use Rattle.statement_steps.specs.Made.{Made, made}
use Rattle.statement_steps.specs.Attempts.{MayAttempt, GoesOn}
use Rattle.statement_steps.specs.declared.caller.Caller.{Caller}
use Rattle.statement_steps.specs.declared.stop.Stop.{Stop}
use Rattle.statement_steps.specs.declared.stop.Stop.TheVariants as stop
use Rattle.statement_steps.specs.Asks.{named}
use Rattle.statement_steps.specs.Known.{IsKnownTo}
use Rattle.statement_steps.specs.Steps.{IsTold, IsStep, follow}
use Rattle.statement_steps.proofs.Parts.{stays, nothing_done}
use Rattle.statement_steps.proofs.Steps.{goes_on, then_step, stop_step, may_go_on, halted_same}
use Rattle.table_statements.specs.Locked.{whole, one_named, all_named}
use Rattle.table_statements.specs.SeenLocks.{one_or_none, numbers}
use Rattle.table_statements.proofs.Locking.{few_stays, known_stay}

-- ---- one of them

pub one_found : (names : List (List ℕ)) (m : LockMode) (x : LockedTable) (t : TableNo) (o : Option TableNo) (old new : Stores) (caller : Caller) → one_or_none o ≡ whole x.only t.number → MayAttempt old caller
    → IsStep (λ (t : TableNo). t.number) (Ok t) old new caller caller.cmd (named names caller.session m x.name) → IsStep one_or_none (Ok o) old new caller caller.cmd (one_named names caller.session m x)
one_found names m x t o old new caller told may first =
    let find = named names caller.session m x.name in
    then_step (λ (t : TableNo). t.number) one_or_none t (Ok o) old new new caller caller.cmd find (λ n h. made [] (whole x.only n)) first
    (nothing_done one_or_none o new caller (λ h. made [] (whole x.only t.number)) (may_go_on (λ (t : TableNo). t.number) t old new caller find may first) (λ h stands. ap (made []) (sym told)))

pub one_stops : (names : List (List ℕ)) (m : LockMode) (x : LockedTable) (e : Stop) (old new : Stores) (caller : Caller) → IsStep (λ (t : TableNo). t.number) (Err e) old new caller caller.cmd (named names caller.session m x.name)
    → IsStep one_or_none (Err e) old new caller caller.cmd (one_named names caller.session m x)
one_stops names m x e old new caller first =
    stop_step (λ (t : TableNo). t.number) one_or_none e old new caller caller.cmd caller.cmd (named names caller.session m x.name) (λ n h. made [] (whole x.only n)) first

pub one_known : (stores : Stores) (s : ℕ) (t : TableNo) (o : Option TableNo) → IfSome o (λ x. x ≡ t) → IsKnownTo stores s t.number → IfSome o (λ x. IsKnownTo stores s x.number)
one_known stores s t None same known = tt
one_known stores s t (Some x) same known = subst (λ (y : TableNo). IsKnownTo stores s y.number) (sym same) known

-- ---- all of them

-- what is left to be found makes the whole, behind what was told so far
pub record IsLeft (start mid : Stores) (caller : Caller) (names : List (List ℕ)) (m : LockMode) (tables left : List LockedTable) (done : List TableNo) : Type 0 where
  pub ok : (new : Stores) (xs : List ℕ) → IsStep (λ (ns : List ℕ). ns) (Ok xs) mid new caller caller.cmd (all_named names caller.session m left)
      → IsStep (λ (ns : List ℕ). ns) (Ok (map (λ t. t.number) done ++ xs)) start new caller caller.cmd (all_named names caller.session m tables)
  pub err : (new : Stores) (e : Stop) → IsStep {X = List ℕ} (λ ns. ns) (Err e) mid new caller caller.cmd (all_named names caller.session m left)
      → IsStep {X = List ℕ} (λ ns. ns) (Err e) start new caller caller.cmd (all_named names caller.session m tables)
  pub keeps : GoesOn start mid caller.session
  pub may : MayAttempt mid caller
  pub few : length mid.catalog.tables ≤ 4096
  pub known : All (λ t. IsKnownTo mid caller.session t.number) done
  pub rest : mid ≡ record start { locks = mid.locks }

pub all_left : (start : Stores) (caller : Caller) (names : List (List ℕ)) (m : LockMode) (tables : List LockedTable) → MayAttempt start caller → length start.catalog.tables ≤ 4096 → IsLeft start start caller names m tables tables []
all_left start caller names m tables may few = record {
  ok = λ new xs step. step;
  err = λ new e step. step;
  keeps = stays start caller.session;
  may = may;
  few = few;
  known = All-nil (λ t. IsKnownTo start caller.session t.number);
  rest = refl;
}

-- the others behind it
abbrev then_others : List (List ℕ) → (s : ℕ) → LockMode → List LockedTable → List ℕ → History → Made (List ℕ)
then_others names s m xs first = follow (all_named names s m xs) (λ others h. made [] (first ++ others))

with_more : (names : List (List ℕ)) (caller : Caller) (m : LockMode) (xs : List LockedTable) (mid new : Stores) (first ns : List ℕ) → MayAttempt mid caller → IsStep (λ (ns : List ℕ). ns) (Ok ns) mid new caller caller.cmd (all_named names caller.session m xs)
    → IsStep (λ (ns : List ℕ). ns) (Ok (first ++ ns)) mid new caller caller.cmd (then_others names caller.session m xs first)
with_more names caller m xs mid new first ns may step =
    then_step (λ (ns : List ℕ). ns) (λ (ns : List ℕ). ns) ns (Ok (first ++ ns)) mid new new caller caller.cmd (all_named names caller.session m xs) (λ others h. made [] (first ++ others)) step
    (nothing_done (λ (ns : List ℕ). ns) (first ++ ns) new caller (λ h. made [] (first ++ ns)) (may_go_on (λ (ns : List ℕ). ns) ns mid new caller (all_named names caller.session m xs) may step) (λ h stands. refl))

behind_told : (done : List TableNo) (o : Option TableNo) (ns : List ℕ) → map (λ (t : TableNo). t.number) done ++ (one_or_none o ++ ns) ≡ map (λ (t : TableNo). t.number) (done ++ option_to_list o) ++ ns
behind_told done None ns = ap (λ (ts : List TableNo). map (λ (t : TableNo). t.number) ts ++ ns) (sym (append-nil done))
behind_told done (Some t) ns =
    let number : TableNo → ℕ = λ t. t.number in
    sym (append_assoc (map number done) (t.number ∷ []) ns) ∙ ap (λ (xs : List ℕ). xs ++ ns) (sym (map-append number done (t ∷ [])))

told_known : (stores : Stores) (s : ℕ) (o : Option TableNo) → IfSome o (λ x. IsKnownTo stores s x.number) → All (λ x. IsKnownTo stores s x.number) (option_to_list o)
told_known stores s None known = All-nil (λ x. IsKnownTo stores s x.number)
told_known stores s (Some t) known = All-cons (λ x. IsKnownTo stores s x.number) t [] known (All-nil (λ x. IsKnownTo stores s x.number))

pub rest_same : (start mid new : Stores) → mid ≡ record start { locks = mid.locks } → new ≡ record mid { locks = new.locks } → new ≡ record start { locks = new.locks }
rest_same start mid new first second = let f : Stores → Stores = λ s. record s { locks = new.locks } in second ∙ ap f first

pub one_less : (start mid new : Stores) (caller : Caller) (names : List (List ℕ)) (m : LockMode) (tables : List LockedTable) (x : LockedTable) (xs : List LockedTable) (done : List TableNo) (o : Option TableNo)
    → IsLeft start mid caller names m tables (x ∷ xs) done → IsStep one_or_none (Ok o) mid new caller caller.cmd (one_named names caller.session m x) → IfSome o (λ t. IsKnownTo new caller.session t.number)
    → new ≡ record mid { locks = new.locks } → IsLeft start new caller names m tables xs (done ++ option_to_list o)
one_less start mid new caller names m tables x xs done o left step known rest =
    let s = caller.session in
    let may = may_go_on one_or_none o mid new caller (one_named names s m x) left.may step in
    record {
      ok = λ k ns later.
          let whole = then_step one_or_none (λ (ns : List ℕ). ns) o (Ok (one_or_none o ++ ns)) mid new k caller caller.cmd (one_named names s m x) (then_others names s m xs) step (with_more names caller m xs new k (one_or_none o) ns may later) in
          subst (λ (ys : List ℕ). IsStep (λ (ns : List ℕ). ns) (Ok ys) start k caller caller.cmd (all_named names s m tables)) (behind_told done o ns) (left.ok k (one_or_none o ++ ns) whole);
      err = λ k e later.
          left.err k e (then_step {Y = List ℕ} one_or_none (λ (ns : List ℕ). ns) o (Err e) mid new k caller caller.cmd (one_named names s m x) (then_others names s m xs) step
          (stop_step {X = List ℕ} {Y = List ℕ} (λ (ns : List ℕ). ns) (λ (ns : List ℕ). ns) e new k caller caller.cmd caller.cmd (all_named names s m xs) (λ others h. made [] (one_or_none o ++ others)) later));
      keeps = goes_on start mid new s left.keeps step.keeps;
      may = may;
      few = few_stays mid new rest left.few;
      known = All-append (λ t. IsKnownTo new s t.number) done (option_to_list o) (known_stay mid new s done rest left.known) (told_known new s o known);
      rest = rest_same start mid new left.rest rest;
    }

-- the same for whatever is answered
seen_told : {X Y T : Type 0} (see : X → T) (view : Y → T) (e : Stop) (new : Stores) (caller : Caller) (n : ℕ) (h : History) (m : Made T) → IsTold see (Err e) new caller n h m → IsTold view (Err e) new caller n h m
seen_told see view (stop.Waits rest) new caller n h m told = told
seen_told see view (stop.Refused f) new caller n h m told = told
seen_told see view stop.NoMemory new caller n h m told = tt

pub stops_there : {A : Type 0} (start mid new : Stores) (caller : Caller) (names : List (List ℕ)) (m : LockMode) (tables : List LockedTable) (x : LockedTable) (xs : List LockedTable) (done : List TableNo) (e : Stop)
    → IsLeft start mid caller names m tables (x ∷ xs) done → IsStep one_or_none (Err e) mid new caller caller.cmd (one_named names caller.session m x)
    → IsStep {X = Vec TableNo A} numbers (Err e) start new caller caller.cmd (all_named names caller.session m tables)
stops_there {A} start mid new caller names m tables x xs done e left step =
    let s = caller.session in
    let whole = left.err new e (stop_step {Y = List ℕ} one_or_none (λ (ns : List ℕ). ns) e mid new caller caller.cmd caller.cmd (one_named names s m x) (then_others names s m xs) step) in
    record {
      is = λ h stands at. seen_told {X = List ℕ} {Y = Vec TableNo A} (λ (ns : List ℕ). ns) numbers e new caller caller.cmd h (all_named names s m tables h) (whole.is h stands at);
      keeps = whole.keeps;
      waits = halted_same (List ℕ) (Vec TableNo A) e new s whole.waits;
    }

pub all_found : {A : Type 0} (start mid : Stores) (caller : Caller) (names : List (List ℕ)) (m : LockMode) (tables : List LockedTable) (found : Vec TableNo A) → IsLeft start mid caller names m tables [] found.items
    → IsStep numbers (Ok found) start mid caller caller.cmd (all_named names caller.session m tables)
all_found start mid caller names m tables found left =
    let none = nothing_done (λ (ns : List ℕ). ns) [] mid caller (λ h. made [] []) left.may (λ h stands. refl) in
    let whole = subst (λ (ys : List ℕ). IsStep (λ (ns : List ℕ). ns) (Ok ys) start mid caller caller.cmd (all_named names caller.session m tables)) (append-nil (map (λ (t : TableNo). t.number) found.items)) (left.ok mid [] none) in
    record { is = λ h stands at. whole.is h stands at; keeps = whole.keeps; waits = whole.waits }
