-- A statement as a whole: its gathering, and its run.
use Rattle.std.proofs.Common.{◌≡◌, ℕ, zero, suc, ◌+◌, ◌<◌, ◌==◌, Bool, true, false, if◌then◌else◌, List, [], ◌∷◌, ◌++◌, refl, ap, sym, ◌∙◌, subst, arith, append_assoc, Option, Some, None, Result, Ok, Err, IsErrAnd, All, length, slice_get, unwrap_or}
use Rattle.std.proofs.lemmas.Bool.Decides.{nat_tests}
use Rattle.std.proofs.lemmas.List.{length-map}
use Rattle.std.proofs.lemmas.Result.{err_from_is_err_and}
use Rattle.history.specs.declared.version.Version.{Version}
use Rattle.row_router.specs.Trees.{leaves}
use Rattle.row_store.specs.Kept.{KeptRows, stored_at, version_of}
use Rattle.row_store.specs.Stands.{StoreStands}
use Rattle.soundness.proofs.Presence.{all_more}
use Rattle.stores.specs.Events.{look_of, tx_in}
use Rattle.stores.specs.Stand.{Stands}
use Rattle.stores.proofs.Calls.{look_is_past}
use Rattle.history.specs.History.{History, versions}
use Rattle.stores.specs.Numbers.{IsAt}
use Rattle.stores.specs.declared.stores.Stores.{Stores}
use Rattle.stores.proofs.Commands.{commands_are_in_order, look_is_own}
use Rattle.statement_steps.specs.Ended.{giving}
use Rattle.statement_steps.specs.Made.{Made, and_then, then_told, behind, number_after}
use Rattle.statement_steps.specs.Attempts.{CanGoOn, NoRows, MayAttempt, MayGoOn, WentOn, GoesOn}
use Rattle.statement_steps.specs.Gathered.{AreLeft, Found, IsGatheredIn, IsStill, IsTargetAt, MayWriteAt, RowsLeft}
use Rattle.statement_steps.specs.declared.rest.Rest.TheVariants.{Rows, Detach}
use Rattle.statement_steps.specs.declared.rest.TargetRow.{TargetRow}
use Rattle.statement_steps.proofs.Parts.{own_tx}
use Rattle.statement_steps.proofs.Since.{since_now}
use Rattle.statement_steps.specs.declared.caller.Caller.{Caller}
use Rattle.statement_steps.specs.declared.rest.Rest.{Rest}
use Rattle.statement_steps.specs.declared.stop.Stop.{Stop}
use Rattle.statement_steps.specs.declared.stop.Stop.TheVariants as stop
use Rattle.statement_steps.proofs.Numbers.{one_later}
use Rattle.statement_steps.specs.Steps.{IsTold, IsHalted, IsPaused, IsStep, follow}
use Rattle.statement_steps.proofs.Steps.{went_on, goes_on}
use Rattle.statement_steps.proofs.Rights.{tables_kept}
use Rattle.change_statement.specs.Changed.{Changing, Told, begun_or_left, changed_by, changed_on, told_by, told_of}
use Rattle.change_statement.specs.Standing.{left_of}
use Rattle.change_statement.specs.declared.changed_rows.ChangedRows.{ChangedRows}
use Rattle.change_statement.specs.Running.{IsGathered, IsInRun, IsRunTold, IsRun, IsCommandTold, IsCommand, IsOwnRun, IsTargetIn, MayRun, MayWriteIn}
use Rattle.change_statement.proofs.Ended.{got_at}

-- ---- the run begins

pub begins_run : (g : Found) (h : History) (caller : Caller) → IsAt h caller.session caller.cmd → IsStill h caller.session g → IsInRun g h caller
begins_run g h caller at still = record {
  at = one_later h caller.session caller.cmd at;
  order = λ t own. commands_are_in_order h caller.session t caller.cmd at own;
  still = still;
}

-- with what is gathered now
gathered_in : (stores : Stores) (caller : Caller) (g : Found) (h : History) → MayAttempt stores caller → Stands stores h → IsGathered stores caller g → IsGatheredIn h caller.session g
gathered_in stores caller g h may stands its =
    let s = caller.session in
    let own = own_tx stores caller h may stands in
    let kept = tables_kept stores.catalog h stands.all.catalog in
    let known = its.known.made in
    record {
      made = omega (arith, kept, known);
      look = look_of h s caller.cmd;
      own = record { own = own.1 ∙ ap Some (sym (look_is_own h s own.0 caller.cmd stands.good own.1)); past = look_is_past stores.txs h s caller.cmd stands.all.txs };
      tree = its.read.is_tree h stands.all.txs stands.all.catalog;
      path = its.read.is_path h stands.all.txs stands.all.catalog;
      among = its.among;
      writes = all_more (MayWriteIn stores s) (MayWriteAt h s) g.leaves (λ leaf may_write. may_write h stands) its.writes;
      moves = λ on. all_more (MayWriteIn stores s) (MayWriteAt h s) (leaves g.tree) (λ leaf may_write. may_write h stands) (its.moves on);
      stays = its.stays;
    }

still_now : (stores : Stores) (caller : Caller) (g : Found) (h : History) → MayAttempt stores caller → Stands stores h → IsGathered stores caller g → IsStill h caller.session g
still_now stores caller g h may stands its = record { earlier = h; gathered = gathered_in stores caller g h may stands its; since = since_now caller.session h }

pub may_begin : (stores : Stores) (caller : Caller) (g : Found) → MayAttempt stores caller → caller.cmd < 4294967294 → IsGathered stores caller g → MayRun g stores caller
may_begin stores caller g may next its =
    let s = may.sound in
    let run = begins_run g s.0 caller s.2 (still_now stores caller g s.0 may s.1 its) in
    record {
      may = record { sound = (s.0, s.1, run.at); transaction = may.transaction; idle = may.idle; known = may.known; few = may.few; sessions = may.sessions; seats = may.seats; tables = may.tables };
      next = next;
      sound = (s.0, s.1, run);
    }

-- ---- and is the whole of what is left

run_is_told : {X T : Type 0} (g : Found) (see : X → T) (r : Result X Stop) (new : Stores) (caller : Caller) (h : History) (m : Made T) → IsRunTold g see r new caller h m → IsCommandTold see r new caller h m
run_is_told g see (Ok x) new caller h m told = (told.0, told.1)
run_is_told g see (Err (stop.Waits None)) new caller h m told = absurd told
run_is_told g see (Err (stop.Waits (Some rest))) new caller h m told = told
run_is_told g see (Err (stop.Refused f)) new caller h m told = told
run_is_told g see (Err stop.NoMemory) new caller h m told = tt

pub run_is_command : {X T : Type 0} (see : X → T) (r : Result X Stop) (old new : Stores) (caller : Caller) (g : Found) (f : History → Made T) → MayAttempt old caller → IsGathered old caller g → IsRun g see r old new caller f → IsCommand None see r old new caller f
run_is_command see r old new caller g f may its run = record {
  is = λ h stands at go. run_is_told g see r new caller h (f h) (run.is h stands (begins_run g h caller at (still_now old caller g h may stands its)));
  keeps = run.keeps;
  waits = run.waits;
}

-- ---- or of a statement that goes on

pub may_go : (stores : Stores) (caller : Caller) (r : RowsLeft) → MayAttempt stores caller → caller.cmd < 4294967294 → IsOwnRun stores caller r → MayRun r.found stores caller
may_go stores caller r may next its =
    let s = its.sound in
    let run = begins_run r.found s.0 caller s.2 (s.3.still (its.own s.0 s.1)) in
    record {
      may = record { sound = (s.0, s.1, run.at); transaction = may.transaction; idle = may.idle; known = may.known; few = may.few; sessions = may.sessions; seats = may.seats; tables = may.tables };
      next = next;
      sound = (s.0, s.1, run);
    }

got_low : (vs : List Version) (k : ℕ) (v : Version) → slice_get vs k ≡ Some v → k < length vs
got_low [] k v e = absurd (let c = e in cc)
got_low (x ∷ vs) zero v e = omega arith
got_low (x ∷ vs) (suc k) v e = let lt = got_low vs k v e in omega (arith, lt)

target_in : (rows : KeptRows) (g : Found) (h : History) (t : TargetRow) → StoreStands rows h → IsTargetAt h g t → IsTargetIn rows g t
target_in rows g h t stands its =
    let k = t.id.number in
    let count : length rows.stored ≡ length (versions h) = sym (length-map rows.stored version_of) ∙ ap length stands.births in
    let within : k < length (versions h) = got_low (versions h) k its.version its.there in
    let known : k < length rows.stored = omega (arith, count, within) in
    let there : slice_get (versions h) k ≡ Some (stored_at rows.stored t.id).version = subst (λ vs. slice_get vs k ≡ Some (stored_at rows.stored t.id).version) stands.births (got_at rows.stored k known) in
    let both : Some (stored_at rows.stored t.id).version ≡ Some its.version = sym there ∙ its.there in
    let same : (stored_at rows.stored t.id).version ≡ its.version = (let c = both in cc) in
    record { there = known; leaf = ap (λ (v : Version). v.leaf) same ∙ its.leaf; among = its.among }

pub left_in : (stores : Stores) (caller : Caller) (r : RowsLeft) → IsOwnRun stores caller r → All (IsTargetIn stores.rows r.found) r.left
left_in stores caller r its = let s = its.sound in all_more (IsTargetAt s.0 r.found) (IsTargetIn stores.rows r.found) r.left (λ t at. target_in stores.rows r.found s.0 t s.1.all.rows at) s.3.rows

pub left_is_command : {X T : Type 0} (see : X → T) (r : Result X Stop) (old new : Stores) (caller : Caller) (left : RowsLeft) (f : History → Made T) → IsOwnRun old caller left → IsRun left.found see r old new caller f → IsCommand (Some (Rows left)) see r old new caller f
left_is_command see r old new caller left f its run = record {
  is = λ h stands at go. run_is_told left.found see r new caller h (f h) (run.is h stands (begins_run left.found h caller at (go.still (its.own h stands))));
  keeps = run.keeps;
  waits = run.waits;
}

-- ---- behind what was gathered

command_behind : {Y U : Type 0} (view : Y → U) (r : Result Y Stop) (mid new : Stores) (caller : Caller) (h : History) (events : History) (m : Made U)
    → WentOn h caller.session caller.cmd [] mid (events ++ h) → IsCommandTold view r new caller (events ++ h) m → IsCommandTold view r new caller h (behind events m)
command_behind view (Ok x) mid new caller h events m first told =
    (told.0, subst (WentOn h caller.session (caller.cmd + 1) [] new) (sym (append_assoc m.events events h)) (went_on h (events ++ h) (m.events ++ (events ++ h)) caller.session caller.cmd (caller.cmd + 1) [] mid new first told.1))
command_behind view (Err (stop.Waits rest)) mid new caller h events m first told =
    let same = sym (append_assoc m.events events h) in (
      told.0,
      subst (WentOn h caller.session (number_after rest caller.cmd) (caller.session ∷ []) new) same (went_on h (events ++ h) (m.events ++ (events ++ h)) caller.session caller.cmd (number_after rest caller.cmd) (caller.session ∷ []) mid new first told.1),
      subst (λ k. CanGoOn k caller.session rest) same told.2,
    )
command_behind view (Err (stop.Refused f)) mid new caller h events m first told =
    (told.0, subst (WentOn h caller.session (caller.cmd + 1) [] new) (sym (append_assoc m.events events h)) (went_on h (events ++ h) (m.events ++ (events ++ h)) caller.session caller.cmd (caller.cmd + 1) [] mid new first told.1))
command_behind view (Err stop.NoMemory) mid new caller h events m first told = tt

pub then_command : {X T Y U : Type 0} {see : X → T} {view : Y → U} {x : X} {r : Result Y Stop} {old mid new : Stores} {caller : Caller} (f : History → Made T) (next : T → History → Made U)
    → IsStep see (Ok x) old mid caller caller.cmd f → IsCommand None view r mid new caller (next (see x)) → IsCommand None view r old new caller (follow f next)
then_command {see = see} {view = view} {x = x} {r = r} {old = old} {mid = mid} {new = new} {caller = caller} f next first second = record {
  is = λ h stands at go.
      let a = first.is h stands at in
      let told = second.is ((f h).events ++ h) a.1.stands a.1.at tt in
      subst (λ t. IsCommandTold view r new caller h (then_told t (f h).events (λ y. next y ((f h).events ++ h)))) (sym a.0)
      (command_behind view r mid new caller h (f h).events (next (see x) ((f h).events ++ h)) a.1 told);
  keeps = goes_on old mid new caller.session first.keeps second.keeps;
  waits = second.waits;
}

-- one that waits may go on under a later number
pub waits_later : (rest : Option Rest) (new : Stores) (caller : Caller) (h g : History) → WentOn h caller.session caller.cmd (caller.session ∷ []) new g → WentOn h caller.session (number_after rest caller.cmd) (caller.session ∷ []) new g
waits_later None new caller h g went = went
waits_later (Some rest) new caller h g went = record { stands = went.stands; at = one_later g caller.session caller.cmd went.at; others = went.others; since = went.since; queue = went.queue }

-- one that waits for no row may go on anywhere
pub goes_anywhere : (rest : Option Rest) (h : History) (s : ℕ) → NoRows rest → CanGoOn h s rest
goes_anywhere None h s none = tt
goes_anywhere (Some (Rows r)) h s none = absurd none
goes_anywhere (Some (Detach d)) h s none = tt

stop_told : {X T Y U : Type 0} (see : X → T) (view : Y → U) (e : Stop) (new : Stores) (caller : Caller) (h : History) (m : Made T) (next : T → Made U) → IsHalted {X = X} (Err e) new caller.session → IsTold see (Err e) new caller caller.cmd h m → IsCommandTold view (Err e) new caller h (and_then m next)
stop_told see view (stop.Waits rest) new caller h m next halted told = subst (λ t. IsCommandTold view (Err (stop.Waits rest)) new caller h (then_told t m.events next)) (sym told.0) (refl, waits_later rest new caller h (m.events ++ h) told.1, goes_anywhere rest (m.events ++ h) caller.session halted.1)
stop_told see view (stop.Refused f) new caller h m next halted told = subst (λ t. IsCommandTold view (Err (stop.Refused f)) new caller h (then_told t m.events next)) (sym told.0) (refl, told.1)
stop_told see view stop.NoMemory new caller h m next halted told = tt

stop_paused : (X Y : Type 0) (e : Stop) (stores : Stores) (s : ℕ) → IsHalted {X = X} (Err e) stores s → IsPaused {X = Y} (Err e) stores s
stop_paused X Y (stop.Waits rest) stores s halted = halted.0
stop_paused X Y (stop.Refused f) stores s halted = halted
stop_paused X Y stop.NoMemory stores s halted = tt

pub stop_command : {X T Y U : Type 0} {see : X → T} {view : Y → U} {e : Stop} {old new : Stores} {caller : Caller} (f : History → Made T) (next : T → History → Made U)
    → IsStep see (Err e) old new caller caller.cmd f → IsCommand None view (Err e) old new caller (follow f next)
stop_command {X = X} {Y = Y} {see = see} {view = view} {e = e} {old = old} {new = new} {caller = caller} f next first = record {
  is = λ h stands at go. stop_told see view e new caller h (f h) (λ y. next y ((f h).events ++ h)) first.waits (first.is h stands at);
  keeps = first.keeps;
  waits = stop_paused X Y e new caller.session first.waits;
}

-- so a `?` hands it on
pub handed_command : {X T : Type 0} {view : X → T} {r : Result X Stop} {e : Stop} {old new : Stores} {caller : Caller} {f : History → Made T} → IsErrAnd r (λ s. s ≡ e) → IsCommand None view (Err e) old new caller f → IsCommand None view r old new caller f
handed_command {view = view} {r = r} {old = old} {new = new} {caller = caller} {f = f} is command = let p = err_from_is_err_and r is in subst (λ x. IsCommand None view x old new caller f) (sym (p.1 ∙ ap Err p.2)) command

-- memory runs out behind a part that is done
pub out_command : {X T Y U : Type 0} {see : X → T} {view : Y → U} {x : X} {r : Result Y Stop} {old new : Stores} {caller : Caller} {k : ℕ} {f : History → Made T} {g : History → Made U} → IsErrAnd r (λ s. s ≡ stop.NoMemory) → IsStep see (Ok x) old new caller k f → IsCommand None view r old new caller g
out_command is first = handed_command is (record { is = λ h stands at go. tt; keeps = first.keeps; waits = tt })

-- ---- from the beginning, or from where it stood

pub begun_by : (change : Found → Changing) (names : List (List ℕ)) (rest : Option Rest) (r : Result ChangedRows Stop) (old new : Stores) (caller : Caller) (begin : History → Made Told) → ((h : History) → Stands old h → None ≡ left_of h caller rest) → IsCommand None told_by r old new caller begin
    → IsCommand rest told_by r old new caller (changed_by change names caller rest begin)
begun_by change names rest r old new caller begin none command = record {
  is = λ h stands at go. subst (λ o. IsCommandTold told_by r new caller h (begun_or_left begin (λ x k. giving (told_of x.found) (changed_on change names caller x k)) o h)) (none h stands) (command.is h stands at tt);
  keeps = command.keeps;
  waits = command.waits;
}

own_rest : (h : History) (caller : Caller) (rest : Option Rest) (left : RowsLeft) → Some left ≡ left_of h caller rest → CanGoOn h caller.session rest → AreLeft h caller.session left
own_rest h caller None left is go = absurd (let c = is in cc)
own_rest h caller (Some (Detach d)) left is go = absurd (let c = is in cc)
own_rest h caller (Some (Rows r)) left is go = by (r.by.number == tx_in h caller.session) is
  where
    by : (b : Bool) → Some left ≡ (if b then Some r else None) → AreLeft h caller.session left
    by true e = let same : r ≡ left = (let c = e in cc) in subst (AreLeft h caller.session) same go
    by false e = absurd (let c = e in cc)

own_number : (h : History) (caller : Caller) (rest : Option Rest) (left : RowsLeft) → Some left ≡ left_of h caller rest → left.by.number ≡ tx_in h caller.session
own_number h caller None left is = absurd (let c = is in cc)
own_number h caller (Some (Detach d)) left is = absurd (let c = is in cc)
own_number h caller (Some (Rows r)) left is = by (r.by.number == tx_in h caller.session) refl is
  where
    by : (b : Bool) → (r.by.number == tx_in h caller.session) ≡ b → Some left ≡ (if b then Some r else None) → left.by.number ≡ tx_in h caller.session
    by true on e =
        let same : r ≡ left = (let c = e in cc) in
        let number : r.by.number ≡ tx_in h caller.session = grind (arith, nat_tests, on) in
        subst (λ (x : RowsLeft). x.by.number ≡ tx_in h caller.session) same number
    by false on e = absurd (let c = e in cc)

pub own_run : (stores : Stores) (caller : Caller) (rest : Option Rest) (left : RowsLeft) → MayAttempt stores caller → MayGoOn stores caller rest → ((h : History) → Stands stores h → Some left ≡ left_of h caller rest) → IsOwnRun stores caller left
own_run stores caller rest left may go is = record {
  own = λ h stands.
      let own = own_tx stores caller h may stands in
      let number = own_number h caller rest left (is h stands) in
      own.1 ∙ ap Some (sym (number ∙ ap (λ o. unwrap_or o 0) own.1));
  sound = (let s = go.sound in (s.0, s.1, s.2, own_rest s.0 caller rest left (is s.0 s.1) s.3));
}

pub gone_on : (change : Found → Changing) (names : List (List ℕ)) (rest : Option Rest) (left : RowsLeft) (r : Result ChangedRows Stop) (old new : Stores) (caller : Caller) (begin : History → Made Told) → ((h : History) → Stands old h → Some left ≡ left_of h caller rest)
    → IsCommand (Some (Rows left)) told_by r old new caller (λ h. giving (told_of left.found) (changed_on change names caller left h)) → IsCommand rest told_by r old new caller (changed_by change names caller rest begin)
gone_on change names rest left r old new caller begin is command = record {
  is = λ h stands at go. subst (λ o. IsCommandTold told_by r new caller h (begun_or_left begin (λ x k. giving (told_of x.found) (changed_on change names caller x k)) o h)) (is h stands) (command.is h stands at (own_rest h caller rest left (is h stands) go));
  keeps = command.keeps;
  waits = command.waits;
}
