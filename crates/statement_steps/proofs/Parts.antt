-- Single parts of a statement: nothing done, a refusal, a lock, a snapshot that is kept.
use Rattle.std.proofs.lemmas.Bool.Decides.{nat_tests}
use Rattle.std.proofs.lemmas.List.{length-map, get_or-map}
use Rattle.std.proofs.Common.{◌≡◌, ℕ, ◌+◌, ◌<◌, ◌==◌, ◌||◌, if◌then◌else◌, Bool, true, false, List, [], ◌∷◌, ◌++◌, refl, ap, sym, ◌∙◌, subst, arith, append-nil, Option, Some, None, Result, Ok, Err, IsErrAnd, OnOk, map, length, slice_index_or}
use Rattle.pg_values.specs.declared.ids.TableNo.{TableNo}
use Rattle.pg_values.specs.declared.session_set.SessionSet.{SessionSet}
use Rattle.pg_values.specs.declared.session_list.SessionList.{SessionList}
use Rattle.pg_values.specs.Lists.{listed}
use Rattle.pg_values.specs.Sets.{has, sessions}
use Rattle.pg_values.specs.Refusals.{IsAnswer as IsAnswerOr}
use Rattle.pg_values.specs.declared.fault.Fault.{Fault}
use Rattle.pg_values.specs.declared.fault.Refusal.{Refusal}
use Rattle.pg_values.specs.declared.fault.Refusal.TheVariants.{Sql, NoMemory}
use Rattle.refusals.specs.Refusals.{no_table, deadlock}
use Rattle.history.specs.declared.wait.WaitOn.TheVariants.{Ends, Snapshots}
use Rattle.history.specs.declared.wait.Wanted.{Wanted}
use Rattle.history.specs.declared.wait.Wanted.TheVariants.{Lock, Others}
use Rattle.history.specs.Locks.{LockEvents, queue, LockGot, WaitBegan}
use Rattle.history.specs.Waits.{is_cause}
use Rattle.history.specs.Transactions.{open_of, fate}
use Rattle.history.specs.Snapshots.{TakenSnapshot, held_by}
use Rattle.history.specs.History.{History, LockChange, tx_events, snapshot_events, catalogue_events, lock_events}
use Rattle.lock_table.specs.declared.asked.Asked.{Asked}
use Rattle.lock_table.specs.declared.asked.Asked.TheVariants.{Granted, Waits as IsBehindOthers, Deadlock}
use Rattle.lock_table.specs.Answers.{IsAnswer, after, left_waiting}
use Rattle.lock_table.specs.Kept.{held_at}
use Rattle.lock_table.specs.Stands.{IsIdle, OthersWait, SameSize}
use Rattle.stores.specs.Events.{held, held_first, look_of}
use Rattle.stores.proofs.Goodness.{legal_of}
use Rattle.stores.proofs.Meanwhile.{looks_keep_numbers}
use Rattle.soundness.specs.Worlds.{table_in as made_table}
use Rattle.soundness.specs.Parts.{IsKnown}
use Rattle.legal_statements.specs.Laws.{NamedIsThere}
use Rattle.part_catalog.specs.Found.{resolved, is_meant, table_number}
use Rattle.history.specs.Places.{no_table as no_table_made}
use Rattle.part_catalog.specs.Kept.{table_in, no_stored}
use Rattle.part_catalog.proofs.Found.{last_is}
use Rattle.stores.specs.Stand.{AllStand, Stands, IsSameSize}
use Rattle.stores.specs.Numbers.{IsAt}
use Rattle.stores.specs.declared.stores.Stores.{Stores}
use Rattle.lock_table.specs.AnswerLaws.{AnswerIsTold, HistoryIsTold}
use Rattle.lock_table.specs.Asked.{asked, asked_view, asked_events, asked_history, AskedView, AtOnce, WaitsBehind, ClosesCycle}
use Rattle.statement_steps.specs.Made.{Made, Waits, Refused, answered, made, halted}
use Rattle.statement_steps.specs.Attempts.{MayAttempt, NoRows, WentOn, GoesOn, HasCause, LocksStay}
use Rattle.statement_steps.specs.declared.rest.Rest.{Rest}
use Rattle.statement_steps.specs.declared.caller.Caller.{Caller}
use Rattle.statement_steps.specs.declared.stop.Stop.{Stop}
use Rattle.statement_steps.specs.declared.stop.Stop.TheVariants as stop
use Rattle.statement_steps.proofs.Numbers.{at_lock, one_later}
use Rattle.statement_steps.specs.Waiting.{Since}
use Rattle.statement_steps.proofs.Since.{since_now, since_locks, since_held}
use Rattle.statement_steps.proofs.Steps.{halted_same, handed_on}
use Rattle.statement_steps.proofs.Known.{some_of, has_known}
use Rattle.statement_steps.specs.Faults.{name_of, stop_of}
use Rattle.statement_steps.specs.Asks.{told_by, found, meant_or_none, number_or, kept_number, same_or_gone}
use Rattle.statement_steps.specs.Known.{maker_of, IsKnownTo}
use Rattle.statement_steps.specs.Steps.{IsTold, IsPart, IsStep}

-- ---- nothing is done

pub stays : (stores : Stores) (s : ℕ) → GoesOn stores stores s
stays stores s = record {
  transactions = refl;
  locks = λ r t m e. e;
  others = λ r other. refl;
  size = record { sessions = refl; tables = refl };
}

pub still_on : (stores : Stores) (h : History) (s n : ℕ) → Stands stores h → IsAt h s n → WentOn h s n [] stores h
still_on stores h s n stands at = record { stands = stands; at = at; others = λ r c other is. is; since = λ r other. since_now r h; queue = sym (append-nil (queue (lock_events h))) }

pub nothing_done : {X T : Type 0} (see : X → T) (x : X) (stores : Stores) (caller : Caller) (f : History → Made T) → MayAttempt stores caller
    → ((h : History) → Stands stores h → f h ≡ made [] (see x)) → IsStep see (Ok x) stores stores caller caller.cmd f
nothing_done see x stores caller f may is = record {
  is = λ h stands at. subst (IsTold see (Ok x) stores caller caller.cmd h) (sym (is h stands)) (refl, still_on stores h caller.session caller.cmd stands at);
  keeps = stays stores caller.session;
  waits = may.idle;
}

pub refused_here : {X T : Type 0} (see : X → T) (fault : Fault) (stores : Stores) (caller : Caller) (n : ℕ) (f : History → Made T) → MayAttempt stores caller
    → ((h : History) → Stands stores h → f h ≡ halted [] (Refused fault)) → IsStep see (Err (stop.Refused fault)) stores stores caller n f
refused_here see fault stores caller n f may is = record {
  is = λ h stands at. subst (IsTold see (Err (stop.Refused fault)) stores caller n h) (sym (is h stands)) (refl, still_on stores h caller.session (caller.cmd + 1) stands (one_later h caller.session caller.cmd at));
  keeps = stays stores caller.session;
  waits = may.idle;
}

-- memory ran out: nothing but what the caller sees is told
pub no_memory : {X T : Type 0} (see : X → T) (old new : Stores) (caller : Caller) (n : ℕ) (f : History → Made T) → GoesOn old new caller.session → IsStep see (Err stop.NoMemory) old new caller n f
no_memory see old new caller n f keeps = record { is = λ h stands at. tt; keeps = keeps; waits = tt }

-- a `?` hands that on
pub out_here : {X T : Type 0} {view : X → T} {r : Result X Stop} {stores : Stores} {caller : Caller} {n : ℕ} {f : History → Made T} → IsErrAnd r (λ s. s ≡ stop.NoMemory) → IsStep view r stores stores caller n f
out_here {view = view} {stores = stores} {caller = caller} {n = n} {f = f} is = handed_on is (no_memory view stores stores caller n f (stays stores caller.session))

-- ---- what is answered

pub answered_done : {X T : Type 0} (view : X → T) (x : X) (stores : Stores) (caller : Caller) (wanted : History → Result T Fault) → MayAttempt stores caller → ((h : History) → Stands stores h → wanted h ≡ Ok (view x))
    → IsStep view (Ok x) stores stores caller caller.cmd (λ h. answered (wanted h))
answered_done view x stores caller wanted may is = nothing_done view x stores caller (λ h. answered (wanted h)) may (λ h stands. ap answered (is h stands))

pub answered_refused : {X T : Type 0} (view : X → T) (r : Refusal) (stores : Stores) (caller : Caller) (n : ℕ) (wanted : History → Result T Fault) → MayAttempt stores caller → ((h : History) → Stands stores h → IsAnswerOr {T = T} (Err r) (wanted h))
    → IsStep view (Err (stop_of r)) stores stores caller n (λ h. answered (wanted h))
answered_refused view (Sql f) stores caller n wanted may is = refused_here view f stores caller n (λ h. answered (wanted h)) may (λ h stands. ap answered (is h stands))
answered_refused view NoMemory stores caller n wanted may is = no_memory view stores stores caller n (λ h. answered (wanted h)) (stays stores caller.session)

-- ---- a lock

or_right : (a b : Bool) → b ≡ true → (a || b) ≡ true
or_right true b e = refl
or_right false b e = e

-- what is told of an answer
told_at_once : (names : List (List ℕ)) (rest : Option Rest) (events : History) (v : AskedView) → AtOnce ≡ v → told_by names rest events v ≡ made events tt
told_at_once names rest events v e = ap (told_by names rest events) (sym e)

told_waits : (names : List (List ℕ)) (rest : Option Rest) (events : History) (others : List ℕ) (v : AskedView) → WaitsBehind others ≡ v → told_by names rest events v ≡ halted events (Waits rest)
told_waits names rest events others v e = ap (told_by names rest events) (sym e)

told_closes : (names : List (List ℕ)) (rest : Option Rest) (events : History) (cycle : List ℕ) (v : AskedView) → ClosesCycle cycle ≡ v → told_by names rest events v ≡ halted events (Refused (deadlock (map (name_of names) cycle)))
told_closes names rest events cycle v e = ap (told_by names rest events) (sym e)

-- the session asks for a lock, or to go on when others have given something up
abbrev pub asked_for : List (List ℕ) → (session : ℕ) → Wanted → Option Rest → History → Made (Unit {0})
asked_for names s w rest h = told_by names rest (map LockChange (asked_events (lock_events h) s w)) (asked (lock_events h) s w)

-- what the stores say of the request
pub record HasAsked (old new : Stores) (caller : Caller) (w : Wanted) (answer : Asked) : Type 0 where
  pub good : (h : History) → Stands old h → Stands new (after caller.session w answer h)
  pub is : (h : History) → Stands old h → IsAnswer (lock_events h) caller.session w answer
  pub view : (h : History) → Stands old h → asked_view answer ≡ asked (lock_events h) caller.session w
  pub history : (h : History) → Stands old h → after caller.session w answer h ≡ asked_history h caller.session w
  pub waits : slice_index_or new.locks.wants caller.session None ≡ left_waiting w answer
  pub others : OthersWait caller.session old.locks new.locks
  pub size : SameSize old.locks new.locks
  pub rest : new ≡ record old { locks = new.locks }

pub has_asked : (old new : Stores) (caller : Caller) (w : Wanted) (answer : Asked) → MayAttempt old caller
    → ((h : History) → Stands old h → Stands new (after caller.session w answer h)) → ((h : History) → AllStand old h → IsAnswer (lock_events h) caller.session w answer)
    → AnswerIsTold answer → HistoryIsTold answer → slice_index_or new.locks.wants caller.session None ≡ left_waiting w answer → OthersWait caller.session old.locks new.locks → IsSameSize old new
    → new ≡ record old { locks = new.locks } → HasAsked old new caller w answer
has_asked old new caller w answer may good is view history waits others size rest =
    let low : caller.session < 128 = omega (arith, may.known, may.few) in
    record {
      good = good;
      is = λ h stands. is h stands.all;
      view = λ h stands. view (lock_events h) caller.session w stands.all.locks.sound low (is h stands.all);
      history = λ h stands. history h caller.session w stands.all.locks.sound low (is h stands.all);
      waits = waits;
      others = others;
      size = record { sessions = size.waits; tables = size.tables };
      rest = rest;
    }

-- nobody loses a lock by it
asked_stay : (old new : Stores) (caller : Caller) (w : Wanted) (answer : Asked) (h : History) → HasAsked old new caller w answer → Stands old h → LocksStay old new
asked_stay old new caller (Lock t m) Granted h asked stands r k n e =
    let before = stands.all.locks.tells.held r k n in
    let now = (asked.good h stands).all.locks.tells.held r k n in
    now ∙ or_right _ _ (sym before ∙ e)
asked_stay old new caller (Others what) Granted h asked stands r k n e = (asked.good h stands).all.locks.tells.held r k n ∙ (sym (stands.all.locks.tells.held r k n) ∙ e)
asked_stay old new caller (Lock t m) (IsBehindOthers behind) h asked stands r k n e = (asked.good h stands).all.locks.tells.held r k n ∙ (sym (stands.all.locks.tells.held r k n) ∙ e)
asked_stay old new caller (Others what) (IsBehindOthers behind) h asked stands r k n e = (asked.good h stands).all.locks.tells.held r k n ∙ (sym (stands.all.locks.tells.held r k n) ∙ e)
asked_stay old new caller (Lock t m) (Deadlock cycle) h asked stands r k n e = (asked.good h stands).all.locks.tells.held r k n ∙ (sym (stands.all.locks.tells.held r k n) ∙ e)
asked_stay old new caller (Others what) (Deadlock cycle) h asked stands r k n e = (asked.good h stands).all.locks.tells.held r k n ∙ (sym (stands.all.locks.tells.held r k n) ∙ e)

asked_keeps : (old new : Stores) (caller : Caller) (w : Wanted) (answer : Asked) → MayAttempt old caller → HasAsked old new caller w answer → GoesOn old new caller.session
asked_keeps old new caller w answer may asked = record {
  transactions = ap (λ s. s.txs.current) asked.rest;
  locks = asked_stay old new caller w answer may.sound.0 asked may.sound.1;
  others = asked.others;
  size = asked.size;
}

-- the history went on by the answer
asked_on : (w : Wanted) (old new : Stores) (caller : Caller) (answer : Asked) (waiting : List ℕ) (n : ℕ) (h : History) → HasAsked old new caller w answer → Stands old h → IsAt (after caller.session w answer h) caller.session n
    → ((r c : ℕ) → IsAt h r c → IsAt (after caller.session w answer h) r c) → queue (lock_events (after caller.session w answer h)) ≡ queue (lock_events h) ++ waiting
    → WentOn h caller.session n waiting new (map LockChange (asked_events (lock_events h) caller.session w) ++ h)
asked_on w old new caller answer waiting n h asked stands at others queued =
    subst (WentOn h caller.session n waiting new) (asked.history h stands) (record { stands = asked.good h stands; at = at; others = λ r c other is. others r c is; since = λ r other. subst (Since r h) (sym (asked.history h stands)) (since_locks r (asked_events (lock_events h) caller.session w) h); queue = queued })

granted_at : (w : Wanted) (s : ℕ) (h : History) (r c : ℕ) → IsAt h r c → IsAt (after s w Granted h) r c
granted_at (Lock t m) s h r c at = at_lock (LockGot s t.number m) h r c at
granted_at (Others what) s h r c at = at

granted_queue : (w : Wanted) (s : ℕ) (h : History) → queue (lock_events (after s w Granted h)) ≡ queue (lock_events h) ++ []
granted_queue (Lock t m) s h = sym (append-nil (queue (lock_events h)))
granted_queue (Others what) s h = sym (append-nil (queue (lock_events h)))

pub granted_step : (names : List (List ℕ)) (old new : Stores) (caller : Caller) (w : Wanted) (rest : Option Rest) → MayAttempt old caller → HasAsked old new caller w Granted
    → IsStep (λ (u : Unit {0}). u) (Ok tt) old new caller caller.cmd (asked_for names caller.session w rest)
granted_step names old new caller w rest may asked = record {
  is = λ h stands at.
      let events = map LockChange (asked_events (lock_events h) caller.session w) in
      subst (IsTold (λ (u : Unit {0}). u) (Ok tt) new caller caller.cmd h) (sym (told_at_once names rest events _ (asked.view h stands)))
      (refl, asked_on w old new caller Granted [] caller.cmd h asked stands (granted_at w caller.session h caller.session caller.cmd at) (granted_at w caller.session h) (granted_queue w caller.session h));
  keeps = asked_keeps old new caller w Granted may asked;
  waits = asked.waits;
}

waiting_at : (w : Wanted) (s : ℕ) (behind : SessionSet) (h : History) (r c : ℕ) → IsAt h r c → IsAt (after s w (IsBehindOthers behind) h) r c
waiting_at (Lock t m) s behind h r c at = at_lock (WaitBegan s (Lock t m)) h r c at
waiting_at (Others what) s behind h r c at = at_lock (WaitBegan s (Others what)) h r c at

waiting_queue : (w : Wanted) (s : ℕ) (behind : SessionSet) (h : History) → queue (lock_events (after s w (IsBehindOthers behind) h)) ≡ queue (lock_events h) ++ s ∷ []
waiting_queue (Lock t m) s behind h = refl
waiting_queue (Others what) s behind h = refl

-- who waits for others has somebody to wait for
has_cause : (w : Wanted) (s : ℕ) (h : LockEvents) → (y : ℕ) × (is_cause h s w y ≡ true) → HasCause w
has_cause (Lock t m) s h cause = tt
has_cause (Others (Ends of)) s h cause = cause
has_cause (Others (Snapshots of)) s h cause = cause

pub waiting_part : (names : List (List ℕ)) (old new : Stores) (caller : Caller) (w : Wanted) (rest : Option Rest) (behind : SessionSet) → MayAttempt old caller → HasAsked old new caller w (IsBehindOthers behind)
    → IsPart (λ (u : Unit {0}). u) (Err (stop.Waits rest)) old new caller caller.cmd (asked_for names caller.session w rest)
waiting_part names old new caller w rest behind may asked = record {
  is = λ h stands at.
      let events = map LockChange (asked_events (lock_events h) caller.session w) in
      subst (IsTold (λ (u : Unit {0}). u) (Err (stop.Waits rest)) new caller caller.cmd h) (sym (told_waits names rest events (sessions behind) _ (asked.view h stands)))
      (refl, asked_on w old new caller (IsBehindOthers behind) (caller.session ∷ []) caller.cmd h asked stands (waiting_at w caller.session behind h caller.session caller.cmd at) (waiting_at w caller.session behind h) (waiting_queue w caller.session behind h));
  keeps = asked_keeps old new caller w (IsBehindOthers behind) may asked;
  waits = (w, asked.waits, has_cause w caller.session (lock_events may.sound.0) (asked.is may.sound.0 may.sound.1).some);
}

pub waiting_step : (names : List (List ℕ)) (old new : Stores) (caller : Caller) (w : Wanted) (rest : Option Rest) (behind : SessionSet) → MayAttempt old caller → NoRows rest → HasAsked old new caller w (IsBehindOthers behind)
    → IsStep (λ (u : Unit {0}). u) (Err (stop.Waits rest)) old new caller caller.cmd (asked_for names caller.session w rest)
waiting_step names old new caller w rest behind may left asked =
    let part = waiting_part names old new caller w rest behind may asked in
    record { is = part.is; keeps = part.keeps; waits = (part.waits, left) }

closing_at : (w : Wanted) (s : ℕ) (cycle : SessionList) (h : History) (r c : ℕ) → IsAt h r c → IsAt (after s w (Deadlock cycle) h) r c
closing_at (Lock t m) s cycle h r c at = at
closing_at (Others what) s cycle h r c at = at

closing_queue : (w : Wanted) (s : ℕ) (cycle : SessionList) (h : History) → queue (lock_events (after s w (Deadlock cycle) h)) ≡ queue (lock_events h) ++ []
closing_queue (Lock t m) s cycle h = sym (append-nil (queue (lock_events h)))
closing_queue (Others what) s cycle h = sym (append-nil (queue (lock_events h)))

pub closing_step : (names : List (List ℕ)) (old new : Stores) (caller : Caller) (w : Wanted) (rest : Option Rest) (cycle : SessionList) (f : Fault) → f ≡ deadlock (map (name_of names) (listed cycle)) → MayAttempt old caller
    → HasAsked old new caller w (Deadlock cycle) → IsStep (λ (u : Unit {0}). u) (Err (stop.Refused f)) old new caller caller.cmd (asked_for names caller.session w rest)
closing_step names old new caller w rest cycle f is_fault may asked = record {
  is = λ h stands at.
      let events = map LockChange (asked_events (lock_events h) caller.session w) in
      subst (IsTold (λ (u : Unit {0}). u) (Err (stop.Refused f)) new caller caller.cmd h) (sym (told_closes names rest events (listed cycle) _ (asked.view h stands))) (
        ap (λ x. Err (Refused x)) (sym is_fault),
        asked_on w old new caller (Deadlock cycle) [] (caller.cmd + 1) h asked stands (closing_at w caller.session cycle h caller.session (caller.cmd + 1) (one_later h caller.session caller.cmd at))
            (closing_at w caller.session cycle h) (closing_queue w caller.session cycle h),
      );
  keeps = asked_keeps old new caller w (Deadlock cycle) may asked;
  waits = asked.waits;
}

-- memory ran out behind the request
pub asked_and_out : {X T : Type 0} (see : X → T) (old new : Stores) (caller : Caller) (w : Wanted) (answer : Asked) (n : ℕ) (f : History → Made T) → MayAttempt old caller → HasAsked old new caller w answer
    → IsStep see (Err stop.NoMemory) old new caller n f
asked_and_out see old new caller w answer n f may asked = no_memory see old new caller n f (asked_keeps old new caller w answer may asked)

-- ---- a snapshot that is kept

held_first_locks : (o : Option TakenSnapshot) (s : ℕ) (snap : TakenSnapshot) (h : History) → lock_events (held_first o s snap ++ h) ≡ lock_events h
held_first_locks None s snap h = refl
held_first_locks (Some old) s snap h = refl

pub own_tx : (stores : Stores) (caller : Caller) (h : History) → MayAttempt stores caller → Stands stores h → (t : ℕ) × (open_of (tx_events h) caller.session ≡ Some t)
own_tx stores caller h may stands = let t = some_of (slice_index_or stores.txs.current caller.session None) may.transaction in (t.0, sym (stands.all.txs.current caller.session) ∙ t.1)

pub locks_same : (old new : Stores) (s : ℕ) → new.txs.current ≡ old.txs.current → new.locks ≡ old.locks → GoesOn old new s
locks_same old new s txs locks = record {
  transactions = txs;
  locks = λ r t m e. ap (λ l. has (held_at l.held t m) r) locks ∙ e;
  others = λ r other. ap (λ l. slice_index_or l.wants r None) locks;
  size = record { sessions = ap (λ l. length l.wants) locks; tables = ap (λ l. l.tables) locks };
}

pub held_step : (old new : Stores) (caller : Caller) → MayAttempt old caller → ((h : History) → Stands old h → IsAt h caller.session caller.cmd → Stands new (held h caller.session caller.cmd ++ h))
    → new.txs.current ≡ old.txs.current → new.locks ≡ old.locks → IsStep (λ (u : Unit {0}). u) (Ok tt) old new caller caller.cmd (λ h. made (held h caller.session caller.cmd) tt)
held_step old new caller may good txs locks = record {
  is = λ h stands at.
      let own = own_tx old caller h may stands in (
        refl,
        record {
          stands = good h stands at;
          at = (looks_keep_numbers h caller.session caller.session own.0 caller.cmd caller.cmd stands.good at own.1 (λ same. omega arith)).1;
          others = λ r c other is. (looks_keep_numbers h caller.session r own.0 caller.cmd c stands.good is own.1 (λ same. absurd (other (sym same)))).1;
          since = λ r other. since_held (held_by (snapshot_events h) caller.session) r caller.session (look_of h caller.session caller.cmd) h;
          queue = ap queue (held_first_locks (held_by (snapshot_events h) caller.session) caller.session (look_of h caller.session caller.cmd) h) ∙ sym (append-nil (queue (lock_events h)));
        },
      );
  keeps = locks_same old new caller.session txs locks;
  waits = subst (λ l. IsIdle l caller.session) (sym locks) may.idle;
}

-- ---- a table by its name

pub found_below : (stores : Stores) (h : History) (s k : ℕ) (name : List ℕ) → Stands stores h → resolved h s name ≡ Some k → k < length stores.catalog.tables
found_below stores h s k name stands e =
    let low = last_is (is_meant h s name) (table_number h) k e in
    let count = sym (length-map stores.catalog.tables table_in) ∙ ap length stands.all.catalog.tables in
    omega (arith, low.0, count)

pub found_known : (stores : Stores) (caller : Caller) (h : History) (k : ℕ) (name : List ℕ) → NamedIsThere → MayAttempt stores caller → Stands stores h → resolved h caller.session name ≡ Some k
    → IsKnown (tx_events h) (catalogue_events h) caller.session k
found_known stores caller h k name law may stands e =
    let own = own_tx stores caller h may stands in
    has_known h caller.session own.0 k own.1 (law h caller.session own.0 k name (legal_of h stands.good) own.1 e)

-- a name that means nothing
pub none_found : (stores : Stores) (caller : Caller) (name : List ℕ) (f : Fault) → f ≡ no_table name → MayAttempt stores caller
    → ((h : History) → Stands stores h → resolved h caller.session name ≡ None) → IsStep (λ (t : TableNo). t.number) (Err (stop.Refused f)) stores stores caller caller.cmd (found caller.session name)
none_found stores caller name f is may none = refused_here (λ (t : TableNo). t.number) f stores caller caller.cmd (found caller.session name) may (λ h stands. ap (meant_or_none name) (none h stands) ∙ ap (λ x. halted [] (Refused x)) (sym is))

-- a name that means the same table still, or another one
abbrev same_told : List ℕ → Bool → Made (Unit {0})
same_told name b = if b then made [] tt else halted [] (Refused (no_table name))

is_same : (n t : ℕ) → n ≡ t → (n == t) ≡ true
is_same n t same = grind (arith, nat_tests, same)

is_other : (n t : ℕ) → (n ≡ t → ⊥) → (n == t) ≡ false
is_other n t other = grind (arith, nat_tests, other)

pub same_here : (stores : Stores) (caller : Caller) (name : List ℕ) (t n : ℕ) → MayAttempt stores caller → n ≡ t → IsStep (λ (u : Unit {0}). u) (Ok tt) stores stores caller caller.cmd (λ h. same_or_gone name t n)
same_here stores caller name t n may same = nothing_done (λ (u : Unit {0}). u) tt stores caller (λ h. same_or_gone name t n) may (λ h stands. ap (same_told name) (is_same n t same))

pub gone_here : (stores : Stores) (caller : Caller) (name : List ℕ) (t n : ℕ) (f : Fault) → f ≡ no_table name → MayAttempt stores caller → (n ≡ t → ⊥)
    → IsStep (λ (u : Unit {0}). u) (Err (stop.Refused f)) stores stores caller caller.cmd (λ h. same_or_gone name t n)
gone_here stores caller name t n f is may other = refused_here (λ (u : Unit {0}). u) f stores caller caller.cmd (λ h. same_or_gone name t n) may (λ h stands. ap (same_told name) (is_other n t other) ∙ ap (λ x. halted [] (Refused x)) (sym is))

-- ---- what the session knows, told from what is kept

maker_is : (stores : Stores) (h : History) (x : ℕ) → Stands stores h → x < length stores.catalog.tables → (made_table (catalogue_events h) x).by.number ≡ maker_of stores x
maker_is stores h x stands lt =
    ap (λ ts. (slice_index_or ts x no_table_made).by.number) (sym stands.all.catalog.tables) ∙ ap (λ t. t.by.number) (get_or-map table_in stores.catalog.tables x no_stored no_table_made lt)

pub known_in : (stores : Stores) (h : History) (s x : ℕ) → Stands stores h → IsKnownTo stores s x → IsKnown (tx_events h) (catalogue_events h) s x
known_in stores h s x stands known =
    let by = maker_is stores h x stands known.made in (
      subst (λ n. x < n) (sym (length-map stores.catalog.tables table_in) ∙ ap length stands.all.catalog.tables) known.made,
      λ runs. sym (stands.all.txs.current s) ∙ (known.own (stands.all.txs.fates (maker_of stores x) ∙ (ap (fate (tx_events h)) (sym by) ∙ runs)) ∙ ap Some (sym by)),
    )

pub known_by : (stores : Stores) (h : History) (s x : ℕ) → Stands stores h → x < length stores.catalog.tables → IsKnown (tx_events h) (catalogue_events h) s x → IsKnownTo stores s x
known_by stores h s x stands lt known =
    let by = maker_is stores h x stands lt in
    record {
      made = lt;
      own = λ runs. stands.all.txs.current s ∙ (known.1 (ap (fate (tx_events h)) by ∙ (sym (stands.all.txs.fates (maker_of stores x)) ∙ runs)) ∙ ap Some by);
    }

-- whatever is answered to a request
pub known_on : (old new : Stores) (s x : ℕ) (r : Result (Unit {0}) Stop) → new ≡ record old { locks = new.locks } → IsKnownTo old s x → OnOk r (IsKnownTo new s x)
known_on old new s x (Ok u) rest known = let same : IsKnownTo (record old { locks = new.locks }) s x = record { made = known.made; own = known.own } in subst (λ (st : Stores). IsKnownTo st s x) (sym rest) same
known_on old new s x (Err e) rest known = tt

-- ---- a table that is found, and then locked

pub number_done : (t : TableNo) (old new : Stores) (caller : Caller) (k : ℕ) (f : History → Made (Unit {0})) → IsStep (λ (u : Unit {0}). u) (Ok tt) old new caller k f
    → IsStep (λ (t : TableNo). t.number) (Ok t) old new caller k (λ h. kept_number t.number (f h))
number_done t old new caller k f first = record {
  is = λ h stands at. let a = first.is h stands at in (ap (number_or t.number) a.0, a.1);
  keeps = first.keeps;
  waits = first.waits;
}

number_told : (t : TableNo) (e : Stop) (new : Stores) (caller : Caller) (k : ℕ) (h : History) (m : Made (Unit {0})) → IsTold (λ (u : Unit {0}). u) (Err e) new caller k h m → IsTold (λ (t : TableNo). t.number) (Err e) new caller k h (kept_number t.number m)
number_told t (stop.Waits rest) new caller k h m told = (ap (number_or t.number) told.0, told.1)
number_told t (stop.Refused f) new caller k h m told = (ap (number_or t.number) told.0, told.1)
number_told t stop.NoMemory new caller k h m told = tt

pub number_stops : (t : TableNo) (e : Stop) (old new : Stores) (caller : Caller) (k : ℕ) (f : History → Made (Unit {0})) → IsStep (λ (u : Unit {0}). u) (Err e) old new caller k f
    → IsStep (λ (t : TableNo). t.number) (Err e) old new caller k (λ h. kept_number t.number (f h))
number_stops t e old new caller k f first = record {
  is = λ h stands at. number_told t e new caller k h (f h) (first.is h stands at);
  keeps = first.keeps;
  waits = halted_same (Unit {0}) TableNo e new caller.session first.waits;
}
