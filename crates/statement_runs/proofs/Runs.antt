-- What is kept tells of the history after a statement was run.
use Rattle.std.proofs.Common.{◌≡◌, ◌≢◌, ℕ, zero, suc, ◌+◌, ◌<◌, ◌≤◌, Bool, true, false, if◌then◌else◌, List, [], ◌∷◌, ◌++◌, refl, ap, sym, ◌∙◌, subst, arith, inl, inr, append-nil, Option, Some, None, Result, Ok, Err, All, IfOk, OnOk, is_some, length, nat_lt, slice_index_or, slice_set}
use Rattle.std.proofs.lemmas.Grind.{common_steps, elements}
use Rattle.std.proofs.lemmas.Bool.{cases_eq}
use Rattle.std.proofs.lemmas.Bool.Decides.{nat_tests}
use Rattle.std.proofs.lemmas.List.Elements.{All-nil, All-cons, All-append}
use Rattle.pg_values.specs.declared.fault.Fault.{Fault}
use Rattle.pg_values.specs.declared.which.Which.TheVariants.{Commands}
use Rattle.refusals.specs.Refusals.{too_many}
use Rattle.history.specs.declared.wait.WaitOn.{WaitOn}
use Rattle.history.specs.declared.wait.Wanted.{Wanted}
use Rattle.history.specs.declared.wait.Wanted.TheVariants.{Lock, Others}
use Rattle.history.specs.Locks.{wanted}
use Rattle.history.specs.Waits.{ready}
use Rattle.history.specs.History.{History, lock_events}
use Rattle.lock_table.specs.Stands.{IsIdle, TableStands as LocksStand, names}
use Rattle.schedule.specs.declared.tally.Tally.{Tally}
use Rattle.sessions.specs.declared.asker.Asker.{Asker}
use Rattle.sessions.specs.declared.outcome.Outcome.{Outcome}
use Rattle.pg_values.specs.declared.isolation.Isolation.{Isolation}
use Rattle.sessions.specs.declared.settings.Settings.{Settings}
use Rattle.sessions.specs.declared.outcome.Outcome.TheVariants as outcomes
use Rattle.stores.specs.Numbers.{IsAt}
use Rattle.stores.specs.Stand.{IsSameSize}
use Rattle.stores.specs.declared.stores.Stores.{Stores}
use Rattle.statement_steps.specs.Ended.{Ended, Done, Commits}
use Rattle.statement_steps.specs.Made.{Made, Halt, Waits, Refused, number_after}
use Rattle.statement_steps.specs.Attempts.{CanGoOn, WentOn, IsAttempt, GoesOn, HasCause, IsHalt}
use Rattle.statement_steps.specs.declared.caller.Caller.{Caller}
use Rattle.statement_steps.specs.declared.ending.Ending.{Ending}
use Rattle.statement_steps.specs.declared.ending.Ending.TheVariants as endings
use Rattle.statement_steps.specs.declared.rest.Rest.{Rest}
use Rattle.statement_steps.specs.declared.rest.Rest.TheVariants.{Detach}
use Rattle.statement_steps.specs.declared.rest.RestOfDetach.{RestOfDetach}
use Rattle.statement_steps.specs.declared.stop.Stop.{Stop}
use Rattle.statement_steps.specs.declared.stop.Stop.TheVariants as stop
use Rattle.sql_ast.specs.Statements.{StatementTree}
use Rattle.prepared_statements.specs.Prepared.{Prepared}
use Rattle.statement_runs.specs.Attempted.{attempted}
use Rattle.statement_runs.specs.Given.{statement_given}
use Rattle.statement_runs.specs.Roles.{cancelled_by}
use Rattle.statement_runs.specs.declared.options.Options.{Options}
use Rattle.statement_runs.specs.Database.{Database, refused_first, refused_or, number_then, caller_of, attempt_of, given_by, next_command, rest_told, let_go_at, given_up, outcome_told, text_told, prepared_of, prepared_then, all_cut, cut_by, goes_on as goes_on_to}
use Rattle.statement_runs.specs.Kept.{KeptSeats, AreSeated, TellOf, AreKept, Adds, StandsFor}
use Rattle.statement_runs.specs.Tallies.{added, unless_cut}
use Rattle.statement_runs.proofs.Growing.{nothing_more}
use Rattle.statement_runs.specs.Ran.{given_at, attempt_at, refusal_in, prepared_by, HasRun}
use Rattle.statement_steps.proofs.Lasting.{goes_on_still}
use Rattle.statement_runs.proofs.Steps.{seats}

pub number_own : (xs : List ℕ) (s n : ℕ) → s < length xs → slice_index_or (slice_set xs s n) s 0 ≡ n
number_own xs s n lt = grind (arith, common_steps, elements, nat_tests)

pub number_other : (xs : List ℕ) (s r n : ℕ) → s ≢ r → slice_index_or (slice_set xs s n) r 0 ≡ slice_index_or xs r 0
number_other xs s r n other = grind (arith, common_steps, elements, nat_tests)

flag_own : (xs : List Bool) (s : ℕ) → slice_index_or (slice_set xs s false) s false ≡ false
flag_own xs s = grind (arith, common_steps, elements, nat_tests)

flag_other : (xs : List Bool) (s r : ℕ) (b : Bool) → s ≢ r → slice_index_or (slice_set xs s b) r false ≡ slice_index_or xs r false
flag_other xs s r b other = grind (arith, common_steps, elements, nat_tests)

-- a number that the session's command has got, and those of the others
numbered : (commands new : List ℕ) (h : History) (s n : ℕ) → s < length commands → new ≡ slice_set commands s n → IsAt h s n
    → ((r : ℕ) → s ≢ r → IsAt h r (slice_index_or commands r 0)) → (r : ℕ) → IsAt h r (slice_index_or new r 0)
numbered commands new h s n lt is own others r =
    elim (cases_eq s r) [
      | inl same ↦ subst (λ x. IsAt h x (slice_index_or new x 0)) same (subst (IsAt h s) (sym (ap (λ xs. slice_index_or xs s 0) is ∙ number_own commands s n lt)) own)
      | inr other ↦ subst (IsAt h r) (sym (ap (λ xs. slice_index_or xs r 0) is ∙ number_other commands s r n other)) (others r other)
    ]

-- a flag that is taken away
untold : (cancelled : List Bool) (h : History) (s r : ℕ) → ((r : ℕ) → is_some (wanted (lock_events h) r) ≡ true → slice_index_or cancelled r false ≡ false)
    → is_some (wanted (lock_events h) r) ≡ true → slice_index_or (slice_set cancelled s false) r false ≡ false
untold cancelled h s r standing w =
    elim (cases_eq s r) [
      | inl same ↦ subst (λ x. slice_index_or (slice_set cancelled s false) x false ≡ false) same (flag_own cancelled s)
      | inr other ↦ flag_other cancelled s r false other ∙ standing r w
    ]

-- what is left to one statement, and to the others what was left
set_own : {X : Type 0} (xs : List X) (s : ℕ) (x d : X) → s < length xs → slice_index_or (slice_set xs s x) s d ≡ x
set_own [] s x d lt = absurd (omega (arith, lt))
set_own (y ∷ ys) zero x d lt = refl
set_own (y ∷ ys) (suc s) x d lt = set_own ys s x d (omega (arith, lt))

set_other : {X : Type 0} (xs : List X) (s r : ℕ) (x d : X) → s ≢ r → slice_index_or (slice_set xs s x) r d ≡ slice_index_or xs r d
set_other [] s r x d other = refl
set_other (y ∷ ys) zero zero x d other = absurd (other refl)
set_other (y ∷ ys) zero (suc r) x d other = refl
set_other (y ∷ ys) (suc s) zero x d other = refl
set_other (y ∷ ys) (suc s) (suc r) x d other = set_other ys s r x d (λ same. other (ap (λ n. suc n) same))

pub set_twice : {X : Type 0} (xs : List X) (s : ℕ) (x y : X) → slice_set (slice_set xs s x) s y ≡ slice_set xs s y
set_twice [] s x y = refl
set_twice (z ∷ zs) zero x y = refl
set_twice (z ∷ zs) (suc s) x y = ap (λ ys. z ∷ ys) (set_twice zs s x y)

-- ---- what is given up

-- nothing by a statement that is not done
not_done : (level : Isolation) (s : ℕ) (o : Option Rest) (t : Result Ended Halt) (stop : Halt) → t ≡ Err stop → given_up level s o t ≡ []
not_done level s o t stop e = ap (given_up level s o) e ∙ halts o
  where
    halts : (o : Option Rest) → given_up level s o (Err stop) ≡ []
    halts None = refl
    halts (Some r) = refl

-- and by one that is done where it has stood
abbrev pub if_stood : Bool → History → History
if_stood stood events = if stood then events else []

done_gives : (level : Isolation) (s : ℕ) (o : Option Rest) (t : Result Ended Halt) (text : List ℕ) (stood : Bool) → t ≡ Ok (Done text) → stood ≡ is_some o → if_stood stood (let_go_at level s) ≡ given_up level s o t
done_gives level s o t text stood e is = ap (λ b. if_stood b (let_go_at level s)) is ∙ (gives o ∙ ap (given_up level s o) (sym e))
  where
    gives : (o : Option Rest) → if_stood (is_some o) (let_go_at level s) ≡ given_up level s o (Ok (Done text))
    gives None = refl
    gives (Some r) = refl

-- ---- a statement that is refused first

set_same : {X : Type 0} (xs : List X) (s : ℕ) (x d : X) → s < length xs → slice_index_or xs s d ≡ x → slice_set xs s x ≡ xs
set_same [] s x d lt is = absurd (omega (arith, lt))
set_same (y ∷ xs) zero x d lt is = ap (λ z. z ∷ xs) (sym is)
set_same (y ∷ xs) (suc s) x d lt is = ap (λ zs. y ∷ zs) (set_same xs s x d (omega (arith, lt)) is)

pub first_tells : (e : KeptSeats) (s : ℕ) (h : History) → AreSeated e → s < length e.opened → TellOf e h → TellOf (seats e.stores e.opened e.commands (slice_set e.cancelled s false) (slice_set e.rests s None) e.moved e.queue e.ready e.whole) h
first_tells e s h seated lt tells = record {
  stands = tells.stands;
  opened = tells.opened;
  numbered = tells.numbered;
  queue = tells.queue;
  ready = tells.ready;
  waits = record {
    caused = tells.waits.caused;
    going_on = λ r. elim (cases_eq s r) [
      | inl same ↦ subst (λ k. CanGoOn h k (slice_index_or (slice_set e.rests s None) k None)) same (subst (CanGoOn h s) (sym (set_own e.rests s None None (rw seated.rests lt))) tt)
      | inr other ↦ subst (CanGoOn h r) (sym (set_other e.rests s r None None other)) (tells.waits.going_on r)
    ];
    standing = λ r w. untold e.cancelled h s r tells.waits.standing w;
  };
}

pub first_ran : (e : KeptSeats) (a : Asker) (h : History) (before : List ℕ) (f : Fault) (m : Made Ended) → AreSeated e → a.session < length e.opened → e.whole ≡ true → refusal_in e a.session ≡ Some f → TellOf e h
    → HasRun (refused_or (refusal_in e a.session) m) a e (seats e.stores e.opened e.commands (slice_set e.cancelled a.session false) (slice_set e.rests a.session None) e.moved e.queue e.ready e.whole) before before (outcomes.Refused f) h
first_ran e a h before f m seated lt whole refused tells =
    let new = seats e.stores e.opened e.commands (slice_set e.cancelled a.session false) (slice_set e.rests a.session None) e.moved e.queue e.ready e.whole in
    let none = not_done a.level a.session (slice_index_or e.rests a.session None) (Err (Refused f)) (Refused f) refl in
    let n = slice_index_or e.commands a.session 0 in
    subst (λ (x : Made Ended). HasRun x a e new before before (outcomes.Refused f) h) (sym (ap (λ o. refused_or o m) refused))
    (record {
      whole = whole;
      tells = subst (λ events. TellOf new (events ++ h)) (sym none) (first_tells e a.session h seated lt tells);
      outcome = refl;
      text = sym (append-nil before);
      commands = sym (set_same e.commands a.session n 0 (rw seated.commands lt) refl) ∙ ap (λ o. slice_set e.commands a.session (number_then o (Err (Refused f)) n)) (sym refused);
      cancelled = refl;
      rests = refl;
    })

-- where it is not
pub none_first : (b : Bool) (n : ℕ) → b ≡ false → n < 4294967294 → refused_first b n ≡ None
none_first true n off lt = absurd (cc)
none_first false n off lt = let on : nat_lt n 4294967294 ≡ true = grind (arith, common_steps, nat_tests, lt) in ap (λ b. if b then None else Some (too_many Commands)) on

pub full_first : (b : Bool) (n : ℕ) → b ≡ false → 4294967294 ≤ n → refused_first b n ≡ Some (too_many Commands)
full_first true n off le = absurd (cc)
full_first false n off le = let over : nat_lt n 4294967294 ≡ false = grind (arith, common_steps, nat_tests, le) in ap (λ b. if b then None else Some (too_many Commands)) over

-- ---- a statement that was tried

-- it was not refused first, and the stores are as the statement left them
pub record IsTried (e : KeptSeats) (s : ℕ) (stores : Stores) (next : Option ℕ) : Type 0 where
  pub seated : AreSeated e
  pub known : s < length e.opened
  pub whole : e.whole ≡ true
  pub flag : slice_index_or e.cancelled s false ≡ false
  pub low : slice_index_or e.commands s 0 < 4294967294
  pub goes : GoesOn e.stores stores s
  pub readies : (k : History) → LocksStand stores.locks k → next ≡ ready (lock_events k)

not_refused : (e : KeptSeats) (s : ℕ) (stores : Stores) (next : Option ℕ) → IsTried e s stores next → refusal_in e s ≡ None
not_refused e s stores next it = none_first (slice_index_or e.cancelled s false) (slice_index_or e.commands s 0) it.flag it.low

-- so it counts
counts : (e : KeptSeats) (s : ℕ) (stores : Stores) (next : Option ℕ) (t : Result Ended Halt) → IsTried e s stores next → slice_set e.commands s (next_command t (slice_index_or e.commands s 0)) ≡ slice_set e.commands s (number_then (refusal_in e s) t (slice_index_or e.commands s 0))
counts e s stores next t it = ap (λ o. slice_set e.commands s (number_then o t (slice_index_or e.commands s 0))) (sym (not_refused e s stores next it))

-- what is kept then
abbrev pub tried : (e : KeptSeats) (stores : Stores) (commands : List ℕ) (rests : List (Option Rest)) (queue : List ℕ) (next : Option ℕ) → KeptSeats
tried e stores commands rests queue next = seats stores e.opened commands e.cancelled rests e.moved queue next e.whole

-- the session has a cause where it waits for others
abbrev pub IsCaused : Stores → ℕ → Type 0
IsCaused stores s = (v : WaitOn) → slice_index_or stores.locks.wants s None ≡ Some (Others v) → (y : ℕ) × (names v y ≡ true)

pub idle_caused : (stores : Stores) (s : ℕ) → IsIdle stores.locks s → IsCaused stores s
idle_caused stores s idle v is = absurd (let c = sym idle ∙ is in cc)

waiting_caused : (stores : Stores) (s : ℕ) (w : Wanted) → slice_index_or stores.locks.wants s None ≡ Some w → HasCause w → IsCaused stores s
waiting_caused stores s (Lock t m) e cause v is = absurd (let c = sym e ∙ is in cc)
waiting_caused stores s (Others u) e cause v is = let c : Some (Others u) ≡ Some (Others v) = sym e ∙ is in let same : u ≡ v = cc in subst (λ x. (y : ℕ) × (names x y ≡ true)) same cause

other_wants : (e : KeptSeats) (stores : Stores) (s r : ℕ) (h g : History) → s ≢ r → TellOf e h → GoesOn e.stores stores s → LocksStand stores.locks g → wanted (lock_events g) r ≡ wanted (lock_events h) r
other_wants e stores s r h g other tells goes stand = sym (stand.tells.wants r) ∙ (goes.others r (λ same. other (sym same)) ∙ tells.stands.all.locks.tells.wants r)

pub went_tells : (e : KeptSeats) (stores : Stores) (s n : ℕ) (rest : Option Rest) (commands : List ℕ) (rests : List (Option Rest)) (waiting q : List ℕ) (next : Option ℕ) (events h : History)
    → IsTried e s stores next → TellOf e h → WentOn h s n waiting stores (events ++ h) → IsCaused stores s → CanGoOn (events ++ h) s rest
    → commands ≡ slice_set e.commands s n → rests ≡ slice_set e.rests s rest → q ≡ e.queue ++ waiting
    → TellOf (tried e stores commands rests q next) (events ++ h)
went_tells e stores s n rest commands rests waiting q next events h it tells went own may numbers set left = record {
  stands = went.stands;
  opened = λ r. tells.opened r ∙ ap (λ c. is_some (slice_index_or c r None)) (sym it.goes.transactions);
  numbered = numbered e.commands commands (events ++ h) s n (rw it.seated.commands it.known) numbers went.at (λ r other. went.others r (slice_index_or e.commands r 0) (λ same. other (sym same)) (tells.numbered r));
  queue = left ∙ (ap (λ xs. xs ++ waiting) tells.queue ∙ sym went.queue);
  ready = it.readies;
  waits = record {
    caused = λ r v is off. elim (cases_eq s r) [
      | inl same ↦ own v (subst (λ x. slice_index_or stores.locks.wants x None ≡ Some (Others v)) (sym same) is)
      | inr other ↦ tells.waits.caused r v (sym (it.goes.others r (λ same. other (sym same))) ∙ is) off
    ];
    going_on = λ r. subst (λ xs. CanGoOn (events ++ h) r (slice_index_or xs r None)) (sym set) (elim (cases_eq s r) [
      | inl same ↦ subst (λ k. CanGoOn (events ++ h) k (slice_index_or (slice_set e.rests s rest) k None)) same
          (subst (CanGoOn (events ++ h) s) (sym (set_own e.rests s rest None (rw it.seated.rests it.known))) may)
      | inr other ↦ subst (CanGoOn (events ++ h) r) (sym (set_other e.rests s r rest None other))
          (goes_on_still h (events ++ h) r (slice_index_or e.rests r None) (went.since r (λ same. other (sym same))) (tells.waits.going_on r))
    ]);
    standing = λ r is. elim (cases_eq s r) [
      | inl same ↦ subst (λ x. slice_index_or e.cancelled x false ≡ false) same it.flag
      | inr other ↦ tells.waits.standing r (ap is_some (sym (other_wants e stores s r h (events ++ h) other tells it.goes went.stands.all.locks)) ∙ is)
    ];
  };
}

-- the caller of a statement
abbrev pub caller_in : KeptSeats → Asker → Caller
caller_in e a = caller_of (length e.opened) (slice_index_or e.commands a.session 0) a

-- what the statement means at that history, unless it is refused first
abbrev pub meant_at : Options → KeptSeats → Asker → History → Settings → List Prepared → StatementTree → Made Ended
meant_at o e a h g ps t = attempted o (caller_in e a) (slice_index_or e.rests a.session None) g ps t h

pub as_meant : (o : Options) (e : KeptSeats) (a : Asker) (h : History) (g : Settings) (ps : List Prepared) (t : StatementTree) (n cmd : ℕ) (rest : Option Rest) (r : Result Ending Stop) (stores : Stores) (before after : List ℕ)
    → n ≡ length e.opened → cmd ≡ slice_index_or e.commands a.session 0 → rest ≡ slice_index_or e.rests a.session None
    → IsAttempt r stores before after (caller_of n cmd a) h (attempted o (caller_of n cmd a) rest g ps t h) → IsAttempt r stores before after (caller_in e a) h (meant_at o e a h g ps t)
as_meant o e a h g ps t n cmd rest r stores before after count number taken is =
    let came : ℕ → ℕ → Option Rest → Type 0 = λ n cmd rest. IsAttempt r stores before after (caller_of n cmd a) h (attempted o (caller_of n cmd a) rest g ps t h) in
    subst (λ x. came x (slice_index_or e.commands a.session 0) (slice_index_or e.rests a.session None)) count
    (subst (λ x. came n x (slice_index_or e.rests a.session None)) number (subst (λ x. came n cmd x) taken is))

-- so much is given and read, unless it is refused first
pub given_in : (o : Options) (e : KeptSeats) (a : Asker) (h : History) (g : Settings) (ps : List Prepared) (t : StatementTree) (n cmd : ℕ) (rest : Option Rest) (before after : Tally)
    → refusal_in e a.session ≡ None → n ≡ length e.opened → cmd ≡ slice_index_or e.commands a.session 0 → rest ≡ slice_index_or e.rests a.session None
    → after ≡ added before (statement_given o (caller_of n cmd a) rest g ps t h) → after ≡ added before (given_at o e a h g ps t)
given_in o e a h g ps t n cmd rest before after flag count number taken is =
    is ∙ ap (added before)
    (ap (λ x. statement_given o (caller_of x cmd a) rest g ps t h) count
    ∙ (ap (λ x. statement_given o (caller_of (length e.opened) x a) rest g ps t h) number
    ∙ (ap (λ x. statement_given o (caller_in e a) x g ps t h) taken
    ∙ sym (ap (λ b. unless_cut b (statement_given o (caller_in e a) (slice_index_or e.rests a.session None) g ps t h)) flag))))

pub cut_gives : (o : Options) (e : KeptSeats) (a : Asker) (h : History) (g : Settings) (ps : List Prepared) (t : StatementTree) (n : Tally) → (f : Fault) → refusal_in e a.session ≡ Some f → n ≡ added n (given_at o e a h g ps t)
cut_gives o e a h g ps t n f refused =
    sym (nothing_more n) ∙ ap (added n) (sym (ap (λ b. unless_cut b (statement_given o (caller_in e a) (slice_index_or e.rests a.session None) g ps t h)) refused))

-- what has come of it, where it was not refused first
abbrev pub Tried : (e new : KeptSeats) → Asker → (before after : List ℕ) (o : Outcome) (h : History) → Made Ended → Type 0
Tried e new a before after o h m = HasRun (refused_or (refusal_in e a.session) m) a e new before after o h

as_tried : (e new : KeptSeats) (a : Asker) (before after : List ℕ) (o : Outcome) (h : History) (m : Made Ended) → refusal_in e a.session ≡ None → HasRun m a e new before after o h → Tried e new a before after o h m
as_tried e new a before after o h m none ran = subst (λ r. HasRun (refused_or r m) a e new before after o h) (sym none) ran

flag_stays : (e : KeptSeats) (s : ℕ) (stores : Stores) (next : Option ℕ) → IsTried e s stores next → e.cancelled ≡ slice_set e.cancelled s false
flag_stays e s stores next it = sym (set_same e.cancelled s false false (rw it.seated.cancelled it.known) it.flag)

number_stays : (e : KeptSeats) (s : ℕ) (stores : Stores) (next : Option ℕ) → IsTried e s stores next → e.commands ≡ slice_set e.commands s (slice_index_or e.commands s 0)
number_stays e s stores next it = sym (set_same e.commands s (slice_index_or e.commands s 0) 0 (rw it.seated.commands it.known) refl)

-- ---- it is done

pub done_tells : (e : KeptSeats) (a : Asker) (stores : Stores) (next : ℕ) (rests : List (Option Rest)) (ready' : Option ℕ) (h : History) (before after : List ℕ) (m : Made Ended) → IsTried e a.session stores ready' → TellOf e h
    → next ≡ slice_index_or e.commands a.session 0 + 1 → rests ≡ slice_set e.rests a.session None → IsIdle stores.locks a.session → IsAttempt (Ok endings.Done) stores before after (caller_in e a) h m
    → TellOf (tried e stores (slice_set e.commands a.session next) rests e.queue ready') (m.events ++ h)
done_tells e a stores next rests ready' h before after m it tells more set idle (text, told, printed, went) =
    went_tells e stores a.session (slice_index_or e.commands a.session 0 + 1) None (slice_set e.commands a.session next) rests [] e.queue ready' m.events h it tells went
    (idle_caused stores a.session idle) tt (ap (slice_set e.commands a.session) more) set (sym (append-nil e.queue))

-- and has given up its snapshot
pub done_ran : (e new : KeptSeats) (a : Asker) (stores : Stores) (next : ℕ) (rests : List (Option Rest)) (ready' : Option ℕ) (stood : Bool) (h : History) (before after : List ℕ) (m : Made Ended) → IsTried e a.session stores ready' → TellOf e h
    → next ≡ slice_index_or e.commands a.session 0 + 1 → rests ≡ slice_set e.rests a.session None → IsIdle stores.locks a.session → stood ≡ is_some (slice_index_or e.rests a.session None)
    → Adds (tried e stores (slice_set e.commands a.session next) rests e.queue ready') new (λ h. if_stood stood (let_go_at a.level a.session))
    → new.commands ≡ slice_set e.commands a.session next → new.cancelled ≡ e.cancelled → new.rests ≡ rests
    → IsAttempt (Ok endings.Done) stores before after (caller_in e a) h m → Tried e new a before after outcomes.Done h m
done_ran e new a stores next rests ready' stood h before after m it tells more set idle is adds commands cancelled left (text, told, printed, went) =
    as_tried e new a before after outcomes.Done h m (not_refused e a.session stores ready' it) (record {
      whole = adds.whole ∙ it.whole;
      tells = subst (λ events. TellOf new (events ++ (m.events ++ h))) (done_gives a.level a.session (slice_index_or e.rests a.session None) m.told text stood told is)
          (adds.tells it.whole (m.events ++ h) (done_tells e a stores next rests ready' h before after m it tells more set idle (text, told, printed, went)));
      outcome = ap outcome_told (sym told);
      text = printed ∙ ap (λ t. before ++ text_told t) (sym told);
      commands = commands ∙ (ap (slice_set e.commands a.session) more ∙ ap (λ t. slice_set e.commands a.session (next_command t (slice_index_or e.commands a.session 0))) (sym told) ∙ counts e a.session stores ready' m.told it);
      cancelled = cancelled ∙ flag_stays e a.session stores ready' it;
      rests = left ∙ (set ∙ ap (λ t. slice_set e.rests a.session (rest_told t)) (sym told));
    })

-- ---- it is refused

pub refused_tells : (e : KeptSeats) (a : Asker) (stores : Stores) (next : ℕ) (rests : List (Option Rest)) (ready' : Option ℕ) (h : History) (before after : List ℕ) (m : Made Ended) (f : Fault) → IsTried e a.session stores ready' → TellOf e h
    → next ≡ slice_index_or e.commands a.session 0 + 1 → rests ≡ slice_set e.rests a.session None → IsIdle stores.locks a.session → IsAttempt (Err (stop.Refused f)) stores before after (caller_in e a) h m
    → TellOf (tried e stores (slice_set e.commands a.session next) rests e.queue ready') (m.events ++ h)
refused_tells e a stores next rests ready' h before after m f it tells more set idle (told, printed, went) =
    went_tells e stores a.session (slice_index_or e.commands a.session 0 + 1) None (slice_set e.commands a.session next) rests [] e.queue ready' m.events h it tells went
    (idle_caused stores a.session idle) tt (ap (slice_set e.commands a.session) more) set (sym (append-nil e.queue))

pub refused_ran : (e : KeptSeats) (a : Asker) (stores : Stores) (next : ℕ) (rests : List (Option Rest)) (ready' : Option ℕ) (h : History) (before after : List ℕ) (m : Made Ended) (f : Fault) → IsTried e a.session stores ready' → TellOf e h
    → next ≡ slice_index_or e.commands a.session 0 + 1 → rests ≡ slice_set e.rests a.session None → IsIdle stores.locks a.session → IsAttempt (Err (stop.Refused f)) stores before after (caller_in e a) h m
    → Tried e (tried e stores (slice_set e.commands a.session next) rests e.queue ready') a before after (outcomes.Refused f) h m
refused_ran e a stores next rests ready' h before after m f it tells more set idle (told, printed, went) =
    let new = tried e stores (slice_set e.commands a.session next) rests e.queue ready' in
    as_tried e new a before after (outcomes.Refused f) h m (not_refused e a.session stores ready' it) (record {
      whole = it.whole;
      tells = subst (λ events. TellOf new (events ++ (m.events ++ h))) (sym (not_done a.level a.session (slice_index_or e.rests a.session None) m.told (Refused f) told))
          (refused_tells e a stores next rests ready' h before after m f it tells more set idle (told, printed, went));
      outcome = ap outcome_told (sym told);
      text = printed ∙ (sym (append-nil before) ∙ ap (λ t. before ++ text_told t) (sym told));
      commands = ap (slice_set e.commands a.session) more ∙ ap (λ t. slice_set e.commands a.session (next_command t (slice_index_or e.commands a.session 0))) (sym told) ∙ counts e a.session stores ready' m.told it;
      cancelled = flag_stays e a.session stores ready' it;
      rests = set ∙ ap (λ t. slice_set e.rests a.session (rest_told t)) (sym told);
    })

-- ---- what it did so far is to be committed

commits_nothing : (level : Isolation) (s : ℕ) (o : Option Rest) (t : Result Ended Halt) (d : RestOfDetach) → t ≡ Ok (Commits d) → given_up level s o t ≡ []
commits_nothing level s o t d e = ap (given_up level s o) e ∙ gives o
  where
    gives : (o : Option Rest) → given_up level s o (Ok (Commits d)) ≡ []
    gives None = refl
    gives (Some r) = refl

pub commits_tells : (e : KeptSeats) (a : Asker) (stores : Stores) (next : ℕ) (rests : List (Option Rest)) (ready' : Option ℕ) (h : History) (before after : List ℕ) (m : Made Ended) (d : RestOfDetach) → IsTried e a.session stores ready' → TellOf e h
    → next ≡ slice_index_or e.commands a.session 0 + 1 → rests ≡ slice_set e.rests a.session (Some (Detach d)) → IsIdle stores.locks a.session → IsAttempt (Ok (endings.Commits d)) stores before after (caller_in e a) h m
    → TellOf (tried e stores (slice_set e.commands a.session next) rests e.queue ready') (m.events ++ h)
commits_tells e a stores next rests ready' h before after m d it tells more set idle (told, printed, went) =
    went_tells e stores a.session (slice_index_or e.commands a.session 0 + 1) (Some (Detach d)) (slice_set e.commands a.session next) rests [] e.queue ready' m.events h it tells went
    (idle_caused stores a.session idle) tt (ap (slice_set e.commands a.session) more) set (sym (append-nil e.queue))

pub commits_ran : (e : KeptSeats) (a : Asker) (stores : Stores) (next : ℕ) (rests : List (Option Rest)) (ready' : Option ℕ) (h : History) (before after : List ℕ) (m : Made Ended) (d : RestOfDetach) → IsTried e a.session stores ready' → TellOf e h
    → next ≡ slice_index_or e.commands a.session 0 + 1 → rests ≡ slice_set e.rests a.session (Some (Detach d)) → IsIdle stores.locks a.session → IsAttempt (Ok (endings.Commits d)) stores before after (caller_in e a) h m
    → Tried e (tried e stores (slice_set e.commands a.session next) rests e.queue ready') a before after outcomes.Commits h m
commits_ran e a stores next rests ready' h before after m d it tells more set idle (told, printed, went) =
    let new = tried e stores (slice_set e.commands a.session next) rests e.queue ready' in
    as_tried e new a before after outcomes.Commits h m (not_refused e a.session stores ready' it) (record {
      whole = it.whole;
      tells = subst (λ events. TellOf new (events ++ (m.events ++ h))) (sym (commits_nothing a.level a.session (slice_index_or e.rests a.session None) m.told d told))
          (commits_tells e a stores next rests ready' h before after m d it tells more set idle (told, printed, went));
      outcome = ap outcome_told (sym told);
      text = printed ∙ (sym (append-nil before) ∙ ap (λ t. before ++ text_told t) (sym told));
      commands = ap (slice_set e.commands a.session) more ∙ ap (λ t. slice_set e.commands a.session (next_command t (slice_index_or e.commands a.session 0))) (sym told) ∙ counts e a.session stores ready' m.told it;
      cancelled = flag_stays e a.session stores ready' it;
      rests = set ∙ ap (λ t. slice_set e.rests a.session (rest_told t)) (sym told);
    })

-- ---- it waits

pub waits_tells : (e : KeptSeats) (a : Asker) (stores : Stores) (n : ℕ) (rest : Option Rest) (rests : List (Option Rest)) (q : List ℕ) (ready' : Option ℕ) (h : History) (before after : List ℕ) (m : Made Ended) → IsTried e a.session stores ready' → TellOf e h
    → n ≡ number_after rest (slice_index_or e.commands a.session 0) → rests ≡ slice_set e.rests a.session rest → IsHalt (Err (stop.Waits rest)) stores a.session → q ≡ e.queue ++ a.session ∷ [] → IsAttempt (Err (stop.Waits rest)) stores before after (caller_in e a) h m
    → TellOf (tried e stores (slice_set e.commands a.session n) rests q ready') (m.events ++ h)
waits_tells e a stores n rest rests q ready' h before after m it tells number set halt left (told, printed, went, go) =
    went_tells e stores a.session (number_after rest (slice_index_or e.commands a.session 0)) rest (slice_set e.commands a.session n) rests (a.session ∷ []) q ready' m.events h it tells went
    (waiting_caused stores a.session halt.0 halt.1 halt.2) go (ap (slice_set e.commands a.session) number) set left

pub waits_ran : (e : KeptSeats) (a : Asker) (stores : Stores) (n : ℕ) (rest : Option Rest) (rests : List (Option Rest)) (q : List ℕ) (ready' : Option ℕ) (h : History) (before after : List ℕ) (m : Made Ended) → IsTried e a.session stores ready' → TellOf e h
    → n ≡ number_after rest (slice_index_or e.commands a.session 0) → rests ≡ slice_set e.rests a.session rest → IsHalt (Err (stop.Waits rest)) stores a.session → q ≡ e.queue ++ a.session ∷ [] → IsAttempt (Err (stop.Waits rest)) stores before after (caller_in e a) h m
    → Tried e (tried e stores (slice_set e.commands a.session n) rests q ready') a before after outcomes.Waits h m
waits_ran e a stores n rest rests q ready' h before after m it tells number set halt left (told, printed, went, go) =
    let new = tried e stores (slice_set e.commands a.session n) rests q ready' in
    as_tried e new a before after outcomes.Waits h m (not_refused e a.session stores ready' it) (record {
      whole = it.whole;
      tells = subst (λ events. TellOf new (events ++ (m.events ++ h))) (sym (not_done a.level a.session (slice_index_or e.rests a.session None) m.told (Waits rest) told))
          (waits_tells e a stores n rest rests q ready' h before after m it tells number set halt left (told, printed, went, go));
      outcome = ap outcome_told (sym told);
      text = printed ∙ (sym (append-nil before) ∙ ap (λ t. before ++ text_told t) (sym told));
      commands = ap (slice_set e.commands a.session) number ∙ ap (λ t. slice_set e.commands a.session (next_command t (slice_index_or e.commands a.session 0))) (sym told) ∙ counts e a.session stores ready' m.told it;
      cancelled = flag_stays e a.session stores ready' it;
      rests = set ∙ ap (λ t. slice_set e.rests a.session (rest_told t)) (sym told);
    })

-- the history that what is kept tells of goes on
pub ran_kept : (e new : KeptSeats) → AreKept e → e.whole ≡ true → AreSeated new → ((h : History) → TellOf e h → (g : History) × TellOf new g) → AreKept new
ran_kept e new kept whole seated on = record { seated = seated; sound = λ w. let s = kept.sound whole in on s.0 s.1 }

pub goes_size : (old new : Stores) (s : ℕ) → GoesOn old new s → IsSameSize old new
goes_size old new s goes = record { txs = ap length goes.transactions; waits = goes.size.sessions; tables = goes.size.tables }

pub one_more : (q xs : List ℕ) (s n : ℕ) → xs ≡ q ++ s ∷ [] → All (λ r. r < n) q → s < n → All (λ r. r < n) xs
one_more q xs s n is all lt = subst (All (λ r. r < n)) (sym is) (All-append (λ r. r < n) q (s ∷ []) all (All-cons (λ r. r < n) s [] lt (All-nil (λ r. r < n))))

-- ---- the database that it stands for

abbrev attempt_by : Asker → History → Settings → StatementTree → Options → ℕ → List ℕ → List Bool → List (Option Rest) → List Prepared → Made Ended
attempt_by a h g t o n commands cancelled rests ps = refused_or (refused_first (slice_index_or cancelled a.session false) (slice_index_or commands a.session 0)) (attempted o (caller_of n (slice_index_or commands a.session 0) a) (slice_index_or rests a.session None) g ps t h)

same_attempt : (o : Options) (e : KeptSeats) (lists : List (List Prepared)) (a : Asker) (g : Settings) (ps : List Prepared) (t : StatementTree) (cut : List ℕ) (n : Tally) (v : Database) → StandsFor o e lists cut n v → ps ≡ prepared_of v a.session
    → attempt_at o e a v.history g ps t ≡ attempt_of v a g t
same_attempt o e lists a g ps t cut n v stands known =
    ap (λ x. attempt_by a v.history g t x (length e.opened) e.commands e.cancelled e.rests ps) stands.options
    ∙ (ap (λ x. attempt_by a v.history g t v.options x e.commands e.cancelled e.rests ps) stands.sessions
    ∙ (ap (λ x. attempt_by a v.history g t v.options v.sessions x e.cancelled e.rests ps) stands.commands
    ∙ (ap (λ x. attempt_by a v.history g t v.options v.sessions v.commands x e.rests ps) stands.cancelled
    ∙ (ap (λ x. attempt_by a v.history g t v.options v.sessions v.commands v.cancelled x ps) stands.rests
    ∙ ap (λ x. attempt_by a v.history g t v.options v.sessions v.commands v.cancelled v.rests x) known))))

abbrev given_with : Asker → History → Settings → StatementTree → Options → ℕ → List ℕ → List Bool → List (Option Rest) → List Prepared → Tally
given_with a h g t o n commands cancelled rests ps = unless_cut (refused_first (slice_index_or cancelled a.session false) (slice_index_or commands a.session 0)) (statement_given o (caller_of n (slice_index_or commands a.session 0) a) (slice_index_or rests a.session None) g ps t h)

same_given : (o : Options) (e : KeptSeats) (lists : List (List Prepared)) (a : Asker) (g : Settings) (ps : List Prepared) (t : StatementTree) (cut : List ℕ) (n : Tally) (v : Database) → StandsFor o e lists cut n v → ps ≡ prepared_of v a.session
    → given_at o e a v.history g ps t ≡ given_by v a g t
same_given o e lists a g ps t cut n v stands known =
    ap (λ x. given_with a v.history g t x (length e.opened) e.commands e.cancelled e.rests ps) stands.options
    ∙ (ap (λ x. given_with a v.history g t v.options x e.commands e.cancelled e.rests ps) stands.sessions
    ∙ (ap (λ x. given_with a v.history g t v.options v.sessions x e.cancelled e.rests ps) stands.commands
    ∙ (ap (λ x. given_with a v.history g t v.options v.sessions v.commands x e.rests ps) stands.cancelled
    ∙ (ap (λ x. given_with a v.history g t v.options v.sessions v.commands v.cancelled x ps) stands.rests
    ∙ ap (λ x. given_with a v.history g t v.options v.sessions v.commands v.cancelled v.rests x) known))))

-- the numbers of commands after it
abbrev numbers_by : ℕ → Result Ended Halt → List ℕ → List Bool → List ℕ
numbers_by s t commands cancelled = slice_set commands s (number_then (refused_first (slice_index_or cancelled s false) (slice_index_or commands s 0)) t (slice_index_or commands s 0))

-- what has happened after it
abbrev history_by : Asker → History → List (Option Rest) → Made Ended → History
history_by a h rests m = given_up a.level a.session (slice_index_or rests a.session None) m.told ++ (m.events ++ h)

-- what is prepared after it
told_prepared : (r : Result Ended Halt) (ps : List Prepared) (t : StatementTree) → prepared_by (outcome_told r) ps t ≡ prepared_then r ps t
told_prepared (Ok (Done text)) ps t = refl
told_prepared (Ok (Commits d)) ps t = refl
told_prepared (Err (Waits rest)) ps t = refl
told_prepared (Err (Refused f)) ps t = refl

-- what it took, and what it has put back
pub lists_ran : (old taken new : List (List Prepared)) (s : ℕ) (ps qs : List Prepared) → taken ≡ slice_set old s [] → new ≡ slice_set taken s qs → qs ≡ ps → new ≡ slice_set old s ps
lists_ran old taken new s ps qs out back is = back ∙ (ap (λ xs. slice_set xs s qs) out ∙ (set_twice old s [] qs ∙ ap (slice_set old s) is))

pub stands_ran : (o : Options) (old new : KeptSeats) (lists put : List (List Prepared)) (a : Asker) (g : Settings) (ps : List Prepared) (t : StatementTree) (before after : List ℕ) (x : Outcome) (cut : List ℕ) (n m : Tally) (v : Database)
    → StandsFor o old lists cut n v → ps ≡ slice_index_or lists a.session [] → put ≡ slice_set lists a.session (prepared_by x ps t)
    → HasRun (attempt_at o old a v.history g ps t) a old new before after x v.history → m ≡ added n (given_at o old a v.history g ps t) → new.opened ≡ old.opened
    → StandsFor o new put cut m (goes_on_to v a t (attempt_of v a g t) (given_by v a g t))
stands_ran o old new lists put a g ps t before after x cut n m v stands own is ran grown same =
    let known : ps ≡ prepared_of v a.session = own ∙ ap (λ ls. slice_index_or ls a.session []) stands.prepared in
    let meant = same_attempt o old lists a g ps t cut n v stands known in
    let told = (attempt_of v a g t).told in
    record {
      whole = ran.whole;
      options = stands.options;
      sessions = ap length same ∙ stands.sessions;
      tells = subst (λ rests. TellOf new (history_by a v.history rests (attempt_of v a g t))) stands.rests (subst (λ m. TellOf new (history_by a v.history old.rests m)) meant ran.tells);
      commands = ran.commands ∙ (ap (λ m. numbers_by a.session m.told old.commands old.cancelled) meant
          ∙ (ap (λ cs. numbers_by a.session (attempt_of v a g t).told cs old.cancelled) stands.commands ∙ ap (λ bs. numbers_by a.session (attempt_of v a g t).told v.commands bs) stands.cancelled));
      cancelled = ran.cancelled ∙ ap (λ cs. slice_set cs a.session false) stands.cancelled;
      rests = ran.rests ∙ (ap (λ m. slice_set old.rests a.session (rest_told m.told)) meant ∙ ap (λ rs. slice_set rs a.session (rest_told (attempt_of v a g t).told)) stands.rests);
      prepared = is ∙ (ap (λ y. slice_set lists a.session (prepared_by y ps t)) (ran.outcome ∙ ap (λ m. outcome_told m.told) meant)
          ∙ (ap (slice_set lists a.session) (told_prepared told ps t)
          ∙ (ap (λ qs. slice_set lists a.session (prepared_then told qs t)) known
          ∙ ap (λ ls. slice_set ls a.session (prepared_then told (prepared_of v a.session) t)) stands.prepared)));
      cut = stands.cut;
      given = grown ∙ (ap (λ x. added x (given_at o old a v.history g ps t)) stands.given ∙ ap (added v.tally) (same_given o old lists a g ps t cut n v stands known));
    }

pub outcome_ran : (o : Options) (old new : KeptSeats) (lists : List (List Prepared)) (a : Asker) (g : Settings) (ps : List Prepared) (t : StatementTree) (before after : List ℕ) (x : Outcome) (cut : List ℕ) (n : Tally) (v : Database)
    → StandsFor o old lists cut n v → ps ≡ slice_index_or lists a.session [] → HasRun (attempt_at o old a v.history g ps t) a old new before after x v.history → x ≡ outcome_told (attempt_of v a g t).told
outcome_ran o old new lists a g ps t before after x cut n v stands own ran =
    ran.outcome ∙ ap (λ m. outcome_told m.told) (same_attempt o old lists a g ps t cut n v stands (own ∙ ap (λ ls. slice_index_or ls a.session []) stands.prepared))

pub text_ran : (o : Options) (old new : KeptSeats) (lists : List (List Prepared)) (a : Asker) (g : Settings) (ps : List Prepared) (t : StatementTree) (before after : List ℕ) (x : Outcome) (cut : List ℕ) (n : Tally) (v : Database)
    → StandsFor o old lists cut n v → ps ≡ slice_index_or lists a.session [] → HasRun (attempt_at o old a v.history g ps t) a old new before after x v.history → after ≡ before ++ text_told (attempt_of v a g t).told
text_ran o old new lists a g ps t before after x cut n v stands own ran =
    ran.text ∙ ap (λ m. before ++ text_told m.told) (same_attempt o old lists a g ps t cut n v stands (own ∙ ap (λ ls. slice_index_or ls a.session []) stands.prepared))

-- the waits that it cancels have ended before
pub after_cuts : (o p : Options) (old mid : KeptSeats) (lists later : List (List Prepared)) (before cut : List ℕ) (others : List ℕ) (n : ℕ) (a : Asker) (t : StatementTree) (first then' : Tally) (v : Database)
    → others ≡ cancelled_by a.session n (slice_index_or lists a.session []) t → n ≡ length old.opened → StandsFor o old lists before first v → StandsFor p mid later cut then' (all_cut v others) → StandsFor p mid later cut then' (cut_by v a t)
after_cuts o p old mid lists later before cut others n a t first then' v are count stands ended =
    subst (λ ss. StandsFor p mid later cut then' (all_cut v ss))
    (are ∙ (ap (λ k. cancelled_by a.session k (slice_index_or lists a.session []) t) (count ∙ stands.sessions) ∙ ap (λ ls. cancelled_by a.session v.sessions (slice_index_or ls a.session []) t) stands.prepared)) ended

pub if_on : {X E : Type 0} (r : Result X E) (P : X → Type 0) (Q : Type 0) → IfOk r P → ((x : X) → P x → Q) → OnOk r Q
if_on (Ok x) P Q p f = f x p
if_on (Err e) P Q p f = tt

pub if_three_on : {X E : Type 0} (r : Result X E) (P R S : X → Type 0) (Q : Type 0) → IfOk r P → IfOk r R → IfOk r S → ((x : X) → P x → R x → S x → Q) → OnOk r Q
if_three_on (Ok x) P R S Q p r s f = f x p r s
if_three_on (Err e) P R S Q p r s f = tt

pub if_ok : {X E : Type 0} (r : Result X E) (P Q : X → Type 0) → IfOk r P → ((x : X) → P x → Q x) → IfOk r Q
if_ok (Ok x) P Q p f = f x p
if_ok (Err e) P Q p f = tt
