-- Parts of a statement, one after another.
use Rattle.std.proofs.Common.{◌≡◌, ℕ, ◌+◌, List, [], ◌∷◌, ◌++◌, refl, ap, sym, ◌∙◌, subst, append_assoc, append-nil, Option, None, Result, Ok, Err, IsSome, IsErrAnd, length, slice_index_or}
use Rattle.std.proofs.lemmas.Result.{err_from_is_err_and}
use Rattle.history.specs.Locks.{queue}
use Rattle.history.specs.History.{History, lock_events}
use Rattle.stores.specs.Stand.{Stands}
use Rattle.stores.specs.declared.stores.Stores.{Stores}
use Rattle.statement_steps.specs.Ended.{told_as, giving}
use Rattle.statement_steps.proofs.Since.{since_on}
use Rattle.statement_steps.specs.Made.{Made, and_then, then_told, behind}
use Rattle.statement_steps.specs.Attempts.{MayAttempt, NoRows, WentOn, GoesOn}
use Rattle.statement_steps.specs.declared.caller.Caller.{Caller}
use Rattle.statement_steps.specs.declared.rest.Rest.{Rest}
use Rattle.statement_steps.specs.declared.stop.Stop.{Stop}
use Rattle.statement_steps.specs.declared.stop.Stop.TheVariants as stop
use Rattle.statement_steps.specs.Steps.{IsTold, IsHalted, IsPaused, IsPart, IsStep, follow, told_on, stopped_on, going_on}

-- ---- histories that go on

pub went_on : (h g k : History) (s n m : ℕ) (waiting : List ℕ) (mid new : Stores) → WentOn h s n [] mid g → WentOn g s m waiting new k → WentOn h s m waiting new k
went_on h g k s n m waiting mid new first second = record {
  stands = second.stands;
  at = second.at;
  others = λ r c other at. second.others r c other (first.others r c other at);
  since = λ r other. since_on r h g k (first.since r other) (second.since r other);
  queue = second.queue ∙ ap (λ q. q ++ waiting) (first.queue ∙ append-nil (queue (lock_events h)));
}

pub goes_on : (old mid new : Stores) (s : ℕ) → GoesOn old mid s → GoesOn mid new s → GoesOn old new s
goes_on old mid new s first second = record {
  transactions = second.transactions ∙ first.transactions;
  locks = λ r t m e. second.locks r t m (first.locks r t m e);
  others = λ r other. second.others r other ∙ first.others r other;
  size = record { sessions = second.size.sessions ∙ first.size.sessions; tables = second.size.tables ∙ first.size.tables };
}

-- ---- one part after another

told_behind : {Y U : Type 0} (view : Y → U) (r : Result Y Stop) (mid new : Stores) (caller : Caller) (n : ℕ) (h : History) (events : History) (m : Made U)
    → WentOn h caller.session caller.cmd [] mid (events ++ h) → IsTold view r new caller n (events ++ h) m → IsTold view r new caller n h (behind events m)
told_behind view (Ok x) mid new caller n h events m first told =
    (told.0, subst (WentOn h caller.session n [] new) (sym (append_assoc m.events events h)) (went_on h (events ++ h) (m.events ++ (events ++ h)) caller.session caller.cmd n [] mid new first told.1))
told_behind view (Err (stop.Waits rest)) mid new caller n h events m first told =
    (told.0, subst (WentOn h caller.session caller.cmd (caller.session ∷ []) new) (sym (append_assoc m.events events h)) (went_on h (events ++ h) (m.events ++ (events ++ h)) caller.session caller.cmd caller.cmd (caller.session ∷ []) mid new first told.1))
told_behind view (Err (stop.Refused f)) mid new caller n h events m first told =
    (told.0, subst (WentOn h caller.session (caller.cmd + 1) [] new) (sym (append_assoc m.events events h)) (went_on h (events ++ h) (m.events ++ (events ++ h)) caller.session caller.cmd (caller.cmd + 1) [] mid new first told.1))
told_behind view (Err stop.NoMemory) mid new caller n h events m first told = tt

-- what comes first is done, and the next part goes on from what it gave
pub then_step : {X T Y U : Type 0} (see : X → T) (view : Y → U) (x : X) (r : Result Y Stop) (old mid new : Stores) (caller : Caller) (n : ℕ) (f : History → Made T) (next : T → History → Made U)
    → IsStep see (Ok x) old mid caller caller.cmd f → IsStep view r mid new caller n (next (see x)) → IsStep view r old new caller n (follow f next)
then_step {T} {U} see view x r old mid new caller n f next first second = record {
  is = λ h stands at.
      let a = first.is h stands at in
      let told = second.is ((f h).events ++ h) a.1.stands a.1.at in
      subst (λ t. IsTold view r new caller n h (then_told t (f h).events (λ y. next y ((f h).events ++ h)))) (sym a.0)
      (told_behind view r mid new caller n h (f h).events (next (see x) ((f h).events ++ h)) a.1 told);
  keeps = goes_on old mid new caller.session first.keeps second.keeps;
  waits = second.waits;
}

-- what comes first stops
stop_told : {X T Y U : Type 0} (see : X → T) (view : Y → U) (e : Stop) (new : Stores) (caller : Caller) (n k : ℕ) (h : History) (m : Made T) (next : T → Made U)
    → IsTold see (Err e) new caller k h m → IsTold view (Err e) new caller n h (and_then m next)
stop_told {U = U} see view (stop.Waits rest) new caller n k h m next told = subst (λ t. IsTold view (Err (stop.Waits rest)) new caller n h (then_told t m.events next)) (sym told.0) (refl, told.1)
stop_told see view (stop.Refused f) new caller n k h m next told = subst (λ t. IsTold view (Err (stop.Refused f)) new caller n h (then_told t m.events next)) (sym told.0) (refl, told.1)
stop_told see view stop.NoMemory new caller n k h m next told = tt

pub halted_same : (X Y : Type 0) (e : Stop) (stores : Stores) (s : ℕ) → IsHalted {X = X} (Err e) stores s → IsHalted {X = Y} (Err e) stores s
halted_same X Y (stop.Waits rest) stores s waits = waits
halted_same X Y (stop.Refused f) stores s waits = waits
halted_same X Y stop.NoMemory stores s waits = waits

pub stop_step : {X T Y U : Type 0} (see : X → T) (view : Y → U) (e : Stop) (old new : Stores) (caller : Caller) (n k : ℕ) (f : History → Made T) (next : T → History → Made U)
    → IsStep see (Err e) old new caller k f → IsStep view (Err e) old new caller n (follow f next)
stop_step {X} {T} {Y} {U} see view e old new caller n k f next first = record {
  is = λ h stands at. stop_told see view e new caller n k h (f h) (λ y. next y ((f h).events ++ h)) (first.is h stands at);
  keeps = first.keeps;
  waits = halted_same X Y e new caller.session first.waits;
}

-- ---- a part in the middle of a run

pub on_done : {X T : Type 0} (see : X → T) (x : X) (rest : Option Rest) (old new : Stores) (caller : Caller) (n : ℕ) (f : History → Made T) → IsStep see (Ok x) old new caller n f → IsStep see (Ok x) old new caller n (λ h. going_on rest (f h))
on_done see x rest old new caller n f first = record {
  is = λ h stands at. let t = first.is h stands at in (ap (told_on rest) t.0, t.1);
  keeps = first.keeps;
  waits = first.waits;
}

on_told : {X T : Type 0} (see : X → T) (e : Stop) (rest : Option Rest) (new : Stores) (caller : Caller) (n : ℕ) (h : History) (m : Made T) → IsTold see (Err e) new caller n h m → IsTold see (Err (stopped_on e rest)) new caller n h (going_on rest m)
on_told see (stop.Waits lock) rest new caller n h m told = (ap (told_on rest) told.0, told.1)
on_told see (stop.Refused f) rest new caller n h m told = (ap (told_on rest) told.0, told.1)
on_told see stop.NoMemory rest new caller n h m told = tt

on_halted : (X : Type 0) (e : Stop) (rest : Option Rest) (stores : Stores) (s : ℕ) → NoRows rest → IsHalted {X = X} (Err e) stores s → IsHalted {X = X} (Err (stopped_on e rest)) stores s
on_halted X (stop.Waits lock) rest stores s may halted = (halted.0, may)
on_halted X (stop.Refused f) rest stores s may halted = halted
on_halted X stop.NoMemory rest stores s may halted = tt

pub stops_on : {X T : Type 0} (see : X → T) (e : Stop) (rest : Option Rest) (old new : Stores) (caller : Caller) (n : ℕ) (f : History → Made T) → NoRows rest → IsStep see (Err e) old new caller n f
    → IsStep see (Err (stopped_on e rest)) old new caller n (λ h. going_on rest (f h))
stops_on {X} see e rest old new caller n f may first = record {
  is = λ h stands at. on_told see e rest new caller n h (f h) (first.is h stands at);
  keeps = first.keeps;
  waits = on_halted X e rest new caller.session may first.waits;
}

-- ---- what is given is told through a function

pub gives_ok : {X T Y U : Type 0} (see : X → T) (view : Y → U) (f : T → U) (x : X) (y : Y) (old new : Stores) (caller : Caller) (n : ℕ) (g : History → Made T) → f (see x) ≡ view y → IsStep see (Ok x) old new caller n g
    → IsStep view (Ok y) old new caller n (λ h. giving f (g h))
gives_ok see view f x y old new caller n g same first = record {
  is = λ h stands at. let t = first.is h stands at in (ap (told_as f) t.0 ∙ ap Ok same, t.1);
  keeps = first.keeps;
  waits = first.waits;
}

gives_told : {X T Y U : Type 0} (see : X → T) (view : Y → U) (f : T → U) (e : Stop) (new : Stores) (caller : Caller) (n : ℕ) (h : History) (m : Made T) → IsTold see (Err e) new caller n h m → IsTold view (Err e) new caller n h (giving f m)
gives_told see view f (stop.Waits rest) new caller n h m told = (ap (told_as f) told.0, told.1)
gives_told see view f (stop.Refused fault) new caller n h m told = (ap (told_as f) told.0, told.1)
gives_told see view f stop.NoMemory new caller n h m told = tt

pub gives_stop : {X T Y U : Type 0} (see : X → T) (view : Y → U) (f : T → U) (e : Stop) (old new : Stores) (caller : Caller) (n : ℕ) (g : History → Made T) → IsStep see (Err e) old new caller n g
    → IsStep view (Err e) old new caller n (λ h. giving f (g h))
gives_stop {X} {T} {Y} {U} see view f e old new caller n g first = record {
  is = λ h stands at. gives_told see view f e new caller n h (g h) (first.is h stands at);
  keeps = first.keeps;
  waits = halted_same X Y e new caller.session first.waits;
}

-- ---- a part that may wait for a row

paused : {X : Type 0} (r : Result X Stop) (stores : Stores) (s : ℕ) → IsHalted r stores s → IsPaused r stores s
paused (Ok x) stores s halted = halted
paused (Err (stop.Waits rest)) stores s halted = halted.0
paused (Err (stop.Refused f)) stores s halted = halted
paused (Err stop.NoMemory) stores s halted = tt

pub as_part : {X T : Type 0} (see : X → T) (r : Result X Stop) (old new : Stores) (caller : Caller) (n : ℕ) (f : History → Made T) → IsStep see r old new caller n f → IsPart see r old new caller n f
as_part see r old new caller n f step = record { is = step.is; keeps = step.keeps; waits = paused r new caller.session step.waits }

pub paused_same : (X Y : Type 0) (e : Stop) (stores : Stores) (s : ℕ) → IsPaused {X = X} (Err e) stores s → IsPaused {X = Y} (Err e) stores s
paused_same X Y (stop.Waits rest) stores s waits = waits
paused_same X Y (stop.Refused f) stores s waits = waits
paused_same X Y stop.NoMemory stores s waits = waits

pub stop_part : {X T Y U : Type 0} (see : X → T) (view : Y → U) (e : Stop) (old new : Stores) (caller : Caller) (n k : ℕ) (f : History → Made T) (next : T → History → Made U)
    → IsPart see (Err e) old new caller k f → IsPart view (Err e) old new caller n (follow f next)
stop_part {X} {T} {Y} {U} see view e old new caller n k f next first = record {
  is = λ h stands at. stop_told see view e new caller n k h (f h) (λ y. next y ((f h).events ++ h)) (first.is h stands at);
  keeps = first.keeps;
  waits = paused_same X Y e new caller.session first.waits;
}

pub then_part : {X T Y U : Type 0} (see : X → T) (view : Y → U) (x : X) (r : Result Y Stop) (old mid new : Stores) (caller : Caller) (n : ℕ) (f : History → Made T) (next : T → History → Made U)
    → IsStep see (Ok x) old mid caller caller.cmd f → IsPart view r mid new caller n (next (see x)) → IsPart view r old new caller n (follow f next)
then_part {T} {U} see view x r old mid new caller n f next first second = record {
  is = λ h stands at.
      let a = first.is h stands at in
      let told = second.is ((f h).events ++ h) a.1.stands a.1.at in
      subst (λ t. IsTold view r new caller n h (then_told t (f h).events (λ y. next y ((f h).events ++ h)))) (sym a.0)
      (told_behind view r mid new caller n h (f h).events (next (see x) ((f h).events ++ h)) a.1 told);
  keeps = goes_on old mid new caller.session first.keeps second.keeps;
  waits = second.waits;
}

-- ---- who may go on

pub may_go_on : {X T : Type 0} (see : X → T) (x : X) (old mid : Stores) (caller : Caller) (f : History → Made T) → MayAttempt old caller → IsStep see (Ok x) old mid caller caller.cmd f → MayAttempt mid caller
may_go_on see x old mid caller f may first = record {
  sound = let s = may.sound in let a = first.is s.0 s.1 s.2 in ((f s.0).events ++ s.0, a.1.stands, a.1.at);
  transaction = subst (λ c. IsSome (slice_index_or c caller.session None)) (sym first.keeps.transactions) may.transaction;
  idle = first.waits;
  known = may.known;
  few = may.few;
  sessions = first.keeps.size.sessions ∙ may.sessions;
  seats = ap length first.keeps.transactions ∙ may.seats;
  tables = first.keeps.size.tables ∙ may.tables;
}

-- ---- the exits of a function of parts, and its end

-- a part is done, and what is left is told from there
pub goes : {X T Y U : Type 0} {see : X → T} {view : Y → U} {x : X} {r : Result Y Stop} {old mid new : Stores} {caller : Caller} {n : ℕ} (f : History → Made T) (next : T → History → Made U)
    → IsStep see (Ok x) old mid caller caller.cmd f → IsStep view r mid new caller n (next (see x)) → IsStep view r old new caller n (follow f next)
goes {see = see} {view = view} {x = x} {r = r} {old = old} {mid = mid} {new = new} {caller = caller} {n = n} f next first second = then_step see view x r old mid new caller n f next first second

-- a part stops
pub stops : {X T Y U : Type 0} {see : X → T} {view : Y → U} {e : Stop} {old new : Stores} {caller : Caller} {n k : ℕ} (f : History → Made T) (next : T → History → Made U)
    → IsStep see (Err e) old new caller k f → IsStep view (Err e) old new caller n (follow f next)
stops {see = see} {view = view} {e = e} {old = old} {new = new} {caller = caller} {n = n} {k = k} f next first = stop_step see view e old new caller n k f next first

-- so a `?` hands it on
pub handed_on : {X T : Type 0} {view : X → T} {r : Result X Stop} {e : Stop} {old new : Stores} {caller : Caller} {n : ℕ} {f : History → Made T} → IsErrAnd r (λ s. s ≡ e) → IsStep view (Err e) old new caller n f → IsStep view r old new caller n f
handed_on {view = view} {r = r} {old = old} {new = new} {caller = caller} {n = n} {f = f} is step = let p = err_from_is_err_and r is in subst (λ x. IsStep view x old new caller n f) (sym (p.1 ∙ ap Err p.2)) step

-- memory runs out behind a part that is done
pub out_behind : {X T Y U : Type 0} {see : X → T} {view : Y → U} {x : X} {r : Result Y Stop} {old new : Stores} {caller : Caller} {n k : ℕ} {f : History → Made T} {g : History → Made U} → IsErrAnd r (λ s. s ≡ stop.NoMemory) → IsStep see (Ok x) old new caller k f → IsStep view r old new caller n g
out_behind {view = view} {r = r} {old = old} {new = new} {caller = caller} {n = n} {g = g} is first =
    handed_on is (record { is = λ h stands at. tt; keeps = first.keeps; waits = tt })

-- a part is told by something that is the same
pub moved : {X T I : Type 0} {see : X → T} {r : Result X Stop} {old new : Stores} {caller : Caller} {n : ℕ} (f : I → History → Made T) (a b : I) → a ≡ b → IsStep see r old new caller n (f a) → IsStep see r old new caller n (f b)
moved {see = see} {r = r} {old = old} {new = new} {caller = caller} {n = n} f a b same step = subst (λ i. IsStep see r old new caller n (f i)) same step

-- and by something that is the same at each history that the stores stand for
pub same_step : {X T : Type 0} (view : X → T) (r : Result X Stop) (old new : Stores) (caller : Caller) (n : ℕ) (f g : History → Made T) → ((h : History) → Stands old h → f h ≡ g h) → IsStep view r old new caller n g → IsStep view r old new caller n f
same_step view r old new caller n f g same step = record {
  is = λ h stands at. subst (IsTold view r new caller n h) (sym (same h stands)) (step.is h stands at);
  keeps = step.keeps;
  waits = step.waits;
}
