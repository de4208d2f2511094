-- Parts of statements ask.
use Rattle.std.proofs.Common.{◌≡◌, ◌≢◌, ◌<◌, ℕ, ◌||◌, Bool, true, false, List, [], ◌∷◌, ◌++◌, Option, Some, None, refl, ap, sym, subst, ◌∙◌, map, arith}
use Rattle.std.proofs.lemmas.Grind.{common_steps}
use Rattle.std.proofs.lemmas.Bool.Decides.{nat_tests}
use Rattle.pg_values.specs.declared.lock_mode.LockMode.{LockMode}
use Rattle.history.specs.declared.wait.WaitOn.{WaitOn}
use Rattle.history.specs.declared.wait.WaitOn.TheVariants.{Ends, Snapshots}
use Rattle.history.specs.declared.wait.Wanted.{Wanted}
use Rattle.history.specs.declared.wait.Wanted.TheVariants.{Lock, Others}
use Rattle.history.specs.Catalogue.{CatalogueEvents}
use Rattle.history.specs.History.{History, LockChange, lock_events, catalogue_events}
use Rattle.history.specs.Locks.{LockEvents, LockGot, WaitBegan, wanted, holds}
use Rattle.history.specs.LocksSound.{AreLocksSound}
use Rattle.history.specs.Waits.{is_cause}
use Rattle.lock_table.specs.AnswerLaws.{WhatIsAskedMayCome}
use Rattle.lock_table.specs.Asked.{AskedView, AtOnce, WaitsBehind, ClosesCycle, asked, events_of}
use Rattle.lock_table.specs.Stands.{names as named_in}
use Rattle.statement_steps.specs.Asks.{locked, waited, told_by}
use Rattle.statement_steps.specs.Attempts.{HasCause}
use Rattle.statement_steps.specs.Made.{Made}
use Rattle.statement_steps.specs.declared.rest.Rest.{Rest}
use Rattle.run_ends.specs.Asking.{IsBounded, WaitsAsTold, MayAsk, Asks}

-- ---- events of locks

or_true : (b : Bool) → (b || true) ≡ true
or_true true = refl
or_true false = refl

pub got_stays : (l : LockEvents) (s t : ℕ) (m : LockMode) (x i : ℕ) (k : LockMode) → holds l x i k ≡ true → holds (LockGot s t m ∷ l) x i k ≡ true
got_stays l s t m x i k e = rw e (or_true _)

pub began_own : (l : LockEvents) (s : ℕ) (w : Wanted) → wanted (WaitBegan s w ∷ l) s ≡ Some w
began_own l s w = grind (arith, common_steps, nat_tests)

pub began_other : (l : LockEvents) (s x : ℕ) (w : Wanted) → x ≢ s → wanted (WaitBegan s w ∷ l) x ≡ wanted l x
began_other l s x w other = grind (arith, common_steps, nat_tests, other)

named_cause : (l : LockEvents) (s y : ℕ) (v : WaitOn) → is_cause l s (Others v) y ≡ named_in v y
named_cause l s y (Ends of) = refl
named_cause l s y (Snapshots of) = refl

pub cause_of : (l : LockEvents) (s : ℕ) (w : Wanted) → (y : ℕ) × (is_cause l s w y ≡ true) → HasCause w
cause_of l s (Lock t m) c = tt
cause_of l s (Others v) c = (c.0, sym (named_cause l s c.0 v) ∙ c.1)

-- ---- the answers

module _ (tables : CatalogueEvents → ℕ) (names : List (List ℕ)) (s : ℕ) (rest : Option Rest) (h : History) (may : MayAsk s h) where
  abbrev l : LockEvents
  l = lock_events h

  -- nothing happens
  nothing_asks : {T : Type 0} (m : Made T) → m.events ≡ [] → WaitsAsTold tables s h h m.told → Asks tables s h m
  nothing_asks m none told = record {
    sound = subst (λ es. AreLocksSound (lock_events (es ++ h))) (sym none) may.sound;
    stay = λ x i k e. ap (λ es. holds (lock_events (es ++ h)) x i k) none ∙ e;
    others = λ x other. ap (λ es. wanted (lock_events (es ++ h)) x) none;
    told = subst (λ es. WaitsAsTold tables s h (es ++ h) m.told) (sym none) told;
  }

  got_asks : (t : ℕ) (m : LockMode) → AreLocksSound (LockGot s t m ∷ l) → Asks tables s h (told_by names rest (map LockChange (LockGot s t m ∷ [])) AtOnce)
  got_asks t m sound = record {
    sound = sound;
    stay = λ x i k e. got_stays l s t m x i k e;
    others = λ x other. refl;
    told = may.idle;
  }

  wait_asks : (w : Wanted) (others : List ℕ) → IsBounded (tables (catalogue_events h)) w → AreLocksSound (WaitBegan s w ∷ l) → Asks tables s h (told_by names rest (map LockChange (WaitBegan s w ∷ [])) (WaitsBehind others))
  wait_asks w others bounded sound = record {
    sound = sound;
    stay = λ x i k e. e;
    others = λ x other. began_other l s x w other;
    told = record { what = w; waits = began_own l s w; bounded = bounded; caused = cause_of l s w sound.0.cause; no_more = omega arith };
  }

  answer_asks : (w : Wanted) (a : AskedView) → IsBounded (tables (catalogue_events h)) w → AreLocksSound (events_of s w a ++ l) → Asks tables s h (told_by names rest (map LockChange (events_of s w a)) a)
  answer_asks (Lock t m) AtOnce bounded sound = got_asks t.number m sound
  answer_asks (Others v) AtOnce bounded sound = nothing_asks (told_by names rest [] AtOnce) refl may.idle
  answer_asks (Lock t m) (WaitsBehind others) bounded sound = wait_asks (Lock t m) others bounded sound
  answer_asks (Others v) (WaitsBehind others) bounded sound = wait_asks (Others v) others bounded sound
  answer_asks (Lock t m) (ClosesCycle cycle) bounded sound = nothing_asks (told_by names rest [] (ClosesCycle cycle)) refl may.idle
  answer_asks (Others v) (ClosesCycle cycle) bounded sound = nothing_asks (told_by names rest [] (ClosesCycle cycle)) refl may.idle

pub locked_asks : WhatIsAskedMayCome → (tables : CatalogueEvents → ℕ) (names : List (List ℕ)) (s t : ℕ) (m : LockMode) (h : History) → MayAsk s h → t < tables (catalogue_events h) → Asks tables s h (locked names s t m h)
locked_asks come tables names s t m h may low =
    let w = Lock (record { number = t }) m in
    answer_asks tables names s None h may w (asked (lock_events h) s w) low (come (lock_events h) s w may.sound may.known may.idle)

pub waited_asks : WhatIsAskedMayCome → (tables : CatalogueEvents → ℕ) (names : List (List ℕ)) (s : ℕ) (what : WaitOn) (rest : Option Rest) (h : History) → MayAsk s h → IsBounded (tables (catalogue_events h)) (Others what) → Asks tables s h (waited names s what rest h)
waited_asks come tables names s what rest h may low =
    answer_asks tables names s rest h may (Others what) (asked (lock_events h) s (Others what)) low (come (lock_events h) s (Others what) may.sound may.known may.idle)
