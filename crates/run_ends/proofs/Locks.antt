-- Locks on the tables that were there, tables by their names, and waits for sessions.
use Rattle.std.proofs.Common.{◌≡◌, ◌<◌, ◌≤◌, ℕ, zero, suc, ◌==◌, if◌then◌else◌, Bool, true, false, List, [], ◌∷◌, ◌++◌, Option, Some, None, Result, Ok, Err, refl, sym, subst, ◌∙◌, inl, inr, All, map, length, arith}
use Rattle.std.proofs.lemmas.Bool.{cases_Bool, cases_lt}
use Rattle.std.proofs.lemmas.Bool.Decides.{nat_tests}
use Rattle.std.proofs.lemmas.Grind.{common_steps}
use Rattle.std.proofs.lemmas.List.Elements.{All-head, All-tail}
use Rattle.refusals.specs.Refusals.{no_table, deadlock}
use Rattle.pg_values.specs.Sets.{has, nobody}
use Rattle.pg_values.specs.declared.lock_mode.LockMode.{LockMode}
use Rattle.pg_values.proofs.Bits.{somebody_is}
use Rattle.history.specs.declared.wait.WaitOn.{WaitOn}
use Rattle.history.specs.declared.wait.WaitOn.TheVariants.{Ends}
use Rattle.history.specs.declared.wait.Wanted.{Wanted}
use Rattle.history.specs.declared.wait.Wanted.TheVariants.{Lock, Others}
use Rattle.history.specs.Catalogue.{tables_made}
use Rattle.history.specs.Locks.{LockEvents, LockGot, WaitBegan}
use Rattle.history.specs.LocksSound.{AreLocksSound}
use Rattle.history.specs.Snapshots.{TakenSnapshot, held_by}
use Rattle.history.specs.History.{History, LockChange, lock_events, snapshot_events, catalogue_events}
use Rattle.history.specs.Waits.{is_cause}
use Rattle.lock_table.specs.Asked.{AskedView, AtOnce, WaitsBehind, ClosesCycle, asked, events_of}
use Rattle.part_catalog.specs.Found.{is_meant, resolved, table_number}
use Rattle.part_catalog.specs.Names.{last_below}
use Rattle.pg_values.specs.declared.isolation.Isolation.{Isolation}
use Rattle.pg_values.specs.declared.isolation.Isolation.TheVariants.{ReadCommitted, ReadUncommitted, RepeatableRead}
use Rattle.stores.specs.Events.{held, held_first, look_of}
use Rattle.statement_steps.specs.Asks.{locked, waited, told_by, all_locked, found, meant_or_none, number_or, kept_number, named, named_still, same_or_gone, held_at}
use Rattle.statement_steps.specs.Faults.{name_of}
use Rattle.statement_steps.specs.Made.{Made, Halt, Waits, Refused, made, halted}
use Rattle.statement_steps.specs.Steps.{follow}
use Rattle.statement_steps.specs.declared.rest.Rest.{Rest}
use Rattle.table_statements.specs.Claims.{only}
use Rattle.run_ends.specs.Asking.{IsBounded, IsKnown}
use Rattle.run_ends.proofs.Asked.{got_stays, began_own, began_other, cause_of}
use Rattle.run_ends.proofs.StatementParts.{Attempt, Now, Told, Part, Parts, Gives, Any, events_part, made_part, refused_part, then_parts}
use Rattle.run_ends.proofs.Waits.{only_known, only_others}

-- ---- what is asked

module _ (k : Attempt) (names : List (List ℕ)) (rest : Option Rest) (h : History) (now : Now k h) (known : IsKnown rest) where
  abbrev s : ℕ
  s = k.caller.session

  abbrev l : LockEvents
  l = lock_events h

  got_part : (t : ℕ) (m : LockMode) → AreLocksSound (LockGot s t m ∷ l) → Part k (Gives k Any) h (told_by names rest (map LockChange (LockGot s t m ∷ [])) AtOnce)
  got_part t m sound = record {
    sound = sound;
    stay = λ x i mode e. got_stays l s t m x i mode e;
    others = λ x other. refl;
    told = (now.may.idle, (now.still, tt));
  }

  wait_part : (w : Wanted) (others : List ℕ) → IsBounded k.bound w → AreLocksSound (WaitBegan s w ∷ l) → Part k (Gives k Any) h (told_by names rest (map LockChange (WaitBegan s w ∷ [])) (WaitsBehind others))
  wait_part w others bounded sound = record {
    sound = sound;
    stay = λ x i mode e. e;
    others = λ x other. began_other l s x w other;
    told = record { what = w; waits = began_own l s w; bounded = bounded; caused = cause_of l s w sound.0.cause; still = now.still; known = known };
  }

  nothing_part : Part k (Gives k Any) h (told_by names rest [] AtOnce)
  nothing_part = made_part k (Gives k Any) h tt now.may (now.still, tt)

  cycle_part : (cycle : List ℕ) → Part k (Gives k Any) h (told_by names rest [] (ClosesCycle cycle))
  cycle_part cycle = refused_part k (Gives k Any) h (deadlock (map (name_of names) cycle)) now.may

  answer_part : (w : Wanted) (a : AskedView) → IsBounded k.bound w → AreLocksSound (events_of s w a ++ l) → Part k (Gives k Any) h (told_by names rest (map LockChange (events_of s w a)) a)
  answer_part (Lock t m) AtOnce bounded sound = got_part t.number m sound
  answer_part (Others v) AtOnce bounded sound = nothing_part
  answer_part (Lock t m) (WaitsBehind others) bounded sound = wait_part (Lock t m) others bounded sound
  answer_part (Others v) (WaitsBehind others) bounded sound = wait_part (Others v) others bounded sound
  answer_part (Lock t m) (ClosesCycle cycle) bounded sound = cycle_part cycle
  answer_part (Others v) (ClosesCycle cycle) bounded sound = cycle_part cycle

-- a session past the last one is none, and nobody has to wait for it
nobody_else : (l : LockEvents) (s other : ℕ) → 128 ≤ other → nobody (is_cause l s (Others (Ends (only other)))) ≡ true
nobody_else l s other past = elim (cases_Bool (nobody (is_cause l s (Others (Ends (only other)))))) [
  | inl t ↦ t
  | inr f ↦
      let x = somebody_is (is_cause l s (Others (Ends (only other)))) f in
      let lt = x.1 in
      let apart : has (only other) x.0 ≡ false = only_others other x.0 (λ same. omega (arith, past, lt, same)) in
      absurd (let c : false ≡ true = sym apart ∙ x.2 in cc)
]

free_at_once : (l : LockEvents) (s other : ℕ) → 128 ≤ other → asked l s (Others (Ends (only other))) ≡ AtOnce
free_at_once l s other past = let free = nobody_else l s other past in rw free refl

module _ (k : Attempt) (names : List (List ℕ)) where
  -- a lock on one of the tables
  pub locked_parts : (t : ℕ) (m : LockMode) → t < k.bound → Parts k (Gives k Any) (locked names k.caller.session t m)
  locked_parts t m low h now =
      let w = Lock (record { number = t }) m in
      answer_part k names None h now tt w (asked (lock_events h) k.caller.session w) low (k.come (lock_events h) k.caller.session w now.may.sound now.may.known now.may.idle)

  -- a wait for sessions
  pub waited_parts : (what : WaitOn) (rest : Option Rest) → IsBounded k.bound (Others what) → IsKnown rest → Parts k (Gives k Any) (waited names k.caller.session what rest)
  waited_parts what rest bounded known h now =
      answer_part k names rest h now known (Others what) (asked (lock_events h) k.caller.session (Others what)) bounded
      (k.come (lock_events h) k.caller.session (Others what) now.may.sound now.may.known now.may.idle)

  -- or for one number alone: where it has to wait for that, it is a session
  pub waited_one_parts : (other : ℕ) (rest : Option Rest) → IsKnown rest → Parts k (Gives k Any) (waited names k.caller.session (Ends (only other)) rest)
  waited_one_parts other rest known h now =
      elim (cases_lt other 128) [
        | inl lt ↦ waited_parts (Ends (only other)) rest (only_known other lt) known h now
        | inr past ↦
            let w = Others (Ends (only other)) in
            subst (λ a. Part k (Gives k Any) h (told_by names rest (map LockChange (events_of k.caller.session w a)) a)) (sym (free_at_once (lock_events h) k.caller.session other past))
            (made_part k (Gives k Any) h tt now.may (now.still, tt))
      ]

  pub all_locked_parts : (m : LockMode) (ts : List ℕ) → All (λ t. t < k.bound) ts → Parts k (Gives k Any) (all_locked names k.caller.session m ts)
  all_locked_parts m [] low h now = made_part k (Gives k Any) h tt now.may (now.still, tt)
  all_locked_parts m (t ∷ ts) low h now =
      then_parts k Any (Gives k Any) (locked names k.caller.session t m) (λ u. all_locked names k.caller.session m ts) (locked_parts t m (All-head (λ x. x < k.bound) t ts low))
      (λ u any. all_locked_parts m ts (All-tail (λ x. x < k.bound) t ts low)) h now

-- ---- a table by its name

pub last_low : (q : ℕ → Bool) (n j : ℕ) → last_below q n ≡ Some j → j < n
last_low q zero j is = absurd (cc)
last_low q (suc n) j is = elim (cases_Bool (q n)) [
  | inl y ↦ let same : n ≡ j = let e : Some n ≡ Some j = rw y at is in cc in omega (arith, same)
  | inr f ↦ let lt = last_low q n j (rw f at is) in omega (arith, lt)
]

-- one of the tables that are made
pub made_low : (k : Attempt) (h : History) → Now k h → (t : ℕ) → t < table_number h → t < k.bound
made_low k h now t lt = let le : length (tables_made (catalogue_events h)) ≤ k.bound = subst (λ c. length (tables_made c) ≤ k.bound) (sym now.still) k.tables in omega (arith, lt, le)

module _ (k : Attempt) where
  abbrev pub Low : ℕ → Type 0
  Low t = t < k.bound

  found_parts : (name : List ℕ) → Parts k (Gives k Low) (found k.caller.session name)
  found_parts name h now = by (resolved h k.caller.session name) refl
    where
      by : (o : Option ℕ) → resolved h k.caller.session name ≡ o → Part k (Gives k Low) h (meant_or_none name o)
      by None e = refused_part k (Gives k Low) h (no_table name) now.may
      by (Some t) e = made_part k (Gives k Low) h t now.may (now.still, made_low k h now t (last_low (is_meant h k.caller.session name) (table_number h) t e))

  number_part : (t : ℕ) → t < k.bound → (h : History) (m : Made (Unit {0})) → Part k (Gives k Any) h m → Part k (Gives k Low) h (kept_number t m)
  number_part t low h m part = record { sound = part.sound; stay = part.stay; others = part.others; told = by m.told part.told }
    where
      by : (r : Result (Unit {0}) Halt) → Told k (Gives k Any) (m.events ++ h) r → Told k (Gives k Low) (m.events ++ h) (number_or t r)
      by (Ok u) told = (told.0, (told.1.0, low))
      by (Err (Waits rest)) told = told
      by (Err (Refused f)) told = told

  pub named_parts : (names : List (List ℕ)) (m : LockMode) (name : List ℕ) → Parts k (Gives k Low) (named names k.caller.session m name)
  named_parts names m name =
      then_parts k Low (Gives k Low) (found k.caller.session name) (λ t h. kept_number t (locked names k.caller.session t m h)) (found_parts name)
      (λ t low h now. number_part t low h (locked names k.caller.session t m h) (locked_parts k names t m low h now))

  -- the same table still
  same_parts : (name : List ℕ) (t n : ℕ) → n < k.bound → Parts k (Gives k (λ u. t < k.bound)) (λ h. same_or_gone name t n)
  same_parts name t n low h now = by (n == t) refl
    where
      by : (b : Bool) → (n == t) ≡ b → Part k (Gives k (λ u. t < k.bound)) h (if b then made [] (tt {0}) else halted [] (Refused (no_table name)))
      by true e = let same : n ≡ t = grind (arith, common_steps, nat_tests, e) in made_part k (Gives k (λ u. t < k.bound)) h tt now.may (now.still, subst (λ x. x < k.bound) same low)
      by false e = refused_part k (Gives k (λ u. t < k.bound)) h (no_table name) now.may

  pub named_still_parts : (names : List (List ℕ)) (m : LockMode) (name : List ℕ) (t : ℕ) → Parts k (Gives k Any) (named_still names k.caller.session m name t)
  named_still_parts names m name t =
      then_parts k Low (Gives k Any) (found k.caller.session name) (λ n. follow (λ h. same_or_gone name t n) (λ u. locked names k.caller.session t m)) (found_parts name)
      (λ n low. then_parts k (λ u. t < k.bound) (Gives k Any) (λ h. same_or_gone name t n) (λ u. locked names k.caller.session t m) (same_parts name t n low) (λ u is. locked_parts k names t m is))

  -- ---- the snapshot

  held_part : (cmd : ℕ) (h : History) → Now k h → (o : Option TakenSnapshot) → Part k (Gives k Any) h (made (held_first o k.caller.session (look_of h k.caller.session cmd)) (tt {0}))
  held_part cmd h now None = events_part k (Gives k Any) h (held_first None k.caller.session (look_of h k.caller.session cmd)) tt now.may tt (now.still, tt)
  held_part cmd h now (Some old) = made_part k (Gives k Any) h tt now.may (now.still, tt)

  pub held_parts : (cmd : ℕ) → Parts k (Gives k Any) (λ h. made (held h k.caller.session cmd) (tt {0}))
  held_parts cmd h now = held_part cmd h now (held_by (snapshot_events h) k.caller.session)

  pub held_at_parts : (level : Isolation) (cmd : ℕ) → Parts k (Gives k Any) (held_at level k.caller.session cmd)
  held_at_parts ReadCommitted cmd h now = made_part k (Gives k Any) h tt now.may (now.still, tt)
  held_at_parts ReadUncommitted cmd h now = made_part k (Gives k Any) h tt now.may (now.still, tt)
  held_at_parts RepeatableRead cmd h now = held_parts cmd h now
