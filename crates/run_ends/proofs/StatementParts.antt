-- Parts of statements, and what is so behind one: nobody has lost a lock, the others wait as they did, and the session waits
-- just where that is told, for one of the tables that were there at the beginning or for sessions.
use Rattle.std.proofs.Common.{◌≡◌, ◌≢◌, ◌<◌, ◌≤◌, ℕ, true, [], ◌∷◌, ◌++◌, Option, Some, None, Result, Ok, Err, refl, ap, sym, subst, ◌∙◌, All, length, append_assoc}
use Rattle.pg_values.specs.declared.fault.Fault.{Fault}
use Rattle.pg_values.specs.declared.lock_mode.LockMode.{LockMode}
use Rattle.history.specs.declared.catalogue.Entry.{Entry}
use Rattle.history.specs.declared.wait.Wanted.{Wanted}
use Rattle.history.specs.Catalogue.{CatalogueEvents, tables_made, entries_added}
use Rattle.history.specs.History.{History, TxChange, SnapshotChange, RowChange, LockChange, CatalogueChange, lock_events, catalogue_events}
use Rattle.history.specs.Locks.{wanted, holds}
use Rattle.history.specs.LocksSound.{AreLocksSound}
use Rattle.lock_table.specs.AnswerLaws.{WhatIsAskedMayCome}
use Rattle.statement_steps.specs.Attempts.{HasCause}
use Rattle.statement_steps.specs.Ended.{giving, told_as}
use Rattle.statement_steps.specs.Made.{Made, Halt, Waits, Refused, made, halted, answered, behind, then_told}
use Rattle.statement_steps.specs.Steps.{follow, going_on, told_on}
use Rattle.statement_steps.specs.declared.caller.Caller.{Caller}
use Rattle.statement_steps.specs.declared.rest.Rest.{Rest}
use Rattle.run_ends.specs.Asking.{IsBounded, IsKnown, MayAsk}

-- ---- an attempt of a statement

-- both tables of an entry have numbers below n
pub record IsBelow (n : ℕ) (e : Entry) : Type 0 where
  pub parent : e.parent.number < n
  pub child : e.child.number < n

-- whose it is, the catalogue at its beginning, and a number above those of all tables that it speaks of
pub record Attempt : Type 0 where
  pub come : WhatIsAskedMayCome
  pub caller : Caller
  pub catalogue : CatalogueEvents
  pub bound : ℕ
  pub tables : length (tables_made catalogue) ≤ bound
  pub entries : All (IsBelow bound) (entries_added catalogue)

-- its session may ask, and nothing has happened to tables
pub record Now (k : Attempt) (h : History) : Type 0 where
  pub may : MayAsk k.caller.session h
  pub still : catalogue_events h ≡ k.catalogue

-- ---- a part of it

pub record IsStopped (k : Attempt) (rest : Option Rest) (later : History) : Type 0 where
  pub what : Wanted
  pub waits : wanted (lock_events later) k.caller.session ≡ Some what
  pub bounded : IsBounded k.bound what
  pub caused : HasCause what
  pub still : catalogue_events later ≡ k.catalogue
  pub known : IsKnown rest

abbrev pub Told : {T : Type 0} → (k : Attempt) → (T → History → Type 0) → History → Result T Halt → Type 0
Told k P later (Ok x) = (wanted (lock_events later) k.caller.session ≡ None) × P x later
Told k P later (Err (Waits rest)) = IsStopped k rest later
Told k P later (Err (Refused f)) = wanted (lock_events later) k.caller.session ≡ None

pub record Part {T : Type 0} (k : Attempt) (P : T → History → Type 0) (h : History) (m : Made T) : Type 0 where
  pub sound : AreLocksSound (lock_events (m.events ++ h))
  pub stay : (x t : ℕ) (mode : LockMode) → holds (lock_events h) x t mode ≡ true → holds (lock_events (m.events ++ h)) x t mode ≡ true
  pub others : (x : ℕ) → x ≢ k.caller.session → wanted (lock_events (m.events ++ h)) x ≡ wanted (lock_events h) x
  pub told : Told k P (m.events ++ h) m.told

-- it gives such a thing, and leaves tables as they were
abbrev pub Gives : {T : Type 0} → (k : Attempt) → (T → Type 0) → T → History → Type 0
Gives k R x g = (catalogue_events g ≡ k.catalogue) × R x

abbrev pub Any : {T : Type 0} → T → Type 0
Any x = Unit {0}

abbrev pub Ends : {T : Type 0} → T → History → Type 0
Ends x g = Unit {0}

-- so it is wherever the part begins
abbrev pub Parts : {T : Type 0} → (k : Attempt) → (T → History → Type 0) → (History → Made T) → Type 0
Parts k P f = (h : History) → Now k h → Part k P h (f h)

-- ---- events that are of no lock and of no transaction

abbrev pub AreSilent : History → Type 0
AreSilent [] = Unit {0}
AreSilent (TxChange e ∷ es) = ⊥
AreSilent (SnapshotChange e ∷ es) = AreSilent es
AreSilent (RowChange e ∷ es) = AreSilent es
AreSilent (LockChange e ∷ es) = ⊥
AreSilent (CatalogueChange e ∷ es) = AreSilent es

pub silent_locks : (es h : History) → AreSilent es → lock_events (es ++ h) ≡ lock_events h
silent_locks [] h is = refl
silent_locks (TxChange e ∷ es) h is = absurd is
silent_locks (SnapshotChange e ∷ es) h is = silent_locks es h is
silent_locks (RowChange e ∷ es) h is = silent_locks es h is
silent_locks (LockChange e ∷ es) h is = absurd is
silent_locks (CatalogueChange e ∷ es) h is = silent_locks es h is

pub both_silent : (es fs : History) → AreSilent es → AreSilent fs → AreSilent (es ++ fs)
both_silent [] fs is are = are
both_silent (TxChange e ∷ es) fs is are = absurd is
both_silent (SnapshotChange e ∷ es) fs is are = both_silent es fs is are
both_silent (RowChange e ∷ es) fs is are = both_silent es fs is are
both_silent (LockChange e ∷ es) fs is are = absurd is
both_silent (CatalogueChange e ∷ es) fs is are = both_silent es fs is are

-- ---- parts that wait for nothing

module _ {T : Type 0} (k : Attempt) (P : T → History → Type 0) (h : History) where
  -- it is done
  pub events_part : (es : History) (x : T) → MayAsk k.caller.session h → AreSilent es → P x (es ++ h) → Part k P h (made es x)
  events_part es x may silent is =
      let locks = silent_locks es h silent in
      record {
        sound = subst AreLocksSound (sym locks) may.sound;
        stay = λ r t mode held. ap (λ l. holds l r t mode) locks ∙ held;
        others = λ r other. ap (λ l. wanted l r) locks;
        told = (ap (λ l. wanted l k.caller.session) locks ∙ may.idle, is);
      }

  pub made_part : (x : T) → MayAsk k.caller.session h → P x h → Part k P h (made [] x)
  made_part x may is = record { sound = may.sound; stay = λ r t mode held. held; others = λ r other. refl; told = (may.idle, is) }

  -- it is refused
  pub refused_part : (f : Fault) → MayAsk k.caller.session h → Part k P h (halted [] (Refused f))
  refused_part f may = record { sound = may.sound; stay = λ r t mode held. held; others = λ r other. refl; told = may.idle }

-- nothing happens by it
pub answered_part : {T : Type 0} (k : Attempt) (h : History) → Now k h → (r : Result T Fault) → Part k (Gives k Any) h (answered r)
answered_part k h now (Ok x) = made_part k (Gives k Any) h x now.may (now.still, tt)
answered_part k h now (Err f) = refused_part k (Gives k Any) h f now.may

-- ---- one part after another

-- who has done the first may do the second
may_then : (s : ℕ) (h g : History) → MayAsk s h → AreLocksSound (lock_events g) → wanted (lock_events g) s ≡ None → MayAsk s g
may_then s h g may sound idle = record { known = may.known; sound = sound; idle = idle }

behind_part : {U : Type 0} (k : Attempt) (Q : U → History → Type 0) (es h : History) (m : Made U) → ((x t : ℕ) (mode : LockMode) → holds (lock_events h) x t mode ≡ true → holds (lock_events (es ++ h)) x t mode ≡ true)
    → ((x : ℕ) → x ≢ k.caller.session → wanted (lock_events (es ++ h)) x ≡ wanted (lock_events h) x) → Part k Q (es ++ h) m → Part k Q h (behind es m)
behind_part k Q es h m stay others part =
    let e = append_assoc m.events es h in
    record {
      sound = subst (λ g. AreLocksSound (lock_events g)) (sym e) part.sound;
      stay = λ x t mode held. subst (λ g. holds (lock_events g) x t mode ≡ true) (sym e) (part.stay x t mode (stay x t mode held));
      others = λ x other. ap (λ g. wanted (lock_events g) x) e ∙ (part.others x other ∙ others x other);
      told = subst (λ g. Told k Q g m.told) (sym e) part.told;
    }

pub follow_part : {T U : Type 0} (k : Attempt) (P : T → History → Type 0) (Q : U → History → Type 0) (f : History → Made T) (next : T → History → Made U) (h : History) → MayAsk k.caller.session h → Part k P h (f h)
    → ((x : T) → MayAsk k.caller.session ((f h).events ++ h) → P x ((f h).events ++ h) → Part k Q ((f h).events ++ h) (next x ((f h).events ++ h))) → Part k Q h (follow f next h)
follow_part {T} {U} k P Q f next h may part on = by (f h).told part.told
  where
    by : (r : Result T Halt) → Told k P ((f h).events ++ h) r → Part k Q h (then_told r (f h).events (λ x. next x ((f h).events ++ h)))
    by (Ok x) told =
        behind_part k Q (f h).events h (next x ((f h).events ++ h)) part.stay part.others
        (on x (may_then k.caller.session h ((f h).events ++ h) may part.sound told.0) told.1)
    by (Err (Waits rest)) told = record { sound = part.sound; stay = part.stay; others = part.others; told = told }
    by (Err (Refused fault)) told = record { sound = part.sound; stay = part.stay; others = part.others; told = told }

-- behind one that leaves tables as they were the next begins as the statement did
pub then_parts : {T U : Type 0} (k : Attempt) (R : T → Type 0) (Q : U → History → Type 0) (f : History → Made T) (next : T → History → Made U) → Parts k (Gives k R) f → ((x : T) → R x → Parts k Q (next x)) → Parts k Q (follow f next)
then_parts {T} k R Q f next first second h now =
    follow_part k (Gives k R) Q f next h now.may (first h now) (λ x may is. second x is.1 ((f h).events ++ h) (record { may = may; still = is.0 }))

-- ---- what is given is told through a function

pub giving_part : {T U : Type 0} (k : Attempt) (P : T → History → Type 0) (Q : U → History → Type 0) (g : T → U) (h : History) (m : Made T) → ((x : T) (later : History) → P x later → Q (g x) later) → Part k P h m → Part k Q h (giving g m)
giving_part {T} k P Q g h m on part = record { sound = part.sound; stay = part.stay; others = part.others; told = by m.told part.told }
  where
    by : (r : Result T Halt) → Told k P (m.events ++ h) r → Told k Q (m.events ++ h) (told_as g r)
    by (Ok x) told = (told.0, on x (m.events ++ h) told.1)
    by (Err (Waits rest)) told = told
    by (Err (Refused f)) told = told

-- it goes on in the middle of its run
pub going_on_part : {T : Type 0} (k : Attempt) (P : T → History → Type 0) (rest : Option Rest) (h : History) (m : Made T) → IsKnown rest → Part k P h m → Part k P h (going_on rest m)
going_on_part {T} k P rest h m known part = record { sound = part.sound; stay = part.stay; others = part.others; told = by m.told part.told }
  where
    by : (r : Result T Halt) → Told k P (m.events ++ h) r → Told k P (m.events ++ h) (told_on rest r)
    by (Ok x) told = told
    by (Err (Waits lock)) told = record { what = told.what; waits = told.waits; bounded = told.bounded; caused = told.caused; still = told.still; known = known }
    by (Err (Refused f)) told = told
