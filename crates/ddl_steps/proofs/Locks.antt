-- Tables that the session has locked in ACCESS EXCLUSIVE mode.
use Rattle.std.proofs.Common.{◌≡◌, ℕ, ◌<◌, true, List, sym, ◌∙◌, subst, Ok, All, map, length}
use Rattle.pg_values.specs.declared.ids.TableNo.{TableNo}
use Rattle.pg_values.specs.declared.lock_mode.LockMode.TheVariants.{AccessExclusive}
use Rattle.history.specs.Locks.{holds}
use Rattle.history.specs.History.{History, lock_events}
use Rattle.tx_table.specs.Stands.{TableStands}
use Rattle.part_catalog.specs.Found.{resolved}
use Rattle.part_catalog.specs.Stands.{CatalogueStands}
use Rattle.stores.specs.Stand.{Stands}
use Rattle.stores.specs.declared.stores.Stores.{Stores}
use Rattle.statement_steps.specs.Attempts.{MayAttempt, LocksStay}
use Rattle.statement_steps.specs.declared.caller.Caller.{Caller}
use Rattle.statement_steps.specs.Asks.{locked, all_locked, named}
use Rattle.statement_steps.specs.Known.{IsKnownTo}
use Rattle.statement_steps.specs.Steps.{IsStep}
use Rattle.statement_steps.proofs.Held.{named_held, named_means, all_got}
use Rattle.ddl_steps.proofs.Same.{same_resolved}
use Rattle.ddl_steps.specs.Locks.{IsLocked, IsLockedNamed}

-- ---- one lock after the other

pub tables_locked : (names : List (List ℕ)) (old new : Stores) (caller : Caller) (tables : List TableNo) → MayAttempt old caller
    → IsStep (λ (u : Unit {0}). u) (Ok tt) old new caller caller.cmd (all_locked names caller.session AccessExclusive (map (λ t. t.number) tables)) → All (λ t. IsLocked new caller.session t.number) tables
tables_locked names old new caller tables may step =
    let s = may.sound in
    let a = step.is s.0 s.1 s.2 in
    let got = all_got names caller.session AccessExclusive tables s.0 a.0 in
    λ i d lt. a.1.stands.all.locks.tells.held caller.session _ AccessExclusive ∙ got i d lt

-- ---- the named table

pub named_locked : (names : List (List ℕ)) (old new : Stores) (caller : Caller) (name : List ℕ) (table : TableNo) → MayAttempt old caller → new ≡ record old { locks = new.locks } → IsKnownTo new caller.session table.number
    → IsStep (λ (t : TableNo). t.number) (Ok table) old new caller caller.cmd (named names caller.session AccessExclusive name) → IsLockedNamed new caller.session table.number
named_locked names old new caller name table may rest known step =
    let s = may.sound in
    let a = step.is s.0 s.1 s.2 in
    let o = resolved s.0 caller.session name in
    record {
      name = name;
      named = λ h txs catalog.
          let t : TableStands old.txs h = subst (λ (x : Stores). TableStands x.txs h) rest txs in
          let c : CatalogueStands old.catalog h = subst (λ (x : Stores). CatalogueStands x.catalog h) rest catalog in
          sym (same_resolved old.txs old.catalog s.0 h s.1.all.txs t s.1.all.catalog c caller.session name) ∙ named_means names caller.session AccessExclusive name s.0 o table.number a.0;
      made = known.made;
      locked = a.1.stands.all.locks.tells.held caller.session table.number AccessExclusive ∙ named_held names caller.session AccessExclusive name s.0 o table.number a.0;
    }

-- ---- further locks leave it so

pub still_named : (old new : Stores) (s t : ℕ) → new ≡ record old { locks = new.locks } → LocksStay old new → IsLockedNamed old s t → IsLockedNamed new s t
still_named old new s t rest stay its = record {
  name = its.name;
  named = λ h txs catalog. its.named h (subst (λ (x : Stores). TableStands x.txs h) rest txs) (subst (λ (x : Stores). CatalogueStands x.catalog h) rest catalog);
  made = subst (λ (x : Stores). t < length x.catalog.tables) (sym rest) its.made;
  locked = stay s t AccessExclusive its.locked;
}

-- ---- in every history that the stores stand for

pub held_at_history : (stores : Stores) (h : History) (s t : ℕ) → Stands stores h → IsLocked stores s t → holds (lock_events h) s t AccessExclusive ≡ true
held_at_history stores h s t stands its = sym (stands.all.locks.tells.held s t AccessExclusive) ∙ its
