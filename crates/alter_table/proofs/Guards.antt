-- Tables that a session has locked so that nobody else changes their partitions.
use Rattle.std.proofs.Common.{◌≡◌, ℕ, ◌==◌, ◌+◌, true, List, [], ◌++◌, inl, inr, sym, ◌∙◌, subst, append-nil, Option, Some, None, Ok}
use Rattle.std.proofs.lemmas.Bool.{cases_Bool}
use Rattle.pg_values.specs.Sets.{has}
use Rattle.pg_values.specs.declared.ids.TableNo.{TableNo}
use Rattle.pg_values.specs.declared.lock_mode.LockMode.{LockMode}
use Rattle.pg_values.specs.declared.lock_mode.LockMode.TheVariants.{ShareUpdateExclusive, AccessExclusive}
use Rattle.history.specs.declared.wait.Wanted.TheVariants.{Lock}
use Rattle.history.specs.History.{History, lock_events}
use Rattle.legal_statements.specs.Locked.{IsOwned}
use Rattle.lock_table.specs.Asked.{asked}
use Rattle.lock_table.specs.Kept.{held_at}
use Rattle.part_catalog.specs.Found.{resolved}
use Rattle.stores.specs.Stand.{Stands}
use Rattle.stores.specs.declared.stores.Stores.{Stores}
use Rattle.statement_steps.specs.Made.{Made, then_told}
use Rattle.statement_steps.specs.Attempts.{MayAttempt, LocksStay}
use Rattle.statement_steps.specs.declared.caller.Caller.{Caller}
use Rattle.statement_steps.specs.Asks.{locked, meant_or_none, named, named_still, same_or_gone}
use Rattle.statement_steps.specs.Steps.{IsStep}
use Rattle.statement_steps.proofs.Held.{Holds, view_gets, named_held}
use Rattle.alter_table.specs.AskedOfDetached.{HasGuarded, HasOwned}
use Rattle.alter_table.proofs.LeftPlaces.{MayChange}

pub may_change : (stores : Stores) (s : ℕ) (p : TableNo) → HasGuarded stores s p.number → MayChange stores s p
may_change stores s p guarded h stands = inl (sym (stands.all.locks.tells.held s p.number ShareUpdateExclusive) ∙ guarded)

pub still_guards : (old new : Stores) (s t : ℕ) → LocksStay old new → HasGuarded old s t → HasGuarded new s t
still_guards old new s t stay guarded = stay s t ShareUpdateExclusive guarded

pub still_owns : (old new : Stores) (s t : ℕ) → LocksStay old new → HasOwned old s t → HasOwned new s t
still_owns old new s t stay owned = stay s t AccessExclusive owned

pub may_own : (stores : Stores) (s t : ℕ) → HasOwned stores s t → (h : History) → Stands stores h → IsOwned h s t
may_own stores s t owned h stands = inl (sym (stands.all.locks.tells.held s t AccessExclusive) ∙ owned)

-- a table by its name
named_has : (m : LockMode) (names : List (List ℕ)) (old new : Stores) (caller : Caller) (name : List ℕ) (table : TableNo) → MayAttempt old caller
    → IsStep (λ (t : TableNo). t.number) (Ok table) old new caller caller.cmd (named names caller.session m name) → has (held_at new.locks.held table.number m) caller.session ≡ true
named_has m names old new caller name table may step =
    let s = may.sound in
    let a = step.is s.0 s.1 s.2 in
    a.1.stands.all.locks.tells.held caller.session table.number m ∙ named_held names caller.session m name s.0 (resolved s.0 caller.session name) table.number a.0

pub named_guards : (names : List (List ℕ)) (old new : Stores) (caller : Caller) (name : List ℕ) (table : TableNo) → MayAttempt old caller
    → IsStep (λ (t : TableNo). t.number) (Ok table) old new caller caller.cmd (named names caller.session ShareUpdateExclusive name) → HasGuarded new caller.session table.number
named_guards names old new caller name table may step = named_has ShareUpdateExclusive names old new caller name table may step

pub named_owns : (names : List (List ℕ)) (old new : Stores) (caller : Caller) (name : List ℕ) (table : TableNo) → MayAttempt old caller
    → IsStep (λ (t : TableNo). t.number) (Ok table) old new caller caller.cmd (named names caller.session AccessExclusive name) → HasOwned new caller.session table.number
named_owns names old new caller name table may step = named_has AccessExclusive names old new caller name table may step

-- and one that the name means still
abbrev locked_then : List (List ℕ) → (s t : ℕ) → LockMode → History → Made (Unit {0}) → Made (Unit {0})
locked_then names s t m h first = then_told first.told first.events (λ u. locked names s t m (first.events ++ h))

abbrev still_by : List (List ℕ) → (s : ℕ) → LockMode → (name : List ℕ) → (t : ℕ) → History → Option ℕ → Made (Unit {0})
still_by names s m name t h o = then_told (meant_or_none name o).told (meant_or_none name o).events (λ n. locked_then names s t m ((meant_or_none name o).events ++ h) (same_or_gone name t n))

still_held : (names : List (List ℕ)) (s : ℕ) (m : LockMode) (name : List ℕ) (t : ℕ) (h : History) (o : Option ℕ) → (still_by names s m name t h o).told ≡ Ok tt → Holds ((still_by names s m name t h o).events ++ h) s t m
still_held names s m name t h None told = absurd (let c = told in cc)
still_held names s m name t h (Some n) told = elim (cases_Bool (n == t)) [
  | inl same ↦
      let one = locked names s t m h in
      let view = asked (lock_events h) s (Lock (record { number = t }) m) in
      let got : one.told ≡ Ok tt = rw same at told in
      let held : Holds (one.events ++ h) s t m = view_gets names s t m h view got in
      let events : (one.events ++ []) ++ [] ≡ one.events = append-nil (one.events ++ []) ∙ append-nil one.events in
      rw same (subst (λ (g : History). Holds (g ++ h) s t m) (sym events) held)
  | inr other ↦ absurd (let c = (rw other at told) in cc)
]

still_named_has : (m : LockMode) (names : List (List ℕ)) (old new : Stores) (caller : Caller) (name : List ℕ) (t : ℕ) → MayAttempt old caller
    → IsStep (λ (u : Unit {0}). u) (Ok tt) old new caller caller.cmd (named_still names caller.session m name t) → has (held_at new.locks.held t m) caller.session ≡ true
still_named_has m names old new caller name t may step =
    let s = may.sound in
    let a = step.is s.0 s.1 s.2 in
    a.1.stands.all.locks.tells.held caller.session t m ∙ still_held names caller.session m name t s.0 (resolved s.0 caller.session name) a.0

pub still_named_guards : (names : List (List ℕ)) (old new : Stores) (caller : Caller) (name : List ℕ) (t : ℕ) → MayAttempt old caller
    → IsStep (λ (u : Unit {0}). u) (Ok tt) old new caller caller.cmd (named_still names caller.session ShareUpdateExclusive name t) → HasGuarded new caller.session t
still_named_guards names old new caller name t may step = still_named_has ShareUpdateExclusive names old new caller name t may step

pub still_named_owns : (names : List (List ℕ)) (old new : Stores) (caller : Caller) (name : List ℕ) (t : ℕ) → MayAttempt old caller
    → IsStep (λ (u : Unit {0}). u) (Ok tt) old new caller caller.cmd (named_still names caller.session AccessExclusive name t) → HasOwned new caller.session t
still_named_owns names old new caller name t may step = still_named_has AccessExclusive names old new caller name t may step
