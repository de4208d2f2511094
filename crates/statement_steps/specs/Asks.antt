-- Tables by their names, locks on them, and waits for other sessions (the manual, 13.3.1 Table-Level Locks; LOCK).
use Rattle.std.specs.Prelude.{ℕ, ◌==◌, if◌then◌else◌, List, [], ◌∷◌, Option, Some, None, Result, Ok, Err, map}
use Rattle.pg_values.specs.declared.lock_mode.LockMode.{LockMode}
use Rattle.refusals.specs.Refusals.{no_table, deadlock}
use Rattle.history.specs.declared.wait.WaitOn.{WaitOn}
use Rattle.history.specs.declared.wait.Wanted.TheVariants.{Lock, Others}
use Rattle.history.specs.History.{History, LockChange, lock_events}
use Rattle.part_catalog.specs.Found.{resolved}
use Rattle.lock_table.specs.Asked.{AskedView, AtOnce, WaitsBehind, ClosesCycle, asked, asked_events}
use Rattle.pg_values.specs.declared.isolation.Isolation.{Isolation}
use Rattle.pg_values.specs.declared.isolation.Isolation.TheVariants.{ReadCommitted, ReadUncommitted, RepeatableRead}
use Rattle.stores.specs.Events.{held}
use Rattle.statement_steps.specs.Made.{Made, Halt, Waits, Refused, made, halted}
use Rattle.statement_steps.specs.declared.rest.Rest.{Rest}
use Rattle.statement_steps.specs.Faults.{name_of}
use Rattle.statement_steps.specs.Steps.{follow}

-- ---- a lock, or other sessions

-- what is told of an answer, where a statement that has to wait goes on there
abbrev pub told_by : List (List ℕ) → Option Rest → History → AskedView → Made (Unit {0})
told_by names rest events AtOnce = made events tt
told_by names rest events (WaitsBehind others) = halted events (Waits rest)
told_by names rest events (ClosesCycle cycle) = halted events (Refused (deadlock (map (name_of names) cycle)))

-- and where it begins anew
abbrev pub told_of : List (List ℕ) → History → AskedView → Made (Unit {0})
told_of names = told_by names None

-- the session asks for a lock: it gets it, has to wait, or would close a cycle
abbrev pub locked : List (List ℕ) → (session table : ℕ) → LockMode → History → Made (Unit {0})
locked names s t m h =
    told_of names (map LockChange (asked_events (lock_events h) s (Lock (record { number = t }) m))) (asked (lock_events h) s (Lock (record { number = t }) m))

-- it asks to go on when others have given something up: it need not wait, has to, or would close a cycle
abbrev pub waited : List (List ℕ) → (session : ℕ) → WaitOn → Option Rest → History → Made (Unit {0})
waited names s what rest h = told_by names rest (map LockChange (asked_events (lock_events h) s (Others what))) (asked (lock_events h) s (Others what))

-- one lock after the other
abbrev pub all_locked : List (List ℕ) → (session : ℕ) → LockMode → List ℕ → History → Made (Unit {0})
all_locked names s m [] h = made [] tt
all_locked names s m (t ∷ ts) h = follow (locked names s t m) (λ u. all_locked names s m ts) h

-- ---- a table by its name

abbrev pub meant_or_none : List ℕ → Option ℕ → Made ℕ
meant_or_none name None = halted [] (Refused (no_table name))
meant_or_none name (Some t) = made [] t

abbrev pub found : (session : ℕ) → (name : List ℕ) → History → Made ℕ
found s name h = meant_or_none name (resolved h s name)

abbrev pub number_or : ℕ → Result (Unit {0}) Halt → Result ℕ Halt
number_or t (Ok u) = Ok t
number_or t (Err stop) = Err stop

abbrev pub kept_number : ℕ → Made (Unit {0}) → Made ℕ
kept_number t m = record { events = m.events; told = number_or t m.told }

-- the table of that name, locked
abbrev pub named : List (List ℕ) → (session : ℕ) → LockMode → (name : List ℕ) → History → Made ℕ
named names s m name = follow (found s name) (λ t h. kept_number t (locked names s t m h))

-- the table of that number, locked, where the name means it still
abbrev pub same_or_gone : (name : List ℕ) → (table found : ℕ) → Made (Unit {0})
same_or_gone name t n = if n == t then made [] tt else halted [] (Refused (no_table name))

abbrev pub named_still : List (List ℕ) → (session : ℕ) → LockMode → (name : List ℕ) → (table : ℕ) → History → Made (Unit {0})
named_still names s m name t = follow (found s name) (λ n. follow (λ h. same_or_gone name t n) (λ u. locked names s t m))

-- ---- the snapshot that a transaction at REPEATABLE READ takes before its first statement waits

abbrev pub held_at : Isolation → (session cmd : ℕ) → History → Made (Unit {0})
held_at ReadCommitted s cmd h = made [] tt
held_at ReadUncommitted s cmd h = made [] tt
held_at RepeatableRead s cmd h = made (held h s cmd) tt
