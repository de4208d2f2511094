-- The parts of which statements are made do to locks and waits what a statement may (the manual, 13.3.1 Table-Level Locks).
use Rattle.std.specs.Prelude.{◌<◌, ℕ, List, Option}
use Rattle.pg_values.specs.declared.lock_mode.LockMode.{LockMode}
use Rattle.history.specs.declared.wait.WaitOn.{WaitOn}
use Rattle.history.specs.declared.wait.Wanted.TheVariants.{Others}
use Rattle.history.specs.Catalogue.{CatalogueEvents}
use Rattle.history.specs.History.{History, catalogue_events}
use Rattle.statement_steps.specs.Asks.{locked, waited}
use Rattle.statement_steps.specs.declared.rest.Rest.{Rest}
use Rattle.run_ends.specs.Asking.{IsBounded, MayAsk, Asks}

-- a lock on one of the tables that are there
abbrev pub LocksAreAskedFor : Type 0
LocksAreAskedFor = (tables : CatalogueEvents → ℕ) (names : List (List ℕ)) (s t : ℕ) (m : LockMode) (h : History) → MayAsk s h → t < tables (catalogue_events h) → Asks tables s h (locked names s t m h)

-- a wait for others that are sessions
abbrev pub OthersAreWaitedFor : Type 0
OthersAreWaitedFor = (tables : CatalogueEvents → ℕ) (names : List (List ℕ)) (s : ℕ) (what : WaitOn) (rest : Option Rest) (h : History) → MayAsk s h → IsBounded (tables (catalogue_events h)) (Others what) → Asks tables s h (waited names s what rest h)
