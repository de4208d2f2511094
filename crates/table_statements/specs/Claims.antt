-- The name of a new table (the manual, CREATE TABLE; Index Uniqueness Checks).
use Rattle.std.specs.Prelude.{ℕ, ◌^◌, List, [], Option, Some, None, Ok}
use Rattle.pg_values.specs.declared.session_set.SessionSet.{SessionSet}
use Rattle.history.specs.declared.wait.WaitOn.TheVariants.{Ends}
use Rattle.history.specs.History.{History}
use Rattle.part_catalog.specs.Found.{taken_by}
use Rattle.part_ddl.specs.Tables.{name_faults}
use Rattle.statement_steps.specs.Made.{Made, made, answered}
use Rattle.statement_steps.specs.Asks.{waited}
use Rattle.statement_steps.specs.Steps.{follow}
use Rattle.ddl_steps.specs.Refused.{unless_faults}

-- the session alone
abbrev pub only : ℕ → SessionSet
only s = record { bits = 2 ^ s }

-- the end of the session's transaction is waited for, and then the statement begins anew
abbrev pub waits_for_end : List (List ℕ) → (session other : ℕ) → History → Made (Unit {0})
waits_for_end names s other = waited names s (Ends (only other)) None

-- that session has given the name to a table, or nobody has
abbrev pub waits_if_taken : List (List ℕ) → (session : ℕ) → Option ℕ → History → Made (Unit {0})
waits_if_taken names s None h = made [] tt
waits_if_taken names s (Some other) h = waits_for_end names s other h

-- whoever else has given the name to a table in an open transaction is waited for
abbrev pub name_waited : List (List ℕ) → (session : ℕ) → (name : List ℕ) → History → Made (Unit {0})
name_waited names s name h = waits_if_taken names s (taken_by h s name) h

-- no table of the name is there for the session
abbrev pub name_tested : (session : ℕ) → (name : List ℕ) → History → Made (Unit {0})
name_tested s name h = answered (unless_faults (name_faults h s name) (Ok tt))

-- a new table may get the name
abbrev pub name_claimed : List (List ℕ) → (session : ℕ) → (name : List ℕ) → History → Made (Unit {0})
name_claimed names s name = follow (name_tested s name) (λ u. name_waited names s name)
