-- LOCK TABLE of a session (the manual, LOCK; 13.3.1 Table-Level Locks).
use Rattle.std.specs.Prelude.{ℕ, Bool, true, false, List, [], ◌∷◌, ◌++◌, map}
use Rattle.pg_values.specs.declared.lock_mode.LockMode.{LockMode}
use Rattle.history.specs.History.{History}
use Rattle.part_ddl.specs.Below.{tables_under}
use Rattle.sql_ast.specs.declared.locked_table.LockedTable.{LockedTable}
use Rattle.statement_steps.specs.Made.{Made, made}
use Rattle.statement_steps.specs.Asks.{named, all_locked}
use Rattle.statement_steps.specs.Steps.{follow}

-- ---- the named tables, one after the other; ONLY leaves out what is under one

abbrev pub whole : (only : Bool) → (table : ℕ) → List ℕ
whole true t = []
whole false t = t ∷ []

abbrev pub one_named : List (List ℕ) → (session : ℕ) → LockMode → LockedTable → History → Made (List ℕ)
one_named names s m x = follow (named names s m x.name) (λ t h. made [] (whole x.only t))

abbrev pub all_named : List (List ℕ) → (session : ℕ) → LockMode → List LockedTable → History → Made (List ℕ)
all_named names s m [] h = made [] []
all_named names s m (x ∷ xs) h = follow (one_named names s m x) (λ first. follow (all_named names s m xs) (λ others h. made [] (first ++ others))) h

-- ---- then the tables under them, pending partitions too, in plain order, each before those under it

abbrev pub one_under : List (List ℕ) → (session : ℕ) → LockMode → (table : ℕ) → History → Made (Unit {0})
one_under names s m t h = all_locked names s m (map (λ x. x.number) (tables_under h s t)) h

abbrev pub all_under : List (List ℕ) → (session : ℕ) → LockMode → (tables : List ℕ) → History → Made (Unit {0})
all_under names s m [] h = made [] tt
all_under names s m (t ∷ ts) h = follow (one_under names s m t) (λ u. all_under names s m ts) h

-- LOCK [ TABLE ] [ ONLY ] tables [ IN mode MODE ]
abbrev pub locked : List (List ℕ) → (session : ℕ) → List LockedTable → LockMode → History → Made (Unit {0})
locked names s tables mode = follow (all_named names s mode tables) (all_under names s mode)
