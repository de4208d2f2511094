-- DROP TABLE of a session (the manual, DROP TABLE; 13.3.1 Table-Level Locks).
use Rattle.std.specs.Prelude.{ℕ, ◌==◌, Bool, true, false, if◌then◌else◌, List, [], ◌∷◌, ◌++◌, Option, Some, None, map}
use Rattle.pg_values.specs.declared.ids.TableNo.{TableNo}
use Rattle.pg_values.specs.declared.lock_mode.LockMode.TheVariants.{AccessExclusive}
use Rattle.refusals.specs.Refusals.{no_table}
use Rattle.history.specs.History.{History}
use Rattle.row_router.specs.Histories.{above}
use Rattle.part_catalog.specs.Found.{made_at, resolved}
use Rattle.part_ddl.specs.Below.{default_of, tables_from}
use Rattle.part_ddl.specs.Dropped.{drop_events}
use Rattle.statement_steps.specs.Made.{Made, Refused, made, halted}
use Rattle.statement_steps.specs.declared.caller.Caller.{Caller}
use Rattle.statement_steps.specs.Asks.{held_at, all_locked}
use Rattle.statement_steps.specs.Steps.{follow}
use Rattle.statement_steps.specs.Owned.{stamp}
use Rattle.ddl_steps.specs.Families.{parent_in}

-- ---- the locks: the table above, the table and those under it, and the default partition beside it

abbrev pub one_number : Option TableNo → List ℕ
one_number None = []
one_number (Some t) = t.number ∷ []

abbrev pub default_beside : History → (session : ℕ) → Option TableNo → Option TableNo
default_beside h s None = None
default_beside h s (Some p) = default_of h s p.number

abbrev pub tables_to_lock : History → (session table : ℕ) → List ℕ
tables_to_lock h s t = one_number (parent_in h s t) ++ (map (λ x. x.number) (tables_from h s t) ++ one_number (default_beside h s (parent_in h s t)))

abbrev pub drop_locked : List (List ℕ) → (session table : ℕ) → History → Made (Unit {0})
drop_locked names s t h = all_locked names s AccessExclusive (tables_to_lock h s t) h

-- ---- the named tables, one after the other; with IF EXISTS an absent one is passed over

abbrev pub absent : (if_there : Bool) → (name : List ℕ) → Made (List ℕ)
absent true name = made [] []
absent false name = halted [] (Refused (no_table name))

abbrev pub locked_one : List (List ℕ) → (session : ℕ) → (if_there : Bool) → (name : List ℕ) → Option ℕ → History → Made (List ℕ)
locked_one names s if_there name None h = absent if_there name
locked_one names s if_there name (Some t) h = follow (drop_locked names s t) (λ u h. made [] (t ∷ [])) h

abbrev pub found_one : List (List ℕ) → (session : ℕ) → (if_there : Bool) → (name : List ℕ) → History → Made (List ℕ)
found_one names s if_there name h = locked_one names s if_there name (resolved h s name) h

abbrev pub found_all : List (List ℕ) → (session : ℕ) → (if_there : Bool) → List (List ℕ) → History → Made (List ℕ)
found_all names s if_there [] h = made [] []
found_all names s if_there (t ∷ ts) h = follow (found_one names s if_there t) (λ first. follow (found_all names s if_there ts) (λ others h. made [] (first ++ others))) h

-- ---- the drops

abbrev pub is_meant_still : Option ℕ → (table : ℕ) → Bool
is_meant_still None t = false
is_meant_still (Some found) t = found == t

-- it is still the table of its name: it has not gone with another one before
abbrev pub is_left : History → (session table : ℕ) → Bool
is_left h s t = is_meant_still (resolved h s (made_at h t).name) t

abbrev pub dropped_one : Caller → (table : ℕ) → History → Made (Unit {0})
dropped_one caller t h = made (if is_left h caller.session t then drop_events h caller.session t (stamp caller h) else []) tt

abbrev pub dropped_all : Caller → List ℕ → History → Made (Unit {0})
dropped_all caller [] h = made [] tt
dropped_all caller (t ∷ ts) h = follow (dropped_one caller t) (λ u. dropped_all caller ts) h

-- all are locked before the first goes
abbrev pub locked_and_dropped : (names : List (List ℕ)) → Caller → (if_there : Bool) → (tables : List (List ℕ)) → History → Made (Unit {0})
locked_and_dropped names caller if_there tables = follow (found_all names caller.session if_there tables) (λ ts. dropped_all caller ts)

-- DROP TABLE [ IF EXISTS ] tables
abbrev pub dropped : (names : List (List ℕ)) → Caller → (if_there : Bool) → (tables : List (List ℕ)) → History → Made (Unit {0})
dropped names caller if_there tables = follow (held_at caller.level caller.session caller.cmd) (λ u. locked_and_dropped names caller if_there tables)
