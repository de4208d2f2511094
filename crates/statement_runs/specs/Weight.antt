-- What can still happen before a statement is done, as a number: which locks sessions could still get, whose waits
-- could still be cancelled, and which sessions could go on since something was given up.
use Rattle.std.specs.Prelude.{ℕ, zero, suc, ◌+◌, ◌*◌, Bool, true, false, List, length}
use Rattle.std.specs.List.{sum_by}
use Rattle.pg_values.specs.Modes.{every_mode}
use Rattle.pg_values.specs.Sets.{has}
use Rattle.pg_values.specs.declared.lock_mode.LockMode.{LockMode}
use Rattle.pg_values.specs.declared.session_set.SessionSet.{SessionSet}
use Rattle.lock_table.specs.Kept.{held_at}
use Rattle.schedule.specs.Lists.{is_in}
use Rattle.statement_runs.specs.Kept.{KeptSeats}

abbrev pub of_mark : Bool → ℕ
of_mark true = 1
of_mark false = 0

abbrev pub of_flag : Bool → ℕ
of_flag true = 0
of_flag false = 1

-- the sum over the numbers below n
abbrev pub sum_below : ℕ → (ℕ → ℕ) → ℕ
sum_below zero f = 0
sum_below (suc n) f = sum_below n f + f n

-- which of the first n sessions do not hold the mode on the table
abbrev pub lacking : ℕ → List SessionSet → ℕ → LockMode → ℕ
lacking n held t m = sum_below n (λ s. of_flag (has (held_at held t m) s))

-- the locks that n sessions could still get on so many tables
abbrev pub unheld : ℕ → ℕ → List SessionSet → ℕ
unheld n tables held = sum_below tables (λ t. sum_by (lacking n held t) every_mode)

abbrev pub slack : KeptSeats → ℕ
slack kept = unheld (length kept.opened) kept.stores.locks.tables kept.stores.locks.held + (sum_by of_flag kept.cancelled + sum_by of_mark kept.moved)

-- with at most 65 sessions and 4,096 tables of eight modes
abbrev pub most : ℕ
most = 4096 * (8 * 65) + (65 + 65)

-- and those who could go on since a statement of another session has cancelled their waits
abbrev pub cut_of : ℕ → (cut : List ℕ) → ℕ
cut_of n cut = sum_below n (λ s. of_mark (is_in s cut))

abbrev pub left : KeptSeats → (cut : List ℕ) → ℕ
left kept cut = slack kept + cut_of (length kept.opened) cut

abbrev pub most_left : ℕ
most_left = most + 65
