-- The rows that an UPDATE or a DELETE has still to change (the manual, 13.2.1 Read Committed Isolation Level).
use Rattle.std.specs.Prelude.{ℕ, ◌+◌, ◌==◌, if◌then◌else◌, List, Option, Some, None}
use Rattle.history.specs.History.{History}
use Rattle.stores.specs.Events.{tx_in}
use Rattle.statement_steps.specs.Gathered.{Found, RowsLeft}
use Rattle.statement_steps.specs.declared.caller.Caller.{Caller}
use Rattle.statement_steps.specs.declared.rest.Rest.{Rest}
use Rattle.statement_steps.specs.declared.rest.Rest.TheVariants.{Rows, Detach}
use Rattle.statement_steps.specs.declared.rest.TargetRow.{TargetRow}
use Rattle.statement_steps.specs.Owned.{own}

-- the transaction's next command
abbrev pub following : Caller → Caller
following c = record c { cmd = c.cmd + 1 }

-- where the session's transaction stands with what was gathered, before these rows
abbrev pub standing : History → Caller → Found → List TargetRow → (changed : ℕ) → RowsLeft
standing h c g targets n = record { by = own h c.session; found = g; left = targets; changed = n }

-- the rows that a statement has left are those of its transaction
abbrev pub own_left : History → Caller → RowsLeft → Option RowsLeft
own_left h c r = if r.by.number == tx_in h c.session then Some r else None

-- from its beginning, or from where it stood
abbrev pub left_of : History → Caller → Option Rest → Option RowsLeft
left_of h c None = None
left_of h c (Some (Rows r)) = own_left h c r
left_of h c (Some (Detach d)) = None
