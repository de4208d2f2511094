-- What is told of a row that another session has changed or moved.
use Rattle.std.specs.Prelude.{ℕ, List}
use Rattle.pg_values.specs.declared.fault.Fault.{Fault}
use Rattle.refusals.specs.Refusals.{row_was_changed, row_was_moved}
use Rattle.change_statement.specs.declared.verdicts.Conflict.{Conflict}
use Rattle.change_statement.specs.declared.verdicts.Conflict.TheVariants.{Changed, Moved}

-- the session that was there before
abbrev pub conflict_session : Conflict → ℕ
conflict_session (Changed session) = session
conflict_session (Moved session) = session

-- the refusal, by the names of the leaf and of that session
abbrev pub could_not_serialize : Conflict → (leaf session : List ℕ) → Fault
could_not_serialize (Changed s) leaf session = row_was_changed leaf session
could_not_serialize (Moved s) leaf session = row_was_moved leaf session
