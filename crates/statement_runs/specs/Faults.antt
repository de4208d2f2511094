-- The faults of a block that is refused.
use Rattle.std.specs.Prelude.{Option, Some, None}
use Rattle.pg_values.specs.declared.fault.Fault.{Fault}
use Rattle.refusals.specs.Refusals.{syntax_error, left_out, too_many}
use Rattle.sql_expressions.specs.declared.refused.ParseRefused.{ParseRefused}
use Rattle.sql_expressions.specs.declared.refused.ParseRefused.TheVariants.{NoMemory, Syntax, Left, TooMany}

-- the fault of a refusal, and none of want of memory
abbrev pub fault : ParseRefused → Option Fault
fault NoMemory = None
fault (Syntax at) = Some (syntax_error at)
fault (Left word) = Some (left_out word)
fault (TooMany which) = Some (too_many which)
