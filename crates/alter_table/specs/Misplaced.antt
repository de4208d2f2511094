-- Where a concurrent DETACH may stand (the manual, ALTER TABLE; Appendix A).
use Rattle.std.specs.Prelude.{Bool, ◌||◌, not, if◌then◌else◌, Option, Some, None}
use Rattle.pg_values.specs.declared.fault.Fault.{Fault}
use Rattle.refusals.specs.Refusals.{detach_inside_a_transaction}

-- it takes two transactions, so it stands alone in its block, and outside of an explicit transaction
abbrev pub detach_misplaced : (alone explicit : Bool) → Option Fault
detach_misplaced alone explicit = if explicit || not alone then Some detach_inside_a_transaction else None
