-- Where LOCK TABLE may stand (the manual, LOCK; Appendix A).
use Rattle.std.specs.Prelude.{Bool, ◌&&◌, not, if◌then◌else◌, Option, Some, None}
use Rattle.pg_values.specs.declared.fault.Fault.{Fault}
use Rattle.refusals.specs.Refusals.{lock_outside_a_transaction}

-- as the one statement of its block it stands in an explicit transaction: its locks would be gone at once
abbrev pub lock_misplaced : (alone explicit : Bool) → Option Fault
lock_misplaced alone explicit = if alone && not explicit then Some lock_outside_a_transaction else None
