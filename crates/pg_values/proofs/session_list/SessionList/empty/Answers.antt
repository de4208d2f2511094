use Rattle.std.proofs.Common.{arith}
use Rattle.pg_values.proofs.Distinct.{distinct-none}
use Rattle.pg_values.proofs.session_list.SessionList.empty.Goals as goal

pub invariant_of-result : goal.invariant_of-result
invariant_of-result c = record { within = omega arith; apart = distinct-none; small = λ q t. cc }
