use Rattle.std.proofs.Common.{arith}
use Rattle.std.proofs.lemmas.Grind.{common_steps}
use Rattle.pg_values.proofs.Bits.{has_below}
use Rattle.statement_runs.proofs.seats.sessions_are_low.Goals as goal

pub returns : goal.returns
returns c k t = has_below c.args.set.bits k (grind (arith, common_steps)) t
