use Rattle.pg_values.proofs.Bits.{or_has}
use Rattle.pg_values.proofs.session_set.SessionSet.union.Goals as goal

pub returns : goal.returns
returns c k = or_has c.args.self.bits c.args.other.bits k
