use Rattle.pg_values.proofs.Bits.{and_has}
use Rattle.pg_values.proofs.session_set.SessionSet.meet.Goals as goal

pub returns : goal.returns
returns c k = and_has c.args.self.bits c.args.other.bits k
