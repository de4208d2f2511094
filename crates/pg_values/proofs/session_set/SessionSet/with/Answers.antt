use Rattle.pg_values.proofs.Bits.{set_has}
use Rattle.pg_values.proofs.session_set.SessionSet.with.Goals as goal

pub returns : goal.returns
returns c k = set_has c.args.self.bits c.args.session k c.requires
