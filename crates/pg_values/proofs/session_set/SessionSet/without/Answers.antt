use Rattle.std.proofs.Common.{arith}
use Rattle.std.proofs.lemmas.Grind.{common_steps}
use Rattle.pg_values.proofs.Bits.{clear_has}
use Rattle.pg_values.proofs.session_set.SessionSet.without.Goals as goal

pub returns-clause-has : goal.returns-clause-has
returns-clause-has c k = clear_has c.args.self.bits c.args.session k c.requires (grind (arith, common_steps))
