use Rattle.std.proofs.Common.{arith}
use Rattle.std.proofs.lemmas.Grind.{common_steps}
use Rattle.std.proofs.lemmas.Bool.Decides.{nat_tests}
use Rattle.std.proofs.lemmas.Nat.Bits.{bit_at_above}
use Rattle.pg_values.proofs.session_set.SessionSet.has_bit.Goals as goal

pub returns-else-session-lt128 : goal.returns-else-session-lt128
returns-else-session-lt128 c = grind (arith, common_steps, nat_tests, bit_at_above c.args.self.bits 128 c.args.session)
