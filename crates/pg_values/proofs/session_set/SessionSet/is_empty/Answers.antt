use Rattle.std.proofs.Common.{◌≢◌, arith}
use Rattle.std.proofs.lemmas.Grind.{common_steps}
use Rattle.std.proofs.lemmas.Bool.Decides.{nat_tests}
use Rattle.pg_values.proofs.Bits.{empty_is, some_bit}
use Rattle.pg_values.proofs.session_set.SessionSet.is_empty.Goals as goal

pub returns-clause-is : goal.returns-clause-is
returns-clause-is c p same = empty_is c.args.self.bits p (grind (arith, common_steps)) same

pub returns-clause-some : goal.returns-clause-some
returns-clause-some c e =
    let some : c.args.self.bits ≢ 0 = λ z. absurd (grind (arith, common_steps, nat_tests)) in
    some_bit c.args.self.bits some (grind (arith, common_steps))
