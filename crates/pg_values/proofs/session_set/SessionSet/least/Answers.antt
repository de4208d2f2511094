use Rattle.std.proofs.Common.{arith}
use Rattle.std.proofs.lemmas.Grind.{common_steps}
use Rattle.std.proofs.lemmas.Bool.Decides.{nat_tests}
use Rattle.std.specs.Int.{w128}
use Rattle.std.proofs.lemmas.Nat.Bits.{bit_at-trailing_zeros}
use Rattle.pg_values.proofs.session_set.SessionSet.least.Goals as goal

pub returns-else-self-eq0-clause-found : goal.returns-else-self-eq0-clause-found
returns-else-self-eq0-clause-found c =
    let f = bit_at-trailing_zeros w128 c.args.self.bits (grind (arith, common_steps)) (grind (arith, common_steps)) in
    (f.0, grind (arith, common_steps, nat_tests, f.1), λ j lt. grind (arith, common_steps, nat_tests, f.2 j lt))
