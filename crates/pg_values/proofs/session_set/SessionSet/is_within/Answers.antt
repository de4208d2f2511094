use Rattle.std.proofs.Common.{◌≡◌, ◌≢◌, ◌<◌, ◌==◌, ◌&&◌, not, ◌-◌, ◌^◌, true, false, inl, inr, ap, sym, ◌∙◌, arith, bit_and}
use Rattle.std.specs.Int.{bit_at}
use Rattle.std.proofs.lemmas.Grind.{common_steps}
use Rattle.std.proofs.lemmas.Bool.{cases_lt, and_parts}
use Rattle.std.proofs.lemmas.Bool.Decides.{nat_tests}
use Rattle.std.proofs.lemmas.Nat.Bits.{bit_at-zero}
use Rattle.pg_values.proofs.Bits.{minus_has, minus_fits, some_bit, has_below}
use Rattle.pg_values.proofs.session_set.SessionSet.is_within.Goals as goal

pub returns-clause-all : goal.returns-clause-all
returns-clause-all c e k in_self =
    let low : k < 128 = has_below c.args.self.bits k (grind (arith, common_steps)) in_self in
    let none : bit_and c.args.self.bits (2 ^ 128 - 1 - c.args.other.bits) ≡ 0 = grind (arith, common_steps, nat_tests) in
    let is = minus_has c.args.self.bits c.args.other.bits k low (grind (arith, common_steps)) in
    let gone = ap (λ n. bit_at n k == 1) none in
    grind (arith, common_steps, nat_tests, is, gone, bit_at-zero k, in_self)

pub returns-clause-some : goal.returns-clause-some
returns-clause-some c e =
    let some : bit_and c.args.self.bits (2 ^ 128 - 1 - c.args.other.bits) ≢ 0 = λ z. absurd (grind (arith, common_steps, nat_tests)) in
    let bit = some_bit (bit_and c.args.self.bits (2 ^ 128 - 1 - c.args.other.bits)) some (minus_fits c.args.self.bits (2 ^ 128 - 1 - c.args.other.bits) (grind (arith, common_steps))) in
    let is = minus_has c.args.self.bits c.args.other.bits bit.0 bit.1 (grind (arith, common_steps)) in
    let both = sym is ∙ bit.2 in
    (bit.0, bit.1, grind (arith, common_steps, nat_tests, both), grind (arith, common_steps, nat_tests, both))
