use Rattle.std.proofs.Common.{arith, ◌∙◌}
use Rattle.sql_tokens.specs.declared.numbers.TheConstants.{NO_BIGINT}
use Rattle.sql_tokens.proofs.Digits.{digits_step}
use Rattle.sql_tokens.proofs.numbers.number_of_digits.Goals as goal

pub loop-b-preserved : goal.loop-b-preserved
loop-b-preserved c = (digits_step NO_BIGINT c.loop-b.n _ c.loop-b.b-index c.args.bytes.now (omega arith) c.with_digit-n.ensures.value ∙ c.loop-b.invariant.0, c.with_digit-n.ensures.within)
