use Rattle.std.proofs.Common.{sym, ◌∙◌}
use Rattle.sql_syntax.proofs.ZeroLaws.{one_digit}
use Rattle.sql_syntax.proofs.setting.without_zeros.Goals as goal

pub returns-after-loop-rest : goal.returns-after-loop-rest
returns-after-loop-rest c = sym (one_digit c.loop-rest.rest.now c.loop-rest-test.false) ∙ c.loop-rest.invariant
