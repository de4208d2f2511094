use Rattle.std.proofs.Common.{arith}
use Rattle.expression_binder.proofs.Checked.{two_suit_none}
use Rattle.expression_binder.proofs.operands.suits.Goals as goal

pub returns-in-len2-up : goal.returns-in-len2-up
returns-in-len2-up c = two_suit_none c.args.function.now c.args.names.now c.args.arguments.now (omega (arith, c.in-len2-up.len_at_least))
