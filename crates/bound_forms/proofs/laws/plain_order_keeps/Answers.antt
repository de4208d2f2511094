use Rattle.bound_forms.proofs.PlainOrder.{order_keeps}
use Rattle.bound_forms.proofs.laws.plain_order_keeps.Goals as goal

pub returns : goal.returns
returns c = order_keeps
