use Rattle.bound_forms.proofs.PlainOrder.{order_sorts}
use Rattle.bound_forms.proofs.laws.plain_order_is_sorted.Goals as goal

pub returns : goal.returns
returns c = order_sorts
