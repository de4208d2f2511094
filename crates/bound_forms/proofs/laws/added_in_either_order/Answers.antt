use Rattle.bound_forms.proofs.PlainOrder.{either_order}
use Rattle.bound_forms.proofs.laws.added_in_either_order.Goals as goal

pub returns : goal.returns
returns c = either_order
