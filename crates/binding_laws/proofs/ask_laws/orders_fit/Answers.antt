use Rattle.binding_laws.proofs.Orders.{order_fits}
use Rattle.binding_laws.proofs.ask_laws.orders_fit.Goals as goal

pub returns : goal.returns
returns c = order_fits
