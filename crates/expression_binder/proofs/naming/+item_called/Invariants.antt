use Rattle.std.proofs.Common.{length}
use Rattle.expression_binder.proofs.naming.+item_called.Given as goal

abbrev pub decreases-item_called : goal.decreases-item_called
decreases-item_called l = length l.items.now
