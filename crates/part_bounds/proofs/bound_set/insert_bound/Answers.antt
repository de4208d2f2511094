use Rattle.bound_forms.proofs.PlainOrder.{placed}
use Rattle.part_bounds.proofs.bound_set.insert_bound.Goals as goal

pub returns-clause-order : goal.returns-clause-order
returns-clause-order g c = placed c.args.b c.args.bounds.now.items _ _ _ c.deref.ensures.value c.place-at.ensures.first c.in_ok-insert.ensures.items
