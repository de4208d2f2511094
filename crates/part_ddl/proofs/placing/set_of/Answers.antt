use Rattle.std.proofs.Common.{◌≡◌, ◌∙◌, ◌∷◌, [], List, ap, arith}
use Rattle.std.proofs.lemmas.Grind.{common_steps}
use Rattle.part_ddl.proofs.Suiting.{one_of_kind, one_in_order}
use Rattle.part_ddl.proofs.placing.set_of.Goals as goal

pub set_in_order-requires-clause-of_kind : goal.set_in_order-requires-clause-of_kind
set_in_order-requires-clause-of_kind c =
    let is : c.push.new.self.items ≡ c.args.bound.now ∷ [] = grind (arith, common_steps) in
    λ i d lt kind. one_of_kind c.args.bound.now c.push.new.self.items is c.requires i d lt

pub set_in_order-requires-clause-ordered : goal.set_in_order-requires-clause-ordered
set_in_order-requires-clause-ordered c =
    let is : c.push.new.self.items ≡ c.args.bound.now ∷ [] = grind (arith, common_steps) in
    one_in_order c.args.bound.now c.push.new.self.items is
