use Rattle.std.proofs.Common.{refl}
use Rattle.plan_tree.specs.Asks.{keeps_asked}
use Rattle.plan_tree.proofs.Plain.{only_default, plain_kept}
use Rattle.plan_tree.proofs.asking.is_plain_kept.Goals as goal

pub returns : goal.returns
returns c =
    plain_kept (keeps_asked c.args.asks c.args.known.now c.args.steps.now) _ _ _ _ refl c.new.ensures (only_default c.args.plain.now.set c.args.plain.now.one c.args.plain.now.default) c.kept_of.ensures c.keeps.ensures
