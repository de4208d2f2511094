use Rattle.prune_steps.proofs.Words.{added}
use Rattle.prune_steps.proofs.kept_set.KeptSet.add_if.Goals as goal

pub returns-then-yes : goal.returns-then-yes
returns-then-yes c = rw (← c.self.view_is, c.if-yes.true) (added c.self.inside.words c.args.child c.requires c.self.told)
