use Rattle.std.proofs.Common.{length}
use Rattle.plan_text.proofs.plan.+push_onto.Given as goal

abbrev pub decreases-push_onto : goal.decreases-push_onto
decreases-push_onto l = length l.joined.now
