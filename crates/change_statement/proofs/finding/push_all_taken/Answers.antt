use Rattle.cond_logic.specs.Asked.{maybe_cond}
use Rattle.change_statement.proofs.Taken.{taken_more}
use Rattle.change_statement.proofs.finding.push_all_taken.Goals as goal

pub loop-seen-preserved : goal.loop-seen-preserved
loop-seen-preserved c = taken_more (maybe_cond c.args.condition.now) c.args.leaf _ _ _ c.loop-seen.found.items _ _ c.in-Some.ensures.steps c.loop-seen.invariant c.in_ok-push_taken.ensures
