use Rattle.schedule.specs.declared.task.Task.TheVariants.{RollBack}
use Rattle.script_program.proofs.Numbered.{range_more}
use Rattle.script_program.proofs.tasks.push_rollbacks.Goals as goal

pub loop-session-preserved : goal.loop-session-preserved
loop-session-preserved c = range_more RollBack c.loop-session.session c.args.out.now c.loop-session.out c.push.new.self c.loop-session.invariant c.in_ok-push.ensures.ok
