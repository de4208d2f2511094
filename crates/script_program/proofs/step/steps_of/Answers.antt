use Rattle.std.proofs.Common.{sym}
use Rattle.script_program.specs.Steps.{steps_in}
use Rattle.script_program.proofs.Numbered.{one_more}
use Rattle.script_program.proofs.step.steps_of.Goals as goal

pub loop-i-preserved : goal.loop-i-preserved
loop-i-preserved c =
    one_more steps_in c.args.sessions.now c.loop-i.i c.index-sessions-i.result c.loop-i.all.items c.push_steps.new.out.items c.loop-i-test.true (sym c.index-sessions-i.is) c.loop-i.invariant c.in_ok-push_steps.ensures
