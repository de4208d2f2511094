use Rattle.std.proofs.Common.{sym, ◌∙◌}
use Rattle.script_program.proofs.StepNumbers.{one_before}
use Rattle.script_program.proofs.step.numbers_of.Goals as goal

pub loop-i-preserved : goal.loop-i-preserved
loop-i-preserved c = λ name.
    c.in_ok-insert.ensures.updates.0 name
    ∙ one_before c.args.steps.now c.loop-i.i c.index-steps-i.result c.name.result.now name.now _ c.loop-i-test.true c.loop-i.auto.i (sym c.index-steps-i.is) c.name.ensures (c.loop-i.invariant name)
