use Rattle.std.proofs.Common.{◌≡◌, ◌+◌, ℕ, arith, subst}
use Rattle.script_program.specs.Draws.{Moves, for_each}
use Rattle.script_program.specs.LoadScript.{step_line}
use Rattle.script_program.proofs.DrawLaws.{first, for_one_more, joined, last, none}
use Rattle.script_program.proofs.load.Load.write_session.Goals as goal

pub loop-step-init : goal.loop-step-init
loop-step-init c = none

pub loop-step-preserved : goal.loop-step-preserved
loop-step-preserved c =
    let k = c.loop-step.step in
    for_one_more 1 k (k + 1) (step_line c.args.session) (omega arith) c.loop-step.invariant c.in_ok-write_step.ensures

pub returns : goal.returns
returns c =
    let all : c.loop-step.step ≡ 64 = omega arith in
    let steps = subst (λ (n : ℕ). Moves (for_each 1 n (step_line c.args.session)) c.write-2.new.self.state c.write-2.new.self.text.items c.loop-step.self.state c.loop-step.self.text.items) all c.loop-step.invariant in
    first _ (joined _ _ (joined _ _ c.in_ok-write.ensures c.in_ok-write_number.ensures) c.in_ok-write-2.ensures) (last steps)
