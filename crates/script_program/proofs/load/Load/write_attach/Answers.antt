use Rattle.std.proofs.Common.{ap}
use Rattle.std.proofs.lemmas.Result.{IfOk-weaker}
use Rattle.script_program.proofs.DrawLaws.{by_draw, joined}
use Rattle.script_program.specs.LoadScript.{attached}
use Rattle.script_program.proofs.load.Load.write_attach.Goals as goal

pub returns : goal.returns
returns c =
    let drawn = c.draw-partition in
    IfOk-weaker c.write-3.result _ _ (λ _ h. by_draw 32 drawn.result attached drawn.ensures.number drawn.ensures.state (ap (λ v. v.items) drawn.ensures.text)
    (joined _ _ (joined _ _ (joined _ _ (joined _ _ c.in_ok-write.ensures c.in_ok-write_number.ensures) c.in_ok-write-2.ensures) c.in_ok-write_bound.ensures) h)) c.write-3.ensures
