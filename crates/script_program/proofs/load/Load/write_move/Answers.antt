use Rattle.std.proofs.lemmas.Result.{IfOk-weaker}
use Rattle.script_program.proofs.DrawLaws.{first, last}
use Rattle.script_program.proofs.load.Load.write_move.Goals as goal

pub returns : goal.returns
returns c = IfOk-weaker c.write_drawn_between.result _ _ (λ _ h. first _ c.in_ok-write.ensures (first _ c.in_ok-write_drawn.ensures (last h))) c.write_drawn_between.ensures
