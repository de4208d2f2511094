use Rattle.std.proofs.lemmas.Result.{IfOk-weaker}
use Rattle.script_program.proofs.DrawLaws.{first, last}
use Rattle.script_program.proofs.load.Load.write_row.Goals as goal

pub returns : goal.returns
returns c = IfOk-weaker c.write-3.result _ _ (λ _ h. first _ c.in_ok-write.ensures (first _ c.in_ok-write_drawn.ensures (first _ c.in_ok-write-2.ensures (first _ c.in_ok-write_drawn-2.ensures (last h))))) c.write-3.ensures
