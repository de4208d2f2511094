use Rattle.std.proofs.lemmas.Result.{IfOk-weaker}
use Rattle.script_program.proofs.DrawLaws.{first, last}
use Rattle.script_program.proofs.load.Load.write_insert.Goals as goal

pub returns : goal.returns
returns c = IfOk-weaker c.write-2.result _ _ (λ _ h. first _ c.in_ok-write.ensures (first _ c.in_ok-write_row.ensures (last h))) c.write-2.ensures
