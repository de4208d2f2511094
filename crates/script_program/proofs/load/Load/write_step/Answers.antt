use Rattle.std.proofs.lemmas.Result.{IfOk-weaker}
use Rattle.script_program.proofs.DrawLaws.{first, joined, last}
use Rattle.script_program.proofs.load.Load.write_step.Goals as goal

pub returns : goal.returns
returns c = IfOk-weaker c.write-4.result _ _ (λ _ h. first _ (joined _ _ (joined _ _ (joined _ _ (joined _ _ c.in_ok-write.ensures c.in_ok-write_number.ensures) c.in_ok-write-2.ensures) c.in_ok-write_number-2.ensures) c.in_ok-write-3.ensures) (first _ c.in_ok-write_statement.ensures (last h))) c.write-4.ensures
