use Rattle.std.proofs.lemmas.Result.{IfOk-weaker}
use Rattle.script_program.proofs.DrawLaws.{joined}
use Rattle.script_program.proofs.load.Load.write_partition_line.Goals as goal

pub returns : goal.returns
returns c = IfOk-weaker c.write-3.result _ _ (λ _ h. joined _ _ (joined _ _ (joined _ _ (joined _ _ c.in_ok-write.ensures c.in_ok-write_number.ensures) c.in_ok-write-2.ensures) c.in_ok-write_bound.ensures) h) c.write-3.ensures
