use Rattle.std.proofs.Common.{◌≡◌, ℕ, arith, subst}
use Rattle.std.proofs.lemmas.Result.{IfOk-weaker}
use Rattle.script_program.specs.Draws.{Moves, for_each}
use Rattle.script_program.specs.LoadScript.{partition_line}
use Rattle.script_program.proofs.DrawLaws.{first, for_one_more, last, none}
use Rattle.script_program.proofs.load.Load.write_setups.Goals as goal

pub loop-partition-init : goal.loop-partition-init
loop-partition-init c = none

pub loop-partition-preserved : goal.loop-partition-preserved
loop-partition-preserved c =
    let i = c.loop-partition.partition in
    for_one_more 0 i i partition_line (omega arith) c.loop-partition.invariant c.in_ok-write_partition_line.ensures

pub returns : goal.returns
returns c =
    let all : c.loop-partition.partition ≡ 32 = omega arith in
    let partitions = subst (λ (n : ℕ). Moves (for_each 0 n partition_line) c.write.new.self.state c.write.new.self.text.items c.loop-partition.self.state c.loop-partition.self.text.items) all c.loop-partition.invariant in
    IfOk-weaker c.write_rows_line.result _ _ (λ _ h. first _ c.in_ok-write.ensures (first _ partitions (last h))) c.write_rows_line.ensures
