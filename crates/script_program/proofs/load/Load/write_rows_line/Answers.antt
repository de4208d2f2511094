use Rattle.std.proofs.Common.{◌≡◌, ℕ, arith, subst}
use Rattle.std.proofs.lemmas.Result.{IfOk-weaker}
use Rattle.script_program.specs.Draws.{Moves, repeated}
use Rattle.script_program.specs.LoadScript.{next_row}
use Rattle.script_program.proofs.DrawLaws.{first, last, none, once_more}
use Rattle.script_program.proofs.load.Load.write_rows_line.Goals as goal

pub loop-init : goal.loop-init
loop-init c = none

pub loop-preserved : goal.loop-preserved
loop-preserved c = once_more c.loop.counter next_row c.loop.invariant (first _ c.in_ok-write-2.ensures (last c.in_ok-write_row-2.ensures))

pub returns : goal.returns
returns c =
    let all : c.loop.counter ≡ 511 = omega arith in
    let rows = subst (λ (n : ℕ). Moves (repeated n next_row) c.write_row.new.self.state c.write_row.new.self.text.items c.loop.self.state c.loop.self.text.items) all c.loop.invariant in
    IfOk-weaker c.write-2.result _ _ (λ _ h. first _ c.in_ok-write.ensures (first _ c.in_ok-write_row.ensures (first _ rows (last h)))) c.write-2.ensures
