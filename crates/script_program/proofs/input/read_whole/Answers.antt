use Rattle.std.proofs.Common.{◌≤◌, ◌+◌, length, take, rules}
use Rattle.script_program.proofs.Pieces.{one_more}
use Rattle.script_program.proofs.input.read_whole.Goals as goal

pub returns-then-is_err-clause-err : goal.returns-then-is_err-clause-err
returns-then-is_err-clause-err g c =
    let piece = take c.in-Ok.count c.read.new.buf in
    let few : length c.loop-buffer.bytes.items + length piece ≤ 4194305 = search rules in
    (one_more 4194305 _ _ _ c.loop-buffer.bytes.items piece c.loop-buffer.invariant.given c.in-Ok.ensures.bytes.0 few, search rules)
