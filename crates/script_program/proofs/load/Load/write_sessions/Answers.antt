use Rattle.std.proofs.Common.{◌+◌, arith}
use Rattle.script_program.specs.LoadScript.{session_lines}
use Rattle.script_program.proofs.DrawLaws.{for_one_more, none}
use Rattle.script_program.proofs.load.Load.write_sessions.Goals as goal

pub loop-session-init : goal.loop-session-init
loop-session-init c = none

pub loop-session-preserved : goal.loop-session-preserved
loop-session-preserved c =
    let k = c.loop-session.session in
    for_one_more 1 k (k + 1) session_lines (omega arith) c.loop-session.invariant c.in_ok-write_session.ensures
