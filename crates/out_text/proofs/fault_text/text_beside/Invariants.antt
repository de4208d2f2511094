use Rattle.std.proofs.Common.{◌≡◌, length, map}
use Rattle.out_text.specs.FaultText.{text_beside}
use Rattle.out_text.proofs.fault_text.text_beside.Given as goal

abbrev pub invariant-loop-lines : goal.invariant-loop-lines
invariant-loop-lines l =
    text_beside l.code (map (λ line. (line.0.now, line.1.now)) l.lines-2) ≡ text_beside l.code (map (λ line. (line.0.now, line.1.now)) l.lines)

abbrev pub decreases-loop-lines : goal.decreases-loop-lines
decreases-loop-lines l = length l.lines
