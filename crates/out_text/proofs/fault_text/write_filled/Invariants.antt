use Rattle.std.proofs.Common.{◌≡◌, ◌++◌, length}
use Rattle.out_text.specs.FaultText.{filled, filled_from}
use Rattle.out_text.proofs.fault_text.write_filled.Given as goal

abbrev pub invariant-loop-text : goal.invariant-loop-text
invariant-loop-text l = l.out.items ++ filled_from l.in_hole l.text l.words ≡ l.fn.out.items ++ filled l.fn.text l.fn.words

abbrev pub decreases-loop-text : goal.decreases-loop-text
decreases-loop-text l = length l.text
