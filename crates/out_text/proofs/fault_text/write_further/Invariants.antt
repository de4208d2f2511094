use Rattle.std.proofs.Common.{◌≡◌, ◌++◌, take}
use Rattle.out_text.specs.FaultText.{further_words}
use Rattle.out_text.proofs.fault_text.write_further.Given as goal

abbrev pub invariant-loop-word : goal.invariant-loop-word
invariant-loop-word l = l.out.items ≡ l.initial.out.items ++ further_words (take l.word-index l.words)
