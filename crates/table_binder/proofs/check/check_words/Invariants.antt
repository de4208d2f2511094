use Rattle.std.proofs.Common.{◌≡◌, ◌-◌, drop}
use Rattle.table_binder.specs.Checks.{word_faults}
use Rattle.table_binder.proofs.check.check_words.Given as goal

-- the words so far are repeated, so the rest decides
abbrev pub invariant-loop-i : goal.invariant-loop-i
invariant-loop-i l = word_faults (drop (l.i - 1) l.edges) ≡ word_faults l.edges
