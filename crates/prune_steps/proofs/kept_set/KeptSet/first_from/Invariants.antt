use Rattle.std.proofs.Common.{◌≤◌, ◌-◌}
use Rattle.prune_steps.specs.Bits.{NoneIn}
use Rattle.prune_steps.proofs.kept_set.KeptSet.first_from.Given as goal

-- none of those so far is in the set
abbrev pub invariant-loop-at : goal.invariant-loop-at
invariant-loop-at l = record {
  behind : l.fn.from ≤ l.at;
  none : NoneIn l.self l.fn.from l.at;
}

abbrev pub decreases-loop-at : goal.decreases-loop-at
decreases-loop-at l = 1024 - l.at
