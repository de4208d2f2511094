use Rattle.std.proofs.Common.{◌≡◌, ℕ, ◌<◌, ◌≤◌, get_or, bit_or}
use Rattle.prune_steps.proofs.kept_set.KeptSet.join.Given as goal

-- the words so far are done, the others are as they were
abbrev pub invariant-loop-i : goal.invariant-loop-i
invariant-loop-i l = record {
  done : (j : ℕ) → j < l.i → get_or l.self-inside.words j 0 ≡ bit_or (get_or l.initial.self-inside.words j 0) (get_or l.other-inside.words j 0);
  rest : (j : ℕ) → l.i ≤ j → get_or l.self-inside.words j 0 ≡ get_or l.initial.self-inside.words j 0;
}
