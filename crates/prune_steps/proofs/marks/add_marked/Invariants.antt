use Rattle.std.proofs.Common.{◌≡◌, ℕ, ◌<◌, ◌≤◌, ◌||◌}
use Rattle.std.specs.List.{slice_index_or}
use Rattle.bound_forms.specs.declared.partition_bound.Bound.TheVariants.{Default}
use Rattle.prune_steps.specs.Bits.{bit}
use Rattle.prune_steps.specs.Lists.{is_marked}
use Rattle.prune_steps.proofs.marks.add_marked.Given as goal

-- the children so far are marked, the others are as they were
abbrev pub invariant-loop-k : goal.invariant-loop-k
invariant-loop-k g l = record {
  done : (j : ℕ) → j < l.k → j < 1024 → bit l.kept j ≡ (bit l.initial.kept j || is_marked l.mark (slice_index_or l.set j Default));
  rest : (j : ℕ) → l.k ≤ j → j < 1024 → bit l.kept j ≡ bit l.initial.kept j;
}
