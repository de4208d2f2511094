use Rattle.std.proofs.Common.{◌≡◌, ℕ, ◌<◌, ◌≤◌}
use Rattle.part_bounds.specs.Stored.{owners}
use Rattle.prune_steps.specs.Lists.{count_at, owned_by}
use Rattle.prune_steps.proofs.counts.counts_in.Given as goal

abbrev pub invariant-loop-i : goal.invariant-loop-i
invariant-loop-i g l = (k : ℕ) → k < 1024 → (count_at l.counts k ≡ owned_by (owners l.set) l.from l.to l.i k) × (count_at l.counts k ≤ l.i)
