use Rattle.std.proofs.Common.{◌≡◌, ℕ, ◌<◌, ◌&&◌, drop, length}
use Rattle.std.specs.List.{list_all, slice_index_or}
use Rattle.bound_forms.specs.declared.partition_bound.Bound.TheVariants.{Default}
use Rattle.prune_steps.specs.Bits.{bit}
use Rattle.plan_tree.specs.Asks.{keeps_each}
use Rattle.plan_tree.proofs.asking.kept_of.Given as goal

-- what the set has and the steps that are left keep is what all keep
abbrev pub invariant-loop-one : goal.invariant-loop-one
invariant-loop-one l = (k : ℕ) → k < length l.set →
    bit l.kept k && list_all (λ p. keeps_each l.asks l.known p l.level l.set (slice_index_or l.set k Default)) (drop l.one-index l.steps)
    ≡ list_all (λ p. keeps_each l.asks l.known p l.level l.set (slice_index_or l.set k Default)) l.steps
