use Rattle.std.proofs.Common.{◌≡◌, ◌++◌, take}
use Rattle.std.specs.List.{flat_map}
use Rattle.cond_logic.specs.Tuples.{lent}
use Rattle.plan_tree.specs.Plans.{both, planned_pair}
use Rattle.plan_text.specs.Plans.{joins}
use Rattle.plan_text.proofs.plan.push_each_pair.Given as goal

abbrev pub invariant-loop-pair : goal.invariant-loop-pair
invariant-loop-pair l = l.out.items ≡ l.initial.out.items ++ flat_map (λ p. joins l.items (lent l.counts) (both (planned_pair p)) l.depth) (take l.pair-index l.pairs)
