use Rattle.std.proofs.Common.{◌≡◌, ◌++◌, take}
use Rattle.std.specs.List.{flat_map}
use Rattle.cond_logic.specs.Tuples.{lent}
use Rattle.plan_tree.specs.Plans.{planned_item}
use Rattle.plan_text.specs.Plans.{sorted_part}
use Rattle.plan_text.proofs.plan.push_parts.Given as goal

abbrev pub invariant-loop-part : goal.invariant-loop-part
invariant-loop-part l = l.out.items ≡ l.initial.out.items ++ flat_map (λ part. sorted_part l.items (lent l.counts) l.keys (planned_item l.item) part.now l.depth) (take l.part-index l.parts)
