use Rattle.std.proofs.Common.{◌≡◌, ◌+◌, ◌-◌, ◌∙◌, ap, arith, drop, length, refl, sym, take}
use Rattle.std.proofs.lemmas.Slice.{between_to_end}
use Rattle.plan_tree.proofs.OrderedParts.{default_left, part_put}
use Rattle.plan_tree.proofs.ordered.push_parts.Goals as goal

pub returns-then-is_default-clause-parts : goal.returns-then-is_default-clause-parts
returns-then-is_default-clause-parts c = (default_left _ _ _ _ _ _ _ c.loop-place.invariant c.bound.result.now c.bound.ensures (sym c.is_default.ensures ∙ c.if-is_default.true)).0

pub returns-then-is_default-clause-count : goal.returns-then-is_default-clause-count
returns-then-is_default-clause-count c = (default_left _ _ _ _ _ _ _ c.loop-place.invariant c.bound.result.now c.bound.ensures (sym c.is_default.ensures ∙ c.if-is_default.true)).1

pub loop-place-preserved : goal.loop-place-preserved
loop-place-preserved c =
    let behind : (c.loop-place.start + c.count_under-count.result) - c.loop-place.start ≡ c.count_under-count.result = omega arith in
    part_put _ _ _ _ _ _ _ c.loop-place.invariant c.bound.result.now c.index-children-place.result _ _ c.count_under-count.result _ _ c.loop-place-test.true c.bound.ensures (sym c.is_default.ensures ∙ c.if-is_default.false) c.index-children-place.is
    (between_to_end c.args.leaves.now c.loop-place.start (length c.args.leaves.now) (omega arith)) c.count_under-count.ensures.told
    (ap (λ n. take n (drop c.loop-place.start c.args.leaves.now)) behind) c.in_ok-push_part.ensures refl
