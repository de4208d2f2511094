use Rattle.std.proofs.Common.{◌≡◌, ◌<◌, ◌≤◌, ◌++◌, ◌∙◌, append-nil, ap, arith, false, length, slice_index_or, subst, sym, true}
use Rattle.bound_forms.specs.declared.partition_bound.Bound.TheVariants.{Default}
use Rattle.row_router.specs.Seen.{seen, items_of}
use Rattle.plan_tree.specs.Asks.{keeps_asked}
use Rattle.plan_tree.specs.Kept.{kept_leaves}
use Rattle.plan_tree.specs.Parts.{in_part, in_partition}
use Rattle.plan_tree.specs.Prunable.{CanPrune}
use Rattle.plan_tree.proofs.Filling.{part_kept, part_left_out}
use Rattle.plan_tree.proofs.OnePart.{part_can_ask, part_child_prunes, no_part_leaves}
use Rattle.plan_tree.proofs.listing.keep_leaves.Goals as goal

pub keeps-requires : goal.keeps-requires
keeps-requires c =
    let can : CanPrune (in_partition c.in-Some-part.part (seen c.args.tree.now)) = subst (λ p. CanPrune (in_part p (seen c.args.tree.now))) c.in-Some-part.is c.requires.can in
    let asks = part_can_ask c.args.tree.now c.in-Level.level c.in-Level.set c.in-Level.children c.in-Level.is c.in-Some-part.part can in
    let few = asks.0 in
    let same = asks.2 in
    omega (arith, few, same)

pub keep_below-requires-then-keeps-clause-can : goal.keep_below-requires-then-keeps-clause-can
keep_below-requires-then-keeps-clause-can c =
    let can : CanPrune (in_partition c.in-Some-part.part (seen c.args.tree.now)) = subst (λ p. CanPrune (in_part p (seen c.args.tree.now))) c.in-Some-part.is c.requires.can in
    let here : c.in-Some-part.part < length (items_of c.in-Level.children) = omega arith in
    part_child_prunes c.args.tree.now c.in-Level.level c.in-Level.set c.in-Level.children c.in-Level.is c.in-Some-part.part c.at.result.now here c.at.ensures can

pub keep_below-requires-then-keeps-clause-room : goal.keep_below-requires-then-keeps-clause-room
keep_below-requires-then-keeps-clause-room c =
    let can : CanPrune (in_partition c.in-Some-part.part (seen c.args.tree.now)) = subst (λ p. CanPrune (in_part p (seen c.args.tree.now))) c.in-Some-part.is c.requires.can in
    let asks = part_can_ask c.args.tree.now c.in-Level.level c.in-Level.set c.in-Level.children c.in-Level.is c.in-Some-part.part can in
    let same = asks.2 in
    let here : c.in-Some-part.part < length (items_of c.in-Level.children) = omega arith in
    let below : c.in-Some-part.part < length c.in-Level.set = omega (arith, same, here) in
    let keeps = keeps_asked c.args.asks c.args.known.now c.args.steps.now in
    let kept : keeps c.in-Level.level c.in-Level.set (slice_index_or c.in-Level.set c.in-Some-part.part Default) ≡ true = sym (c.kept_of-kept.ensures c.in-Some-part.part below) ∙ (sym c.keeps.ensures ∙ c.if-keeps.true) in
    let own = ap (λ p. kept_leaves keeps (in_part p (seen c.args.tree.now))) c.in-Some-part.is ∙ part_kept c.args.tree.now c.in-Level.level c.in-Level.set c.in-Level.children c.in-Level.is c.in-Some-part.part keeps c.at.result.now same here c.at.ensures kept in
    let long = ap length own in
    let room = c.requires.room in
    omega (arith, long, room)

pub returns-then-keeps : goal.returns-then-keeps
returns-then-keeps c =
    let can : CanPrune (in_partition c.in-Some-part.part (seen c.args.tree.now)) = subst (λ p. CanPrune (in_part p (seen c.args.tree.now))) c.in-Some-part.is c.requires.can in
    let asks = part_can_ask c.args.tree.now c.in-Level.level c.in-Level.set c.in-Level.children c.in-Level.is c.in-Some-part.part can in
    let same = asks.2 in
    let here : c.in-Some-part.part < length (items_of c.in-Level.children) = omega arith in
    let below : c.in-Some-part.part < length c.in-Level.set = omega (arith, same, here) in
    let keeps = keeps_asked c.args.asks c.args.known.now c.args.steps.now in
    let kept : keeps c.in-Level.level c.in-Level.set (slice_index_or c.in-Level.set c.in-Some-part.part Default) ≡ true = sym (c.kept_of-kept.ensures c.in-Some-part.part below) ∙ (sym c.keeps.ensures ∙ c.if-keeps.true) in
    let own = ap (λ p. kept_leaves keeps (in_part p (seen c.args.tree.now))) c.in-Some-part.is ∙ part_kept c.args.tree.now c.in-Level.level c.in-Level.set c.in-Level.children c.in-Level.is c.in-Some-part.part keeps c.at.result.now same here c.at.ensures kept in
    c.keep_below-then-keeps.ensures.leaves ∙ ap (λ ls. c.args.leaves.now.items ++ ls) (sym own)

pub returns-else-keeps : goal.returns-else-keeps
returns-else-keeps c =
    let can : CanPrune (in_partition c.in-Some-part.part (seen c.args.tree.now)) = subst (λ p. CanPrune (in_part p (seen c.args.tree.now))) c.in-Some-part.is c.requires.can in
    let asks = part_can_ask c.args.tree.now c.in-Level.level c.in-Level.set c.in-Level.children c.in-Level.is c.in-Some-part.part can in
    let same = asks.2 in
    let here : c.in-Some-part.part < length (items_of c.in-Level.children) = omega arith in
    let below : c.in-Some-part.part < length c.in-Level.set = omega (arith, same, here) in
    let keeps = keeps_asked c.args.asks c.args.known.now c.args.steps.now in
    let kept : keeps c.in-Level.level c.in-Level.set (slice_index_or c.in-Level.set c.in-Some-part.part Default) ≡ false = sym (c.kept_of-kept.ensures c.in-Some-part.part below) ∙ (sym c.keeps.ensures ∙ c.if-keeps.false) in
    let none = ap (λ p. kept_leaves keeps (in_part p (seen c.args.tree.now))) c.in-Some-part.is ∙ part_left_out c.args.tree.now c.in-Level.level c.in-Level.set c.in-Level.children c.in-Level.is c.in-Some-part.part keeps same here kept in
    sym (ap (λ ls. c.args.leaves.now.items ++ ls) none ∙ append-nil c.args.leaves.now.items)

pub returns-else-part-len : goal.returns-else-part-len
returns-else-part-len c =
    let keeps = keeps_asked c.args.asks c.args.known.now c.args.steps.now in
    let past : length (items_of c.in-Level.children) ≤ c.in-Some-part.part = omega arith in
    let none = ap (λ p. kept_leaves keeps (in_part p (seen c.args.tree.now))) c.in-Some-part.is ∙ no_part_leaves c.args.tree.now c.in-Level.level c.in-Level.set c.in-Level.children c.in-Level.is c.in-Some-part.part keeps past in
    sym (ap (λ ls. c.args.leaves.now.items ++ ls) none ∙ append-nil c.args.leaves.now.items)
