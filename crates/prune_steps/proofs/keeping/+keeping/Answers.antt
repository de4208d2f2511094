use Rattle.std.proofs.Common.{◌≡◌, false, sym, ap, subst, ◌∙◌, arith}
use Rattle.cond_logic.specs.Trees.{cond_tree, inverted}
use Rattle.prune_steps.specs.Asking.{asked_by, operand_known, known_in}
use Rattle.prune_steps.specs.Atoms.{given, ReadingFits}
use Rattle.prune_steps.proofs.CondTrees.{part_less, and_less, or_less, not_is}
use Rattle.prune_steps.proofs.KeepLaws.{cost_as, counted_as, counted_none, and_kept, and_searched, one_kept, one_searched, many_kept, many_searched, not_kept, not_searched, compared_kept, compared_searched, null_kept, null_searched, whole_kept}
use Rattle.prune_steps.proofs.KnownTrees.{parts_told, choices_told, costs_more, counts_more, parts_split, choices_split}
use Rattle.prune_steps.proofs.Fitting.{reading_fits}
use Rattle.prune_steps.proofs.keeping.+keeping.Goals as goal

-- ---- a part

pub keep_part-keep_parts-requires : goal.keep_part-keep_parts-requires
keep_part-keep_parts-requires g t c =
    let w = and_less c.args.cond.now c.in-And.list c.as_slice.result.now c.in-And.is c.as_slice.ensures in
    λ κs o. (omega (arith, c.decreases, w), (o.0, (o.1, (c.requires.small, c.requires.level))))

pub keep_part-keep_parts-requires-then-choices-eq1 : goal.keep_part-keep_parts-requires-then-choices-eq1
keep_part-keep_parts-requires-then-choices-eq1 g t c =
    let w = or_less c.args.cond.now c.in-Or.list c.as_slice-choices.result.now c.in-Or.is c.as_slice-choices.ensures in
    λ κs o. (omega (arith, c.decreases, w), (o.0, (o.1, (c.requires.small, c.requires.level))))

pub keep_part-keep_choices-requires : goal.keep_part-keep_choices-requires
keep_part-keep_choices-requires g t c =
    let w = or_less c.args.cond.now c.in-Or.list c.as_slice-choices.result.now c.in-Or.is c.as_slice-choices.ensures in
    λ κs o. (omega (arith, c.decreases, w), (o.0, (o.1, (c.requires.small, c.requires.level))))

pub keep_part-keep_reading-requires-clause-fits : goal.keep_part-keep_reading-requires-clause-fits
keep_part-keep_reading-requires-clause-fits g t c =
    let k = c.args.asking.now in
    subst (ReadingFits k.level.now.columns) (sym c.read_known-reading.ensures) (reading_fits (asked_by k) c.in-Compare.op (operand_known k c.in-Compare.x) (operand_known k c.in-Compare.y))

pub keep_part-returns-in-And-clause-kept : goal.keep_part-returns-in-And-clause-kept
keep_part-returns-in-And-clause-kept g t c =
    let k = c.args.asking.now in
    and_kept k c.args.set.now (given (asked_by k) false (known_in k (cond_tree c.args.root.now))) c.args.cond.now c.in-And.list c.as_slice.result.now c.keep_parts.new.kept c.in-And.is c.as_slice.ensures c.keep_parts.ensures.kept

pub keep_part-returns-in-And-clause-counted : goal.keep_part-returns-in-And-clause-counted
keep_part-returns-in-And-clause-counted g t c =
    let k = c.args.asking.now in
    counted_as c.args.set.now _ _ _ _ (and_searched k c.args.set.now (given (asked_by k) false (known_in k (cond_tree c.args.root.now))) c.args.cond.now c.in-And.list c.as_slice.result.now c.in-And.is c.as_slice.ensures) c.keep_parts.ensures.counted

pub keep_part-returns-in-And-clause-cost : goal.keep_part-returns-in-And-clause-cost
keep_part-returns-in-And-clause-cost g t c =
    let k = c.args.asking.now in
    cost_as c.args.set.now _ _ _ _ (and_searched k c.args.set.now (given (asked_by k) false (known_in k (cond_tree c.args.root.now))) c.args.cond.now c.in-And.list c.as_slice.result.now c.in-And.is c.as_slice.ensures) c.keep_parts.ensures.cost

pub keep_part-returns-then-choices-eq1-clause-kept : goal.keep_part-returns-then-choices-eq1-clause-kept
keep_part-returns-then-choices-eq1-clause-kept g t c =
    let k = c.args.asking.now in
    one_kept k c.args.set.now (given (asked_by k) false (known_in k (cond_tree c.args.root.now))) c.args.cond.now c.in-Or.list c.as_slice-choices.result.now c.keep_parts-then-choices-eq1.new.kept c.in-Or.is c.as_slice-choices.ensures c.if-choices-eq1.true c.keep_parts-then-choices-eq1.ensures.kept

pub keep_part-returns-then-choices-eq1-clause-counted : goal.keep_part-returns-then-choices-eq1-clause-counted
keep_part-returns-then-choices-eq1-clause-counted g t c =
    let k = c.args.asking.now in
    counted_as c.args.set.now _ _ _ _ (one_searched k c.args.set.now (given (asked_by k) false (known_in k (cond_tree c.args.root.now))) c.args.cond.now c.in-Or.list c.as_slice-choices.result.now c.in-Or.is c.as_slice-choices.ensures c.if-choices-eq1.true) c.keep_parts-then-choices-eq1.ensures.counted

pub keep_part-returns-then-choices-eq1-clause-cost : goal.keep_part-returns-then-choices-eq1-clause-cost
keep_part-returns-then-choices-eq1-clause-cost g t c =
    let k = c.args.asking.now in
    cost_as c.args.set.now _ _ _ _ (one_searched k c.args.set.now (given (asked_by k) false (known_in k (cond_tree c.args.root.now))) c.args.cond.now c.in-Or.list c.as_slice-choices.result.now c.in-Or.is c.as_slice-choices.ensures c.if-choices-eq1.true) c.keep_parts-then-choices-eq1.ensures.cost

pub keep_part-returns-else-choices-eq1-clause-kept : goal.keep_part-returns-else-choices-eq1-clause-kept
keep_part-returns-else-choices-eq1-clause-kept g t c =
    let k = c.args.asking.now in
    many_kept k c.args.set.now (given (asked_by k) false (known_in k (cond_tree c.args.root.now))) c.args.cond.now c.in-Or.list c.as_slice-choices.result.now c.keep_choices.new.kept c.in-Or.is c.as_slice-choices.ensures c.if-choices-eq1.false c.keep_choices.ensures.kept

pub keep_part-returns-else-choices-eq1-clause-counted : goal.keep_part-returns-else-choices-eq1-clause-counted
keep_part-returns-else-choices-eq1-clause-counted g t c =
    let k = c.args.asking.now in
    counted_as c.args.set.now _ _ _ _ (many_searched k c.args.set.now (given (asked_by k) false (known_in k (cond_tree c.args.root.now))) c.args.cond.now c.in-Or.list c.as_slice-choices.result.now c.in-Or.is c.as_slice-choices.ensures c.if-choices-eq1.false) c.keep_choices.ensures.counted

pub keep_part-returns-else-choices-eq1-clause-cost : goal.keep_part-returns-else-choices-eq1-clause-cost
keep_part-returns-else-choices-eq1-clause-cost g t c =
    let k = c.args.asking.now in
    cost_as c.args.set.now _ _ _ _ (many_searched k c.args.set.now (given (asked_by k) false (known_in k (cond_tree c.args.root.now))) c.args.cond.now c.in-Or.list c.as_slice-choices.result.now c.in-Or.is c.as_slice-choices.ensures c.if-choices-eq1.false) c.keep_choices.ensures.cost

pub keep_part-returns-in-Not-clause-kept : goal.keep_part-returns-in-Not-clause-kept
keep_part-returns-in-Not-clause-kept g t c =
    let k = c.args.asking.now in
    let h = ap cond_tree c.in-Not.is ∙ not_is c.in-Not.inner in
    let e : cond_tree c.args.cond.now ≡ inverted (cond_tree c.deref.result.now) = cc h in
    not_kept k c.args.set.now (given (asked_by k) false (known_in k (cond_tree c.args.root.now))) c.args.cond.now (cond_tree c.deref.result.now) c.keep_inverted.new.kept e c.keep_inverted.ensures

pub keep_part-returns-in-Not-clause-counted : goal.keep_part-returns-in-Not-clause-counted
keep_part-returns-in-Not-clause-counted g t c =
    let k = c.args.asking.now in
    let h = ap cond_tree c.in-Not.is ∙ not_is c.in-Not.inner in
    let e : cond_tree c.args.cond.now ≡ inverted (cond_tree c.deref.result.now) = cc h in
    counted_none c.args.set.now _ _ (not_searched k c.args.set.now (given (asked_by k) false (known_in k (cond_tree c.args.root.now))) c.args.cond.now (cond_tree c.deref.result.now) e)

pub keep_part-returns-in-Compare-clause-kept : goal.keep_part-returns-in-Compare-clause-kept
keep_part-returns-in-Compare-clause-kept g t c =
    let k = c.args.asking.now in
    compared_kept k c.args.set.now (given (asked_by k) false (known_in k (cond_tree c.args.root.now))) c.args.cond.now c.in-Compare.op c.in-Compare.x c.in-Compare.y _ c.keep_reading.new.kept c.in-Compare.is c.read_known-reading.ensures c.keep_reading.ensures.kept

pub keep_part-returns-in-Compare-clause-counted : goal.keep_part-returns-in-Compare-clause-counted
keep_part-returns-in-Compare-clause-counted g t c =
    let k = c.args.asking.now in
    counted_as c.args.set.now _ _ _ _ (compared_searched k c.args.set.now (given (asked_by k) false (known_in k (cond_tree c.args.root.now))) c.args.cond.now c.in-Compare.op c.in-Compare.x c.in-Compare.y _ c.in-Compare.is c.read_known-reading.ensures) c.keep_reading.ensures.counted

pub keep_part-returns-in-Compare-clause-cost : goal.keep_part-returns-in-Compare-clause-cost
keep_part-returns-in-Compare-clause-cost g t c =
    let k = c.args.asking.now in
    cost_as c.args.set.now _ _ _ _ (compared_searched k c.args.set.now (given (asked_by k) false (known_in k (cond_tree c.args.root.now))) c.args.cond.now c.in-Compare.op c.in-Compare.x c.in-Compare.y _ c.in-Compare.is c.read_known-reading.ensures) c.keep_reading.ensures.cost

pub keep_part-returns-in-IsNull-clause-kept : goal.keep_part-returns-in-IsNull-clause-kept
keep_part-returns-in-IsNull-clause-kept g t c =
    let k = c.args.asking.now in
    null_kept k c.args.set.now (given (asked_by k) false (known_in k (cond_tree c.args.root.now))) c.args.cond.now c.in-IsNull.x c.known_key_of-key.result c.keep_nulls.new.kept c.in-IsNull.is c.known_key_of-key.ensures c.keep_nulls.ensures

pub keep_part-returns-in-IsNull-clause-counted : goal.keep_part-returns-in-IsNull-clause-counted
keep_part-returns-in-IsNull-clause-counted g t c =
    let k = c.args.asking.now in
    counted_none c.args.set.now _ _ (null_searched k c.args.set.now (given (asked_by k) false (known_in k (cond_tree c.args.root.now))) c.args.cond.now c.in-IsNull.x c.in-IsNull.is)

-- ---- AND

pub keep_parts-keep_part-requires : goal.keep_parts-keep_part-requires
keep_parts-keep_part-requires g t c =
    let w = part_less c.args.parts.now c.loop-part.part-index c.part-item.result c.loop-part-test.true c.part-item.is in
    λ κs o. (omega (arith, c.decreases, w), (o.0, (o.1, (c.requires.small, c.requires.level))))

pub keep_parts-loop-part-preserved : goal.keep_parts-loop-part-preserved
keep_parts-loop-part-preserved g t c =
    let k = c.args.asking.now in
    let f = given (asked_by k) false (known_in k (cond_tree c.args.root.now)) in
    let xs = c.args.parts.now in
    let i = c.loop-part.part-index in
    let x = c.part-item.result in
    record {
      told = parts_told k c.args.set.now f xs i x c.loop-part.kept c.keep_part.new.kept c.meet.new.self c.loop-part-test.true c.part-item.is c.requires.small c.keep_part.ensures.kept c.meet.ensures c.loop-part.invariant.told;
      counted = counts_more c.args.set.now _ _ _ _ _ _ _ (parts_split k f xs i x c.loop-part-test.true c.part-item.is) c.keep_part.ensures.counted c.loop-part.invariant.counted;
      cost = costs_more c.args.set.now _ _ _ _ _ _ _ (parts_split k f xs i x c.loop-part-test.true c.part-item.is) c.keep_part.ensures.cost c.loop-part.invariant.cost;
    }

-- ---- OR

pub keep_choices-keep_whole-requires : goal.keep_choices-keep_whole-requires
keep_choices-keep_whole-requires g t c =
    let w = part_less c.args.choices.now c.loop-choice.choice-index c.choice-item.result c.loop-choice-test.true c.choice-item.is in
    λ κs o. (omega (arith, c.decreases, w), (o.0, (o.1, (c.requires.small, c.requires.level))))

pub keep_choices-loop-choice-preserved : goal.keep_choices-loop-choice-preserved
keep_choices-loop-choice-preserved g t c =
    let k = c.args.asking.now in
    let xs = c.args.choices.now in
    let i = c.loop-choice.choice-index in
    let x = c.choice-item.result in
    record {
      told = choices_told k c.args.set.now xs i x c.loop-choice.kept c.keep_whole.new.kept c.join.new.self c.loop-choice-test.true c.choice-item.is c.requires.small c.keep_whole.ensures.kept c.join.ensures c.loop-choice.invariant.told;
      counted = counts_more c.args.set.now _ _ _ _ _ _ _ (choices_split k xs i x c.loop-choice-test.true c.choice-item.is) c.keep_whole.ensures.counted c.loop-choice.invariant.counted;
      cost = costs_more c.args.set.now _ _ _ _ _ _ _ (choices_split k xs i x c.loop-choice-test.true c.choice-item.is) c.keep_whole.ensures.cost c.loop-choice.invariant.cost;
    }

-- ---- a condition by itself

pub keep_whole-keep_part-requires : goal.keep_whole-keep_part-requires
keep_whole-keep_part-requires g t c = λ κs o. (omega (arith, c.decreases), (o.0, (o.1, (c.requires.small, c.requires.level))))

pub keep_whole-returns-clause-kept : goal.keep_whole-returns-clause-kept
keep_whole-returns-clause-kept g t c =
    let k = c.args.asking.now in
    whole_kept (asked_by k) c.args.set.now (known_in k (cond_tree c.args.cond.now)) c.keep_part.new.kept c.meet_key.new.kept c.keep_part.ensures.kept c.meet_key.ensures.kept
