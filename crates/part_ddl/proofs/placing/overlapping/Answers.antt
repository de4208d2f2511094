use Rattle.std.proofs.Common.{◌≡◌, ◌∙◌, arith, ap, true, sym}
use Rattle.std.specs.Option.{option_map}
use Rattle.bound_forms.specs.Bounds.{is_filled, overlaps, BoundsFit}
use Rattle.part_catalog.specs.Kept.{no_entry}
use Rattle.part_ddl.proofs.Behind.{passed_over}
use Rattle.part_ddl.proofs.First.{all_at, found_here, found_later, found_nowhere}
use Rattle.part_ddl.proofs.Kids.{entry_child}
use Rattle.part_ddl.proofs.placing.overlapping.Goals as goal

pub loop-i-init : goal.loop-i-init
loop-i-init c = passed_over (λ e. overlaps c.args.bound.now e.bound) (λ e. e.now) c.args.partitions.now c.count_before-from.result no_entry.entry c.count_before-from.ensures.within c.count_before-from.ensures.apart

pub overlaps_other-requires-clause-filled : goal.overlaps_other-requires-clause-filled
overlaps_other-requires-clause-filled c = all_at (λ e. is_filled e.bound ≡ true) (λ e. e.now) c.args.partitions.now c.loop-i.i c.index-partitions-i.result c.requires.filled c.loop-i-test.true c.index-partitions-i.is

pub overlaps_other-requires-clause-fit : goal.overlaps_other-requires-clause-fit
overlaps_other-requires-clause-fit c = all_at (λ e. BoundsFit c.args.bound.now e.bound) (λ e. e.now) c.args.partitions.now c.loop-i.i c.index-partitions-i.result c.requires.fit c.loop-i-test.true c.index-partitions-i.is

pub returns-then-overlaps_other : goal.returns-then-overlaps_other
returns-then-overlaps_other c =
    let passes = sym c.overlaps_other.ensures ∙ c.if-overlaps_other.true in
    ap (option_map entry_child) (sym (found_here (λ e. overlaps c.args.bound.now e.bound) (λ e. e.now) c.args.partitions.now c.loop-i.i c.index-partitions-i.result c.loop-i-test.true c.index-partitions-i.is passes) ∙ c.loop-i.invariant)

pub loop-i-preserved : goal.loop-i-preserved
loop-i-preserved c =
    let fails = sym c.overlaps_other.ensures ∙ c.if-overlaps_other.false in
    sym (found_later (λ e. overlaps c.args.bound.now e.bound) (λ e. e.now) c.args.partitions.now c.loop-i.i c.index-partitions-i.result c.loop-i-test.true c.index-partitions-i.is fails) ∙ c.loop-i.invariant

pub returns : goal.returns
returns c = ap (option_map entry_child) (sym (found_nowhere (λ e. overlaps c.args.bound.now e.bound) (λ e. e.now) c.args.partitions.now c.loop-i.i (omega (arith, c.loop-i-test.false))) ∙ c.loop-i.invariant)
