use Rattle.std.proofs.Common.{◌∙◌, sym, arith}
use Rattle.part_catalog.specs.Kept.{by_place}
use Rattle.part_catalog.specs.Stands.{flagged_above}
use Rattle.part_catalog.proofs.Paths.{above_flagged}
use Rattle.part_catalog.proofs.Upwards.{walk_found, walk_on, walk_over}
use Rattle.part_catalog.proofs.path.above_shown.Goals as goal

pub returns-then-is_above-clause-is : goal.returns-then-is_above-clause-is
returns-then-is_above-clause-is c =
    walk_found (flagged_above c.args.flags.now c.args.table.number) c.args.entries.now c.loop-at.at c.index-entries-at.result c.loop-at-test.true c.index-entries-at.is (sym c.is_above.ensures ∙ c.if-is_above.true)
    ∙ c.loop-at.invariant
    ∙ above_flagged c.args.flags.now (by_place c.args.entries.now) c.args.table.number

pub loop-at-preserved : goal.loop-at-preserved
loop-at-preserved c =
    walk_on (flagged_above c.args.flags.now c.args.table.number) c.args.entries.now c.loop-at.at c.index-entries-at.result c.loop-at-test.true c.index-entries-at.is (sym c.is_above.ensures ∙ c.if-is_above.false)
    ∙ c.loop-at.invariant

pub returns-clause-is : goal.returns-clause-is
returns-clause-is c =
    walk_over (flagged_above c.args.flags.now c.args.table.number) c.args.entries.now c.loop-at.at (omega (arith, c.loop-at-test.false))
    ∙ c.loop-at.invariant
    ∙ above_flagged c.args.flags.now (by_place c.args.entries.now) c.args.table.number
