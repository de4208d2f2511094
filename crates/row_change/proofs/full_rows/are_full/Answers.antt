use Rattle.row_change.specs.FullRows.{full_row}
use Rattle.row_change.proofs.Ordered.{full_more, full_done}
use Rattle.row_change.proofs.full_rows.are_full.Goals as goal

pub loop-row-preserved : goal.loop-row-preserved
loop-row-preserved c =
    full_more (full_row c.args.width c.args.named.now) c.args.rows.now c.loop-row.row-index c.row-item.result c.loop-row-test.true c.row-item.is (c.is_full.ensures c.if-not-is_full.false) c.loop-row.invariant

pub returns : goal.returns
returns c = λ h. full_done (full_row c.args.width c.args.named.now) c.args.rows.now c.loop-row.row-index c.loop-row-test.false c.loop-row.invariant
