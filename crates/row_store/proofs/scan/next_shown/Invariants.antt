use Rattle.std.proofs.Common.{◌≡◌, length, true}
use Rattle.std.specs.Prelude.{IfSome}
use Rattle.tx_table.specs.Stands.{sees_by}
use Rattle.row_store.specs.Kept.{AreBelow}
use Rattle.row_store.specs.Stands.{rows_left}
use Rattle.row_store.proofs.scan.next_shown.Given as goal

-- what was passed over is not shown, and the kept maker is seen
abbrev pub invariant-loop-first : goal.invariant-loop-first
invariant-loop-first l = record {
  below : AreBelow l.rest l.versions;
  left : rows_left l.txs l.snap l.versions l.rest ≡ rows_left l.txs l.snap l.versions l.ids;
  seen : IfSome l.seen (λ maker. sees_by l.txs l.snap maker.by.number maker.cmd ≡ true);
}

abbrev pub decreases-loop-first : goal.decreases-loop-first
decreases-loop-first l = length l.rest
