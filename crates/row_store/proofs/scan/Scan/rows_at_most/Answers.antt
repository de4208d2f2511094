use Rattle.std.proofs.Common.{arith, ap, length}
use Rattle.row_store.proofs.Shown.{shown_few}
use Rattle.row_store.proofs.scan.Scan.rows_at_most.Goals as goal

pub returns : goal.returns
returns c = omega (arith, shown_few c.self.inside.txs.now c.self.inside.snap.now c.self.inside.versions.now c.self.inside.ids.now, ap length c.self.view_is)
