-- What rows that are born or ended leave as it was.
use Rattle.std.proofs.Common.{◌≡◌}
use Rattle.history.specs.History.{History, tx_events, snapshot_events, lock_events, row_events, catalogue_events}
use Rattle.history.specs.Rows.{leaf_count}
use Rattle.history.specs.Places.{AreCatalogueSound}

pub record Quiet (g h : History) : Type 0 where
  pub txs : tx_events g ≡ tx_events h
  pub snapshots : snapshot_events g ≡ snapshot_events h
  pub locks : lock_events g ≡ lock_events h
  pub catalogue : catalogue_events g ≡ catalogue_events h
  pub leaves : leaf_count (row_events g) ≡ leaf_count (row_events h)
  pub sound : AreCatalogueSound h → AreCatalogueSound g
