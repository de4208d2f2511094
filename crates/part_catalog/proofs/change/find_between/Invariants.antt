use Rattle.std.proofs.Common.{◌≡◌, ℕ, ◌<◌, false, get_or}
use Rattle.history.specs.History.{History, tx_events}
use Rattle.tx_table.specs.Stands.{TableStands}
use Rattle.part_catalog.specs.declared.stored.StoredEntry.{StoredEntry}
use Rattle.part_catalog.specs.Stands.{between_by}
use Rattle.part_catalog.proofs.change.find_between.Given as goal

abbrev pub invariant-loop-at : goal.invariant-loop-at
invariant-loop-at l = (h : History) → TableStands l.txs h → (k : ℕ) (d : StoredEntry) → k < l.at → between_by (tx_events h) l.session l.parent.number l.child.number (get_or l.entries k d) ≡ false
