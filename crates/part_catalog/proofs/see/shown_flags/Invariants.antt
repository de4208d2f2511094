use Rattle.std.proofs.Common.{◌≡◌, ◌++◌, ℕ, true, false, drop, map, length, get_or}
use Rattle.history.specs.Transactions.{IsPast}
use Rattle.history.specs.Snapshots.{TakenSnapshot}
use Rattle.history.specs.History.{History, tx_events}
use Rattle.tx_table.specs.Stands.{TableStands, SnapshotStands}
use Rattle.part_catalog.specs.Kept.{no_entry}
use Rattle.part_catalog.specs.Stands.{present_by, shown_by}
use Rattle.part_catalog.proofs.see.shown_flags.Given as goal

abbrev pub invariant-loop-x : goal.invariant-loop-x
invariant-loop-x l = record {
  count : length l.flags.items ≡ l.x-index;
  part : (h : History) → TableStands l.txs h → (k : ℕ) → get_or l.flags.items k false ≡ true → present_by (tx_events h) l.session (get_or l.entries k no_entry) ≡ true;
  told : (h : History) (s : TakenSnapshot) → TableStands l.txs h → IsPast s.past (tx_events h) → SnapshotStands l.snap s →
      l.flags.items ++ map (shown_by (tx_events h) l.session s) (drop l.x-index l.entries) ≡ map (shown_by (tx_events h) l.session s) l.entries;
}
