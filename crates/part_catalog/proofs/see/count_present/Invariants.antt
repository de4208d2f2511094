use Rattle.std.proofs.Common.{◌≡◌, ◌+◌, ◌≤◌, drop, filter, length, map}
use Rattle.history.specs.History.{History, tx_events}
use Rattle.tx_table.specs.Stands.{TableStands}
use Rattle.part_catalog.specs.Kept.{stored_at}
use Rattle.part_catalog.specs.Stands.{present_by}
use Rattle.part_catalog.proofs.see.count_present.Given as goal

abbrev pub invariant-loop-number : goal.invariant-loop-number
invariant-loop-number l = record {
  few : l.count ≤ l.number-index;
  told : (h : History) → TableStands l.txs h →
      l.count + length (filter (present_by (tx_events h) l.session) (map (stored_at l.entries) (drop l.number-index l.numbers))) ≡ length (filter (present_by (tx_events h) l.session) (map (stored_at l.entries) l.numbers));
}
