use Rattle.std.proofs.Common.{◌≡◌, ◌++◌, drop, map, length}
use Rattle.history.specs.History.{History, tx_events}
use Rattle.tx_table.specs.Stands.{TableStands}
use Rattle.part_catalog.specs.Stands.{present_by}
use Rattle.part_catalog.proofs.see.present_flags.Given as goal

abbrev pub invariant-loop-x : goal.invariant-loop-x
invariant-loop-x l = record {
  count : length l.flags.items ≡ l.x-index;
  told : (h : History) → TableStands l.txs h →
      l.flags.items ++ map (present_by (tx_events h) l.session) (drop l.x-index l.entries) ≡ map (present_by (tx_events h) l.session) l.entries;
}
