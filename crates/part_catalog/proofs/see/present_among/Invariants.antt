use Rattle.std.proofs.Common.{◌≡◌, ◌++◌, drop, map}
use Rattle.history.specs.History.{History, tx_events}
use Rattle.tx_table.specs.Stands.{TableStands}
use Rattle.part_catalog.specs.Stands.{present_by}
use Rattle.part_catalog.proofs.Partitions.{passed}
use Rattle.part_catalog.proofs.see.present_among.Given as goal

abbrev pub invariant-loop-number : goal.invariant-loop-number
invariant-loop-number l = (h : History) → TableStands l.txs h →
    map (λ e. e.now) l.found.items ++ passed (present_by (tx_events h) l.session) l.entries (drop l.number-index l.numbers) ≡ passed (present_by (tx_events h) l.session) l.entries l.numbers
