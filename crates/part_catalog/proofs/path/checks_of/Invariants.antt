use Rattle.std.proofs.Common.{◌≡◌, ◌++◌, map, filter, drop}
use Rattle.history.specs.History.{History, tx_events}
use Rattle.history.specs.Presence.{is_check_of}
use Rattle.tx_table.specs.Stands.{TableStands}
use Rattle.row_router.specs.Histories.{kept_of}
use Rattle.part_catalog.proofs.path.checks_of.Given as goal

abbrev pub invariant-loop-check : goal.invariant-loop-check
invariant-loop-check l = (h : History) → TableStands l.txs h →
    l.found ++ map kept_of (filter (is_check_of (tx_events h) l.session l.table.number) (drop l.check-index l.checks)) ≡ map kept_of (filter (is_check_of (tx_events h) l.session l.table.number) l.checks)
