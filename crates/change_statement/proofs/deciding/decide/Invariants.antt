use Rattle.std.proofs.Common.{◌≡◌, ◌-◌, ◌<◌, true, length}
use Rattle.history.specs.History.{History}
use Rattle.tx_table.specs.Stands.{TableStands, sees_now_by}
use Rattle.row_store.specs.Kept.{stored_at}
use Rattle.row_store.specs.Stands.{StoreStands}
use Rattle.change_statement.specs.Verdicts.{updater_meant}
use Rattle.change_statement.proofs.Chains.{Decides}
use Rattle.change_statement.proofs.deciding.decide.Given as goal

abbrev pub invariant-loop-verdict : goal.invariant-loop-verdict
invariant-loop-verdict l = record {
  known : l.version.number < length l.store.stored;
  born : sees_now_by l.txs l.updater.tx.number (stored_at l.store.stored l.version).version.by.number ≡ true;
  leaf : (stored_at l.store.stored l.version).version.leaf ≡ (stored_at l.store.stored l.fn.id).version.leaf;
  decides : (h : History) → TableStands l.txs h → StoreStands l.store h → Decides h (updater_meant l.updater) l.fn.id (length l.store.stored) l.again l.version;
}

-- each version that is followed is a later one
abbrev pub decreases-loop-verdict : goal.decreases-loop-verdict
decreases-loop-verdict l = length l.store.stored - l.version.number
