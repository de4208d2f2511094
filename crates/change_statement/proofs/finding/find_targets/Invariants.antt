use Rattle.std.proofs.Common.{◌≡◌, ◌++◌, drop}
use Rattle.std.specs.Prelude.{All}
use Rattle.std.specs.List.{flat_map}
use Rattle.history.specs.History.{History}
use Rattle.history.specs.Snapshots.{TakenSnapshot}
use Rattle.history.specs.Dead.{MayRead}
use Rattle.tx_table.specs.Stands.{TableStands, SnapshotStands}
use Rattle.row_store.specs.Stands.{StoreStands}
use Rattle.cond_logic.specs.Asked.{maybe_cond}
use Rattle.change_statement.specs.Targets.{targets, targets_in, IsTargetThere}
use Rattle.change_statement.proofs.finding.find_targets.Given as goal

-- the leaves that are left give the targets that are left
abbrev pub invariant-loop-leaf : goal.invariant-loop-leaf
invariant-loop-leaf l = record {
  are : (h : History) (s : TakenSnapshot) → TableStands l.txs h → StoreStands l.store h → MayRead s h → SnapshotStands l.snap s →
      l.found.items ++ flat_map (targets_in h s (maybe_cond l.condition)) (drop l.leaf-index l.leaves) ≡ targets h s (maybe_cond l.condition) l.leaves;
  there : All (IsTargetThere l.store) l.found.items;
}
