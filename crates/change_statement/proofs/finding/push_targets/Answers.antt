use Rattle.std.proofs.Common.{◌≡◌, ◌++◌}
use Rattle.std.specs.Prelude.{All}
use Rattle.history.specs.History.{History}
use Rattle.history.specs.Snapshots.{TakenSnapshot}
use Rattle.history.specs.Dead.{MayRead}
use Rattle.tx_table.specs.Stands.{TableStands, SnapshotStands}
use Rattle.row_store.specs.Stands.{StoreStands}
use Rattle.cond_logic.specs.Asked.{maybe_cond}
use Rattle.change_statement.specs.Targets.{taken, targets_in, IsTargetThere}
use Rattle.change_statement.proofs.Taken.{ok_more, taken_targets, taken_there}
use Rattle.change_statement.proofs.finding.push_targets.Goals as goal

pub returns-clause-are : goal.returns-clause-are
returns-clause-are c =
    let condition = maybe_cond c.args.condition.now in
    ok_more (c.push_all_taken.new.found.items ≡ c.args.found.now.items ++ taken condition c.args.leaf c.in_ok-scan.scan)
    ((h : History) (s : TakenSnapshot) → TableStands c.args.txs.now h → StoreStands c.args.store.now h → MayRead s h → SnapshotStands c.args.snap.now s → c.push_all_taken.new.found.items ≡ c.args.found.now.items ++ targets_in h s condition c.args.leaf)
    c.push_all_taken.result
    (λ e h s txs st may snap. taken_targets condition h s c.args.leaf c.args.found.now.items c.push_all_taken.new.found.items c.in_ok-scan.scan e (c.in_ok-scan.ensures.rows h s txs st may snap))
    c.push_all_taken.ensures

pub returns-clause-there : goal.returns-clause-there
returns-clause-there c =
    let condition = maybe_cond c.args.condition.now in
    ok_more (c.push_all_taken.new.found.items ≡ c.args.found.now.items ++ taken condition c.args.leaf c.in_ok-scan.scan)
    (All (IsTargetThere c.args.store.now) c.args.found.now.items → All (IsTargetThere c.args.store.now) c.push_all_taken.new.found.items)
    c.push_all_taken.result
    (λ e there. taken_there c.args.store.now condition c.args.leaf c.args.found.now.items c.push_all_taken.new.found.items c.in_ok-scan.scan e c.requires c.in_ok-scan.ensures.ids there)
    c.push_all_taken.ensures
