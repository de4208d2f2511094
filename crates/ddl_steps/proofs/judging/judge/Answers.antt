use Rattle.std.proofs.Common.{sym}
use Rattle.tx_table.specs.Stands.{IsOpen}
use Rattle.ddl_steps.proofs.Judged.{tx_told, clean_passes, seen_passes, row_refuses}
use Rattle.ddl_steps.proofs.judging.judge.Goals as goal

pub returns-in-Clean : goal.returns-in-Clean
returns-in-Clean g c h stand =
    let runs : IsOpen c.args.stores.now.txs c.in-Some.me.number = (c.args.caller.session, sym c.in-Some.ensures.kept) in
    let same = tx_told c.args.stores.now.txs h c.args.caller.session c.in-Some.me.number c.in-Some.ensures.kept stand.txs in
    clean_passes h c.args.caller.session c.in-Some.me.number c.args.leaves.now (g.T.RowTest.broken c.args.test.now) c.empty.result same c.empty.ensures.has (rw c.in-Clean.is at c.judge.ensures runs h stand.txs stand.rows)

pub returns-in-Seen : goal.returns-in-Seen
returns-in-Seen g c h stand =
    let runs : IsOpen c.args.stores.now.txs c.in-Some.me.number = (c.args.caller.session, sym c.in-Some.ensures.kept) in
    let same = tx_told c.args.stores.now.txs h c.args.caller.session c.in-Some.me.number c.in-Some.ensures.kept stand.txs in
    seen_passes h c.args.caller.session c.in-Some.me.number c.args.leaves.now (g.T.RowTest.broken c.args.test.now) c.in-Seen.others same c.sessions_are_low.ensures (rw c.in-Seen.is at c.judge.ensures runs h stand.txs stand.rows)

pub returns-in-Violator : goal.returns-in-Violator
returns-in-Violator g c h stand =
    let runs : IsOpen c.args.stores.now.txs c.in-Some.me.number = (c.args.caller.session, sym c.in-Some.ensures.kept) in
    let same = tx_told c.args.stores.now.txs h c.args.caller.session c.in-Some.me.number c.in-Some.ensures.kept stand.txs in
    row_refuses h c.args.caller.session c.in-Some.me.number c.args.leaves.now (g.T.RowTest.broken c.args.test.now) c.in-Violator.row.now same (rw c.in-Violator.is at c.judge.ensures runs h stand.txs stand.rows)
