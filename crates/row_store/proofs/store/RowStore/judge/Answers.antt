use Rattle.row_store.proofs.Judging.{judged_row, judged_set}
use Rattle.row_store.proofs.store.RowStore.judge.Goals as goal

pub returns-in-Err : goal.returns-in-Err
returns-in-Err g c open_me h txs st =
    let first = c.in-Err.ensures.refusing in
    (first.0.version, judged_row c.args.txs.now c.self.inside.versions.items c.deref.result.now c.self.inside.leaves.items c.deref-2.result.now c.self.inside.room c.args.self.now h c.args.session c.args.me.number c.args.leaves.now (g.T.RowTest.broken c.args.test.now) first.0 c.self.invariant c.self.view_is c.deref.ensures.value c.deref-2.ensures.value c.requires.known open_me txs st first.1, first.2)

pub returns-in-Ok : goal.returns-in-Ok
returns-in-Ok g c open_me h txs st = judged_set c.args.txs.now c.self.inside.versions.items c.deref.result.now c.self.inside.leaves.items c.deref-2.result.now c.self.inside.room c.args.self.now h c.args.session c.args.me.number c.args.leaves.now (g.T.RowTest.broken c.args.test.now) c.in-Ok.others c.verdict_of.result c.self.invariant c.self.view_is c.deref.ensures.value c.deref-2.ensures.value c.requires.known open_me txs st c.in-Ok.ensures.refusing c.in-Ok.ensures.seen c.verdict_of.ensures
