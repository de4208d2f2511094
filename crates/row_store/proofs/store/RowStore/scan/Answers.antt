use Rattle.row_store.proofs.Shown.{scan_lends, listed_below, lent_known}
use Rattle.row_store.proofs.Seen.{lent_seen}
use Rattle.row_store.proofs.store.RowStore.scan.Goals as goal

pub invariant_of-result : goal.invariant_of-result
invariant_of-result c = (listed_below _ _ _ _ _ _ _ c.args.leaf.number c.self.invariant c.self.view_is c.deref.ensures.value c.ids.ensures c.index-list.ensures c.requires.known, tt)

pub returns-clause-rows : goal.returns-clause-rows
returns-clause-rows c h s txs st past snap = scan_lends c.args.txs.now c.args.snap.now _ _ _ _ _ _ _ h c.args.leaf.number s c.self.invariant c.self.view_is c.deref.ensures.value c.ids.ensures c.index-list.ensures c.requires.known txs st past snap

pub returns-clause-ids : goal.returns-clause-ids
returns-clause-ids c =
    let below = listed_below _ _ _ _ _ _ _ c.args.leaf.number c.self.invariant c.self.view_is c.deref.ensures.value c.ids.ensures c.index-list.ensures c.requires.known in
    lent_known c.args.txs.now c.args.snap.now _ _ _ _ _ _ c.self.invariant c.self.view_is c.deref.ensures.value below

pub returns-clause-seen : goal.returns-clause-seen
returns-clause-seen c =
    let below = listed_below _ _ _ _ _ _ _ c.args.leaf.number c.self.invariant c.self.view_is c.deref.ensures.value c.ids.ensures c.index-list.ensures c.requires.known in
    lent_seen c.args.txs.now c.args.snap.now _ _ _ _ _ _ c.self.invariant c.self.view_is c.deref.ensures.value below
