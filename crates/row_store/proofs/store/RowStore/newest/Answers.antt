use Rattle.std.proofs.Common.{refl}
use Rattle.row_store.proofs.Changes.{newest_is, newest_stands, newest_known}
use Rattle.row_store.proofs.store.RowStore.newest.Goals as goal

pub returns-clause-is : goal.returns-clause-is
returns-clause-is c h txs st = newest_is c.args.txs.now _ _ _ _ _ c.args.id.number _ h _ c.self.view_is c.requires c.index.ensures txs st c.became.ensures.is

pub returns-clause-standing : goal.returns-clause-standing
returns-clause-standing c h txs st = newest_stands c.args.txs.now _ _ _ _ _ c.args.id.number _ h _ c.self.view_is c.requires c.index.ensures txs st c.became.ensures.standing

pub returns-clause-known : goal.returns-clause-known
returns-clause-known c = newest_known c.args.txs.now _ _ _ _ _ c.args.id _ _ c.self.view_is refl c.self.invariant c.requires c.index.ensures c.became.ensures.is
