use Rattle.std.proofs.Common.{refl, map}
use Rattle.row_store.specs.Kept.{version_of, stored_at}
use Rattle.row_store.specs.Told.{ending_of}
use Rattle.row_store.proofs.Changes.{ended_stands, end_sound, leaf_known}
use Rattle.row_store.proofs.store.RowStore.end_version.Goals as goal

pub set_end-requires-clause-there : goal.set_end-requires-clause-there
set_end-requires-clause-there c = leaf_known (map version_of c.args.self.now.stored) c.args.self.now.leaves c.args.id.number (stored_at c.args.self.now.stored c.args.id).version c.args.by c.args.moved_to _ c.ending_for-how.ensures c.requires.there

pub returns-clause-added : goal.returns-clause-added
returns-clause-added c h txs st =
    let known = leaf_known (map version_of c.args.self.now.stored) c.args.self.now.leaves c.args.id.number (stored_at c.args.self.now.stored c.args.id).version c.args.by c.args.moved_to (ending_of c.args.moved_to) refl c.requires.there in
    rw (c.set_end.ensures, c.ending_for-how.ensures) (ended_stands c.args.self.now h c.args.id.number _ c.requires.known (end_sound c.args.txs.now c.args.self.now h c.args.id.number _ c.requires.known (c.requires.standing h txs st) c.requires.runs c.requires.seen known txs st) st)
