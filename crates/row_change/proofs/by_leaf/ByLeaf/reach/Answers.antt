use Rattle.std.proofs.Common.{◌+◌, arith}
use Rattle.row_change.proofs.Notes.{none_more}
use Rattle.row_change.proofs.by_leaf.ByLeaf.reach.Goals as goal

pub returns-clause-same : goal.returns-clause-same
returns-clause-same g c = λ l. none_more c.args.self.now.notes.items c.resize.new.self.items (c.args.leaf.number + 1) _ l.number (omega (arith, c.if-place-len.false, c.len.ensures)) c.in_ok-resize.ensures.items
