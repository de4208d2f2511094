use Rattle.std.proofs.Common.{sym}
use Rattle.row_change.proofs.Walk.{root_seen}
use Rattle.change_statement.proofs.conflicts.root_of.Goals as goal

pub returns : goal.returns
returns c = sym (root_seen c.args.tree.now)
