use Rattle.std.proofs.Common.{ap, ◌∙◌}
use Rattle.history.specs.Locks.{holds_one_of}
use Rattle.lock_table.proofs.causes.against.Goals as goal

pub returns : goal.returns
returns c h ws q st y = c.holding.ensures h ws q st y ∙ ap (holds_one_of h y c.args.table) c.conflicting.ensures
