use Rattle.run_ends.proofs.Asked.{locked_asks}
use Rattle.run_ends.proofs.parts.locks_are_asked_for.Goals as goal

pub returns : goal.returns
returns c = locked_asks c.what_is_asked_may_come.ensures
