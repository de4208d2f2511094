use Rattle.run_ends.proofs.Asked.{waited_asks}
use Rattle.run_ends.proofs.parts.others_are_waited_for.Goals as goal

pub returns : goal.returns
returns c = waited_asks c.what_is_asked_may_come.ensures
