use Rattle.run_ends.proofs.EachAsks.{all_ask}
use Rattle.run_ends.proofs.asking.statements_ask.Goals as goal

pub returns : goal.returns
returns c = all_ask c.what_is_asked_may_come.ensures
