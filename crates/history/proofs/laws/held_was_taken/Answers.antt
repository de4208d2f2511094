use Rattle.history.proofs.Stays.{held_was_taken}
use Rattle.history.proofs.laws.held_was_taken.Goals as goal

pub returns : goal.returns
returns c = held_was_taken
