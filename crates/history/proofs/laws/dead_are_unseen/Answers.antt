use Rattle.history.proofs.Dead.{dead_are_unseen, dead_stay_dead}
use Rattle.history.proofs.laws.dead_are_unseen.Goals as goal

pub returns-clause-unseen : goal.returns-clause-unseen
returns-clause-unseen c = dead_are_unseen

pub returns-clause-stay : goal.returns-clause-stay
returns-clause-stay c = dead_stay_dead
