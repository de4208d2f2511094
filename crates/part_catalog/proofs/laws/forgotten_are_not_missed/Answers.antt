use Rattle.part_catalog.proofs.Forgotten.{gone_are_hidden, gone_stay_gone, forgotten_are_not_missed, thin_stays_thin}
use Rattle.part_catalog.proofs.laws.forgotten_are_not_missed.Goals as goal

pub returns-clause-hidden : goal.returns-clause-hidden
returns-clause-hidden c = gone_are_hidden

pub returns-clause-stay : goal.returns-clause-stay
returns-clause-stay c = gone_stay_gone

pub returns-clause-missed : goal.returns-clause-missed
returns-clause-missed c = forgotten_are_not_missed

pub returns-clause-thin : goal.returns-clause-thin
returns-clause-thin c = thin_stays_thin
