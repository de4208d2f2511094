use Rattle.soundness.proofs.Measures.{ways_are_short}
use Rattle.soundness.proofs.laws.ways_are_short.Goals as goal

pub returns : goal.returns
returns c = ways_are_short
