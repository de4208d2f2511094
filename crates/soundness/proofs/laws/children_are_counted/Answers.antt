use Rattle.soundness.proofs.Measures.{children_are_counted}
use Rattle.soundness.proofs.laws.children_are_counted.Goals as goal

pub returns : goal.returns
returns c = children_are_counted
