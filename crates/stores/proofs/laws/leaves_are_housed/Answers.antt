use Rattle.stores.proofs.Housed.{leaves_are_housed}
use Rattle.stores.proofs.laws.leaves_are_housed.Goals as goal

pub returns : goal.returns
returns c = leaves_are_housed
