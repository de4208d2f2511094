use Rattle.soundness.proofs.Created.{create_is_add}
use Rattle.soundness.proofs.laws.create_is_add.Goals as goal

pub returns : goal.returns
returns c = create_is_add
