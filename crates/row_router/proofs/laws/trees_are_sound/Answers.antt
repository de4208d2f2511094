use Rattle.row_router.proofs.Sound.{trees_are_sound}
use Rattle.row_router.proofs.laws.trees_are_sound.Goals as goal

pub returns : goal.returns
returns c = trees_are_sound
