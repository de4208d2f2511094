use Rattle.row_router.proofs.Sound.{same_marks}
use Rattle.row_router.proofs.laws.same_marks_same_tree.Goals as goal

pub returns : goal.returns
returns c = same_marks
