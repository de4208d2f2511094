use Rattle.row_router.proofs.Sound.{unseen_marks}
use Rattle.row_router.proofs.laws.unseen_marks_show.Goals as goal

pub returns : goal.returns
returns c = unseen_marks
