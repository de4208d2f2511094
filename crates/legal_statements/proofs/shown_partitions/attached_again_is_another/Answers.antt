use Rattle.legal_statements.proofs.ShownMarks.{attached_again_is_another}
use Rattle.legal_statements.proofs.shown_partitions.attached_again_is_another.Goals as goal

pub returns : goal.returns
returns c = attached_again_is_another
