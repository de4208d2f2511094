use Rattle.legal_statements.proofs.Ways.{trees_show_what_is_attached}
use Rattle.legal_statements.proofs.shown_partitions.trees_show_what_is_attached.Goals as goal

pub returns : goal.returns
returns c = trees_show_what_is_attached
