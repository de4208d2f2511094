use Rattle.change_statement.proofs.Pruned.{all_targets_kept}
use Rattle.change_statement.proofs.laws.kept_have_all_targets.Goals as goal

pub returns : goal.returns
returns c = all_targets_kept c.none_is_missed.ensures c.shown_lie_right.ensures c.trees_can_be_pruned.ensures
