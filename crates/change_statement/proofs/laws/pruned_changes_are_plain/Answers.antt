use Rattle.change_statement.proofs.Pruned.{pruned_plain}
use Rattle.change_statement.proofs.laws.pruned_changes_are_plain.Goals as goal

pub returns : goal.returns
returns c = pruned_plain c.none_is_missed.ensures c.shown_lie_right.ensures c.trees_can_be_pruned.ensures
