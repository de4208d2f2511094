-- Of each good history all this holds.
use Rattle.history.specs.History.{History}
use Rattle.plan_tree.proofs.Missed.{none_missed}
use Rattle.plan_tree.proofs.Right.{shown_right}
use Rattle.plan_tree.proofs.Small.{trees_prunable}
use Rattle.stores.specs.Good.{IsGood}
use Rattle.stores.proofs.Goodness.{legal_of, permitted_of}
use Rattle.change_statement.specs.Moments.{ChangesArePlain}
use Rattle.change_statement.proofs.Pruned.{pruned_plain}

pub good_changes : (h : History) → IsGood h → ChangesArePlain h
good_changes h good how args change names c table m =
    pruned_plain none_missed shown_right trees_prunable how args change names c table m h (legal_of h good) (permitted_of h good)
