-- Each legal history is fresh.
use Rattle.std.proofs.Common.{subst}
use Rattle.history.specs.History.{History}
use Rattle.history.specs.Legal.{IsLegal}
use Rattle.soundness.specs.Legal.{ArePermitted}
use Rattle.legal_statements.specs.ShownPartitions.{IsFresh}
use Rattle.legal_statements.proofs.ShownMarks.{attached_again_is_another}
use Rattle.legal_statements.proofs.Ways.{trees_show_what_is_attached}

pub legal_is_fresh : (h : History) → IsLegal h → ArePermitted h → IsFresh h
legal_is_fresh h legal permitted = record {
  trees = trees_show_what_is_attached h legal permitted;
  added = λ e before is. attached_again_is_another before e (subst IsLegal is legal);
}
