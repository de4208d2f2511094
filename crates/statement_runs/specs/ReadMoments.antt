-- What holds at each moment of a run beside that each row lies in one leaf: what statements read, and through what.
use Rattle.history.specs.History.{History}
use Rattle.soundness.specs.Laws.{EachRowPasses}
use Rattle.soundness.proofs.CheckPath.{rows_pass}
use Rattle.stores.specs.Good.{IsGood}
use Rattle.stores.proofs.Goodness.{legal_of, permitted_of}
use Rattle.select_statement.specs.Moments.{SelectsArePlain}
use Rattle.select_statement.proofs.Moments.{good_selects}
use Rattle.change_statement.specs.Moments.{ChangesArePlain}
use Rattle.change_statement.proofs.Moments.{good_changes}
use Rattle.statement_laws.specs.Fresh.{ScansAreFresh}
use Rattle.statement_laws.proofs.Fresh.{good_scans}
use Rattle.statement_laws.specs.Whole.{WholeStatementsArePlain}
use Rattle.statement_laws.proofs.Whole.{good_whole}
use Rattle.legal_statements.specs.ShownPartitions.{IsFresh}
use Rattle.legal_statements.proofs.FreshTrees.{legal_is_fresh}

-- SELECT, UPDATE and DELETE do over the leaves that they read what they would do over all
pub record StatementsArePlain (h : History) : Type 0 where
  pub selects : SelectsArePlain h
  pub changes : ChangesArePlain h

-- that, and so does each whole SELECT that was completed, and each UPDATE and DELETE; no row is shown through a partition
-- that was detached, or whose mark the snapshot sees, and no plan scans one, whether it is run or printed; and each row that
-- is shown passes the CHECKs that are kept for its table and for those above it
pub record StatementsAreSound (h : History) : Type 0 where
  pub plain : StatementsArePlain h
  pub whole : WholeStatementsArePlain h
  pub fresh : IsFresh h
  pub scans : ScansAreFresh h
  pub checked : EachRowPasses h

pub good_statements : (h : History) → IsGood h → StatementsAreSound h
good_statements h good = record {
  plain = record { selects = good_selects h good; changes = good_changes h good };
  whole = good_whole h good;
  fresh = legal_is_fresh h (legal_of h good) (permitted_of h good);
  scans = good_scans h good;
  checked = rows_pass h (legal_of h good) (permitted_of h good);
}
