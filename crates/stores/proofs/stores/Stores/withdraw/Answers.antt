use Rattle.history.specs.Locks.{WaitWithdrawn}
use Rattle.stores.proofs.Events.{withdrawn_good}
use Rattle.stores.proofs.Calls.{lock_stand}
use Rattle.stores.proofs.stores.Stores.withdraw.Goals as goal

pub returns-clause-added : goal.returns-clause-added
returns-clause-added c = lock_stand c.args.self.now c.withdraw.new.self (WaitWithdrawn c.args.session) c.withdraw.ensures.added

pub returns-clause-good : goal.returns-clause-good
returns-clause-good c h st = record {
  all = lock_stand c.args.self.now c.withdraw.new.self (WaitWithdrawn c.args.session) c.withdraw.ensures.added h st.all;
  good = withdrawn_good c.args.session h st.good;
  leaves = st.leaves;
}
